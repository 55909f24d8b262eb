-- The terminal of an operator token.
use Rattle.std.proofs.Common.{◌≡◌, ◌∙◌, sym, ap, ℕ, List}
use Rattle.semantics.specs.Names.{Names}
use Rattle.syntax.specs.Signs.{Sign, sign_of}
use Rattle.syntax.specs.Tokens.{Kind}
use Rattle.syntax.specs.Terminals.{Mark, word_of}

pub operator_word : (names : Names) (find : List ℕ → ℕ) (kind : Kind) (t w : List ℕ) (s : Sign) → kind ≡ Kind.Operator → s ≡ sign_of w → w ≡ t → Mark s ≡ word_of names find kind t
operator_word names find kind t w s e q r = ap Mark (q ∙ ap sign_of r) ∙ ap (λ (k : Kind). word_of names find k t) (sym e)
