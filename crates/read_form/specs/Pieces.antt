-- The pieces of a cell that a reader goes over.
--     lexeme_at            the lexeme of a token, where the one before ends
use Rattle.std.specs.Prelude.{ℕ, ◌-◌, List, take, drop}
use Rattle.syntax.specs.Tokens.{Token, token_text}
use Rattle.syntax.specs.Leaves.{Lexeme, has_feed}

abbrev pub lexeme_at : List ℕ → ℕ → Token → Lexeme
lexeme_at text at t = record { kind = t.kind; text = token_text text t; after_line = has_feed (take (t.from - at) (drop at text)) }
