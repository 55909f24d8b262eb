-- The divisor of the elements up to a place.
use Rattle.std.proofs.Common.{◌≡◌, ℕ, suc, ◌+◌, ◌<◌, ◌≤◌, nat_abs, pos, sym, ap, ◌∙◌, List, ◌∷◌, length, get_or, drop}
use Rattle.std.proofs.lemmas.List.{drop_more, at_drop_all}
use Rattle.expr_tree.specs.Tree.{Tree, integer}
use Rattle.semantics.specs.Worked.{gives_int}
use Rattle.semantics.specs.Numbers.{common_divisor, gcd_of}

split : (es : List Tree) (i : ℕ) (x : Tree) → i < length es → x ≡ get_or es i x → drop i es ≡ x ∷ drop (i + 1) es
split es i x h p = drop_more es i x h ∙ ap (λ y. y ∷ drop (i + 1) es) (sym p)

pub divisor_next : (es : List Tree) (i : ℕ) (x : Tree) (n : _) (d : ℕ) → i < length es → x ≡ get_or es i x → x ≡ integer n
    → gcd_of (drop (i + 1) es) (common_divisor (suc (nat_abs n)) d (nat_abs n)) ≡ gcd_of (drop i es) d
divisor_next es i x n d h p is = sym (ap (λ l. gcd_of l d) (split es i x h p) ∙ ap (λ y. gcd_of (y ∷ drop (i + 1) es) d) is)

pub divisor_end : (es : List Tree) (i : ℕ) (d : ℕ) → length es ≤ i → gcd_of (drop i es) d ≡ gives_int (pos d)
divisor_end es i d h = at_drop_all (λ l. gcd_of l d) es i h

pub ruleset divisor_steps = (divisor_next, divisor_end)
