-- The last element, and all others.
use Rattle.std.proofs.Common.{◌≡◌, ℕ, zero, suc, ◌-◌, ◌≤◌, ap, sym, List, [], ◌∷◌, Some, length, get_or, arith}
use Rattle.expr_tree.specs.Tree.{Tree, normal, trees}
use Rattle.expr_tree.proofs.Callers.{tree_steps}
use Rattle.expr_tree.proofs.Trees.{elements-trees}
use Rattle.semantics.specs.Worked.{Gives}
use Rattle.semantics.specs.Lists.{last_of, last, given}

last_here : (es : List Tree) (n : ℕ) (x : Tree) → length es ≡ suc n → x ≡ get_or es n x → last_of es ≡ Some x
last_here [] n x l e = absurd (omega (arith, l))
last_here (a ∷ []) zero x l e = ap Some (sym e)
last_here (a ∷ []) (suc n) x l e = absurd (omega (arith, l))
last_here (a ∷ b ∷ es) zero x l e = absurd (omega (arith, l))
last_here (a ∷ b ∷ es) (suc n) x l e = last_here (b ∷ es) n x (omega (arith, l)) e

pub last_at : (h : Tree) (es : List Tree) (x : Tree) → 1 ≤ length es → x ≡ get_or es (length es - 1) x → last (normal h (trees es) ∷ []) ≡ Gives x
last_at h es x l e = rw (elements-trees es) (ap given (last_here es (length es - 1) x (omega arith) e))

pub ruleset end_steps = (tree_steps, last_at)
