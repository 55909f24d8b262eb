-- What is within the limits of an expression, and what is not.
use Rattle.std.proofs.Common.{◌≡◌, ◌<◌, ◌≤◌, Bool, true, false, ◌&&◌, Some, None, refl}
use Rattle.std.proofs.lemmas.Bool.{le-leb, lt-leb}
use Rattle.std.specs.Prelude.{leb}
use Rattle.expr_tree.specs.Tree.{Tree, size, depth}
use Rattle.laws_reading.specs.Kept.{fits, cut}

pub cut_some : (e : Tree) → size e ≤ 4000000 → depth e ≤ 512 → cut e ≡ Some e
unfolding cut fits
cut_some e p q = rw (le-leb (size e) 4000000 p, le-leb (depth e) 512 q) refl

pub cut_large : (e : Tree) → 4000000 < size e → cut e ≡ None
unfolding cut fits
cut_large e p = rw (lt-leb (size e) 4000000 p) refl

and_false : (a : Bool) → (a && false) ≡ false
and_false true = refl
and_false false = refl

pub cut_deep : (e : Tree) → 512 < depth e → cut e ≡ None
unfolding cut fits
cut_deep e p = rw (lt-leb (depth e) 512 p, and_false (leb (size e) 4000000)) refl

pub ruleset cut_steps = (cut_some, cut_large, cut_deep)
