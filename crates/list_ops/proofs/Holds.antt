-- ReleaseHold by one test.
use Rattle.std.proofs.Common.{◌≡◌, ◌≢◌, refl, Bool, true, false, List, [], ◌∷◌, length}
use Rattle.expr_tree.specs.Tree.{Tree, normal, nil, cons, trees}
use Rattle.expr_tree.proofs.Callers.{tree_steps}
use Rattle.semantics.specs.declared.builtin.Builtin.{Builtin}
use Rattle.semantics.specs.Names.{Names, is_name}
use Rattle.std.specs.Prelude.{◌||◌}
use Rattle.semantics.specs.Worked.{Stays, Gives}
use Rattle.semantics.specs.Lists.{released}
use Rattle.list_ops.specs.Holds.{is_hold}

held : (p q r : Bool) (x : Tree) → (p || (q || r)) ≡ true → elim p [ true ↦ Gives x | false ↦ elim q [ true ↦ Gives x | false ↦ elim r [ true ↦ Gives x | false ↦ Stays ] ] ] ≡ Gives x
held true q r x e = refl
held false true r x e = refl
held false false true x e = refl
held false false false x e = absurd (cc (e))

other : (p q r : Bool) (x : Tree) → (p || (q || r)) ≡ false → elim p [ true ↦ Gives x | false ↦ elim q [ true ↦ Gives x | false ↦ elim r [ true ↦ Gives x | false ↦ Stays ] ] ] ≡ Stays
other false false false x e = refl
other true q r x e = absurd (cc (e))
other false true r x e = absurd (cc (e))
other false false true x e = absurd (cc (e))

pub release_held : (names : Names) (h x : Tree) → is_hold names h ≡ true → released names (normal h (cons x nil) ∷ []) ≡ Gives x
release_held names h x e = held (is_name names Builtin.Hold h) (is_name names Builtin.HoldComplete h) (is_name names Builtin.HoldPattern h) x e

pub release_other : (names : Names) (h x : Tree) → is_hold names h ≡ false → released names (normal h (cons x nil) ∷ []) ≡ Stays
release_other names h x e = other (is_name names Builtin.Hold h) (is_name names Builtin.HoldComplete h) (is_name names Builtin.HoldPattern h) x e

pub release_many : (names : Names) (h : Tree) (es : List Tree) → length es ≢ 1 → released names (normal h (trees es) ∷ []) ≡ Stays
release_many names h [] n = refl
release_many names h (x ∷ []) n = absurd (n refl)
release_many names h (x ∷ y ∷ es) n = refl

pub ruleset hold_steps = (tree_steps, release_held, release_other, release_many)
