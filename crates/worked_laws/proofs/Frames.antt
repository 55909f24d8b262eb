-- Agreement on a closed set.
use Rattle.std.proofs.Common.{◌≡◌, refl, true, false, [], ◌∷◌}
use Rattle.expr_tree.specs.Tree.{Tree}
use Rattle.semantics.specs.declared.builtin.Builtin.{Builtin}
use Rattle.semantics.specs.Definitions.{Definitions, Share, empty}
use Rattle.semantics.specs.Eval.{Evaluation, eval}
use Rattle.semantics.specs.Table.{row, worked}
use Rattle.semantics.specs.Match.{matches}
use Rattle.worked_rows.specs.Sample.{in_cell, usual, apply, equals, f', g', h', x', int, of, plus, sym, value}

abbrev known_after : Definitions → Tree → Definitions
known_after d e = (eval (in_cell usual) d e []).definitions

-- f[x_] := x + 1
abbrev with_f : Definitions
with_f = known_after empty (of Builtin.SetDelayed (apply f' (of Builtin.Pattern (x' ∷ of Builtin.Blank [] ∷ [])) ∷ plus x' (int 1) ∷ []))

-- and g = 1, or g = 2: they agree on the set of all symbols but g, which is closed
abbrev one : Definitions
one = known_after with_f (equals g' (int 1))

abbrev other : Definitions
other = known_after with_f (equals g' (int 2))

abbrev in_one : Tree → Evaluation
in_one e = eval (in_cell usual) one e []

abbrev in_other : Tree → Evaluation
in_other e = eval (in_cell usual) other e []

-- f[3] stands in the set: 4 from both, in as many steps, with `used` false
value_on_the_set : (in_one (apply f' (int 3))).outcome ≡ value (int 4)
unfolding eval row worked matches
value_on_the_set = refl

same_value : (in_other (apply f' (int 3))).outcome ≡ (in_one (apply f' (int 3))).outcome
unfolding eval row worked matches
same_value = refl

same_steps : (in_other (apply f' (int 3))).steps ≡ (in_one (apply f' (int 3))).steps
unfolding eval row worked matches
same_steps = refl

unused_on_the_set : (in_one (apply f' (int 3))).used ≡ false
unfolding eval row worked matches
unused_on_the_set = refl

-- f[g] does not stand in it: 2 and 3
value_outside : (in_one (apply f' g')).outcome ≡ value (int 2)
unfolding eval row worked matches
value_outside = refl

other_value_outside : (in_other (apply f' g')).outcome ≡ value (int 3)
unfolding eval row worked matches
other_value_outside = refl

-- h is shared, so its definition may differ where definitions agree: 1 and 2, with `used` true from both
abbrev sharing : Definitions → Definitions
sharing d = record d { shared = record { symbol = sym 5; kind = Share.Variable; attributes = [] } ∷ [] }

shared_value : (eval (in_cell usual) (sharing (known_after empty (equals h' (int 1)))) h' []).outcome ≡ value (int 1)
unfolding eval row worked
shared_value = refl

other_shared_value : (eval (in_cell usual) (sharing (known_after empty (equals h' (int 2)))) h' []).outcome ≡ value (int 2)
unfolding eval row worked
other_shared_value = refl

shared_is_used : (eval (in_cell usual) (sharing (known_after empty (equals h' (int 1)))) h' []).used ≡ true
unfolding eval row worked
shared_is_used = refl
