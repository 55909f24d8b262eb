-- Module, Block, With, Function and putting in place.
use Rattle.std.proofs.Common.{◌≡◌, refl, [], ◌∷◌}
use Rattle.expr_tree.specs.Tree.{Tree, call}
use Rattle.expr_tree.specs.declared.limits.Stop.{Stop}
use Rattle.semantics.specs.declared.builtin.Builtin.{Builtin}
use Rattle.semantics.specs.Eval.{Outcome, eval}
use Rattle.semantics.specs.Table.{row, worked}
use Rattle.worked_rows.specs.Sample.{a', apply, b', c', cells, equals, f', int, list, made, null, numbers, of, plus, stopped, symbol_of_row, value, x', y'}

-- Module[{x = 2}, x + y]; Module[{x}, x]
module_makes_symbols_of_its_number :
    cells (
    of Builtin.Module (list (equals x' (int 2) ∷ []) ∷ plus x' y' ∷ [])
    ∷ of Builtin.Module (list (x' ∷ []) ∷ x' ∷ []) ∷ [])
    ≡ value (plus (int 2) y')
    ∷ value (made 7 2) ∷ []
unfolding eval row worked
module_makes_symbols_of_its_number = refl

-- x = 1; Module[{x = x + 1}, x]; Block[{x = x + 2}, x]; x
initial_values_are_evaluated_outside :
    cells (
    equals x' (int 1)
    ∷ of Builtin.Module (list (equals x' (plus x' (int 1)) ∷ []) ∷ x' ∷ [])
    ∷ of Builtin.Block (list (equals x' (plus x' (int 2)) ∷ []) ∷ x' ∷ [])
    ∷ x' ∷ [])
    ≡ value (int 1)
    ∷ value (int 2)
    ∷ value (int 3)
    ∷ value (int 1) ∷ []
unfolding eval row worked
initial_values_are_evaluated_outside = refl

-- y = 1; Block[{y = 5}, y]; y; SetAttributes[f, HoldAll]; Block[{f}, f[1 + 1]]; f[1 + 1]
block_puts_back_what_was :
    cells (
    equals y' (int 1)
    ∷ of Builtin.Block (list (equals y' (int 5) ∷ []) ∷ y' ∷ [])
    ∷ y'
    ∷ of Builtin.SetAttributes (f' ∷ symbol_of_row Builtin.HoldAll ∷ [])
    ∷ of Builtin.Block (list (f' ∷ []) ∷ apply f' (plus (int 1) (int 1)) ∷ [])
    ∷ apply f' (plus (int 1) (int 1)) ∷ [])
    ≡ value (int 1)
    ∷ value (int 5)
    ∷ value (int 1)
    ∷ null
    ∷ value (apply f' (int 2))
    ∷ value (apply f' (plus (int 1) (int 1))) ∷ []
unfolding eval row worked
block_puts_back_what_was = refl

-- y = 1; Block[{y = 5}, 2^200]; y
block_puts_back_after_a_stop :
    cells (
    equals y' (int 1)
    ∷ of Builtin.Block (list (equals y' (int 5) ∷ []) ∷ of Builtin.Power (int 2 ∷ int 200 ∷ []) ∷ [])
    ∷ y' ∷ [])
    ≡ value (int 1)
    ∷ stopped Stop.Range
    ∷ value (int 1) ∷ []
unfolding eval row worked
block_puts_back_after_a_stop = refl

-- With[{y = 3}, Hold[y]]; With[{y}, y]
with_puts_values_in_place :
    cells (
    of Builtin.With (list (equals y' (int 3) ∷ []) ∷ of Builtin.Hold (y' ∷ []) ∷ [])
    ∷ of Builtin.With (list (y' ∷ []) ∷ y' ∷ []) ∷ [])
    ≡ value (of Builtin.Hold (int 3 ∷ []))
    ∷ value (of Builtin.With (list (y' ∷ []) ∷ y' ∷ [])) ∷ []
unfolding eval row worked
with_puts_values_in_place = refl

-- With[{x = 2}, Function[x, x]]; With[{x = 2}, Hold[Module[{x = x}, x], x]]
inner_names_are_not_entered :
    cells (
    of Builtin.With (list (equals x' (int 2) ∷ []) ∷ of Builtin.Function (x' ∷ x' ∷ []) ∷ [])
    ∷ of Builtin.With (list (equals x' (int 2) ∷ []) ∷ of Builtin.Hold (of Builtin.Module (list (equals x' x' ∷ []) ∷ x' ∷ []) ∷ x' ∷ []) ∷ []) ∷ [])
    ≡ value (of Builtin.Function (x' ∷ x' ∷ []))
    ∷ value (of Builtin.Hold (of Builtin.Module (list (equals x' x' ∷ []) ∷ x' ∷ []) ∷ int 2 ∷ [])) ∷ []
unfolding eval row worked
inner_names_are_not_entered = refl

-- Module[{x, x}, x]; With[{x = 1, x = 2}, x]; Function[{x, x}, x][1, 2]
a_name_bound_twice_has_no_equation :
    cells (
    of Builtin.Module (list (x' ∷ x' ∷ []) ∷ x' ∷ [])
    ∷ of Builtin.With (list (equals x' (int 1) ∷ equals x' (int 2) ∷ []) ∷ x' ∷ [])
    ∷ call (of Builtin.Function (list (x' ∷ x' ∷ []) ∷ x' ∷ [])) (int 1 ∷ int 2 ∷ []) ∷ [])
    ≡ value (of Builtin.Module (list (x' ∷ x' ∷ []) ∷ x' ∷ []))
    ∷ value (of Builtin.With (list (equals x' (int 1) ∷ equals x' (int 2) ∷ []) ∷ x' ∷ []))
    ∷ value (call (of Builtin.Function (list (x' ∷ x' ∷ []) ∷ x' ∷ [])) (int 1 ∷ int 2 ∷ [])) ∷ []
unfolding eval row worked
a_name_bound_twice_has_no_equation = refl

-- Function[x, x + 1][2]; Function[{x, y}, {y, x}][1, 2, 3]; Function[{x, y}, x][1]
functions_take_arguments :
    cells (
    apply (of Builtin.Function (x' ∷ plus x' (int 1) ∷ [])) (int 2)
    ∷ call (of Builtin.Function (list (x' ∷ y' ∷ []) ∷ list (y' ∷ x' ∷ []) ∷ [])) (int 1 ∷ int 2 ∷ int 3 ∷ [])
    ∷ apply (of Builtin.Function (list (x' ∷ y' ∷ []) ∷ x' ∷ [])) (int 1) ∷ [])
    ≡ value (int 3)
    ∷ value (numbers (2 ∷ 1 ∷ []))
    ∷ value (apply (of Builtin.Function (list (x' ∷ y' ∷ []) ∷ x' ∷ [])) (int 1)) ∷ []
unfolding eval row worked
functions_take_arguments = refl

-- (# + 1 &) /@ {1, 2}; Function[f[##2]][a, b, c]; Function[f[##2]][a]; Function[##1][a]; Function[#2][a]
slots_take_arguments :
    cells (
    of Builtin.Map (of Builtin.Function (plus (of Builtin.Slot (int 1 ∷ [])) (int 1) ∷ []) ∷ numbers (1 ∷ 2 ∷ []) ∷ [])
    ∷ call (of Builtin.Function (apply f' (of Builtin.SlotSequence (int 2 ∷ [])) ∷ [])) (a' ∷ b' ∷ c' ∷ [])
    ∷ apply (of Builtin.Function (apply f' (of Builtin.SlotSequence (int 2 ∷ [])) ∷ [])) a'
    ∷ apply (of Builtin.Function (of Builtin.SlotSequence (int 1 ∷ []) ∷ [])) a'
    ∷ apply (of Builtin.Function (of Builtin.Slot (int 2 ∷ []) ∷ [])) a' ∷ [])
    ≡ value (numbers (2 ∷ 3 ∷ []))
    ∷ value (call f' (b' ∷ c' ∷ []))
    ∷ value (apply f' (of Builtin.SlotSequence (int 2 ∷ [])))
    ∷ value a'
    ∷ value (of Builtin.Slot (int 2 ∷ [])) ∷ []
unfolding eval row worked
slots_take_arguments = refl

-- Function[{#, Function[#]}][a]
slots_do_not_enter_an_inner_function :
    cells (
    apply (of Builtin.Function (list (of Builtin.Slot (int 1 ∷ []) ∷ of Builtin.Function (of Builtin.Slot (int 1 ∷ []) ∷ []) ∷ []) ∷ [])) a' ∷ [])
    ≡ value (list (a' ∷ of Builtin.Function (of Builtin.Slot (int 1 ∷ []) ∷ []) ∷ [])) ∷ []
unfolding eval row worked
slots_do_not_enter_an_inner_function = refl

-- (Hold[Slot[#]] &)[7]; Function[{Slot[0], Slot[1, #], SlotSequence[#], Slot[]}][7]
another_shape_is_no_slot :
    cells (
    apply (of Builtin.Function (of Builtin.Hold (of Builtin.Slot (of Builtin.Slot (int 1 ∷ []) ∷ []) ∷ []) ∷ [])) (int 7)
    ∷ apply (of Builtin.Function (list (
    of Builtin.Slot (int 0 ∷ []) ∷ of Builtin.Slot (int 1 ∷ of Builtin.Slot (int 1 ∷ []) ∷ [])
    ∷ of Builtin.SlotSequence (of Builtin.Slot (int 1 ∷ []) ∷ []) ∷ of Builtin.Slot [] ∷ []) ∷ [])) (int 7) ∷ [])
    ≡ value (of Builtin.Hold (of Builtin.Slot (int 7 ∷ []) ∷ []))
    ∷ value (list (of Builtin.Slot (int 0 ∷ []) ∷ of Builtin.Slot (int 1 ∷ int 7 ∷ []) ∷ of Builtin.SlotSequence (int 7 ∷ []) ∷ of Builtin.Slot [] ∷ [])) ∷ []
unfolding eval row worked
another_shape_is_no_slot = refl

-- With[{x = 3}, Hold[e]]
with_three : Tree → Tree
with_three e = of Builtin.With (list (equals x' (int 3) ∷ []) ∷ of Builtin.Hold (e ∷ []) ∷ [])

held : Tree → Outcome
held e = value (of Builtin.Hold (e ∷ []))

-- Module[{x, 5}, x]; Module[{x}, x, x]; With[{x}, x]; Function[{x, 5}, x]; Function[{x = 1}, x]; Function[x, x, x]; Module[x, x]
another_shape_binds_nothing :
    cells (
    with_three (of Builtin.Module (list (x' ∷ int 5 ∷ []) ∷ x' ∷ []))
    ∷ with_three (of Builtin.Module (list (x' ∷ []) ∷ x' ∷ x' ∷ []))
    ∷ with_three (of Builtin.With (list (x' ∷ []) ∷ x' ∷ []))
    ∷ with_three (of Builtin.Function (list (x' ∷ int 5 ∷ []) ∷ x' ∷ []))
    ∷ with_three (of Builtin.Function (list (equals x' (int 1) ∷ []) ∷ x' ∷ []))
    ∷ with_three (of Builtin.Function (x' ∷ x' ∷ x' ∷ []))
    ∷ with_three (of Builtin.Module (x' ∷ x' ∷ [])) ∷ [])
    ≡ held (of Builtin.Module (list (int 3 ∷ int 5 ∷ []) ∷ int 3 ∷ []))
    ∷ held (of Builtin.Module (list (int 3 ∷ []) ∷ int 3 ∷ int 3 ∷ []))
    ∷ held (of Builtin.With (list (int 3 ∷ []) ∷ int 3 ∷ []))
    ∷ held (of Builtin.Function (list (int 3 ∷ int 5 ∷ []) ∷ int 3 ∷ []))
    ∷ held (of Builtin.Function (list (equals (int 3) (int 1) ∷ []) ∷ int 3 ∷ []))
    ∷ held (of Builtin.Function (int 3 ∷ int 3 ∷ int 3 ∷ []))
    ∷ held (of Builtin.Module (int 3 ∷ int 3 ∷ [])) ∷ []
unfolding with_three held eval row worked
another_shape_binds_nothing = refl

-- Module[{y = x, x}, x]; Module[{x, x}, x]; With[{x = x}, x]; Function[{y, x}, x]; Function[x, x]
these_shapes_bind :
    cells (
    with_three (of Builtin.Module (list (equals y' x' ∷ x' ∷ []) ∷ x' ∷ []))
    ∷ with_three (of Builtin.Module (list (x' ∷ x' ∷ []) ∷ x' ∷ []))
    ∷ with_three (of Builtin.With (list (equals x' x' ∷ []) ∷ x' ∷ []))
    ∷ with_three (of Builtin.Function (list (y' ∷ x' ∷ []) ∷ x' ∷ []))
    ∷ with_three (of Builtin.Function (x' ∷ x' ∷ [])) ∷ [])
    ≡ held (of Builtin.Module (list (equals y' x' ∷ x' ∷ []) ∷ x' ∷ []))
    ∷ held (of Builtin.Module (list (x' ∷ x' ∷ []) ∷ x' ∷ []))
    ∷ held (of Builtin.With (list (equals x' x' ∷ []) ∷ x' ∷ []))
    ∷ held (of Builtin.Function (list (y' ∷ x' ∷ []) ∷ x' ∷ []))
    ∷ held (of Builtin.Function (x' ∷ x' ∷ [])) ∷ []
unfolding with_three held eval row worked
these_shapes_bind = refl
