-- The evaluation sequence: elements, splicing, stripping, attributes, up rules and down rules.
use Rattle.std.proofs.Common.{◌≡◌, refl, [], ◌∷◌}
use Rattle.expr_tree.specs.Tree.{call}
use Rattle.semantics.specs.declared.builtin.Builtin.{Builtin}
use Rattle.semantics.specs.Eval.{eval}
use Rattle.semantics.specs.Table.{row, worked}
use Rattle.semantics.specs.Match.{matches}
use Rattle.worked_rows.specs.Sample.{a', apply, b', blank, c', cells, delayed, equals, f', g', h', int, list, n', null, numbers, of, plus, q', symbol_of_row, value, x'}

-- 1 + 2; x = 3; x + 4
a_cell_has_its_value : cells (plus (int 1) (int 2) ∷ equals x' (int 3) ∷ plus x' (int 4) ∷ []) ≡ value (int 3) ∷ value (int 3) ∷ value (int 7) ∷ []
unfolding eval row worked
a_cell_has_its_value = refl

-- {n = 1, n = n + 1, n}
elements_go_from_left_to_right : cells (list (equals n' (int 1) ∷ equals n' (plus n' (int 1)) ∷ n' ∷ []) ∷ []) ≡ value (numbers (1 ∷ 2 ∷ 2 ∷ [])) ∷ []
unfolding eval row worked
elements_go_from_left_to_right = refl

-- SetAttributes[g, {Flat, Orderless}]; g[c, g[b, a]]
flat_and_orderless_are_put_in_order :
    cells (
    of Builtin.SetAttributes (g' ∷ list (symbol_of_row Builtin.Flat ∷ symbol_of_row Builtin.Orderless ∷ []) ∷ [])
    ∷ call g' (c' ∷ call g' (b' ∷ a' ∷ []) ∷ []) ∷ [])
    ≡ null
    ∷ value (call g' (a' ∷ b' ∷ c' ∷ [])) ∷ []
unfolding eval row worked
flat_and_orderless_are_put_in_order = refl

-- {1, 2} + 1; {1, 2, 3} + {1, 2}
lists_of_one_length_are_threaded :
    cells (
    plus (numbers (1 ∷ 2 ∷ [])) (int 1)
    ∷ plus (numbers (1 ∷ 2 ∷ 3 ∷ [])) (numbers (1 ∷ 2 ∷ [])) ∷ [])
    ≡ value (numbers (2 ∷ 3 ∷ []))
    ∷ value (plus (numbers (1 ∷ 2 ∷ [])) (numbers (1 ∷ 2 ∷ 3 ∷ []))) ∷ []
unfolding eval row worked
lists_of_one_length_are_threaded = refl

-- f[a, Sequence[b, c]]; HoldComplete[Sequence[a, b]]
sequences_are_spliced :
    cells (
    call f' (a' ∷ of Builtin.Sequence (b' ∷ c' ∷ []) ∷ [])
    ∷ of Builtin.HoldComplete (of Builtin.Sequence (a' ∷ b' ∷ []) ∷ []) ∷ [])
    ≡ value (call f' (a' ∷ b' ∷ c' ∷ []))
    ∷ value (of Builtin.HoldComplete (of Builtin.Sequence (a' ∷ b' ∷ []) ∷ [])) ∷ []
unfolding eval row worked
sequences_are_spliced = refl

-- f[Sequence[Sequence[a, b]]]
nested_sequences_are_spliced :
    cells (
    apply f' (of Builtin.Sequence (of Builtin.Sequence (a' ∷ b' ∷ []) ∷ [])) ∷ [])
    ≡ value (call f' (a' ∷ b' ∷ [])) ∷ []
unfolding eval row worked
nested_sequences_are_spliced = refl

-- Hold[1 + 1]; Hold[Evaluate[1 + 1]]; HoldComplete[Evaluate[1 + 1]]
held_elements_are_not_evaluated :
    cells (
    of Builtin.Hold (plus (int 1) (int 1) ∷ [])
    ∷ of Builtin.Hold (of Builtin.Evaluate (plus (int 1) (int 1) ∷ []) ∷ [])
    ∷ of Builtin.HoldComplete (of Builtin.Evaluate (plus (int 1) (int 1) ∷ []) ∷ []) ∷ [])
    ≡ value (of Builtin.Hold (plus (int 1) (int 1) ∷ []))
    ∷ value (of Builtin.Hold (int 2 ∷ []))
    ∷ value (of Builtin.HoldComplete (of Builtin.Evaluate (plus (int 1) (int 1) ∷ []) ∷ [])) ∷ []
unfolding eval row worked
held_elements_are_not_evaluated = refl

-- Hold[Evaluate[a, b]]
evaluate_of_two_is_ordinary :
    cells (
    of Builtin.Hold (of Builtin.Evaluate (a' ∷ b' ∷ []) ∷ []) ∷ [])
    ≡ value (of Builtin.Hold (of Builtin.Evaluate (a' ∷ b' ∷ []) ∷ [])) ∷ []
unfolding eval row worked
evaluate_of_two_is_ordinary = refl

-- SetAttributes[f, HoldFirst]; f[1 + 1, 1 + 1]; SetAttributes[g, HoldRest]; g[1 + 1, 1 + 1]
attributes_hold_the_first_or_the_rest :
    cells (
    of Builtin.SetAttributes (f' ∷ symbol_of_row Builtin.HoldFirst ∷ [])
    ∷ call f' (plus (int 1) (int 1) ∷ plus (int 1) (int 1) ∷ [])
    ∷ of Builtin.SetAttributes (g' ∷ symbol_of_row Builtin.HoldRest ∷ [])
    ∷ call g' (plus (int 1) (int 1) ∷ plus (int 1) (int 1) ∷ []) ∷ [])
    ≡ null
    ∷ value (call f' (plus (int 1) (int 1) ∷ int 2 ∷ []))
    ∷ null
    ∷ value (call g' (int 2 ∷ plus (int 1) (int 1) ∷ [])) ∷ []
unfolding eval row worked
attributes_hold_the_first_or_the_rest = refl

-- Length[Unevaluated[1 + 2]]; q[Unevaluated[1 + 2]]; Plus[Unevaluated[a], b]
unevaluated_is_taken_off_where_a_row_applies :
    cells (
    of Builtin.Length (of Builtin.Unevaluated (plus (int 1) (int 2) ∷ []) ∷ [])
    ∷ apply q' (of Builtin.Unevaluated (plus (int 1) (int 2) ∷ []))
    ∷ plus (of Builtin.Unevaluated (a' ∷ [])) b' ∷ [])
    ≡ value (int 2)
    ∷ value (apply q' (of Builtin.Unevaluated (plus (int 1) (int 2) ∷ [])))
    ∷ value (plus a' b') ∷ []
unfolding eval row worked
unevaluated_is_taken_off_where_a_row_applies = refl

-- Length[Unevaluated[a, b]]
unevaluated_of_two_is_ordinary : cells (of Builtin.Length (of Builtin.Unevaluated (a' ∷ b' ∷ []) ∷ []) ∷ []) ≡ value (int 2) ∷ []
unfolding eval row worked
unevaluated_of_two_is_ordinary = refl

-- f[g[x_]] := 1; g /: f[g[x_]] = 2; f[g[0]]
up_rules_come_before_down_rules :
    cells (
    delayed (apply f' (apply g' (blank x'))) (int 1)
    ∷ of Builtin.TagSet (g' ∷ apply f' (apply g' (blank x')) ∷ int 2 ∷ [])
    ∷ apply f' (apply g' (int 0)) ∷ [])
    ≡ null
    ∷ value (int 2)
    ∷ value (int 2) ∷ []
unfolding eval row worked matches
up_rules_come_before_down_rules = refl

-- Unprotect[Length]; Length[a] = 7; Length[a]; Length[{a}]
a_down_rule_comes_before_the_row :
    cells (
    of Builtin.Unprotect (symbol_of_row Builtin.Length ∷ [])
    ∷ equals (of Builtin.Length (a' ∷ [])) (int 7)
    ∷ of Builtin.Length (a' ∷ [])
    ∷ of Builtin.Length (list (a' ∷ []) ∷ []) ∷ [])
    ≡ null
    ∷ value (int 7)
    ∷ value (int 7)
    ∷ value (int 1) ∷ []
unfolding eval row worked matches
a_down_rule_comes_before_the_row = refl

-- Unprotect[$KernelID]; $KernelID = 5; $KernelID
an_own_value_comes_before_a_row_of_a_symbol :
    cells (
    symbol_of_row Builtin.KernelID
    ∷ of Builtin.Unprotect (symbol_of_row Builtin.KernelID ∷ [])
    ∷ equals (symbol_of_row Builtin.KernelID) (int 5)
    ∷ symbol_of_row Builtin.KernelID ∷ [])
    ≡ value (int 0)
    ∷ null
    ∷ value (int 5)
    ∷ value (int 5) ∷ []
unfolding eval row
an_own_value_comes_before_a_row_of_a_symbol = refl

-- f = g; f[1]
a_head_is_evaluated : cells (equals f' g' ∷ apply f' (int 1) ∷ []) ≡ value g' ∷ value (apply g' (int 1)) ∷ []
unfolding eval row
a_head_is_evaluated = refl

-- h[x_] := h[x]; h[0]
an_identical_result_ends_without_a_step :
    cells (
    delayed (apply h' (blank x')) (apply h' x')
    ∷ apply h' (int 0) ∷ [])
    ≡ null
    ∷ value (apply h' (int 0)) ∷ []
unfolding eval row worked matches
an_identical_result_ends_without_a_step = refl

-- Head[3]; Head[f[x]]; OrderedQ[5]
an_atom_has_no_head :
    cells (
    of Builtin.Head (int 3 ∷ [])
    ∷ of Builtin.Head (apply f' x' ∷ [])
    ∷ of Builtin.OrderedQ (int 5 ∷ []) ∷ [])
    ≡ value (of Builtin.Head (int 3 ∷ []))
    ∷ value f'
    ∷ value (of Builtin.OrderedQ (int 5 ∷ [])) ∷ []
unfolding eval row worked
an_atom_has_no_head = refl
