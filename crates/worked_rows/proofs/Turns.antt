-- Control and turns of loops.
use Rattle.std.proofs.Common.{◌≡◌, refl, [], ◌∷◌}
use Rattle.expr_tree.specs.Tree.{call}
use Rattle.semantics.specs.declared.builtin.Builtin.{Builtin}
use Rattle.semantics.specs.Eval.{eval}
use Rattle.semantics.specs.Table.{row, worked}
use Rattle.semantics.specs.Match.{matches}
use Rattle.worked_rows.specs.Sample.{a', apply, b', blank, c', cells, delayed, equals, f', g', h', i', int, j', list, minus, n', null, numbers, of, plus, symbol_of_row, times, value, x'}

-- (n = 1; n = n + 1; n); CompoundExpression[]
compound_expressions_give_the_last :
    cells (
    of Builtin.CompoundExpression (equals n' (int 1) ∷ equals n' (plus n' (int 1)) ∷ n' ∷ [])
    ∷ of Builtin.CompoundExpression [] ∷ [])
    ≡ value (int 2)
    ∷ value (of Builtin.CompoundExpression []) ∷ []
unfolding eval row worked
compound_expressions_give_the_last = refl

-- If[1 == 1, a]; If[1 == 2, a]; If[x, a, b]; If[x, a, b, c]; If[1 == 2, n = 1, b]; n
if_has_two_to_four_elements :
    cells (
    of Builtin.If (of Builtin.Equal (int 1 ∷ int 1 ∷ []) ∷ a' ∷ [])
    ∷ of Builtin.If (of Builtin.Equal (int 1 ∷ int 2 ∷ []) ∷ a' ∷ [])
    ∷ of Builtin.If (x' ∷ a' ∷ b' ∷ [])
    ∷ of Builtin.If (x' ∷ a' ∷ b' ∷ c' ∷ [])
    ∷ of Builtin.If (of Builtin.Equal (int 1 ∷ int 2 ∷ []) ∷ equals n' (int 1) ∷ b' ∷ [])
    ∷ n' ∷ [])
    ≡ value a'
    ∷ null
    ∷ value (of Builtin.If (x' ∷ a' ∷ b' ∷ []))
    ∷ value c'
    ∷ value b'
    ∷ value n' ∷ []
unfolding eval row worked
if_has_two_to_four_elements = refl

-- Which[1 == 2, a, 1 == 1, b]; Which[1 == 2, a]; Which[1 + 1, 3]; Which[]; Which[a]
which_takes_the_first_true :
    cells (
    of Builtin.Which (of Builtin.Equal (int 1 ∷ int 2 ∷ []) ∷ a' ∷ of Builtin.Equal (int 1 ∷ int 1 ∷ []) ∷ b' ∷ [])
    ∷ of Builtin.Which (of Builtin.Equal (int 1 ∷ int 2 ∷ []) ∷ a' ∷ [])
    ∷ of Builtin.Which (plus (int 1) (int 1) ∷ int 3 ∷ [])
    ∷ of Builtin.Which []
    ∷ of Builtin.Which (a' ∷ []) ∷ [])
    ≡ value b'
    ∷ null
    ∷ value (of Builtin.Which (int 2 ∷ int 3 ∷ []))
    ∷ null
    ∷ value (of Builtin.Which (a' ∷ [])) ∷ []
unfolding eval row worked
which_takes_the_first_true = refl

-- n = 0; While[n < 5, n++]; n
while_evaluates_as_long :
    cells (
    equals n' (int 0)
    ∷ of Builtin.While (of Builtin.Less (n' ∷ int 5 ∷ []) ∷ of Builtin.Increment (n' ∷ []) ∷ [])
    ∷ n' ∷ [])
    ≡ value (int 0)
    ∷ null
    ∷ value (int 5) ∷ []
unfolding eval row worked
while_evaluates_as_long = refl

-- i = 7; Table[i, {i, 3}]; i
an_iterator_is_local :
    cells (
    equals i' (int 7)
    ∷ of Builtin.Table (i' ∷ list (i' ∷ int 3 ∷ []) ∷ [])
    ∷ i' ∷ [])
    ≡ value (int 7)
    ∷ value (numbers (1 ∷ 2 ∷ 3 ∷ []))
    ∷ value (int 7) ∷ []
unfolding eval row worked
an_iterator_is_local = refl

-- Table[x, {2}]; Table[i, {i, 2, 4}]; Table[i, {i, 5, 1, -2}]; Table[f[i], {i, {a, b}}]; Table[i, {i, 0}]; Table[i j, {i, 2}, {j, i}]
iterators_of_every_shape :
    cells (
    of Builtin.Table (x' ∷ numbers (2 ∷ []) ∷ [])
    ∷ of Builtin.Table (i' ∷ list (i' ∷ int 2 ∷ int 4 ∷ []) ∷ [])
    ∷ of Builtin.Table (i' ∷ list (i' ∷ int 5 ∷ int 1 ∷ minus 2 ∷ []) ∷ [])
    ∷ of Builtin.Table (apply f' i' ∷ list (i' ∷ list (a' ∷ b' ∷ []) ∷ []) ∷ [])
    ∷ of Builtin.Table (i' ∷ list (i' ∷ int 0 ∷ []) ∷ [])
    ∷ of Builtin.Table (times i' j' ∷ list (i' ∷ int 2 ∷ []) ∷ list (j' ∷ i' ∷ []) ∷ []) ∷ [])
    ≡ value (list (x' ∷ x' ∷ []))
    ∷ value (numbers (2 ∷ 3 ∷ 4 ∷ []))
    ∷ value (numbers (5 ∷ 3 ∷ 1 ∷ []))
    ∷ value (list (apply f' a' ∷ apply f' b' ∷ []))
    ∷ value (list [])
    ∷ value (list (numbers (1 ∷ []) ∷ numbers (2 ∷ 4 ∷ []) ∷ [])) ∷ []
unfolding eval row worked
iterators_of_every_shape = refl

-- Table[i, {i, a, n = 1}]; n
an_iterators_parts_are_evaluated_in_order :
    cells (
    of Builtin.Table (i' ∷ list (i' ∷ a' ∷ equals n' (int 1) ∷ []) ∷ [])
    ∷ n' ∷ [])
    ≡ value (of Builtin.Table (i' ∷ list (i' ∷ a' ∷ equals n' (int 1) ∷ []) ∷ []))
    ∷ value n' ∷ []
unfolding eval row
an_iterators_parts_are_evaluated_in_order = refl

-- Sum[i i, {i, 4}]; Sum[i, {i, x}]; n = 0; Do[n = n + i, {i, 4}]; n
sums_and_does :
    cells (
    of Builtin.Sum (times i' i' ∷ list (i' ∷ int 4 ∷ []) ∷ [])
    ∷ of Builtin.Sum (i' ∷ list (i' ∷ x' ∷ []) ∷ [])
    ∷ equals n' (int 0)
    ∷ of Builtin.Do (equals n' (plus n' i') ∷ list (i' ∷ int 4 ∷ []) ∷ [])
    ∷ n' ∷ [])
    ≡ value (int 30)
    ∷ value (of Builtin.Sum (i' ∷ list (i' ∷ x' ∷ []) ∷ []))
    ∷ value (int 0)
    ∷ null
    ∷ value (int 10) ∷ []
unfolding eval row worked
sums_and_does = refl

-- Fold[f, x, {a, b}]; FoldList[f, x, g[a]]; Nest[f, x, 2]; NestList[f, x, 2]; Nest[f, x, -1]; Nest[2 # &, 1, 10]
folds_and_nests :
    cells (
    of Builtin.Fold (f' ∷ x' ∷ list (a' ∷ b' ∷ []) ∷ [])
    ∷ of Builtin.FoldList (f' ∷ x' ∷ apply g' a' ∷ [])
    ∷ of Builtin.Nest (f' ∷ x' ∷ int 2 ∷ [])
    ∷ of Builtin.NestList (f' ∷ x' ∷ int 2 ∷ [])
    ∷ of Builtin.Nest (f' ∷ x' ∷ minus 1 ∷ [])
    ∷ of Builtin.Nest (of Builtin.Function (times (int 2) (of Builtin.Slot (int 1 ∷ [])) ∷ []) ∷ int 1 ∷ int 10 ∷ []) ∷ [])
    ≡ value (call f' (call f' (x' ∷ a' ∷ []) ∷ b' ∷ []))
    ∷ value (call g' (x' ∷ call f' (x' ∷ a' ∷ []) ∷ []))
    ∷ value (apply f' (apply f' x'))
    ∷ value (list (x' ∷ apply f' x' ∷ apply f' (apply f' x') ∷ []))
    ∷ value (of Builtin.Nest (f' ∷ x' ∷ minus 1 ∷ []))
    ∷ value (int 1024) ∷ []
unfolding eval row worked
folds_and_nests = refl

-- FixedPoint[Function[Quotient[#, 2]], 20]; Select[h[1, 2, 3], OddQ]
fixed_points_and_selections :
    cells (
    of Builtin.FixedPoint (of Builtin.Function (of Builtin.Quotient (of Builtin.Slot (int 1 ∷ []) ∷ int 2 ∷ []) ∷ []) ∷ int 20 ∷ [])
    ∷ of Builtin.Select (call h' (int 1 ∷ int 2 ∷ int 3 ∷ []) ∷ symbol_of_row Builtin.OddQ ∷ []) ∷ [])
    ≡ value (int 0)
    ∷ value (call h' (int 1 ∷ int 3 ∷ [])) ∷ []
unfolding eval row worked
fixed_points_and_selections = refl

-- f[0] = 0; f[1] = 1; f[n_] := f[n] = f[n - 1] + f[n - 2]; f[30]
a_function_that_remembers :
    cells (
    equals (apply f' (int 0)) (int 0)
    ∷ equals (apply f' (int 1)) (int 1)
    ∷ delayed (apply f' (blank n')) (equals (apply f' n') (plus (apply f' (plus n' (minus 1))) (apply f' (plus n' (minus 2)))))
    ∷ apply f' (int 30) ∷ [])
    ≡ value (int 0)
    ∷ value (int 1)
    ∷ null
    ∷ value (int 832040) ∷ []
unfolding eval row worked matches
a_function_that_remembers = refl

-- Table[Mod[i i, 7], {i, 10}]
squares_modulo_seven :
    cells (
    of Builtin.Table (of Builtin.Mod (times i' i' ∷ int 7 ∷ []) ∷ list (i' ∷ int 10 ∷ []) ∷ []) ∷ [])
    ≡ value (numbers (1 ∷ 4 ∷ 2 ∷ 2 ∷ 4 ∷ 1 ∷ 0 ∷ 1 ∷ 4 ∷ 2 ∷ [])) ∷ []
unfolding eval row worked
squares_modulo_seven = refl

-- c[1] = 0; c[n_] := 1 + c[If[EvenQ[n], Quotient[n, 2], 3 n + 1]]; Map[c, {9, 16, 3, 10}]
steps_of_a_halving_walk :
    cells (
    equals (apply c' (int 1)) (int 0)
    ∷ delayed (apply c' (blank n')) (plus (int 1) (apply c' (of Builtin.If (of Builtin.EvenQ (n' ∷ []) ∷ of Builtin.Quotient (n' ∷ int 2 ∷ []) ∷ plus (times (int 3) n') (int 1) ∷ []))))
    ∷ of Builtin.Map (c' ∷ numbers (9 ∷ 16 ∷ 3 ∷ 10 ∷ []) ∷ []) ∷ [])
    ≡ value (int 0)
    ∷ null
    ∷ value (numbers (19 ∷ 4 ∷ 7 ∷ 6 ∷ [])) ∷ []
unfolding eval row worked matches
steps_of_a_halving_walk = refl
