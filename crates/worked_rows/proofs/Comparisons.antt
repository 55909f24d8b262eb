-- Comparison and logic.
use Rattle.std.proofs.Common.{◌≡◌, refl, [], ◌∷◌}
use Rattle.std.specs.Prelude.{codes}
use Rattle.expr_tree.specs.Tree.{string}
use Rattle.semantics.specs.declared.builtin.Builtin.{Builtin}
use Rattle.semantics.specs.Eval.{eval}
use Rattle.semantics.specs.Table.{row, worked}
use Rattle.worked_rows.specs.Sample.{a', apply, b', cells, equals, f', int, list, n', of, symbol_of_row, value, x', y'}

-- 1 == 1; 1 == 2; x == x; x == y; "a" == "b"; Equal[]
equality :
    cells (
    of Builtin.Equal (int 1 ∷ int 1 ∷ [])
    ∷ of Builtin.Equal (int 1 ∷ int 2 ∷ [])
    ∷ of Builtin.Equal (x' ∷ x' ∷ [])
    ∷ of Builtin.Equal (x' ∷ y' ∷ [])
    ∷ of Builtin.Equal (string (codes "a") ∷ string (codes "b") ∷ [])
    ∷ of Builtin.Equal [] ∷ [])
    ≡ value (symbol_of_row Builtin.True)
    ∷ value (symbol_of_row Builtin.False)
    ∷ value (symbol_of_row Builtin.True)
    ∷ value (of Builtin.Equal (x' ∷ y' ∷ []))
    ∷ value (symbol_of_row Builtin.False)
    ∷ value (symbol_of_row Builtin.True) ∷ []
unfolding eval row worked
equality = refl

-- Unequal[1, 2, 3]; Unequal[1, 2, 1]; Unequal[x, y]; Unequal[x]; Unequal[]
inequality :
    cells (
    of Builtin.Unequal (int 1 ∷ int 2 ∷ int 3 ∷ [])
    ∷ of Builtin.Unequal (int 1 ∷ int 2 ∷ int 1 ∷ [])
    ∷ of Builtin.Unequal (x' ∷ y' ∷ [])
    ∷ of Builtin.Unequal (x' ∷ [])
    ∷ of Builtin.Unequal [] ∷ [])
    ≡ value (symbol_of_row Builtin.True)
    ∷ value (symbol_of_row Builtin.False)
    ∷ value (of Builtin.Unequal (x' ∷ y' ∷ []))
    ∷ value (of Builtin.Unequal (x' ∷ []))
    ∷ value (symbol_of_row Builtin.True) ∷ []
unfolding eval row worked
inequality = refl

-- 1 < 2 < 3; 1 < 1; 2 >= 2; Less[1]; Less[x]; 3 > x
orders_of_integers :
    cells (
    of Builtin.Less (int 1 ∷ int 2 ∷ int 3 ∷ [])
    ∷ of Builtin.Less (int 1 ∷ int 1 ∷ [])
    ∷ of Builtin.GreaterEqual (int 2 ∷ int 2 ∷ [])
    ∷ of Builtin.Less (int 1 ∷ [])
    ∷ of Builtin.Less (x' ∷ [])
    ∷ of Builtin.Greater (int 3 ∷ x' ∷ []) ∷ [])
    ≡ value (symbol_of_row Builtin.True)
    ∷ value (symbol_of_row Builtin.False)
    ∷ value (symbol_of_row Builtin.True)
    ∷ value (symbol_of_row Builtin.True)
    ∷ value (of Builtin.Less (x' ∷ []))
    ∷ value (of Builtin.Greater (int 3 ∷ x' ∷ [])) ∷ []
unfolding eval row worked
orders_of_integers = refl

-- x === x; x === y; UnsameQ[x, y, x]
sameness :
    cells (
    of Builtin.SameQ (x' ∷ x' ∷ [])
    ∷ of Builtin.SameQ (x' ∷ y' ∷ [])
    ∷ of Builtin.UnsameQ (x' ∷ y' ∷ x' ∷ []) ∷ [])
    ≡ value (symbol_of_row Builtin.True)
    ∷ value (symbol_of_row Builtin.False)
    ∷ value (symbol_of_row Builtin.False) ∷ []
unfolding eval row worked
sameness = refl

-- AtomQ[3]; AtomQ[f[x]]; IntegerQ["a"]; StringQ["a"]; ListQ[{}]; TrueQ[x]; OrderedQ[{a, b}]
tests_of_kinds :
    cells (
    of Builtin.AtomQ (int 3 ∷ [])
    ∷ of Builtin.AtomQ (apply f' x' ∷ [])
    ∷ of Builtin.IntegerQ (string (codes "a") ∷ [])
    ∷ of Builtin.StringQ (string (codes "a") ∷ [])
    ∷ of Builtin.ListQ (list [] ∷ [])
    ∷ of Builtin.TrueQ (x' ∷ [])
    ∷ of Builtin.OrderedQ (list (b' ∷ a' ∷ []) ∷ []) ∷ [])
    ≡ value (symbol_of_row Builtin.True)
    ∷ value (symbol_of_row Builtin.False)
    ∷ value (symbol_of_row Builtin.False)
    ∷ value (symbol_of_row Builtin.True)
    ∷ value (symbol_of_row Builtin.True)
    ∷ value (symbol_of_row Builtin.False)
    ∷ value (symbol_of_row Builtin.False) ∷ []
unfolding eval row worked
tests_of_kinds = refl

-- And[1 == 1, x]; And[x, 1 == 2, n = 1]; n; Or[x, y]; Or[x, 1 == 1]; Not[1 == 1]; And[]
connectives_evaluate_in_turn :
    cells (
    of Builtin.And (of Builtin.Equal (int 1 ∷ int 1 ∷ []) ∷ x' ∷ [])
    ∷ of Builtin.And (x' ∷ of Builtin.Equal (int 1 ∷ int 2 ∷ []) ∷ equals n' (int 1) ∷ [])
    ∷ n'
    ∷ of Builtin.Or (x' ∷ y' ∷ [])
    ∷ of Builtin.Or (x' ∷ of Builtin.Equal (int 1 ∷ int 1 ∷ []) ∷ [])
    ∷ of Builtin.Not (of Builtin.Equal (int 1 ∷ int 1 ∷ []) ∷ [])
    ∷ of Builtin.And [] ∷ [])
    ≡ value x'
    ∷ value (symbol_of_row Builtin.False)
    ∷ value n'
    ∷ value (of Builtin.Or (x' ∷ y' ∷ []))
    ∷ value (symbol_of_row Builtin.True)
    ∷ value (symbol_of_row Builtin.False)
    ∷ value (symbol_of_row Builtin.True) ∷ []
unfolding eval row worked
connectives_evaluate_in_turn = refl
