-- Lists and strings.
use Rattle.std.proofs.Common.{◌≡◌, refl, [], ◌∷◌}
use Rattle.std.specs.Prelude.{codes}
use Rattle.std.specs.Str.{chars}
use Rattle.std.specs.Char.{encode_utf8}
use Rattle.expr_tree.specs.Tree.{call, string}
use Rattle.semantics.specs.declared.builtin.Builtin.{Builtin}
use Rattle.semantics.specs.Eval.{eval}
use Rattle.semantics.specs.Table.{row, worked}
use Rattle.worked_rows.specs.Sample.{a', apply, b', c', cells, f', g', int, list, minus, numbers, of, plus, symbol_of_row, value, x'}

-- {a, b}[[-1]]; f[a, b][[0]]; {{a, b}, {c, f}}[[{1, 2}, 2]]; {a}[[2]]; Part[a]
parts :
    cells (
    of Builtin.Part (list (a' ∷ b' ∷ []) ∷ minus 1 ∷ [])
    ∷ of Builtin.Part (call f' (a' ∷ b' ∷ []) ∷ int 0 ∷ [])
    ∷ of Builtin.Part (list (list (a' ∷ b' ∷ []) ∷ list (c' ∷ f' ∷ []) ∷ []) ∷ numbers (1 ∷ 2 ∷ []) ∷ int 2 ∷ [])
    ∷ of Builtin.Part (list (a' ∷ []) ∷ int 2 ∷ [])
    ∷ of Builtin.Part (a' ∷ []) ∷ [])
    ≡ value b'
    ∷ value f'
    ∷ value (list (b' ∷ f' ∷ []))
    ∷ value (of Builtin.Part (list (a' ∷ []) ∷ int 2 ∷ []))
    ∷ value (of Builtin.Part (a' ∷ [])) ∷ []
unfolding eval row worked
parts = refl

-- First[{a, b}]; Last[{a, b}]; Rest[{a, b}]; Most[f[a, b]]; First[{}]
first_last_rest_most :
    cells (
    of Builtin.First (list (a' ∷ b' ∷ []) ∷ [])
    ∷ of Builtin.Last (list (a' ∷ b' ∷ []) ∷ [])
    ∷ of Builtin.Rest (list (a' ∷ b' ∷ []) ∷ [])
    ∷ of Builtin.Most (call f' (a' ∷ b' ∷ []) ∷ [])
    ∷ of Builtin.First (list [] ∷ []) ∷ [])
    ≡ value a'
    ∷ value b'
    ∷ value (list (b' ∷ []))
    ∷ value (apply f' a')
    ∷ value (of Builtin.First (list [] ∷ [])) ∷ []
unfolding eval row worked
first_last_rest_most = refl

-- Take[{a, b, c}, 2]; Take[{a, b, c}, -2]; Take[{a, b, c}, {2, 3}]; Take[{a, b, c}, {-2, -1}]; Take[{a, b, c}, {3, 2}]; Take[{a}, {1, 2}]; Take[{a}, 0]
taking :
    cells (
    of Builtin.Take (list (a' ∷ b' ∷ c' ∷ []) ∷ int 2 ∷ [])
    ∷ of Builtin.Take (list (a' ∷ b' ∷ c' ∷ []) ∷ minus 2 ∷ [])
    ∷ of Builtin.Take (list (a' ∷ b' ∷ c' ∷ []) ∷ numbers (2 ∷ 3 ∷ []) ∷ [])
    ∷ of Builtin.Take (list (a' ∷ b' ∷ c' ∷ []) ∷ list (minus 2 ∷ minus 1 ∷ []) ∷ [])
    ∷ of Builtin.Take (list (a' ∷ b' ∷ c' ∷ []) ∷ numbers (3 ∷ 2 ∷ []) ∷ [])
    ∷ of Builtin.Take (list (a' ∷ []) ∷ numbers (1 ∷ 2 ∷ []) ∷ [])
    ∷ of Builtin.Take (list (a' ∷ []) ∷ int 0 ∷ []) ∷ [])
    ≡ value (list (a' ∷ b' ∷ []))
    ∷ value (list (b' ∷ c' ∷ []))
    ∷ value (list (b' ∷ c' ∷ []))
    ∷ value (list (b' ∷ c' ∷ []))
    ∷ value (list [])
    ∷ value (of Builtin.Take (list (a' ∷ []) ∷ numbers (1 ∷ 2 ∷ []) ∷ []))
    ∷ value (list []) ∷ []
unfolding eval row worked
taking = refl

-- Drop[{a, b, c}, 1]; Drop[{a, b, c}, -1]; Drop[{a, b, c}, {2, 2}]; Drop[{a, b, c}, {3, 2}]
dropping :
    cells (
    of Builtin.Drop (list (a' ∷ b' ∷ c' ∷ []) ∷ int 1 ∷ [])
    ∷ of Builtin.Drop (list (a' ∷ b' ∷ c' ∷ []) ∷ minus 1 ∷ [])
    ∷ of Builtin.Drop (list (a' ∷ b' ∷ c' ∷ []) ∷ numbers (2 ∷ 2 ∷ []) ∷ [])
    ∷ of Builtin.Drop (list (a' ∷ b' ∷ c' ∷ []) ∷ numbers (3 ∷ 2 ∷ []) ∷ []) ∷ [])
    ≡ value (list (b' ∷ c' ∷ []))
    ∷ value (list (a' ∷ b' ∷ []))
    ∷ value (list (a' ∷ c' ∷ []))
    ∷ value (list (a' ∷ b' ∷ c' ∷ [])) ∷ []
unfolding eval row worked
dropping = refl

-- Append[f[a], b]; Prepend[{a}, b]; Reverse[f[a, b]]; Sort[{c, a, b}]
adding_and_turning :
    cells (
    of Builtin.Append (apply f' a' ∷ b' ∷ [])
    ∷ of Builtin.Prepend (list (a' ∷ []) ∷ b' ∷ [])
    ∷ of Builtin.Reverse (call f' (a' ∷ b' ∷ []) ∷ [])
    ∷ of Builtin.Sort (list (c' ∷ a' ∷ b' ∷ []) ∷ []) ∷ [])
    ≡ value (call f' (a' ∷ b' ∷ []))
    ∷ value (list (b' ∷ a' ∷ []))
    ∷ value (call f' (b' ∷ a' ∷ []))
    ∷ value (list (a' ∷ b' ∷ c' ∷ [])) ∷ []
unfolding eval row worked
adding_and_turning = refl

-- Union[{2, 1}, {2}]; Join[{a}, {b, c}]; Join[f[a], f[b]]; Join[]; Join[{a}, f[b]]
joining :
    cells (
    of Builtin.Union (numbers (2 ∷ 1 ∷ []) ∷ numbers (2 ∷ []) ∷ [])
    ∷ of Builtin.Join (list (a' ∷ []) ∷ list (b' ∷ c' ∷ []) ∷ [])
    ∷ of Builtin.Join (apply f' a' ∷ apply f' b' ∷ [])
    ∷ of Builtin.Join []
    ∷ of Builtin.Join (list (a' ∷ []) ∷ apply f' b' ∷ []) ∷ [])
    ≡ value (numbers (1 ∷ 2 ∷ []))
    ∷ value (list (a' ∷ b' ∷ c' ∷ []))
    ∷ value (call f' (a' ∷ b' ∷ []))
    ∷ value (list [])
    ∷ value (of Builtin.Join (list (a' ∷ []) ∷ apply f' b' ∷ [])) ∷ []
unfolding eval row worked
joining = refl

-- Flatten[{1, {2, {3}}}]; Flatten[{1, {2, {3}}}, 1]; Flatten[f[{1}, g[{2}]]]
flattening :
    cells (
    of Builtin.Flatten (list (int 1 ∷ list (int 2 ∷ numbers (3 ∷ []) ∷ []) ∷ []) ∷ [])
    ∷ of Builtin.Flatten (list (int 1 ∷ list (int 2 ∷ numbers (3 ∷ []) ∷ []) ∷ []) ∷ int 1 ∷ [])
    ∷ of Builtin.Flatten (call f' (numbers (1 ∷ []) ∷ apply g' (numbers (2 ∷ [])) ∷ []) ∷ []) ∷ [])
    ≡ value (numbers (1 ∷ 2 ∷ 3 ∷ []))
    ∷ value (list (int 1 ∷ int 2 ∷ numbers (3 ∷ []) ∷ []))
    ∷ value (call f' (int 1 ∷ apply g' (numbers (2 ∷ [])) ∷ [])) ∷ []
unfolding eval row worked
flattening = refl

-- Partition[{1, 2, 3, 4, 5}, 2]; Transpose[{{1, 2}, {a, b}}]; Transpose[{}]; Transpose[{{1}, {2, 3}}]
cutting :
    cells (
    of Builtin.Partition (numbers (1 ∷ 2 ∷ 3 ∷ 4 ∷ 5 ∷ []) ∷ int 2 ∷ [])
    ∷ of Builtin.Transpose (list (numbers (1 ∷ 2 ∷ []) ∷ list (a' ∷ b' ∷ []) ∷ []) ∷ [])
    ∷ of Builtin.Transpose (list [] ∷ [])
    ∷ of Builtin.Transpose (list (numbers (1 ∷ []) ∷ numbers (2 ∷ 3 ∷ []) ∷ []) ∷ []) ∷ [])
    ≡ value (list (numbers (1 ∷ 2 ∷ []) ∷ numbers (3 ∷ 4 ∷ []) ∷ []))
    ∷ value (list (list (int 1 ∷ a' ∷ []) ∷ list (int 2 ∷ b' ∷ []) ∷ []))
    ∷ value (of Builtin.Transpose (list [] ∷ []))
    ∷ value (of Builtin.Transpose (list (numbers (1 ∷ []) ∷ numbers (2 ∷ 3 ∷ []) ∷ []) ∷ [])) ∷ []
unfolding eval row worked
cutting = refl

-- Range[3]; Range[2, 4]; Range[5, 1, -2]; Range[0]; ConstantArray[x, 2]; ConstantArray[x, -1]; Array[f, 2]; Array[f, -1]
making :
    cells (
    of Builtin.Range (int 3 ∷ [])
    ∷ of Builtin.Range (int 2 ∷ int 4 ∷ [])
    ∷ of Builtin.Range (int 5 ∷ int 1 ∷ minus 2 ∷ [])
    ∷ of Builtin.Range (int 0 ∷ [])
    ∷ of Builtin.ConstantArray (x' ∷ int 2 ∷ [])
    ∷ of Builtin.ConstantArray (x' ∷ minus 1 ∷ [])
    ∷ of Builtin.Array (f' ∷ int 2 ∷ [])
    ∷ of Builtin.Array (f' ∷ minus 1 ∷ []) ∷ [])
    ≡ value (numbers (1 ∷ 2 ∷ 3 ∷ []))
    ∷ value (numbers (2 ∷ 3 ∷ 4 ∷ []))
    ∷ value (numbers (5 ∷ 3 ∷ 1 ∷ []))
    ∷ value (list [])
    ∷ value (list (x' ∷ x' ∷ []))
    ∷ value (list [])
    ∷ value (list (apply f' (int 1) ∷ apply f' (int 2) ∷ []))
    ∷ value (list []) ∷ []
unfolding eval row worked
making = refl

-- Map[f, g[a, b]]; Map[f, 3]; Apply[Plus, {1, 2}]; Apply[f, 3]; Total[{1, 2, 3}]; Length[3]; Length[{a}]
mapping :
    cells (
    of Builtin.Map (f' ∷ call g' (a' ∷ b' ∷ []) ∷ [])
    ∷ of Builtin.Map (f' ∷ int 3 ∷ [])
    ∷ of Builtin.Apply (symbol_of_row Builtin.Plus ∷ numbers (1 ∷ 2 ∷ []) ∷ [])
    ∷ of Builtin.Apply (f' ∷ int 3 ∷ [])
    ∷ of Builtin.Total (numbers (1 ∷ 2 ∷ 3 ∷ []) ∷ [])
    ∷ of Builtin.Length (int 3 ∷ [])
    ∷ of Builtin.Length (list (a' ∷ []) ∷ []) ∷ [])
    ≡ value (call g' (apply f' a' ∷ apply f' b' ∷ []))
    ∷ value (int 3)
    ∷ value (int 3)
    ∷ value (int 3)
    ∷ value (int 6)
    ∷ value (int 0)
    ∷ value (int 1) ∷ []
unfolding eval row worked
mapping = refl

-- ReleaseHold[Hold[1 + 1]]; ReleaseHold[HoldPattern[x]]; ReleaseHold[3]; Identity[x]; Evaluate[x]
holding_and_releasing :
    cells (
    of Builtin.ReleaseHold (of Builtin.Hold (plus (int 1) (int 1) ∷ []) ∷ [])
    ∷ of Builtin.ReleaseHold (of Builtin.HoldPattern (x' ∷ []) ∷ [])
    ∷ of Builtin.ReleaseHold (int 3 ∷ [])
    ∷ of Builtin.Identity (x' ∷ [])
    ∷ of Builtin.Evaluate (x' ∷ []) ∷ [])
    ≡ value (int 2)
    ∷ value x'
    ∷ value (of Builtin.ReleaseHold (int 3 ∷ []))
    ∷ value x'
    ∷ value x' ∷ []
unfolding eval row worked
holding_and_releasing = refl

-- StringJoin["ab", "c"]; StringJoin[]; StringJoin["a", x]
strings_join :
    cells (
    of Builtin.StringJoin (string (codes "ab") ∷ string (codes "c") ∷ [])
    ∷ of Builtin.StringJoin []
    ∷ of Builtin.StringJoin (string (codes "a") ∷ x' ∷ []) ∷ [])
    ≡ value (string (codes "abc"))
    ∷ value (string (codes ""))
    ∷ value (of Builtin.StringJoin (string (codes "a") ∷ x' ∷ [])) ∷ []
unfolding eval row worked
strings_join = refl

-- of the bytes 195 169 98, which are two characters: StringLength, Characters, StringReverse
strings_have_characters :
    cells (
    of Builtin.StringLength (string (195 ∷ 169 ∷ 98 ∷ []) ∷ [])
    ∷ of Builtin.Characters (string (195 ∷ 169 ∷ 98 ∷ []) ∷ [])
    ∷ of Builtin.StringReverse (string (195 ∷ 169 ∷ 98 ∷ []) ∷ []) ∷ [])
    ≡ value (int 2) ∷ value (list (string (195 ∷ 169 ∷ []) ∷ string (98 ∷ []) ∷ [])) ∷ value (string (98 ∷ 195 ∷ 169 ∷ [])) ∷ []
unfolding chars encode_utf8 eval row worked
strings_have_characters = refl
