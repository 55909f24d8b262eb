-- Sums, products, powers and the other rows of numbers.
use Rattle.std.proofs.Common.{◌≡◌, refl, [], ◌∷◌}
use Rattle.expr_tree.specs.declared.limits.Stop.{Stop}
use Rattle.semantics.specs.declared.builtin.Builtin.{Builtin}
use Rattle.semantics.specs.Eval.{eval}
use Rattle.semantics.specs.Table.{row, worked}
use Rattle.semantics.specs.Match.{matches}
use Rattle.worked_rows.specs.Sample.{a', apply, b', blank, cells, delayed, equals, fac', int, list, minus, n', null, numbers, of, plus, stopped, symbol_of_row, times, value, x', y'}

-- x + 2 x - 3 x; x x^-1; x + y + 2 x
like_terms_and_factors_join :
    cells (
    of Builtin.Plus (x' ∷ times (int 2) x' ∷ times (minus 3) x' ∷ [])
    ∷ times x' (of Builtin.Power (x' ∷ minus 1 ∷ []))
    ∷ of Builtin.Plus (x' ∷ y' ∷ times (int 2) x' ∷ []) ∷ [])
    ≡ value (int 0)
    ∷ value (int 1)
    ∷ value (plus y' (times (int 3) x')) ∷ []
unfolding eval row worked
like_terms_and_factors_join = refl

-- a - 2 b
a_difference_is_a_sum :
    cells (
    plus a' (times (minus 2) b')
    ∷ of Builtin.Subtract (a' ∷ b' ∷ [])
    ∷ of Builtin.Minus (x' ∷ [])
    ∷ of Builtin.Divide (a' ∷ b' ∷ []) ∷ [])
    ≡ value (plus a' (times (minus 2) b'))
    ∷ value (plus a' (times (minus 1) b'))
    ∷ value (times (minus 1) x')
    ∷ value (times a' (of Builtin.Power (b' ∷ minus 1 ∷ []))) ∷ []
unfolding eval row worked
a_difference_is_a_sum = refl

-- the least integer and one more: the greatest negated, - 1 - 1 + 2
sums_are_judged_on_the_whole :
    cells (
    of Builtin.Plus (minus 170141183460469231731687303715884105727 ∷ minus 1 ∷ minus 1 ∷ int 2 ∷ []) ∷ [])
    ≡ value (minus 170141183460469231731687303715884105727) ∷ []
unfolding eval row worked
sums_are_judged_on_the_whole = refl

-- 170141183460469231731687303715884105727, and one more
a_sum_out_of_range_stops :
    cells (
    int 170141183460469231731687303715884105727
    ∷ plus (int 170141183460469231731687303715884105727) (int 1) ∷ [])
    ≡ value (int 170141183460469231731687303715884105727)
    ∷ stopped Stop.Range ∷ []
unfolding eval row worked
a_sum_out_of_range_stops = refl

-- 0 x; 2^100 2^100 0
a_factor_0_gives_0 :
    cells (
    times (int 0) x'
    ∷ of Builtin.Times (of Builtin.Power (int 2 ∷ int 100 ∷ []) ∷ of Builtin.Power (int 2 ∷ int 100 ∷ []) ∷ int 0 ∷ []) ∷ [])
    ≡ value (int 0)
    ∷ value (int 0) ∷ []
unfolding eval row worked
a_factor_0_gives_0 = refl

-- Plus[]; Times[]; GCD[]
empty_sums_and_products :
    cells (
    of Builtin.Plus []
    ∷ of Builtin.Times []
    ∷ of Builtin.GCD [] ∷ [])
    ≡ value (int 0)
    ∷ value (int 1)
    ∷ value (int 0) ∷ []
unfolding eval row worked
empty_sums_and_products = refl

-- 2^10; 0^0; 1^x; (-1)^-3; x^1; x^0; (x^2)^3; 2^-1
powers :
    cells (
    of Builtin.Power (int 2 ∷ int 10 ∷ [])
    ∷ of Builtin.Power (int 0 ∷ int 0 ∷ [])
    ∷ of Builtin.Power (int 1 ∷ x' ∷ [])
    ∷ of Builtin.Power (minus 1 ∷ minus 3 ∷ [])
    ∷ of Builtin.Power (x' ∷ int 1 ∷ [])
    ∷ of Builtin.Power (x' ∷ int 0 ∷ [])
    ∷ of Builtin.Power (of Builtin.Power (x' ∷ int 2 ∷ []) ∷ int 3 ∷ [])
    ∷ of Builtin.Power (int 2 ∷ minus 1 ∷ []) ∷ [])
    ≡ value (int 1024)
    ∷ value (of Builtin.Power (int 0 ∷ int 0 ∷ []))
    ∷ value (int 1)
    ∷ value (minus 1)
    ∷ value x'
    ∷ value (int 1)
    ∷ value (of Builtin.Power (x' ∷ int 6 ∷ []))
    ∷ value (of Builtin.Power (int 2 ∷ minus 1 ∷ [])) ∷ []
unfolding eval row worked
powers = refl

-- 2^126; 2^127; (-2)^127
a_power_out_of_range_stops :
    cells (
    of Builtin.Power (int 2 ∷ int 126 ∷ [])
    ∷ of Builtin.Power (int 2 ∷ int 127 ∷ [])
    ∷ of Builtin.Power (minus 2 ∷ int 127 ∷ []) ∷ [])
    ≡ value (int 85070591730234615865843651857942052864)
    ∷ stopped Stop.Range
    ∷ value (minus 170141183460469231731687303715884105728) ∷ []
unfolding eval row worked
a_power_out_of_range_stops = refl

-- Quotient[-7, 2]; Mod[-7, 2]; Mod[7, -2]; Mod[7, 0]
quotients_round_down :
    cells (
    of Builtin.Quotient (minus 7 ∷ int 2 ∷ [])
    ∷ of Builtin.Mod (minus 7 ∷ int 2 ∷ [])
    ∷ of Builtin.Mod (int 7 ∷ minus 2 ∷ [])
    ∷ of Builtin.Mod (int 7 ∷ int 0 ∷ []) ∷ [])
    ≡ value (minus 4)
    ∷ value (int 1)
    ∷ value (minus 1)
    ∷ value (of Builtin.Mod (int 7 ∷ int 0 ∷ [])) ∷ []
unfolding eval row worked
quotients_round_down = refl

-- Abs[-3]; Sign[-3]; GCD[12, -18]; GCD[-4]
absolute_values_signs_and_divisors :
    cells (
    of Builtin.Abs (minus 3 ∷ [])
    ∷ of Builtin.Sign (minus 3 ∷ [])
    ∷ of Builtin.GCD (int 12 ∷ minus 18 ∷ [])
    ∷ of Builtin.GCD (minus 4 ∷ []) ∷ [])
    ≡ value (int 3)
    ∷ value (minus 1)
    ∷ value (int 6)
    ∷ value (int 4) ∷ []
unfolding eval row worked
absolute_values_signs_and_divisors = refl

-- Factorial[5]; Factorial[33]; Factorial[34]; Factorial[-1]
factorials :
    cells (
    of Builtin.Factorial (int 5 ∷ [])
    ∷ of Builtin.Factorial (int 33 ∷ [])
    ∷ of Builtin.Factorial (int 34 ∷ [])
    ∷ of Builtin.Factorial (minus 1 ∷ []) ∷ [])
    ≡ value (int 120)
    ∷ value (int 8683317618811886495518194401280000000)
    ∷ stopped Stop.Range
    ∷ value (of Builtin.Factorial (minus 1 ∷ [])) ∷ []
unfolding eval row worked
factorials = refl

-- Max[1, {5, {7}}, 3]; Min[]; Max[x]
a_list_counts_as_its_elements :
    cells (
    of Builtin.Max (int 1 ∷ list (int 5 ∷ numbers (7 ∷ []) ∷ []) ∷ int 3 ∷ [])
    ∷ of Builtin.Min []
    ∷ of Builtin.Max (x' ∷ []) ∷ [])
    ≡ value (int 7)
    ∷ value (of Builtin.Min [])
    ∷ value (of Builtin.Max (x' ∷ [])) ∷ []
unfolding eval row worked
a_list_counts_as_its_elements = refl

-- EvenQ[4]; OddQ[4]; EvenQ[x]
parity :
    cells (
    of Builtin.EvenQ (int 4 ∷ [])
    ∷ of Builtin.OddQ (int 4 ∷ [])
    ∷ of Builtin.EvenQ (x' ∷ []) ∷ [])
    ≡ value (symbol_of_row Builtin.True)
    ∷ value (symbol_of_row Builtin.False)
    ∷ value (symbol_of_row Builtin.False) ∷ []
unfolding eval row worked
parity = refl

-- fac[n_] := n fac[n - 1]; fac[0] = 1; fac[10]; fac[33]; fac[34]
a_recursive_factorial :
    cells (
    delayed (apply fac' (blank n')) (times n' (apply fac' (plus n' (minus 1))))
    ∷ equals (apply fac' (int 0)) (int 1)
    ∷ apply fac' (int 10)
    ∷ apply fac' (int 33)
    ∷ apply fac' (int 34) ∷ [])
    ≡ null
    ∷ value (int 1)
    ∷ value (int 3628800)
    ∷ value (int 8683317618811886495518194401280000000)
    ∷ stopped Stop.Range ∷ []
unfolding eval row worked matches
a_recursive_factorial = refl
