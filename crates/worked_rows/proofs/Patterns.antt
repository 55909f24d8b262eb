-- Patterns, guards and replacing.
use Rattle.std.proofs.Common.{◌≡◌, refl, [], ◌∷◌}
use Rattle.expr_tree.specs.Tree.{Tree, call}
use Rattle.semantics.specs.declared.builtin.Builtin.{Builtin}
use Rattle.semantics.specs.Eval.{eval}
use Rattle.semantics.specs.Table.{row, worked}
use Rattle.semantics.specs.Match.{matches}
use Rattle.worked_rows.specs.Sample.{a', apply, b', blank, blanks, c', cells, condition, delayed, equals, f', g', h', int, list, n', null, numbers, o', of, plus, replacing, rule, some_blanks, symbol_of_row, value, w', x', y', z'}

-- {1, 2, 3} /. {x__, y__} -> {{x}, {y}}
a_sequence_takes_the_shortest_run_first :
    cells (
    replacing (numbers (1 ∷ 2 ∷ 3 ∷ [])) (rule (list (blanks x' ∷ blanks y' ∷ [])) (list (list (x' ∷ []) ∷ list (y' ∷ []) ∷ []))) ∷ [])
    ≡ value (list (numbers (1 ∷ []) ∷ numbers (2 ∷ 3 ∷ []) ∷ [])) ∷ []
unfolding eval row worked matches
a_sequence_takes_the_shortest_run_first = refl

-- MatchQ[f[1, 2], f[x_, y_]]; MatchQ[f[1, 2], f[x_, x_]]; MatchQ[f[1, 1], f[x_, x_]]
equal_names_match_identical_expressions :
    cells (
    of Builtin.MatchQ (call f' (int 1 ∷ int 2 ∷ []) ∷ call f' (blank x' ∷ blank y' ∷ []) ∷ [])
    ∷ of Builtin.MatchQ (call f' (int 1 ∷ int 2 ∷ []) ∷ call f' (blank x' ∷ blank x' ∷ []) ∷ [])
    ∷ of Builtin.MatchQ (call f' (int 1 ∷ int 1 ∷ []) ∷ call f' (blank x' ∷ blank x' ∷ []) ∷ []) ∷ [])
    ≡ value (symbol_of_row Builtin.True)
    ∷ value (symbol_of_row Builtin.False)
    ∷ value (symbol_of_row Builtin.True) ∷ []
unfolding eval row worked matches
equal_names_match_identical_expressions = refl

-- SetAttributes[g, Flat]; g[1, 2, 3] /. g[x_, y_] -> {x, y}
a_blank_under_flat_takes_a_run :
    cells (
    of Builtin.SetAttributes (g' ∷ symbol_of_row Builtin.Flat ∷ [])
    ∷ replacing (call g' (int 1 ∷ int 2 ∷ int 3 ∷ [])) (rule (call g' (blank x' ∷ blank y' ∷ [])) (list (x' ∷ y' ∷ []))) ∷ [])
    ≡ null
    ∷ value (list (int 1 ∷ call g' (int 2 ∷ int 3 ∷ []) ∷ [])) ∷ []
unfolding eval row worked matches
a_blank_under_flat_takes_a_run = refl

-- SetAttributes[o, Orderless]; o[b, a] /. o[x_, y_] -> {x, y}
orderless_patterns_choose_by_position :
    cells (
    of Builtin.SetAttributes (o' ∷ symbol_of_row Builtin.Orderless ∷ [])
    ∷ replacing (call o' (b' ∷ a' ∷ [])) (rule (call o' (blank x' ∷ blank y' ∷ [])) (list (x' ∷ y' ∷ []))) ∷ [])
    ≡ null
    ∷ value (list (a' ∷ b' ∷ [])) ∷ []
unfolding eval row worked matches
orderless_patterns_choose_by_position = refl

-- Unprotect[HoldPattern]; SetAttributes[HoldPattern, Flat]; MatchQ[HoldPattern[1, 2, 3], HoldPattern[x_, y_]]; HoldPattern[1, 2, 3] /. HoldPattern[x_, y_] -> {x, y}
the_name_of_a_construct_in_another_shape_is_flat :
    cells (
    of Builtin.Unprotect (symbol_of_row Builtin.HoldPattern ∷ [])
    ∷ of Builtin.SetAttributes (symbol_of_row Builtin.HoldPattern ∷ symbol_of_row Builtin.Flat ∷ [])
    ∷ of Builtin.MatchQ (of Builtin.HoldPattern (int 1 ∷ int 2 ∷ int 3 ∷ []) ∷ of Builtin.HoldPattern (blank x' ∷ blank y' ∷ []) ∷ [])
    ∷ replacing (of Builtin.HoldPattern (int 1 ∷ int 2 ∷ int 3 ∷ [])) (rule (of Builtin.HoldPattern (blank x' ∷ blank y' ∷ [])) (list (x' ∷ y' ∷ []))) ∷ [])
    ≡ null
    ∷ null
    ∷ value (symbol_of_row Builtin.True)
    ∷ value (list (int 1 ∷ of Builtin.HoldPattern (int 2 ∷ int 3 ∷ []) ∷ [])) ∷ []
unfolding eval row worked matches
the_name_of_a_construct_in_another_shape_is_flat = refl

-- Unprotect[HoldPattern]; SetAttributes[HoldPattern, Orderless]; MatchQ[HoldPattern[a, b], HoldPattern[b, _]]
the_name_of_a_construct_in_another_shape_is_orderless :
    cells (
    of Builtin.Unprotect (symbol_of_row Builtin.HoldPattern ∷ [])
    ∷ of Builtin.SetAttributes (symbol_of_row Builtin.HoldPattern ∷ symbol_of_row Builtin.Orderless ∷ [])
    ∷ of Builtin.MatchQ (of Builtin.HoldPattern (a' ∷ b' ∷ []) ∷ of Builtin.HoldPattern (b' ∷ of Builtin.Blank [] ∷ []) ∷ []) ∷ [])
    ≡ null
    ∷ null
    ∷ value (symbol_of_row Builtin.True) ∷ []
unfolding eval row worked matches
the_name_of_a_construct_in_another_shape_is_orderless = refl

-- MatchQ[f[1], _f]; MatchQ[3, _f]; MatchQ[{1, 2}, {__f}]; MatchQ[{}, {___}]
a_typed_blank_asks_for_a_head :
    cells (
    of Builtin.MatchQ (apply f' (int 1) ∷ of Builtin.Blank (f' ∷ []) ∷ [])
    ∷ of Builtin.MatchQ (int 3 ∷ of Builtin.Blank (f' ∷ []) ∷ [])
    ∷ of Builtin.MatchQ (numbers (1 ∷ 2 ∷ []) ∷ list (of Builtin.BlankSequence (f' ∷ []) ∷ []) ∷ [])
    ∷ of Builtin.MatchQ (list [] ∷ list (of Builtin.BlankNullSequence [] ∷ []) ∷ []) ∷ [])
    ≡ value (symbol_of_row Builtin.True)
    ∷ value (symbol_of_row Builtin.False)
    ∷ value (symbol_of_row Builtin.False)
    ∷ value (symbol_of_row Builtin.True) ∷ []
unfolding eval row worked matches
a_typed_blank_asks_for_a_head = refl

-- {1, 2} /. {x_, y_} | {y_, x_} -> f[x, y]; MatchQ[b, a | b]
alternatives_go_from_left_to_right :
    cells (
    replacing (numbers (1 ∷ 2 ∷ [])) (rule (of Builtin.Alternatives (list (blank x' ∷ blank y' ∷ []) ∷ list (blank y' ∷ blank x' ∷ []) ∷ [])) (call f' (x' ∷ y' ∷ [])))
    ∷ of Builtin.MatchQ (b' ∷ of Builtin.Alternatives (a' ∷ b' ∷ []) ∷ []) ∷ [])
    ≡ value (call f' (int 1 ∷ int 2 ∷ []))
    ∷ value (symbol_of_row Builtin.True) ∷ []
unfolding eval row worked matches
alternatives_go_from_left_to_right = refl

-- Cases[{1, a, 2}, _?IntegerQ]; Cases[{1, a, 2}, x_ /; x > 1]
tests_and_conditions_guard :
    cells (
    of Builtin.Cases (list (int 1 ∷ a' ∷ int 2 ∷ []) ∷ of Builtin.PatternTest (of Builtin.Blank [] ∷ symbol_of_row Builtin.IntegerQ ∷ []) ∷ [])
    ∷ of Builtin.Cases (list (int 1 ∷ a' ∷ int 2 ∷ []) ∷ condition (blank x') (of Builtin.Greater (x' ∷ int 1 ∷ [])) ∷ []) ∷ [])
    ≡ value (numbers (1 ∷ 2 ∷ []))
    ∷ value (numbers (2 ∷ [])) ∷ []
unfolding eval row worked matches
tests_and_conditions_guard = refl

-- n = 0; MatchQ[5, x_ /; (n = n + 1; x > 3)]; n
a_guard_of_a_question_is_tried_once :
    cells (
    equals n' (int 0)
    ∷ of Builtin.MatchQ (int 5 ∷ condition (blank x') (of Builtin.CompoundExpression (equals n' (plus n' (int 1)) ∷ of Builtin.Greater (x' ∷ int 3 ∷ []) ∷ [])) ∷ [])
    ∷ n' ∷ [])
    ≡ value (int 0)
    ∷ value (symbol_of_row Builtin.True)
    ∷ value (int 1) ∷ []
unfolding eval row worked matches
a_guard_of_a_question_is_tried_once = refl

-- MatchQ[x_, Verbatim[x_]]; MatchQ[3, Verbatim[x_]]; MatchQ[3, HoldPattern[x_]]
verbatim_and_hold_pattern :
    cells (
    of Builtin.MatchQ (blank x' ∷ of Builtin.Verbatim (blank x' ∷ []) ∷ [])
    ∷ of Builtin.MatchQ (int 3 ∷ of Builtin.Verbatim (blank x' ∷ []) ∷ [])
    ∷ of Builtin.MatchQ (int 3 ∷ of Builtin.HoldPattern (blank x' ∷ []) ∷ []) ∷ [])
    ≡ value (symbol_of_row Builtin.True)
    ∷ value (symbol_of_row Builtin.False)
    ∷ value (symbol_of_row Builtin.True) ∷ []
unfolding eval row worked matches
verbatim_and_hold_pattern = refl

-- MatchQ[Pattern[1, _], Pattern[1, _]]; MatchQ[3, Pattern[1, _]]
another_shape_is_ordinary :
    cells (
    of Builtin.MatchQ (of Builtin.Pattern (int 1 ∷ of Builtin.Blank [] ∷ []) ∷ of Builtin.Pattern (int 1 ∷ of Builtin.Blank [] ∷ []) ∷ [])
    ∷ of Builtin.MatchQ (int 3 ∷ of Builtin.Pattern (int 1 ∷ of Builtin.Blank [] ∷ []) ∷ []) ∷ [])
    ≡ value (symbol_of_row Builtin.True)
    ∷ value (symbol_of_row Builtin.False) ∷ []
unfolding eval row worked matches
another_shape_is_ordinary = refl

-- f[a] /. f[x_, y___] -> g[y, x]
a_run_of_none_is_an_empty_sequence :
    cells (
    replacing (apply f' a') (rule (call f' (blank x' ∷ some_blanks y' ∷ [])) (call g' (y' ∷ x' ∷ []))) ∷ [])
    ≡ value (apply g' a') ∷ []
unfolding eval row worked matches
a_run_of_none_is_an_empty_sequence = refl

-- Cases[h[1, a, 2], _?IntegerQ]; Cases[{f[1], a}, f[x_] -> x]
the_head_of_the_list_is_kept :
    cells (
    of Builtin.Cases (call h' (int 1 ∷ a' ∷ int 2 ∷ []) ∷ of Builtin.PatternTest (of Builtin.Blank [] ∷ symbol_of_row Builtin.IntegerQ ∷ []) ∷ [])
    ∷ of Builtin.Cases (list (apply f' (int 1) ∷ a' ∷ []) ∷ rule (apply f' (blank x')) x' ∷ []) ∷ [])
    ≡ value (call h' (int 1 ∷ int 2 ∷ []))
    ∷ value (numbers (1 ∷ [])) ∷ []
unfolding eval row worked matches
the_head_of_the_list_is_kept = refl

-- Count[{1, a, 2}, _]; MemberQ[{a, b}, b]; FreeQ[f[g[x]], g]; FreeQ[f[x], y]
counting_and_searching :
    cells (
    of Builtin.Count (list (int 1 ∷ a' ∷ int 2 ∷ []) ∷ of Builtin.Blank [] ∷ [])
    ∷ of Builtin.MemberQ (list (a' ∷ b' ∷ []) ∷ b' ∷ [])
    ∷ of Builtin.FreeQ (apply f' (apply g' x') ∷ g' ∷ [])
    ∷ of Builtin.FreeQ (apply f' x' ∷ y' ∷ []) ∷ [])
    ≡ value (int 3)
    ∷ value (symbol_of_row Builtin.True)
    ∷ value (symbol_of_row Builtin.False)
    ∷ value (symbol_of_row Builtin.True) ∷ []
unfolding eval row worked matches
counting_and_searching = refl

-- f[f[x]] /. f[y_] -> g[y]; f[x] //. {f[y_] -> g[y], g[x] -> 3}; {a, b} /. {}
what_was_replaced_is_not_entered :
    cells (
    replacing (apply f' (apply f' x')) (rule (apply f' (blank y')) (apply g' y'))
    ∷ of Builtin.ReplaceRepeated (apply f' x' ∷ list (rule (apply f' (blank y')) (apply g' y') ∷ rule (apply g' x') (int 3) ∷ []) ∷ [])
    ∷ replacing (list (a' ∷ b' ∷ [])) (list []) ∷ [])
    ≡ value (apply g' (apply f' x'))
    ∷ value (int 3)
    ∷ value (list (a' ∷ b' ∷ [])) ∷ []
unfolding eval row worked matches
what_was_replaced_is_not_entered = refl

-- f[f] /. f -> g
heads_and_elements_are_replaced : cells (replacing (apply f' f') (rule f' g') ∷ []) ≡ value (apply g' g') ∷ []
unfolding eval row worked matches
heads_and_elements_are_replaced = refl

-- x_ /; (AppendTo[n, x]; e): n lists what was met
listed_if : Tree → Tree
listed_if e = condition (blank x') (of Builtin.CompoundExpression (of Builtin.AppendTo (n' ∷ x' ∷ []) ∷ e ∷ []))

nested : Tree
nested = call f' (apply g' a' ∷ b' ∷ [])

-- n = {}; f[g[a], b] /. x_ /; (AppendTo[n, x]; False) -> c; n
replacing_meets_the_head_before_the_elements :
    cells (equals n' (list []) ∷ replacing nested (rule (listed_if (symbol_of_row Builtin.False)) c') ∷ n' ∷ [])
    ≡ value (list [])
    ∷ value nested
    ∷ value (list (nested ∷ f' ∷ apply g' a' ∷ g' ∷ a' ∷ b' ∷ [])) ∷ []
unfolding listed_if nested eval row worked matches
replacing_meets_the_head_before_the_elements = refl

-- n = {}; f[g[a], b] /. x_ /; (AppendTo[n, x]; x === f) -> h; n
replacing_goes_on_after_a_head :
    cells (equals n' (list []) ∷ replacing nested (rule (listed_if (of Builtin.SameQ (x' ∷ f' ∷ []))) h') ∷ n' ∷ [])
    ≡ value (list [])
    ∷ value (call h' (apply g' a' ∷ b' ∷ []))
    ∷ value (list (nested ∷ f' ∷ apply g' a' ∷ g' ∷ a' ∷ b' ∷ [])) ∷ []
unfolding listed_if nested eval row worked matches
replacing_goes_on_after_a_head = refl

-- n = {}; FreeQ[f[g[a], b], x_ /; (AppendTo[n, x]; False)]; n
searching_meets_the_head_before_the_elements :
    cells (equals n' (list []) ∷ of Builtin.FreeQ (nested ∷ listed_if (symbol_of_row Builtin.False) ∷ []) ∷ n' ∷ [])
    ≡ value (list [])
    ∷ value (symbol_of_row Builtin.True)
    ∷ value (list (nested ∷ f' ∷ apply g' a' ∷ g' ∷ a' ∷ b' ∷ [])) ∷ []
unfolding listed_if nested eval row worked matches
searching_meets_the_head_before_the_elements = refl

-- n = {}; FreeQ[f[g[a], b], x_ /; (AppendTo[n, x]; x === g)]; n; n = {}; MemberQ[{a, b, c}, x_ /; (AppendTo[n, x]; x === b)]; n
searching_ends_at_the_first_match :
    cells (
    equals n' (list [])
    ∷ of Builtin.FreeQ (nested ∷ listed_if (of Builtin.SameQ (x' ∷ g' ∷ [])) ∷ [])
    ∷ n'
    ∷ equals n' (list [])
    ∷ of Builtin.MemberQ (list (a' ∷ b' ∷ c' ∷ []) ∷ listed_if (of Builtin.SameQ (x' ∷ b' ∷ [])) ∷ [])
    ∷ n' ∷ [])
    ≡ value (list [])
    ∷ value (symbol_of_row Builtin.False)
    ∷ value (list (nested ∷ f' ∷ apply g' a' ∷ g' ∷ []))
    ∷ value (list [])
    ∷ value (symbol_of_row Builtin.True)
    ∷ value (list (a' ∷ b' ∷ [])) ∷ []
unfolding listed_if nested eval row worked matches
searching_ends_at_the_first_match = refl

-- {1, 2} /. x_?IntegerQ :> x + 1
delayed_rules_keep_their_right_side :
    cells (
    replacing (numbers (1 ∷ 2 ∷ [])) (of Builtin.RuleDelayed (of Builtin.PatternTest (blank x' ∷ symbol_of_row Builtin.IntegerQ ∷ []) ∷ plus x' (int 1) ∷ [])) ∷ [])
    ≡ value (numbers (2 ∷ 3 ∷ [])) ∷ []
unfolding eval row worked matches
delayed_rules_keep_their_right_side = refl

-- {3, 1, 2} //. {x___, y_, z_, w___} /; y > z -> {x, z, y, w}; {1, 2, 3} //. {x_, y__} -> {y}; f[1] //. f[n_] :> n + 1; Hold[f[1]] //. f[n_] :> n + 1
each_round_begins_with_a_value :
    cells (
    of Builtin.ReplaceRepeated (
    numbers (3 ∷ 1 ∷ 2 ∷ [])
    ∷ rule (condition (list (some_blanks x' ∷ blank y' ∷ blank z' ∷ some_blanks w' ∷ [])) (of Builtin.Greater (y' ∷ z' ∷ []))) (list (x' ∷ z' ∷ y' ∷ w' ∷ [])) ∷ [])
    ∷ of Builtin.ReplaceRepeated (numbers (1 ∷ 2 ∷ 3 ∷ []) ∷ rule (list (blank x' ∷ blanks y' ∷ [])) (list (y' ∷ [])) ∷ [])
    ∷ of Builtin.ReplaceRepeated (apply f' (int 1) ∷ of Builtin.RuleDelayed (apply f' (blank n') ∷ plus n' (int 1) ∷ []) ∷ [])
    ∷ of Builtin.ReplaceRepeated (of Builtin.Hold (apply f' (int 1) ∷ []) ∷ of Builtin.RuleDelayed (apply f' (blank n') ∷ plus n' (int 1) ∷ []) ∷ []) ∷ [])
    ≡ value (numbers (1 ∷ 2 ∷ 3 ∷ []))
    ∷ value (numbers (3 ∷ []))
    ∷ value (int 2)
    ∷ value (of Builtin.Hold (plus (int 1) (int 1) ∷ [])) ∷ []
unfolding eval row worked matches
each_round_begins_with_a_value = refl

-- b := c; a //. {a :> b, c -> d}, where the second round meets c
what_a_round_made_is_evaluated :
    cells (
    delayed b' c'
    ∷ of Builtin.ReplaceRepeated (a' ∷ list (of Builtin.RuleDelayed (a' ∷ b' ∷ []) ∷ rule c' x' ∷ []) ∷ []) ∷ [])
    ≡ null
    ∷ value x' ∷ []
unfolding eval row worked matches
what_a_round_made_is_evaluated = refl
