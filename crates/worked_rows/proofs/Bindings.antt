-- The list of all bindings by which a pattern matches, in its order, with the guards that are collected.
use Rattle.std.proofs.Common.{◌≡◌, refl, Bool, true, false, [], ◌∷◌}
use Rattle.expr_tree.specs.Substitution.{Binding}
use Rattle.expr_tree.specs.declared.sym.Sym.{Sym}
use Rattle.expr_tree.specs.Tree.{call}
use Rattle.semantics.specs.declared.builtin.Builtin.{Builtin}
use Rattle.semantics.specs.Match.{Found, Matching, Test, Cond, matches}
use Rattle.worked_rows.specs.Sample.{a', apply, b', blank, blanks, condition, f', g', int, items, list, names, numbers, o', of, some_blanks, sym, x', y'}

with_attributes : Bool → Bool → Sym → Matching
with_attributes flat orderless s = record { flat = flat; orderless = orderless }

found : Binding → Found
found b = record { binding = b; guards = [] }

-- {x__, y__} on {1, 2, 3}
the_shortest_run_first :
    matches names (with_attributes false false) (list (blanks x' ∷ blanks y' ∷ [])) (numbers (1 ∷ 2 ∷ 3 ∷ []))
    ≡ found ((sym 7, items (1 ∷ [])) ∷ (sym 8, items (2 ∷ 3 ∷ [])) ∷ []) ∷ found ((sym 7, items (1 ∷ 2 ∷ [])) ∷ (sym 8, items (3 ∷ [])) ∷ []) ∷ []
unfolding with_attributes found matches
the_shortest_run_first = refl

-- {x___, y___} on {1}
runs_of_none_are_allowed :
    matches names (with_attributes false false) (list (some_blanks x' ∷ some_blanks y' ∷ [])) (numbers (1 ∷ []))
    ≡ found ((sym 7, []) ∷ (sym 8, items (1 ∷ [])) ∷ []) ∷ found ((sym 7, items (1 ∷ [])) ∷ (sym 8, []) ∷ []) ∷ []
unfolding with_attributes found matches
runs_of_none_are_allowed = refl

-- g[x_, y_] on g[1, 2, 3], where g is Flat
runs_under_flat_are_wrapped :
    matches names (with_attributes true false) (call g' (blank x' ∷ blank y' ∷ [])) (call g' (items (1 ∷ 2 ∷ 3 ∷ [])))
    ≡ found ((sym 7, int 1 ∷ []) ∷ (sym 8, call g' (items (2 ∷ 3 ∷ [])) ∷ []) ∷ []) ∷ found ((sym 7, call g' (items (1 ∷ 2 ∷ [])) ∷ []) ∷ (sym 8, int 3 ∷ []) ∷ []) ∷ []
unfolding with_attributes found matches
runs_under_flat_are_wrapped = refl

-- Pattern[Pattern[3, _], y_] on Pattern[3, 4, 5], where Pattern is Flat: what names no symbol is no single blank
no_run_is_wrapped_for_a_pattern_in_another_shape :
    matches names (with_attributes true false)
    (of Builtin.Pattern (of Builtin.Pattern (int 3 ∷ of Builtin.Blank [] ∷ []) ∷ blank y' ∷ []))
    (of Builtin.Pattern (items (3 ∷ 4 ∷ 5 ∷ [])))
    ≡ []
unfolding with_attributes matches
no_run_is_wrapped_for_a_pattern_in_another_shape = refl

-- o[x_, y_] on o[a, b], where o is Orderless
positions_rise_under_orderless :
    matches names (with_attributes false true) (call o' (blank x' ∷ blank y' ∷ [])) (call o' (a' ∷ b' ∷ []))
    ≡ found ((sym 7, a' ∷ []) ∷ (sym 8, b' ∷ []) ∷ []) ∷ found ((sym 7, b' ∷ []) ∷ (sym 8, a' ∷ []) ∷ []) ∷ []
unfolding with_attributes found matches
positions_rise_under_orderless = refl

-- o[x__, y__] on o[a, b], where o is Orderless: a run is chosen by its size, then by positions
sizes_come_before_positions :
    matches names (with_attributes false true) (call o' (blanks x' ∷ blanks y' ∷ [])) (call o' (a' ∷ b' ∷ []))
    ≡ found ((sym 7, a' ∷ []) ∷ (sym 8, b' ∷ []) ∷ []) ∷ found ((sym 7, b' ∷ []) ∷ (sym 8, a' ∷ []) ∷ []) ∷ []
unfolding with_attributes found matches
sizes_come_before_positions = refl

-- f[x_, x_] on f[1, 2]
equal_names_need_equal_expressions : matches names (with_attributes false false) (call f' (blank x' ∷ blank x' ∷ [])) (call f' (items (1 ∷ 2 ∷ []))) ≡ []
unfolding with_attributes matches
equal_names_need_equal_expressions = refl

-- (x_ | _) on 1: both alternatives, the first one first
each_alternative_in_turn :
    matches names (with_attributes false false) (of Builtin.Alternatives (blank x' ∷ of Builtin.Blank [] ∷ [])) (int 1)
    ≡ found ((sym 7, int 1 ∷ []) ∷ []) ∷ found [] ∷ []
unfolding with_attributes found matches
each_alternative_in_turn = refl

-- f[(x__)?g] /; y on f[1, 2]: the test of each element that the run has, and then the condition; nothing is tried
guards_are_collected :
    matches names (with_attributes false false) (condition (apply f' (of Builtin.PatternTest (blanks x' ∷ g' ∷ []))) y') (call f' (items (1 ∷ 2 ∷ [])))
    ≡ record { binding = (sym 7, items (1 ∷ 2 ∷ [])) ∷ []; guards = Test g' (int 1) ∷ Test g' (int 2) ∷ Cond y' ∷ [] } ∷ []
unfolding with_attributes matches
guards_are_collected = refl
