-- What the machines of the turn forms stand for: the program that is left, before an answer and after.
--     left_nest, left_nest_list, left_fold, left_fold_list, left_fixed_point, left_select, left_while
use Rattle.std.specs.Prelude.{ℕ, ◌+◌, ◌*◌, List, [], ◌∷◌, true, false, Option, Some, None}
use Rattle.expr_tree.specs.Tree.{Tree, call}
use Rattle.expr_tree.specs.Order.{same}
use Rattle.semantics.specs.declared.builtin.Builtin.{Builtin}
use Rattle.semantics.specs.Names.{Names, is_name, make}
use Rattle.semantics.specs.Program.{Prog, Done, Ask}
use Rattle.semantics.specs.Control.{null, nested, nested_list, folded, folded_list, until_fixed, selected, while_true}
use Rattle.frames_control.specs.declared.nest.Nest.{Nest}
use Rattle.frames_control.specs.declared.nest_list.NestList.{NestList}
use Rattle.frames_control.specs.declared.fold.Fold.{Fold}
use Rattle.frames_control.specs.declared.fold_list.FoldList.{FoldList}
use Rattle.frames_control.specs.declared.fixed_point.FixedPoint.{FixedPoint}
use Rattle.frames_control.specs.declared.select.Select.{Select}
use Rattle.frames_control.specs.declared.while_loop.While.{While}

abbrev pub left_nest : Nest → Option Tree → Prog
left_nest f None = nested f.function f.turns f.first Done
left_nest f (Some v) = nested f.function f.turns v Done

-- from the value x on
abbrev pub nests_list : Names → NestList → Tree → Prog
nests_list names f x = nested_list f.function f.turns x f.done (λ vs. Done (make names Builtin.List vs))

abbrev pub left_nest_list : Names → NestList → Option Tree → Prog
left_nest_list names f None = nests_list names f f.first
left_nest_list names f (Some v) = nests_list names f v

abbrev pub left_fold : Fold → Option Tree → Prog
left_fold f None = folded f.function f.first f.rest Done
left_fold f (Some v) = folded f.function v f.rest Done

-- from the value x on
abbrev pub folds_list : FoldList → Tree → Prog
folds_list f x = folded_list f.function x f.rest f.done (λ vs. Done (call f.head vs))

abbrev pub left_fold_list : FoldList → Option Tree → Prog
left_fold_list f None = folds_list f f.first
left_fold_list f (Some v) = folds_list f v

abbrev pub left_fixed_point : FixedPoint → Option Tree → Prog
left_fixed_point f None = until_fixed f.turns f.function f.value
left_fixed_point f (Some v) = elim (same v f.value) [ true ↦ Done v | false ↦ until_fixed f.turns f.function v ]

-- without the last, which is the first of the list
abbrev pub but_last : List Tree → List Tree
but_last [] = []
but_last (e ∷ es) = es

-- without the last that is kept
abbrev pub without_last : Names → Select → Prog
without_last names f = selected names f.function f.rest (but_last f.kept) (λ done. Done (call f.head done))

abbrev pub left_select : Names → Select → Option Tree → Prog
left_select names f None = selected names f.function f.rest f.kept (λ done. Done (call f.head done))
left_select names f (Some v) =
    elim (is_name names Builtin.True v) [ true ↦ selected names f.function f.rest f.kept (λ done. Done (call f.head done)) | false ↦ without_last names f ]

-- a test that has no value does not hold
abbrev pub tested : Names → While → Option Tree → Prog
tested names f None = null names
tested names f (Some v) = elim (is_name names Builtin.True v) [ true ↦ Ask f.body (λ _. while_true names f.turns f.test f.body) | false ↦ null names ]

abbrev pub left_while : Names → While → Option Tree → Prog
left_while names f answer = elim f.testing [ true ↦ tested names f answer | false ↦ while_true names f.turns f.test f.body ]

-- more than the questions that are left
abbrev pub tests_left : While → ℕ
tests_left f = elim f.testing [ true ↦ 2 * f.turns + 2 | false ↦ 2 * f.turns + 1 ]
