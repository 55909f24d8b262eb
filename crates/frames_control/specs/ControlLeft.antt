-- The program that is left of a control form, and the questions that are left.
use Rattle.std.specs.Prelude.{ℕ, length, Option}
use Rattle.expr_tree.specs.Tree.{Tree}
use Rattle.semantics.specs.Names.{Names}
use Rattle.semantics.specs.Program.{Prog}
use Rattle.semantics.specs.declared.builtin.Builtin.{Builtin}
use Rattle.frames_control.specs.declared.control.Control.{Control}
use Rattle.frames_control.specs.declared.control.ControlForm.{ControlForm}
use Rattle.frames_control.specs.Choices.{left_in_turn, left_chosen, left_which, left_connected}
use Rattle.frames_control.specs.TurnForms.{left_nest, left_nest_list, left_fold, left_fold_list, left_fixed_point, left_select, left_while, tests_left}

abbrev pub left : Names → Control → Option Tree → Prog
left names (Control.InTurn f) = left_in_turn names f
left names (Control.Chosen f) = left_chosen f
left names (Control.Which f) = left_which names f
left names (Control.Connected f) = left_connected names f
left names (Control.While f) = left_while names f
left names (Control.Nest f) = left_nest f
left names (Control.NestList f) = left_nest_list names f
left names (Control.Fold f) = left_fold f
left names (Control.FoldList f) = left_fold_list f
left names (Control.FixedPoint f) = left_fixed_point f
left names (Control.Select f) = left_select names f

-- no fewer than the questions that are left
abbrev pub questions : Control → ℕ
questions (Control.InTurn f) = length f.rest
questions (Control.Chosen f) = 0
questions (Control.Which f) = length f.rest
questions (Control.Connected f) = length f.rest
questions (Control.While f) = tests_left f
questions (Control.Nest f) = f.turns
questions (Control.NestList f) = f.turns
questions (Control.Fold f) = length f.rest
questions (Control.FoldList f) = length f.rest
questions (Control.FixedPoint f) = f.turns
questions (Control.Select f) = length f.rest

-- the row of a form
abbrev pub row_for : ControlForm → Builtin
row_for ControlForm.CompoundExpression = Builtin.CompoundExpression
row_for ControlForm.If = Builtin.If
row_for ControlForm.Which = Builtin.Which
row_for ControlForm.And = Builtin.And
row_for ControlForm.Or = Builtin.Or
row_for ControlForm.While = Builtin.While
row_for ControlForm.Nest = Builtin.Nest
row_for ControlForm.NestList = Builtin.NestList
row_for ControlForm.Fold = Builtin.Fold
row_for ControlForm.FoldList = Builtin.FoldList
row_for ControlForm.FixedPoint = Builtin.FixedPoint
row_for ControlForm.Select = Builtin.Select
