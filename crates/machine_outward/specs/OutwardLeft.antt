-- The program that is left of a row that throws, catches or is one of the mode table, and the questions that are left.
use Rattle.std.specs.Prelude.{ℕ, length, true, false, option_to_list, Option, Some, None}
use Rattle.expr_tree.specs.Tree.{Tree, symbol, normal}
use Rattle.semantics.specs.declared.builtin.Builtin.{Builtin}
use Rattle.semantics.specs.Names.{Names, name, is_name}
use Rattle.semantics.specs.Definitions.{Definitions, definition_of, has}
use Rattle.semantics.specs.Program.{Prog, Done}
use Rattle.semantics.specs.Control.{null}
use Rattle.semantics.specs.Sections.{combined, first_success}
use Rattle.machine_steps.specs.Steps.{headed}
use Rattle.machine_steps.specs.declared.moves.Move.{Move}
use Rattle.machine_outward.specs.declared.once.Reply.{Reply}
use Rattle.machine_outward.specs.declared.once.Once.{Once}
use Rattle.machine_outward.specs.declared.combine.Combine.{Combine}
use Rattle.machine_outward.specs.declared.success.Success.{Success}
use Rattle.machine_outward.specs.declared.outward_row.OutwardRow.{OutwardRow}
use Rattle.machine_outward.specs.Loops as loop

-- the result, by the answer to the one move
abbrev pub given : Names → Reply → Prog → Option Tree → Prog
given names Reply.Itself stay None = stay
given names Reply.Itself stay (Some v) = Done v
given names Reply.Null stay None = stay
given names Reply.Null stay (Some v) = null names

abbrev pub left_by : Names → Option Move → Reply → Prog → Option Tree → Prog
left_by names (Some m) reply stay = λ answer. headed m stay (given names reply stay)
left_by names None reply stay = given names reply stay

abbrev pub left_once : Names → Once → Prog → Option Tree → Prog
left_once names o = left_by names o.next o.reply

-- the head of a combined result where none was given
abbrev pub combiner_in : Names → Definitions → Tree → Tree
combiner_in names d (normal (symbol h) es) = elim (has Builtin.Flat (definition_of names d h).attributes) [ true ↦ symbol h | false ↦ name names Builtin.Join ]
combiner_in names d e = name names Builtin.Join

abbrev pub left_combine : Names → Combine → Prog
left_combine names c = combined names c.function c.list (option_to_list c.combiner)

abbrev pub left_success : Names → Success → Option Tree → Prog
left_success names f None = first_success names f.function f.rest
left_success names f (Some v) = elim (is_name names Builtin.Failed v) [ true ↦ first_success names f.function f.rest | false ↦ Done v ]

abbrev pub left : Names → OutwardRow → Prog → Option Tree → Prog
left names (OutwardRow.Once o) stay = left_once names o stay
left names (OutwardRow.Combine c) stay = λ answer. left_combine names c
left names (OutwardRow.Success f) stay = left_success names f
left names (OutwardRow.Loop f) stay = loop.left_loop names f stay

abbrev pub moves_left : Option Move → ℕ
moves_left (Some m) = 1
moves_left None = 0

abbrev pub once_left : Once → ℕ
once_left o = moves_left o.next

abbrev pub questions : OutwardRow → ℕ
questions (OutwardRow.Once o) = once_left o
questions (OutwardRow.Combine c) = 0
questions (OutwardRow.Success f) = length f.rest
questions (OutwardRow.Loop f) = loop.questions f
