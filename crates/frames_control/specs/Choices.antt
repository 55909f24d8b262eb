-- What the machines of the forms that choose stand for: the program that is left, before an answer and after.
--     left_in_turn, left_chosen, left_which, left_connected
use Rattle.std.specs.Prelude.{List, [], ◌∷◌, true, false, Option, Some, None}
use Rattle.expr_tree.specs.Tree.{Tree}
use Rattle.semantics.specs.declared.builtin.Builtin.{Builtin}
use Rattle.semantics.specs.Names.{Names, is_name, make}
use Rattle.semantics.specs.Program.{Prog, Done}
use Rattle.semantics.specs.Control.{null, in_turn, by_truth, first_true, connected}
use Rattle.frames_control.specs.declared.in_turn.InTurn.{InTurn}
use Rattle.frames_control.specs.declared.choice.Chosen.{Chosen}
use Rattle.frames_control.specs.declared.which.Which.{Which}
use Rattle.frames_control.specs.declared.connected.Connective.{Connective}
use Rattle.frames_control.specs.declared.connected.Connected.{Connected}

-- the answer is the value where no item is left
abbrev pub left_in_turn : Names → InTurn → Option Tree → Prog
left_in_turn names f None = in_turn (null names) f.rest
left_in_turn names f (Some v) = in_turn (Done v) f.rest

abbrev pub left_chosen : Chosen → Option Tree → Prog
left_chosen f answer = Done f.value

-- a test has the value v, and its value and the rest follow
abbrev pub tested : Names → Tree → List Tree → Prog
tested names v [] = null names
tested names v (e ∷ es) = by_truth names v (Done e) (first_true names es) (Done (make names Builtin.Which (v ∷ e ∷ es)))

abbrev pub left_which : Names → Which → Option Tree → Prog
left_which names f None = first_true names f.rest
left_which names f (Some v) = tested names v f.rest

abbrev pub row_of : Connective → Builtin
row_of Connective.And = Builtin.And
row_of Connective.Or = Builtin.Or

abbrev pub ending_of : Connective → Builtin
ending_of Connective.And = Builtin.False
ending_of Connective.Or = Builtin.True

abbrev pub going_of : Connective → Builtin
going_of Connective.And = Builtin.True
going_of Connective.Or = Builtin.False

abbrev pub connects : Names → Connective → List Tree → List Tree → Prog
connects names c = connected names (row_of c) (going_of c) (ending_of c)

abbrev pub left_connected : Names → Connected → Option Tree → Prog
left_connected names f None = connects names f.connective f.rest f.kept
left_connected names f (Some v) =
    elim (is_name names (ending_of f.connective) v) [
      | true ↦ Done v
      | false ↦ elim (is_name names (going_of f.connective) v) [ true ↦ connects names f.connective f.rest f.kept | false ↦ connects names f.connective f.rest (v ∷ f.kept) ]
    ]
