-- What the machine of an iterator stands for: the program that is left, before an answer and after, and the questions that are left.
use Rattle.std.specs.Prelude.{ℕ, ◌+◌, ◌^◌, length, List, ◌∷◌, Option, Some, None}
use Rattle.expr_tree.specs.Tree.{Tree}
use Rattle.semantics.specs.Names.{Names}
use Rattle.semantics.specs.Program.{Prog}
use Rattle.semantics.specs.Control.{Values, over, over_list}
use Rattle.machine_iterators.specs.declared.body.Body.{Body}
use Rattle.machine_iterators.specs.declared.iterator_values.IteratorValues.{IteratorValues}
use Rattle.machine_iterators.specs.declared.turns.Turns.{Turns}
use Rattle.machine_iterators.specs.declared.parts.Parts.{Parts}
use Rattle.machine_iterators.specs.declared.iteration.State.{State}
use Rattle.machine_iterators.specs.declared.iteration.Iteration.{Iteration}
use Rattle.machine_iterators.specs.IterationForms.{finish}
use Rattle.machine_iterators.specs.PartsAsked.{opened, asks, answered}

abbrev pub values_in : IteratorValues → List Tree
values_in (IteratorValues.Numbers numbers) = numbers
values_in (IteratorValues.Elements items) = items

-- the values of the body, the last first
abbrev pub noted : Option Tree → List Tree → List Tree
noted None done = done
noted (Some v) done = v ∷ done

abbrev pub left_turns : Names → Body → Turns → Option Tree → Prog
left_turns names b g answer = over_list b.symbol b.expression (values_in g.values) (noted answer g.done) (finish names b.form)

-- the body for each value of an iterator
abbrev pub goes : Names → Body → Values → Prog
goes names b values = over b.symbol values b.expression (finish names b.form)

abbrev pub left_asking : Names → Body → Parts → Prog → Option Tree → Prog
left_asking names b p stay None = opened names b.symbol (asks names b.symbol p.known p.rest (goes names b) stay)
left_asking names b p stay (Some v) = answered names b.symbol p.known p.rest v (goes names b) stay

abbrev pub left_at : Names → Body → State → Prog → Option Tree → Prog
left_at names b (State.Asking p) stay = left_asking names b p stay
left_at names b (State.Turns g) stay = left_turns names b g

abbrev pub left : Names → Iteration → Prog → Option Tree → Prog
left names f = left_at names f.body f.state

-- no iterator has more values than 2^128
abbrev pub parts_left : Parts → ℕ
parts_left p = length p.rest + 2 ^ 128 + 1

abbrev pub questions_at : State → ℕ
questions_at (State.Asking p) = parts_left p
questions_at (State.Turns g) = length (values_in g.values)

-- no fewer than the questions that are left
abbrev pub questions : Iteration → ℕ
questions f = questions_at f.state
