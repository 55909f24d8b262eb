-- How many steps and module numbers an evaluation takes.
--     going_on              one number more for each nested evaluation that was going on where it stopped
--     StepsBounded          no more steps than the limits allow
--     NumbersBounded        a step for so many numbers as evaluations may be nested, but for those that Modules took which had not ended at a stop
--     NumbersPaid           a step for each number, where nothing throws
use Rattle.std.specs.Prelude.{◌≡◌, ℕ, ◌+◌, ◌*◌, ◌≤◌, ◌<◌, List, ◌++◌, true, false}
use Rattle.expr_tree.specs.Tree.{Tree}
use Rattle.semantics.specs.Names.{IsNames}
use Rattle.semantics.specs.Definitions.{Definitions}
use Rattle.semantics.specs.Play.{Setting, Value}
use Rattle.semantics.specs.Eval.{Event, Outcome, Ended, eval}
use Rattle.journal.specs.Closure.{symbols_of}
use Rattle.journal.specs.Quiet.{symbols_of_entries}
use Rattle.laws_closure.specs.Throws.{none_throws}

-- what an end adds: nothing at a value, and else so many nested evaluations as may be going on
abbrev pub going_on : ℕ → Outcome → ℕ
going_on n (Ended (Value v)) = 0
going_on n _ = n

-- where `used` is false at the end, and so no call was made
abbrev pub StepsBounded : Type 0
StepsBounded = (set : Setting) (d : Definitions) (e : Tree) (events : List Event) → (eval set d e events).used ≡ false → (eval set d e events).steps ≤ set.limits.steps

-- there too; a throw that is caught gives up the Modules that are going on inside
abbrev pub NumbersBounded : Type 0
NumbersBounded =
    (set : Setting) (d : Definitions) (e : Tree) (events : List Event) → (eval set d e events).used ≡ false
    → (d.module_number ≤ (eval set d e events).definitions.module_number)
    × ((eval set d e events).definitions.module_number ≤ d.module_number + (set.limits.recursion * (eval set d e events).steps + going_on set.limits.recursion (eval set d e events).outcome))

-- where besides modules have begun to be numbered, as at the start of a script, and neither Throw nor Catch stands in the expression or in an own value
-- or a rule, nor Attributes, which gives the name of whatever stands as an attribute
abbrev pub NumbersPaid : Type 0
NumbersPaid =
    (set : Setting) → IsNames set.names → (d : Definitions) (e : Tree) (events : List Event) → 0 < d.module_number
    → none_throws set.names (symbols_of e ++ symbols_of_entries d.entries) ≡ true → (eval set d e events).used ≡ false
    → (eval set d e events).definitions.module_number ≤ d.module_number + ((eval set d e events).steps + going_on set.limits.recursion (eval set d e events).outcome)
