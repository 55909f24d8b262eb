-- Module numbers.
use Rattle.std.proofs.Common.{◌≡◌, refl, true, false, [], ◌∷◌, ◌++◌, None}
use Rattle.expr_tree.specs.Tree.{Tree, call}
use Rattle.expr_tree.specs.declared.limits.Limits.{Limits}
use Rattle.expr_tree.specs.declared.limits.Stop.{Stop}
use Rattle.semantics.specs.declared.builtin.Builtin.{Builtin}
use Rattle.semantics.specs.Definitions.{Definitions, empty, put}
use Rattle.semantics.specs.Program.{Call, Request}
use Rattle.semantics.specs.Play.{Reply}
use Rattle.semantics.specs.Eval.{Evaluation, eval}
use Rattle.semantics.specs.Table.{row, worked}
use Rattle.journal.specs.Closure.{symbols_of}
use Rattle.journal.specs.Quiet.{symbols_of_entries}
use Rattle.laws_closure.specs.Throws.{none_throws}
use Rattle.worked_rows.specs.Sample.{sym, names, in_cell, usual, equals, x', y', int, list, of, plus, stopped, symbol_of_row, value}

-- Module[{x = Module[{y = 1}, y]}, x + x]: two Modules
abbrev two : Tree
two = of Builtin.Module (list (equals x' (of Builtin.Module (list (equals y' (int 1) ∷ []) ∷ y' ∷ [])) ∷ []) ∷ plus x' x' ∷ [])

abbrev ended : Evaluation
ended = eval (in_cell usual) empty two []

value_of_two : ended.outcome ≡ value (int 2)
unfolding eval row worked
value_of_two = refl

-- nothing in it throws
two_spared : none_throws names (symbols_of two ++ symbols_of_entries empty.entries) ≡ true
two_spared = refl

-- from 1 to 3, in 6 steps
numbers_of_two : ended.definitions.module_number ≡ 3
unfolding eval row worked
numbers_of_two = refl

steps_of_two : ended.steps ≡ 6
unfolding eval row worked
steps_of_two = refl

-- the same with a third one inside, and three nested evaluations: where it stops two numbers are taken, and no step
abbrev few : Limits
few = record { recursion = 3; iteration = 4096; steps = 1000000; size = 4000000; depth = 512 }

abbrev stops : Evaluation
stops = eval (in_cell few) empty (of Builtin.Module (list (equals x' (of Builtin.Module (list (equals y' two ∷ []) ∷ y' ∷ [])) ∷ []) ∷ x' ∷ [])) []

stops_at_recursion : stops.outcome ≡ stopped Stop.Recursion
unfolding eval row worked
stops_at_recursion = refl

numbers_at_the_stop : stops.definitions.module_number ≡ 3
unfolding eval row worked
numbers_at_the_stop = refl

steps_at_the_stop : stops.steps ≡ 0
unfolding eval row worked
steps_at_the_stop = refl

-- Catch[Module[{x = Module[{x = Module[{x = Throw[1]}, x]}, x]}, x]]: three numbers, and two steps, since a throw gives up the Modules
abbrev around : Tree → Tree
around e = of Builtin.Module (list (equals x' e ∷ []) ∷ x' ∷ [])

abbrev given_up : Evaluation
given_up = eval (in_cell usual) empty (of Builtin.Catch (around (around (around (of Builtin.Throw (int 1 ∷ [])))) ∷ [])) []

throws_stand_there : none_throws names (symbols_of (around (of Builtin.Throw (int 1 ∷ [])))) ≡ false
throws_stand_there = refl

value_of_the_throw : given_up.outcome ≡ value (int 1)
unfolding eval row worked
value_of_the_throw = refl

numbers_given_up : given_up.definitions.module_number ≡ 4
unfolding eval row worked
numbers_given_up = refl

steps_given_up : given_up.steps ≡ 2
unfolding eval row worked
steps_given_up = refl

-- with Throw as an attribute of x and Catch as one of y, First[Attributes[y]][..] with First[Attributes[x]][1] in eight Modules takes eight numbers
-- in six steps, and names neither Throw nor Catch
abbrev attributed : Definitions
attributed =
    put names (put names empty (sym 7) (record { attributes = Builtin.Throw ∷ []; own = None; downs = []; ups = [] })) (sym 8)
    (record { attributes = Builtin.Catch ∷ []; own = None; downs = []; ups = [] })

abbrev first_attribute : Tree → Tree
first_attribute e = of Builtin.First (of Builtin.Attributes (e ∷ []) ∷ [])

abbrev around_four : Tree → Tree
around_four e = around (around (around (around e)))

abbrev unnamed : Evaluation
unnamed = eval (in_cell usual) attributed (call (first_attribute y') (around_four (around_four (call (first_attribute x') (int 1 ∷ []))) ∷ [])) []

value_of_the_unnamed : unnamed.outcome ≡ value (int 1)
unfolding eval row worked
value_of_the_unnamed = refl

numbers_of_the_unnamed : unnamed.definitions.module_number ≡ 9
unfolding eval row worked
numbers_of_the_unnamed = refl

steps_of_the_unnamed : unnamed.steps ≡ 6
unfolding eval row worked
steps_of_the_unnamed = refl

attributes_stand_there : none_throws names (symbols_of (first_attribute x')) ≡ false
attributes_stand_there = refl

-- Print[] makes a call, and `used` is true: the number after it is that of the definitions after the call, whatever it is
abbrev called : Evaluation
called =
    eval (in_cell usual) empty (of Builtin.Print [])
    (record { call = Call.Sends (Request.Print []); reply = Reply.Replied (symbol_of_row Builtin.Null); after = record empty { module_number = 1000 } } ∷ [])

numbers_after_a_call : called.definitions.module_number ≡ 1000
unfolding eval row worked
numbers_after_a_call = refl

used_after_a_call : called.used ≡ true
unfolding eval row worked
used_after_a_call = refl

value_after_a_call : called.outcome ≡ value (symbol_of_row Builtin.Null)
unfolding eval row worked
value_after_a_call = refl

-- a pass that takes a number may give the expression itself, where Module does not hold its elements and x is Unevaluated[Module[{y}, x]]
abbrev itself : Tree
itself = of Builtin.Module (list (y' ∷ []) ∷ x' ∷ [])

abbrev after : Definitions → Tree → Definitions
after d e = (eval (in_cell usual) d e []).definitions

abbrev not_held : Definitions
not_held =
    after (after (after empty (of Builtin.Unprotect (symbol_of_row Builtin.Module ∷ [])))
    (of Builtin.ClearAttributes (symbol_of_row Builtin.Module ∷ symbol_of_row Builtin.HoldAll ∷ [])))
    (of Builtin.SetDelayed (x' ∷ of Builtin.Unevaluated (of Builtin.Unevaluated (itself ∷ []) ∷ []) ∷ []))

gives_itself : (eval (in_cell usual) not_held itself []).outcome ≡ value itself
unfolding eval row worked
gives_itself = refl

-- one number, and the step of the element that grew
number_of_itself : (eval (in_cell usual) not_held itself []).definitions.module_number ≡ 2
unfolding eval row worked
number_of_itself = refl

steps_of_itself : (eval (in_cell usual) not_held itself []).steps ≡ 1
unfolding eval row worked
steps_of_itself = refl
