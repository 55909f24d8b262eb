-- The outside: parallel forms, shared symbols, sections, Print, and the modes.
use Rattle.std.proofs.Common.{◌≡◌, refl, true, false, List, [], ◌∷◌}
use Rattle.std.specs.Prelude.{ℕ, codes}
use Rattle.expr_tree.specs.declared.limits.Limits.{Limits}
use Rattle.expr_tree.specs.declared.limits.Stop.{Stop}
use Rattle.expr_tree.specs.Tree.{Tree, string}
use Rattle.semantics.specs.declared.builtin.Builtin.{Builtin}
use Rattle.semantics.specs.Definitions.{Definitions, Variable, Function, empty}
use Rattle.semantics.specs.Program.{Cell, Service, Access, Count, Print, Outside, Sends, Enter, Leave}
use Rattle.semantics.specs.Play.{Setting, Reply, Replied, Halted, Quit}
use Rattle.semantics.specs.Eval.{Event, Outcome, Ended, Needs, Wrong, eval}
use Rattle.semantics.specs.Table.{row, worked}
use Rattle.semantics.specs.Match.{matches}
use Rattle.worked_rows.specs.Sample.{a', apply, b', blank, e', equals, f', failed, g', h', i', in_cell, in_item, int, j', list, lock', n', null, numbers, of, plus, rule, setting, stopped, sym, symbol_of_row, times, usual, value, x', y'}

in_service : Setting
in_service = setting Service 0 usual

-- n is a shared variable, f a shared function
sharing : Definitions
sharing =
    record {
      entries = [];
      shared = record { symbol = sym 12; kind = Variable; attributes = [] } ∷ record { symbol = sym 3; kind = Function; attributes = [] } ∷ [];
      named = [];
      module_number = 1;
    }

-- what an evaluation in a cell, or in an item over the shared symbols, comes to along a list of calls
cell : Tree → List Event → Outcome
cell e events = (eval (in_cell usual) empty e events).outcome

item : Tree → List Event → Outcome
item e events = (eval in_item sharing e events).outcome

-- the expression is sent outward, and the reply to it
asks : Tree → Outcome
asks e = Needs (Sends (Outside e))

accesses : Tree → Outcome
accesses e = Needs (Sends (Access e))

answered : Tree → Reply → Event
answered e reply = record { call = Sends (Outside e); reply = reply; after = empty }

read_as : Tree → Tree → Event
read_as e v = record { call = Sends (Access e); reply = Replied v; after = sharing }

-- ---- parallel forms

-- ParallelMap[f, {a}] is one call in a cell; the reply is its value; a stop stops with its cause; another call is not the one that was needed
a_form_is_one_call : cell (of Builtin.ParallelMap (f' ∷ list (a' ∷ []) ∷ [])) [] ≡ asks (of Builtin.ParallelMap (f' ∷ list (a' ∷ []) ∷ []))
unfolding cell asks eval row worked
a_form_is_one_call = refl

a_reply_is_the_value : cell (of Builtin.ParallelMap (f' ∷ list (a' ∷ []) ∷ [])) (answered (of Builtin.ParallelMap (f' ∷ list (a' ∷ []) ∷ [])) (Replied (int 7)) ∷ []) ≡ value (int 7)
unfolding cell answered eval row worked
a_reply_is_the_value = refl

a_stop_stops : cell (of Builtin.ParallelMap (f' ∷ list (a' ∷ []) ∷ [])) (answered (of Builtin.ParallelMap (f' ∷ list (a' ∷ []) ∷ [])) (Halted Stop.Size) ∷ []) ≡ stopped Stop.Size
unfolding cell answered eval row worked
a_stop_stops = refl

another_call_is_wrong : cell (of Builtin.ParallelMap (f' ∷ list (a' ∷ []) ∷ [])) (answered a' (Replied (int 7)) ∷ []) ≡ Wrong
unfolding cell answered eval row worked
another_call_is_wrong = refl

-- ParallelTable[i, {i, 1 + 1}]: the parts of the first iterator are evaluated before the call
parts_come_before_the_call :
    cell (of Builtin.ParallelTable (i' ∷ list (i' ∷ plus (int 1) (int 1) ∷ []) ∷ [])) [] ≡ asks (of Builtin.ParallelTable (i' ∷ list (i' ∷ int 2 ∷ []) ∷ []))
unfolding cell asks eval row worked
parts_come_before_the_call = refl

-- ParallelTable[i, {i, a}]; ParallelSubmit[]; DistributeDefinitions[3]; ParallelTry[f, 3]: a shape that is not named stays
other_shapes_stay : cell (of Builtin.ParallelTable (i' ∷ list (i' ∷ a' ∷ []) ∷ [])) [] ≡ value (of Builtin.ParallelTable (i' ∷ list (i' ∷ a' ∷ []) ∷ []))
unfolding cell eval row
other_shapes_stay = refl

an_empty_submission_stays : cell (of Builtin.ParallelSubmit []) [] ≡ value (of Builtin.ParallelSubmit [])
unfolding cell eval row
an_empty_submission_stays = refl

what_is_no_symbol_is_not_distributed : cell (of Builtin.DistributeDefinitions (int 3 ∷ [])) [] ≡ value (of Builtin.DistributeDefinitions (int 3 ∷ []))
unfolding cell eval row
what_is_no_symbol_is_not_distributed = refl

-- in an item ParallelMap is Map, and ParallelSum[i j, {i, 2}, {j, 2}] is 9
in_an_item_forms_are_sequential : item (of Builtin.ParallelMap (f' ∷ numbers [] ∷ [])) [] ≡ value (list [])
unfolding item sharing eval row worked
in_an_item_forms_are_sequential = refl

a_sequential_sum : item (of Builtin.ParallelSum (times i' j' ∷ list (i' ∷ int 2 ∷ []) ∷ list (j' ∷ int 2 ∷ []) ∷ [])) [] ≡ value (int 9)
unfolding item sharing eval row worked
a_sequential_sum = refl

-- ParallelTry[If[# > 2, #, $Failed] &, {1, 2, 3}] and over {1, 2}, in an item
larger_than_two : Tree
larger_than_two =
    of Builtin.Function (of Builtin.If (of Builtin.Greater (of Builtin.Slot (int 1 ∷ []) ∷ int 2 ∷ []) ∷ of Builtin.Slot (int 1 ∷ []) ∷ symbol_of_row Builtin.Failed ∷ []) ∷ [])

the_first_success : item (of Builtin.ParallelTry (larger_than_two ∷ numbers (1 ∷ 2 ∷ 3 ∷ []) ∷ [])) [] ≡ value (int 3)
unfolding item sharing larger_than_two eval row worked
the_first_success = refl

no_success : item (of Builtin.ParallelTry (larger_than_two ∷ numbers (1 ∷ 2 ∷ []) ∷ [])) [] ≡ failed
unfolding item sharing larger_than_two eval row worked
no_success = refl

-- ParallelCombine[Length, {a, b}, List]; ParallelEvaluate[1]; WaitAll[EvaluationObject[1]]; WaitAll[3], in an item
a_sequential_combination : item (of Builtin.ParallelCombine (symbol_of_row Builtin.Length ∷ list (a' ∷ b' ∷ []) ∷ symbol_of_row Builtin.List ∷ [])) [] ≡ value (numbers (2 ∷ []))
unfolding item sharing eval row worked
a_sequential_combination = refl

an_item_cannot_wait : item (of Builtin.WaitAll (of Builtin.EvaluationObject (int 1 ∷ []) ∷ [])) [] ≡ failed
unfolding item sharing eval row worked
an_item_cannot_wait = refl

waiting_for_nothing : item (of Builtin.WaitAll (int 3 ∷ [])) [] ≡ value (int 3)
unfolding item sharing eval row
waiting_for_nothing = refl

-- WaitAll[3] is no call in a cell either, and no mode matters; WaitAll[EvaluationObject[7]] is a call, whether there is such an item or not
a_cell_waits_for_nothing : cell (of Builtin.WaitAll (int 3 ∷ [])) [] ≡ value (int 3)
unfolding cell eval row
a_cell_waits_for_nothing = refl

waiting_for_nothing_uses_no_mode : (eval in_item sharing (of Builtin.WaitAll (int 3 ∷ [])) []).used ≡ false
unfolding sharing eval row
waiting_for_nothing_uses_no_mode = refl

a_cell_waits_for_an_object :
    cell (of Builtin.WaitAll (apply h' (of Builtin.EvaluationObject (int 7 ∷ [])) ∷ [])) [] ≡ asks (of Builtin.WaitAll (apply h' (of Builtin.EvaluationObject (int 7 ∷ [])) ∷ []))
unfolding cell asks eval row worked
a_cell_waits_for_an_object = refl

-- ParallelCombine[h, Method -> 1, g]; ParallelTable[e, Method -> x, {i, 3}] in an item and in a cell; ParallelTable[e, Method -> x]: an option stands last
method : Tree → Tree
method e = rule (symbol_of_row Builtin.Method) e

a_list_before_the_last_is_no_option :
    item (of Builtin.ParallelCombine (h' ∷ method (int 1) ∷ g' ∷ [])) [] ≡ value (apply g' (apply h' (method (int 1))))
unfolding item sharing method eval row worked
a_list_before_the_last_is_no_option = refl

an_iterator_before_the_last_is_no_option :
    item (of Builtin.ParallelTable (e' ∷ method x' ∷ list (i' ∷ int 3 ∷ []) ∷ [])) [] ≡ value (of Builtin.Table (e' ∷ method x' ∷ list (i' ∷ int 3 ∷ []) ∷ []))
unfolding item sharing method eval row worked
an_iterator_before_the_last_is_no_option = refl

a_cell_has_no_such_iterator :
    cell (of Builtin.ParallelTable (e' ∷ method x' ∷ list (i' ∷ int 3 ∷ []) ∷ [])) [] ≡ value (of Builtin.ParallelTable (e' ∷ method x' ∷ list (i' ∷ int 3 ∷ []) ∷ []))
unfolding cell method eval row worked
a_cell_has_no_such_iterator = refl

an_option_is_no_iterator : item (of Builtin.ParallelTable (e' ∷ method x' ∷ [])) [] ≡ value (of Builtin.ParallelTable (e' ∷ method x' ∷ []))
unfolding item sharing method eval row worked
an_option_is_no_iterator = refl

-- DistributeDefinitions[], SetSharedVariable[] and SetSharedFunction[] are calls in a cell
no_symbols_are_distributed : cell (of Builtin.DistributeDefinitions []) [] ≡ asks (of Builtin.DistributeDefinitions [])
unfolding cell asks eval row
no_symbols_are_distributed = refl

no_variables_are_shared : cell (of Builtin.SetSharedVariable []) [] ≡ asks (of Builtin.SetSharedVariable [])
unfolding cell asks eval row
no_variables_are_shared = refl

no_functions_are_shared : cell (of Builtin.SetSharedFunction []) [] ≡ asks (of Builtin.SetSharedFunction [])
unfolding cell asks eval row
no_functions_are_shared = refl

an_item_distributes_nothing : item (of Builtin.DistributeDefinitions []) [] ≡ failed
unfolding item sharing eval row
an_item_distributes_nothing = refl

-- y = {{1}}; ParallelTable[i, {i, y}]: the form is judged as it is sent, with the parts as evaluated; it has 7 nodes and depth 5
form_in : ℕ → ℕ → Outcome
form_in nodes levels =
    let limits : Limits = record { recursion = 256; iteration = 4096; steps = 1000000; size = nodes; depth = levels } in
    let set : Setting = in_cell limits in
    (eval set (eval set empty (equals y' (list (numbers (1 ∷ []) ∷ []))) []).definitions (of Builtin.ParallelTable (i' ∷ list (i' ∷ y' ∷ []) ∷ [])) []).outcome

a_form_of_this_size : form_in 7 5 ≡ asks (of Builtin.ParallelTable (i' ∷ list (i' ∷ list (numbers (1 ∷ []) ∷ []) ∷ []) ∷ []))
unfolding form_in asks eval row worked
a_form_of_this_size = refl

a_form_that_is_too_large : form_in 6 4 ≡ stopped Stop.Size
unfolding form_in eval row worked
a_form_that_is_too_large = refl

a_form_that_is_too_deep : form_in 7 4 ≡ stopped Stop.Depth
unfolding form_in eval row worked
a_form_that_is_too_deep = refl

-- ---- shared symbols

-- n; n++ + 1: an access is sent as it stands, and its reply goes on; n++ twice are two accesses
a_shared_variable_is_read : item n' (read_as n' (int 5) ∷ []) ≡ value (int 5)
unfolding item sharing read_as eval
a_shared_variable_is_read = refl

an_increment_is_an_access : item (plus (of Builtin.Increment (n' ∷ [])) (int 1)) (read_as (of Builtin.Increment (n' ∷ [])) (int 0) ∷ []) ≡ value (int 1)
unfolding item sharing read_as eval row worked
an_increment_is_an_access = refl

two_increments_are_two_accesses :
    item (list (of Builtin.Increment (n' ∷ []) ∷ of Builtin.Increment (n' ∷ []) ∷ [])) (read_as (of Builtin.Increment (n' ∷ [])) (int 0) ∷ []) ≡ accesses (of Builtin.Increment (n' ∷ []))
unfolding item sharing read_as accesses eval
two_increments_are_two_accesses = refl

-- f[1 + 1] of a shared function, with its elements evaluated; Increment[n, 3]
a_shared_function_is_asked : item (apply f' (plus (int 1) (int 1))) [] ≡ accesses (apply f' (int 2))
unfolding item sharing accesses eval row worked
a_shared_function_is_asked = refl

an_access_of_any_length : item (of Builtin.Increment (n' ∷ int 3 ∷ [])) [] ≡ accesses (of Builtin.Increment (n' ∷ int 3 ∷ []))
unfolding item sharing accesses eval
an_access_of_any_length = refl

-- an identical reply ends the evaluation
an_identical_reply_stays : item n' (read_as n' n' ∷ []) ≡ value n'
unfolding item sharing read_as eval
an_identical_reply_stays = refl

-- f[Unevaluated[x]] sends f[x]; where that comes back the pass has no result, and what stood before the wrapper was taken off stands again
an_access_is_without_the_wrapper : item (apply f' (of Builtin.Unevaluated (x' ∷ []))) [] ≡ accesses (apply f' x')
unfolding item sharing accesses eval row worked
an_access_is_without_the_wrapper = refl

an_identical_reply_is_no_result :
    item (apply f' (of Builtin.Unevaluated (x' ∷ []))) (read_as (apply f' x') (apply f' x') ∷ []) ≡ value (apply f' (of Builtin.Unevaluated (x' ∷ [])))
unfolding item sharing read_as eval row worked
an_identical_reply_is_no_result = refl

another_reply_is_a_result : item (apply f' (of Builtin.Unevaluated (x' ∷ []))) (read_as (apply f' x') (int 4) ∷ []) ≡ value (int 4)
unfolding item sharing read_as eval row worked
another_reply_is_a_result = refl

-- {x[f] = 1, x[f] =., x[f]} with the shared f: the rules of f are not the item's
an_item_keeps_what_a_shared_symbol_may_hold :
    item (list (equals (apply x' f') (int 1) ∷ of Builtin.Unset (apply x' f' ∷ []) ∷ apply x' f' ∷ [])) []
    ≡ value (list (int 1 ∷ symbol_of_row Builtin.Failed ∷ int 1 ∷ []))
unfolding item sharing eval row matches worked
an_item_keeps_what_a_shared_symbol_may_hold = refl

-- Clear[f] of a shared function is neither access nor definition; n /: x[n] = 1 and Block[{n}, 1] are refused
clearing_a_shared_function : item (of Builtin.Clear (f' ∷ [])) [] ≡ null
unfolding item sharing eval row
clearing_a_shared_function = refl

another_definition_is_refused : item (of Builtin.SetDelayed (of Builtin.Condition (apply f' (blank x') ∷ x' ∷ []) ∷ int 1 ∷ [])) [] ≡ failed
unfolding item sharing eval row
another_definition_is_refused = refl

a_shared_symbol_is_no_local : item (of Builtin.Block (list (n' ∷ []) ∷ int 1 ∷ [])) [] ≡ failed
unfolding item sharing eval row
a_shared_symbol_is_no_local = refl

no_attributes_of_shared_symbols : item (of Builtin.Attributes (n' ∷ [])) [] ≡ failed
unfolding item sharing eval row
no_attributes_of_shared_symbols = refl

-- ---- sections

-- Enter and Leave of a section with one lock
entered : List Event
entered =
    record { call = Enter (sym 25 ∷ []); reply = Replied (int 0); after = sharing }
    ∷ record { call = Leave; reply = Replied (int 0); after = sharing } ∷ []

-- CriticalSection[{lock}, 3 + 4]; an inner one with the same lock makes no call, one with another lock fails; the section is left once
a_section_gives_its_body : item (of Builtin.CriticalSection (list (lock' ∷ []) ∷ plus (int 3) (int 4) ∷ [])) entered ≡ value (int 7)
unfolding item sharing entered eval row worked
a_section_gives_its_body = refl

an_inner_section_of_held_locks : item (of Builtin.CriticalSection (list (lock' ∷ []) ∷ of Builtin.CriticalSection (list (lock' ∷ []) ∷ int 1 ∷ []) ∷ [])) entered ≡ value (int 1)
unfolding item sharing entered eval row
an_inner_section_of_held_locks = refl

an_inner_section_of_another_lock : item (of Builtin.CriticalSection (list (lock' ∷ []) ∷ of Builtin.CriticalSection (list (b' ∷ []) ∷ int 1 ∷ []) ∷ [])) entered ≡ failed
unfolding item sharing entered eval row
an_inner_section_of_another_lock = refl

a_section_is_left : (eval in_item sharing (of Builtin.CriticalSection (list (lock' ∷ []) ∷ int 1 ∷ [])) entered).rest ≡ []
unfolding sharing entered eval row
a_section_is_left = refl

-- CriticalSection[{lock}, 2^200] stops once it was left; CriticalSection[{}, 3] makes no call; in a service it fails
a_stop_leaves_the_section : item (of Builtin.CriticalSection (list (lock' ∷ []) ∷ of Builtin.Power (int 2 ∷ int 200 ∷ []) ∷ [])) entered ≡ stopped Stop.Range
unfolding item sharing entered eval row worked
a_stop_leaves_the_section = refl

no_locks_no_section : item (of Builtin.CriticalSection (list [] ∷ int 3 ∷ [])) [] ≡ value (int 3)
unfolding item sharing eval row
no_locks_no_section = refl

no_section_in_a_service : (eval in_service empty (of Builtin.CriticalSection (list [] ∷ int 3 ∷ [])) []).outcome ≡ failed
unfolding in_service eval row
no_section_in_a_service = refl

-- ---- modes

-- $KernelID; $KernelCount; Quit[] in an item and in a cell
the_kernels_number : item (symbol_of_row Builtin.KernelID) [] ≡ value (int 3)
unfolding item sharing eval
the_kernels_number = refl

a_cell_belongs_to_the_master : (eval (setting Cell 3 usual) empty (symbol_of_row Builtin.KernelID) []).outcome ≡ value (int 0)
unfolding eval
a_cell_belongs_to_the_master = refl

a_service_belongs_to_the_master : (eval (setting Service 3 usual) empty (symbol_of_row Builtin.KernelID) []).outcome ≡ value (int 0)
unfolding eval
a_service_belongs_to_the_master = refl

the_count_is_asked : item (symbol_of_row Builtin.KernelCount) [] ≡ Needs (Sends Count)
unfolding item sharing eval
the_count_is_asked = refl

an_item_can_quit : item (of Builtin.Quit []) [] ≡ Ended Quit
unfolding item sharing eval row
an_item_can_quit = refl

a_cell_cannot_quit : cell (of Builtin.Quit []) [] ≡ failed
unfolding cell eval row
a_cell_cannot_quit = refl

-- Print["ab", x, "c"] is one line, in which a string is its own bytes and x, here, one question mark; its value is Null
printing_is_one_line : cell (of Builtin.Print (string (codes "ab") ∷ x' ∷ string (codes "c") ∷ [])) [] ≡ Needs (Sends (Print (codes "ab?c")))
unfolding cell eval row
printing_is_one_line = refl

-- where neither a mode nor a shared symbol mattered `used` is false: f[x_] := x, and $KernelID
a_rule_uses_no_mode : (eval in_item sharing (plus (int 1) (int 2)) []).used ≡ false
unfolding sharing eval row worked
a_rule_uses_no_mode = refl

a_row_of_modes_is_used : (eval in_item sharing (symbol_of_row Builtin.KernelID) []).used ≡ true
unfolding sharing eval
a_row_of_modes_is_used = refl
