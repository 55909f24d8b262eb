-- Shifted names.
use Rattle.std.proofs.Common.{◌≡◌, refl, ℕ, true, false, [], ◌∷◌}
use Rattle.expr_tree.specs.Tree.{Tree}
use Rattle.expr_tree.specs.declared.limits.Stop.{Stop}
use Rattle.semantics.specs.declared.builtin.Builtin.{Builtin}
use Rattle.semantics.specs.Definitions.{Definitions, empty}
use Rattle.semantics.specs.Program.{Call, Request}
use Rattle.semantics.specs.Play.{Reply}
use Rattle.semantics.specs.Eval.{Event, Evaluation, Outcome, eval}
use Rattle.semantics.specs.Table.{row, worked}
use Rattle.laws_shift.specs.Shift.{shift, shift_definitions, shift_evaluation, below, definitions_below, with_number}
use Rattle.worked_rows.specs.Sample.{in_cell, usual, equals, h', x', y', int, list, made, of, plus, stopped, value}

abbrev evaluated : Definitions → Tree → Evaluation
evaluated d e = eval (in_cell usual) d e []

-- the shifted expression from the shifted definitions
abbrev shifted : ℕ → ℕ → Definitions → Tree → Evaluation
shifted from by d e = evaluated (shift_definitions from by d) (shift from by e)

-- x$1 = 5, and one number is taken
abbrev known : Definitions
known = record (evaluated empty (equals (made 7 1) (int 5))).definitions { module_number = 2 }

-- Module[{y}, {x$1, x$3, y}] is {5, x$3, y$2}
abbrev names_made : Tree
names_made = of Builtin.Module (list (y' ∷ []) ∷ list (made 7 1 ∷ made 7 3 ∷ y' ∷ []) ∷ [])

value_with_names : (evaluated known names_made).outcome ≡ value (list (int 5 ∷ made 7 3 ∷ made 8 2 ∷ []))
unfolding eval row worked
value_with_names = refl

unused_with_names : (evaluated known names_made).used ≡ false
unfolding eval row worked
unused_with_names = refl

-- from 1 by 10 it is {5, x$13, y$12}, and from 2 by 10 too
value_from_one : (shifted 1 10 known names_made).outcome ≡ value (list (int 5 ∷ made 7 13 ∷ made 8 12 ∷ []))
unfolding eval row worked
value_from_one = refl

all_from_one : shifted 1 10 known names_made ≡ shift_evaluation 1 10 (evaluated known names_made)
unfolding eval row worked
all_from_one = refl

all_from_two : shifted 2 10 known names_made ≡ shift_evaluation 2 10 (evaluated known names_made)
unfolding eval row worked
all_from_two = refl

-- from 3 the number that Module takes would stay, and in the shifted definitions it is 12
name_below_the_bound : (shift_evaluation 3 10 (evaluated known names_made)).outcome ≡ value (list (int 5 ∷ made 7 13 ∷ made 8 2 ∷ []))
unfolding eval row worked
name_below_the_bound = refl

name_that_is_taken : (shifted 3 10 known names_made).outcome ≡ value (list (int 5 ∷ made 7 13 ∷ made 8 12 ∷ []))
unfolding eval row worked
name_that_is_taken = refl

-- from 0 the names of the table are shifted too, and stand for nothing: 1 + 2 is 3, and Plus$10[1, 2] stays
sum_of_table : (evaluated known (plus (int 1) (int 2))).outcome ≡ value (int 3)
unfolding eval row worked
sum_of_table = refl

sum_of_no_table : (shifted 0 10 known (plus (int 1) (int 2))).outcome ≡ value (shift 0 10 (plus (int 1) (int 2)))
unfolding eval row worked
sum_of_no_table = refl

-- where the module number is shifted to the last one, the shifted Module stops
last_number_taken : (shifted 1 999999999999999997 known names_made).outcome ≡ stopped Stop.Range
unfolding eval row worked
last_number_taken = refl

-- where a call is made `used` is true: the shifted evaluation makes another call
abbrev sent : Tree → Event
sent e = record { call = Call.Sends (Request.Outside e); reply = Reply.Replied (int 1); after = empty }

abbrev asks : Tree
asks = of Builtin.ParallelEvaluate (made 7 1 ∷ [])

value_of_a_call : (eval (in_cell usual) empty asks (sent asks ∷ [])).outcome ≡ value (int 1)
unfolding eval row worked
value_of_a_call = refl

used_at_a_call : (eval (in_cell usual) empty asks (sent asks ∷ [])).used ≡ true
unfolding eval row worked
used_at_a_call = refl

another_call : (eval (in_cell usual) (shift_definitions 1 10 empty) (shift 1 10 asks) (sent asks ∷ [])).outcome ≡ Outcome.Wrong
unfolding eval row worked
another_call = refl

-- ---- from a greater module number

-- Module[{y = 1}, {y, x$1}] is {1, 5} from 2 and from 12
abbrev no_name : Tree
no_name = of Builtin.Module (list (equals y' (int 1) ∷ []) ∷ list (y' ∷ made 7 1 ∷ []) ∷ [])

known_is_below : definitions_below 2 known ≡ true
unfolding eval row worked
known_is_below = refl

value_from_two : (evaluated known no_name).outcome ≡ value (list (int 1 ∷ int 5 ∷ []))
unfolding eval row worked
value_from_two = refl

value_from_twelve : (evaluated (with_number 12 known) no_name).outcome ≡ value (list (int 1 ∷ int 5 ∷ []))
unfolding eval row worked
value_from_twelve = refl

-- and from 12 where h has a value besides, on the set of all symbols but h
value_besides : (evaluated (with_number 12 (evaluated known (equals h' (int 1))).definitions) no_name).outcome ≡ value (list (int 1 ∷ int 5 ∷ []))
unfolding eval row worked
value_besides = refl

-- x has the value y$2, and 2 is the next number: Module[{y = 7}, x] meets it from 2, and not from 12
abbrev meeting : Definitions
meeting = record (evaluated empty (equals x' (made 8 2))).definitions { module_number = 2 }

abbrev meets : Tree
meets = of Builtin.Module (list (equals y' (int 7) ∷ []) ∷ x' ∷ [])

meeting_is_not_below : definitions_below 2 meeting ≡ false
unfolding eval row worked
meeting_is_not_below = refl

expression_is_below : below 2 meets ≡ true
expression_is_below = refl

value_that_is_met : (evaluated meeting meets).outcome ≡ value (int 7)
unfolding eval row worked
value_that_is_met = refl

name_that_is_not_met : (evaluated (with_number 12 meeting) meets).outcome ≡ value (made 8 2)
unfolding eval row worked
name_that_is_not_met = refl
