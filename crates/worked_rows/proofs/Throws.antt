-- Throw and Catch.
use Rattle.std.proofs.Common.{◌≡◌, refl, ℕ, List, [], ◌∷◌}
use Rattle.expr_tree.specs.declared.limits.Limits.{Limits}
use Rattle.expr_tree.specs.declared.limits.Stop.{Stop}
use Rattle.expr_tree.specs.Tree.{Tree}
use Rattle.semantics.specs.declared.builtin.Builtin.{Builtin}
use Rattle.semantics.specs.Definitions.{empty}
use Rattle.semantics.specs.Program.{Enter, Leave}
use Rattle.semantics.specs.Play.{Replied, Thrown, Quit}
use Rattle.semantics.specs.Ends.{shown_end}
use Rattle.semantics.specs.Eval.{Event, Outcome, Ended, Needs, eval}
use Rattle.semantics.specs.Table.{row, worked}
use Rattle.semantics.specs.Match.{matches}
use Rattle.worked_rows.specs.Sample.{apply, blank, cells, cells_in, condition, equals, f', i', in_cell, in_item, int, list, lock', names, numbers, of, plus, replacing, rule, stopped, sym, symbol_of_row, usual, value, x', y'}

throwing : Tree → Tree
throwing e = of Builtin.Throw (e ∷ [])

catching : Tree → Tree
catching e = of Builtin.Catch (e ∷ [])

thrown : Tree → Outcome
thrown v = Ended (Thrown v)

-- Catch[Do[If[i > 3, Throw[i]], {i, 10}]]; Throw[5]
a_catch_gives_what_was_thrown :
    cells (
    catching (of Builtin.Do (of Builtin.If (of Builtin.Greater (i' ∷ int 3 ∷ []) ∷ throwing i' ∷ []) ∷ list (i' ∷ int 10 ∷ []) ∷ []))
    ∷ throwing (int 5) ∷ [])
    ≡ value (int 4)
    ∷ thrown (int 5) ∷ []
unfolding throwing catching thrown eval row worked
a_catch_gives_what_was_thrown = refl

-- y = 1; Catch[Block[{y = 2}, Throw[y]]]; y; Block[{y = 3}, Throw[y]]; y
block_puts_back_after_a_throw :
    cells (
    equals y' (int 1)
    ∷ catching (of Builtin.Block (list (equals y' (int 2) ∷ []) ∷ throwing y' ∷ []))
    ∷ y'
    ∷ of Builtin.Block (list (equals y' (int 3) ∷ []) ∷ throwing y' ∷ [])
    ∷ y' ∷ [])
    ≡ value (int 1)
    ∷ value (int 2)
    ∷ value (int 1)
    ∷ thrown (int 3)
    ∷ value (int 1) ∷ []
unfolding throwing catching thrown eval row worked
block_puts_back_after_a_throw = refl

-- f[1] /. f[x_] /; Throw[x] -> 2, by itself and inside Catch
a_guard_throws :
    cells (
    replacing (apply f' (int 1)) (rule (condition (apply f' (blank x')) (throwing x')) (int 2))
    ∷ catching (replacing (apply f' (int 1)) (rule (condition (apply f' (blank x')) (throwing x')) (int 2))) ∷ [])
    ≡ thrown (int 1)
    ∷ value (int 1) ∷ []
unfolding throwing catching thrown eval row worked matches
a_guard_throws = refl

-- Catch[{Catch[Throw[1]], Throw[2], Throw[3]}]; {Catch[Throw[1]]}
the_nearest_catch_takes_it :
    cells (catching (of Builtin.List (catching (throwing (int 1)) ∷ throwing (int 2) ∷ throwing (int 3) ∷ [])) ∷ of Builtin.List (catching (throwing (int 1)) ∷ []) ∷ [])
    ≡ value (int 2)
    ∷ value (numbers (1 ∷ [])) ∷ []
unfolding throwing catching eval row worked
the_nearest_catch_takes_it = refl

-- Catch[1 + 1]; Catch[]; Catch[1, 2]; Throw[]; Throw[1, 2]
without_a_throw :
    cells (
    catching (plus (int 1) (int 1))
    ∷ of Builtin.Catch []
    ∷ of Builtin.Catch (int 1 ∷ int 2 ∷ [])
    ∷ of Builtin.Throw []
    ∷ of Builtin.Throw (int 1 ∷ int 2 ∷ []) ∷ [])
    ≡ value (int 2)
    ∷ value (of Builtin.Catch [])
    ∷ value (of Builtin.Catch (int 1 ∷ int 2 ∷ []))
    ∷ value (of Builtin.Throw [])
    ∷ value (of Builtin.Throw (int 1 ∷ int 2 ∷ [])) ∷ []
unfolding catching eval row worked
without_a_throw = refl

-- ---- limits

with_limits : ℕ → ℕ → Limits
with_limits passes steps = record { recursion = 10; iteration = passes; steps = steps; size = 20; depth = 10 }

steps_of : Tree → ℕ
steps_of e = (eval (in_cell usual) empty e []).steps

-- Throw[1] is one step, in whatever it stands; Catch[Throw[1]] is two, and Catch[1] is one
a_throw_is_a_step :
    (steps_of (throwing (int 1)) ∷ steps_of (list (plus (int 1) (throwing (int 1)) ∷ [])) ∷ steps_of (catching (throwing (int 1))) ∷ steps_of (catching (int 1)) ∷ [])
    ≡ 1 ∷ 1 ∷ 2 ∷ 1 ∷ []
unfolding throwing catching steps_of eval row worked
a_throw_is_a_step = refl

no_step_is_left :
    cells_in (with_limits 10 1) (throwing (int 1) ∷ throwing (plus (int 1) (int 1)) ∷ catching (throwing (int 1)) ∷ [])
    ≡ thrown (int 1)
    ∷ stopped Stop.Steps
    ∷ stopped Stop.Steps ∷ []
unfolding throwing catching thrown with_limits eval row worked
no_step_is_left = refl

-- with one changing pass: Throw[1]; If[True, Throw[1]], where the second pass throws; List[Throw[1]], where the passes round it are not changed by it
no_pass_is_left :
    cells_in (with_limits 1 10) (
    throwing (int 1)
    ∷ of Builtin.If (symbol_of_row Builtin.True ∷ throwing (int 1) ∷ [])
    ∷ catching (of Builtin.If (symbol_of_row Builtin.True ∷ throwing (int 1) ∷ []))
    ∷ list (throwing (int 1) ∷ []) ∷ [])
    ≡ thrown (int 1)
    ∷ stopped Stop.Iteration
    ∷ stopped Stop.Iteration
    ∷ thrown (int 1) ∷ []
unfolding throwing catching thrown with_limits eval row worked
no_pass_is_left = refl

-- Catch[2^200]
a_stop_passes_through : cells (catching (of Builtin.Power (int 2 ∷ int 200 ∷ [])) ∷ []) ≡ stopped Stop.Range ∷ []
unfolding catching eval row worked
a_stop_passes_through = refl

-- ---- sections and Quit

item : Tree → List Event → Outcome
item e events = (eval in_item empty e events).outcome

entered : Event
entered = record { call = Enter (sym 25 ∷ []); reply = Replied (symbol_of_row Builtin.Null); after = empty }

left : Event
left = record { call = Leave; reply = Replied (symbol_of_row Builtin.Null); after = empty }

-- CriticalSection[{lock}, e]
section : Tree → Tree
section e = of Builtin.CriticalSection (list (lock' ∷ []) ∷ e ∷ [])

a_throw_leaves_the_section : item (section (throwing (int 1))) (entered ∷ []) ≡ Needs Leave
unfolding throwing section item entered eval row
a_throw_leaves_the_section = refl

it_passes_outwards : (item (section (throwing (int 1))) (entered ∷ left ∷ []) ∷ item (catching (section (throwing (int 1)))) (entered ∷ left ∷ []) ∷ []) ≡ thrown (int 1) ∷ value (int 1) ∷ []
unfolding throwing catching thrown section item entered left eval row
it_passes_outwards = refl

-- CriticalSection[{lock}, Catch[Throw[1]] + 1]
a_catch_within_it : item (section (plus (catching (throwing (int 1))) (int 1))) (entered ∷ left ∷ []) ≡ value (int 2)
unfolding throwing catching section item entered left eval row worked
a_catch_within_it = refl

-- Catch[Quit[]]
quit_passes_through : item (catching (of Builtin.Quit [])) [] ≡ Ended Quit
unfolding catching item eval row
quit_passes_through = refl

-- ---- what is shown

-- Hold[Throw[5]], which has three nodes and depth 3
an_uncaught_throw_is_shown :
    (shown_end names usual (Thrown (int 5)) ∷ shown_end names (record usual { size = 3 }) (Thrown (int 5)) ∷ shown_end names (record usual { size = 2 }) (Thrown (int 5))
    ∷ shown_end names (record usual { depth = 3 }) (Thrown (int 5)) ∷ shown_end names (record usual { depth = 2 }) (Thrown (int 5)) ∷ [])
    ≡ of Builtin.Hold (throwing (int 5) ∷ [])
    ∷ of Builtin.Hold (throwing (int 5) ∷ [])
    ∷ symbol_of_row Builtin.Aborted
    ∷ of Builtin.Hold (throwing (int 5) ∷ [])
    ∷ symbol_of_row Builtin.Aborted ∷ []
unfolding throwing
an_uncaught_throw_is_shown = refl
