use Rattle.std.proofs.Common.{◌≡◌, ◌+◌, ◌*◌, false, drop, take}
use Rattle.std.specs.Prelude.{unwrap_or}
use Rattle.semantics.specs.Assemble.{ask_items}
use Rattle.semantics.specs.Pass.{up_rules}
use Rattle.semantics.specs.Program.{Prog}
use Rattle.builtin_names.specs.Attributes.{attributes_in}
use Rattle.evaluation_steps.specs.Words.{Led, Reached}
use Rattle.evaluation_steps.specs.Passed.{Passed}
use Rattle.eval_seq.specs.Outward.{Faces, Guarded}
use Rattle.machine_steps.specs.Setup.{state_of}
use Rattle.eval_seq.specs.Setup.{names_under, setting_in}
use Rattle.eval_seq.specs.declared.machine.Start.{Start}
use Rattle.eval_seq.specs.Driven.{driven}
use Rattle.eval_seq.specs.Sequence.{asking}
use Rattle.machine_rows.specs.Machines.{left, questions}
use Rattle.eval_seq.proofs.evaluate.+evaluate.Given as goal

abbrev pub decreases-evaluate : goal.decreases-evaluate
decreases-evaluate g l = 20 * l.room.left + 0

abbrev pub decreases-value_of : goal.decreases-value_of
decreases-value_of g l = 20 * l.room.left + 1

abbrev pub decreases-element : goal.decreases-element
decreases-element g l = 20 * l.room.left + 1

abbrev pub decreases-elements : goal.decreases-elements
decreases-elements g l = 20 * l.room.left + 2

abbrev pub decreases-values : goal.decreases-values
decreases-values g l = 20 * l.room.left + 3

abbrev pub decreases-value_within : goal.decreases-value_within
decreases-value_within g l = 20 * l.room.left + 2

abbrev pub decreases-value_inside : goal.decreases-value_inside
decreases-value_inside g l = 20 * l.room.left + 2

abbrev pub decreases-value_locked : goal.decreases-value_locked
decreases-value_locked g l = 20 * l.room.left + 3

abbrev pub decreases-follow : goal.decreases-follow
decreases-follow g l = 20 * l.room.left + 4

abbrev pub decreases-perform : goal.decreases-perform
decreases-perform g l = 20 * l.room.left + 5

abbrev pub decreases-drive : goal.decreases-drive
decreases-drive g l = 20 * l.room.left + 6

abbrev pub decreases-symbol_rules : goal.decreases-symbol_rules
decreases-symbol_rules g l = 20 * l.room.left + 7

abbrev pub decreases-element_rules : goal.decreases-element_rules
decreases-element_rules g l = 20 * l.room.left + 8

abbrev pub decreases-up_steps : goal.decreases-up_steps
decreases-up_steps g l = 20 * l.room.left + 9

abbrev pub decreases-down_steps : goal.decreases-down_steps
decreases-down_steps g l = 20 * l.room.left + 7

abbrev pub decreases-call_steps : goal.decreases-call_steps
decreases-call_steps g l = 20 * l.room.left + 10

abbrev pub decreases-last_steps : goal.decreases-last_steps
decreases-last_steps g l = 20 * l.room.left + 11

abbrev pub decreases-later : goal.decreases-later
decreases-later g l = 20 * l.room.left + 12

abbrev pub decreases-settled : goal.decreases-settled
decreases-settled g l = 20 * l.room.left + 11

abbrev pub decreases-changed : goal.decreases-changed
decreases-changed g l = 20 * l.room.left + 13

abbrev pub decreases-normal : goal.decreases-normal
decreases-normal g l = 20 * l.room.left + 14

abbrev pub decreases-pass : goal.decreases-pass
decreases-pass g l = 20 * l.room.left + 15

abbrev pub decreases-pass_or_throw : goal.decreases-pass_or_throw
decreases-pass_or_throw g l = 20 * l.room.left + 16

abbrev pub decreases-turn : goal.decreases-turn
decreases-turn g l = 20 * l.room.left + 17

abbrev pub decreases-settle_rest : goal.decreases-settle_rest
decreases-settle_rest g l = 20 * l.room.left + 18

abbrev pub decreases-settle : goal.decreases-settle
decreases-settle g l = 20 * l.room.left + 19

abbrev pub invariant-settle_rest-passes : goal.invariant-settle_rest-passes
invariant-settle_rest-passes g l = record {
  passed : Passed (Guarded g.U.Upcall.step g.U.Upcall.ready g.U.Upcall.names g.U.Upcall.mode g.U.Upcall.is_open) (setting_in l.room) l.room.left l.fn.changes l.fn.e l.fn.up (state_of l.fn.state) l.changes l.e (state_of l.state) l.up;
  ready : Faces g.U.Upcall.ready g.U.Upcall.names g.U.Upcall.mode g.U.Upcall.is_open (setting_in l.room) l.state.open_section l.up;
}

abbrev pub decreases-settle_rest-passes : goal.decreases-settle_rest-passes
decreases-settle_rest-passes g l = l.changes

abbrev pub invariant-elements-loop-i : goal.invariant-elements-loop-i
invariant-elements-loop-i g l = record {
  led : Led (Guarded g.U.Upcall.step g.U.Upcall.ready g.U.Upcall.names g.U.Upcall.mode g.U.Upcall.is_open) (setting_in l.room) l.room.left (ask_items (names_under l.room) (attributes_in l.attrs) l.items) l.fn.up (state_of l.fn.state)
      (asking (names_under l.room) (attributes_in l.attrs) l.held (drop l.i l.items) (unwrap_or l.values (take l.i l.items))) (state_of l.state) l.up;
  ready : Faces g.U.Upcall.ready g.U.Upcall.names g.U.Upcall.mode g.U.Upcall.is_open (setting_in l.room) l.state.open_section l.up;
}

abbrev pub invariant-up_steps-loop-item : goal.invariant-up_steps-loop-item
invariant-up_steps-loop-item g l = record {
  led : (rest : Prog) → Reached (Guarded g.U.Upcall.step g.U.Upcall.ready g.U.Upcall.names g.U.Upcall.mode g.U.Upcall.is_open) (setting_in l.room) l.room.left (up_rules (names_under l.room) l.items l.whole rest) l.fn.up (state_of l.fn.state)
      (up_rules (names_under l.room) (drop l.item-index l.items) l.whole rest) (state_of l.state) l.up;
  free : l.attrs.hold_all_complete ≡ false;
  ready : Faces g.U.Upcall.ready g.U.Upcall.names g.U.Upcall.mode g.U.Upcall.is_open (setting_in l.room) l.state.open_section l.up;
}

abbrev pub invariant-perform-steps : goal.invariant-perform-steps
invariant-perform-steps g l = record {
  led : (stay : Prog) → Reached (Guarded g.U.Upcall.step g.U.Upcall.ready g.U.Upcall.names g.U.Upcall.mode g.U.Upcall.is_open) (setting_in l.room) l.room.left (driven (names_under l.room) (Start.Machine l.fn.machine) stay) l.fn.up (state_of l.fn.state)
      (left (names_under l.room) l.frame stay l.answer) (state_of l.state) l.up;
  ready : Faces g.U.Upcall.ready g.U.Upcall.names g.U.Upcall.mode g.U.Upcall.is_open (setting_in l.room) l.state.open_section l.up;
}

abbrev pub decreases-perform-steps : goal.decreases-perform-steps
decreases-perform-steps g l = questions (names_under l.room) l.frame l.answer
