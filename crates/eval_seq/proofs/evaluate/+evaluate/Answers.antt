use Rattle.std.proofs.Common.{rules, arith, ap, Some, ◌≡◌, refl, sym, take, ◌∙◌, Ok, Err}
use Rattle.std.specs.Prelude.{unwrap_or}
use Rattle.expr_tree.specs.Tree.{call, integer, string, symbol, normal, trees}
use Rattle.semantics.specs.Program.{Done, Ask, Within, Sends}
use Rattle.builtin_names.specs.Attributes.{attributes_in}
use Rattle.builtin_names.specs.Named.{names_in}
use Rattle.builtin_names.proofs.Flags.{has_hold_all_complete}
use Rattle.frames_scope.specs.Reading.{locals_in}
use Rattle.machine_steps.specs.Outward.{request_of}
use Rattle.evaluation_steps.proofs.Laws.{led_on, passed_here, passed_on, played_done, reached_here, evaluated_out}
use Rattle.eval_seq.specs.Walks.{valued}
use Rattle.eval_seq.proofs.Walking.{evaluates_deep, evaluates_err, pass_err, pass_lost, runs_ask, runs_err, runs_err_or, runs_lost, runs_led, settles_err}
use Rattle.eval_seq.proofs.Answered.{pass_answers}
use Rattle.eval_seq.proofs.Driving.{begins_on, driven_given, driven_goes, driven_ends, driven_out, driven_halts, follows_asked, follows_asked_out, follows_within, follows_within_out, follows_turn, follows_turn_out, follows_done, follows_stays, follows_err, follows_catch, follows_catch_out, follows_section, follows_section_out, follows_call, follows_call_out, follows_throw, follows_quit, runs_turning, runs_turning_out, runs_put_back}
use Rattle.eval_seq.proofs.StepLaws.{stepped_err, begins_by, down_sent, down_value, down_out, down_on, element_none, element_some, ups_out, ups_value, ups_on, ups_done, ups_held, ups_free, finish_value, finish_out, finish_stays, later_listed, later_whole, settled_threads, settled_out, settled_listed, settled_on, call_value, call_out, call_on, stepped_last, stepped_here}
use Rattle.eval_seq.proofs.SymbolLaws.{pass_err_or, pass_lost_or}
use Rattle.eval_seq.proofs.SequenceLaws.{runs_held, runs_asked, led_asking, led_next, item_out, item_lost, items_done, head_out, items_out, values_done, values_err, splice_out, splice_on, changed_is, judged_value, judged_worn, judged_throw_out, judged_thrown, judged_out, judged_err, turn_itself, turn_same, turn_out, turn_err, turn_large, turn_worn, turn_again_out, turn_again, passed_settles, settles_err_or, evaluates_lost, normal_out, normal_on, normal_settled, pass_normal}
use Rattle.eval_seq.proofs.Readiness.{faces_left, faces_same, ready_evaluates, ready_runs, ready_turned, ready_stepped, ready_follows}
use Rattle.eval_seq.proofs.Coming.{up_comes, rules_come, row_comes, move_comes, call_comes, enter_comes, leave_comes}
use Rattle.eval_seq.proofs.Locked.{held_none, ran_inner, ran_refused, ran_not_entered, ran_stays_inside, ran_left, ran_not_left}
use Rattle.eval_seq.proofs.evaluate.+evaluate.Goals as goal

-- evaluate
pub evaluate-returns-then-room-eq0 : goal.evaluate-returns-then-room-eq0
evaluate-returns-then-room-eq0 g t c = rw c.if-room-eq0.true evaluated_out

pub evaluate-returns : goal.evaluate-returns
evaluate-returns g t c = evaluates_deep c.args.room.left (omega arith) c.settle.ensures

-- value_of
pub value_of-returns-in_err-value : goal.value_of-returns-in_err-value
value_of-returns-in_err-value g t c = evaluates_err c.from_residual.ensures.1 c.in_err-value.ensures

pub value_of-returns-in-Some : goal.value_of-returns-in-Some
value_of-returns-in-Some g t c = rw c.in-Some.is at c.in_ok-value.ensures

pub value_of-returns-in_ok-copy-in-None : goal.value_of-returns-in_ok-copy-in-None
value_of-returns-in_ok-copy-in-None g t c = rw c.in_ok-copy-in-None.ensures (rw c.in-None.is at c.in_ok-value.ensures)

pub value_of-returns-in_err-copy-in-None : goal.value_of-returns-in_err-copy-in-None
value_of-returns-in_err-copy-in-None g t c = evaluates_lost c.from_residual-in_err-copy-in-None.ensures.1 (rw c.in-None.is at c.in_ok-value.ensures)

pub value_of-evaluate-requires : goal.value_of-evaluate-requires
value_of-evaluate-requires g t c = search rules

-- settle
pub settle-returns-in_err-value : goal.settle-returns-in_err-value
settle-returns-in_err-value g t c = settles_err_or c.args.e.now c.from_residual.result c.from_residual.ensures.1 c.in_err-value.ensures.by

pub settle-returns-in_default : goal.settle-returns-in_default
settle-returns-in_default g t c = (rw c.in_default.is at c.in_ok-value.ensures).by

pub settle-returns-in_err-value-2 : goal.settle-returns-in_err-value-2
settle-returns-in_err-value-2 g t c =
    let b = rw c.in-Some.is at c.in_ok-value.ensures in
    settles_err_or c.args.e.now c.from_residual-in_err-value-2.result c.from_residual-in_err-value-2.ensures.1 (passed_settles b.by.1.0 c.in_err-value-2.ensures)

pub settle-returns : goal.settle-returns
settle-returns g t c = let b = rw c.in-Some.is at c.in_ok-value.ensures in passed_settles b.by.1.0 c.in_ok-value-2.ensures

-- settle_rest
pub settle_rest-passes-init : goal.settle_rest-passes-init
settle_rest-passes-init g t c = record { passed = passed_here; ready = c.requires }

pub settle_rest-returns-in_err-value : goal.settle_rest-returns-in_err-value
settle_rest-returns-in_err-value g t c = passed_settles c.passes.invariant.passed (settles_err c.from_residual.ensures.1 c.in_err-value.ensures.by)

pub settle_rest-returns-in_default : goal.settle_rest-returns-in_default
settle_rest-returns-in_default g t c = passed_settles c.passes.invariant.passed ((rw c.in_default.is at c.in_ok-value.ensures).by)

pub settle_rest-passes-preserved : goal.settle_rest-passes-preserved
settle_rest-passes-preserved g t c =
    let b = rw c.in-Some.is at c.in_ok-value.ensures in
    record { passed = passed_on c.passes.invariant.passed b.by.1.0; ready = ready_turned b c.passes.invariant.ready }

-- turn
pub turn-returns-in_err-value : goal.turn-returns-in_err-value
turn-returns-in_err-value g t c = turn_err c.args.changes c.args.e.now c.from_residual.ensures.1 c.in_err-value.ensures.by

pub turn-returns-in_err-check : goal.turn-returns-in_err-check
turn-returns-in_err-check g t c = turn_err c.args.changes c.args.e.now c.from_residual-in_err-check.ensures.1 (turn_large c.args.changes c.args.e.now (rw c.in_default.is at c.in_ok-value.ensures).by c.in_err-check.ensures)

pub turn-returns-in_default : goal.turn-returns-in_default
turn-returns-in_default g t c = turn_itself c.args.changes c.args.e.now (rw c.in_default.is at c.in_ok-value.ensures).by c.in_ok-check.ensures

pub turn-returns-in_err-check-2 : goal.turn-returns-in_err-check-2
turn-returns-in_err-check-2 g t c = turn_err c.args.changes c.args.e.now c.from_residual-in_err-check-2.ensures.1 (turn_large c.args.changes c.args.e.now (rw c.in-Some.is at c.in_ok-value.ensures).by c.in_err-check-2.ensures)

pub turn-returns-then-equals : goal.turn-returns-then-equals
turn-returns-then-equals g t c = turn_same c.args.changes c.args.e.now (rw c.in-Some.is at c.in_ok-value.ensures).by c.in_ok-check-2.ensures (sym c.equals.ensures ∙ c.if-equals.true)

pub turn-returns-then-changes-eq0 : goal.turn-returns-then-changes-eq0
turn-returns-then-changes-eq0 g t c =
    turn_out c.args.changes c.args.e.now
    (turn_worn c.args.changes c.args.e.now c.if-changes-eq0.true (rw c.in-Some.is at c.in_ok-value.ensures).by c.in_ok-check-2.ensures (sym c.equals.ensures ∙ c.if-equals.false))

pub turn-returns-in_err-count : goal.turn-returns-in_err-count
turn-returns-in_err-count g t c =
    turn_err c.args.changes c.args.e.now c.from_residual-in_err-count.ensures.1
    (rw c.in_err-count.ensures.rest (turn_again_out c.args.changes c.args.e.now (omega arith) (rw c.in-Some.is at c.in_ok-value.ensures).by c.in_ok-check-2.ensures (sym c.equals.ensures ∙ c.if-equals.false) c.in_err-count.ensures.steps))

pub turn-returns : goal.turn-returns
turn-returns g t c =
    rw c.in_ok-count.ensures.rest (turn_again c.args.changes c.args.e.now (omega arith) (rw c.in-Some.is at c.in_ok-value.ensures).by c.in_ok-check-2.ensures (sym c.equals.ensures ∙ c.if-equals.false) c.in_ok-count.ensures.steps)

-- pass_or_throw
pub pass_or_throw-returns-in-Ok : goal.pass_or_throw-returns-in-Ok
pass_or_throw-returns-in-Ok g t c = judged_value c.args.changes c.args.e.now c.pass.result c.in-Ok.is c.pass.ensures

pub pass_or_throw-returns-then-changes-eq0 : goal.pass_or_throw-returns-then-changes-eq0
pass_or_throw-returns-then-changes-eq0 g t c =
    judged_worn c.args.changes c.args.e.now c.in-Err.exit c.if-changes-eq0.true (sym c.thrown_by.ensures ∙ c.in-Ok-thrown_by.is) (rw c.in-Err.is at c.pass.ensures)

pub pass_or_throw-returns-in_err-count-in-Ok-thrown_by : goal.pass_or_throw-returns-in_err-count-in-Ok-thrown_by
pass_or_throw-returns-in_err-count-in-Ok-thrown_by g t c =
    judged_err c.args.changes c.args.e.now c.from_residual.result c.from_residual.ensures.1
    (rw c.in_err-count-in-Ok-thrown_by.ensures.rest (judged_throw_out c.args.changes c.args.e.now c.in-Err.exit (omega arith) (sym c.thrown_by.ensures ∙ c.in-Ok-thrown_by.is) (rw c.in-Err.is at c.pass.ensures) c.in_err-count-in-Ok-thrown_by.ensures.steps))

pub pass_or_throw-returns-in_ok-count-in-Ok-thrown_by : goal.pass_or_throw-returns-in_ok-count-in-Ok-thrown_by
pass_or_throw-returns-in_ok-count-in-Ok-thrown_by g t c =
    rw c.in_ok-count-in-Ok-thrown_by.ensures.rest (judged_thrown c.args.changes c.args.e.now c.in-Err.exit (omega arith) (sym c.thrown_by.ensures ∙ c.in-Ok-thrown_by.is) (rw c.in-Err.is at c.pass.ensures) c.in_ok-count-in-Ok-thrown_by.ensures.steps)

pub pass_or_throw-returns-in-Err-thrown_by : goal.pass_or_throw-returns-in-Err-thrown_by
pass_or_throw-returns-in-Err-thrown_by g t c = judged_out c.args.changes c.args.e.now c.in-Err.exit (sym c.thrown_by.ensures ∙ c.in-Err-thrown_by.is) (rw c.in-Err.is at c.pass.ensures)

-- pass
pub pass-returns-in-Int : goal.pass-returns-in-Int
pass-returns-in-Int g t c = let e : c.args.e.now ≡ integer c.in-Int.field-0 = search rules in rw e (valued played_done)

pub pass-returns-in-Str : goal.pass-returns-in-Str
pass-returns-in-Str g t c = let e : c.args.e.now ≡ string c.in-Str.field-0 = search rules in rw e (valued played_done)

pub pass-returns-in-Symbol : goal.pass-returns-in-Symbol
pass-returns-in-Symbol g t c = let e : c.args.e.now ≡ symbol c.in-Symbol.symbol = search rules in rw e (c.own.ensures c.args.room.left)

pub pass-returns-in-Normal : goal.pass-returns-in-Normal
pass-returns-in-Normal g t c =
    let e : c.args.e.now ≡ normal c.in-Normal.head.value (trees c.in-Normal.items) = search rules in
    pass_normal c.args.e.now c.in-Normal.head.value c.deref.result.now c.in-Normal.items e c.deref.ensures c.normal.ensures

-- normal
pub normal-values-requires : goal.normal-values-requires
normal-values-requires g t c = let ready = c.requires.faces in search (rules, ready)

pub normal-settled-requires : goal.normal-settled-requires
normal-settled-requires g t c =
    let ready = ready_runs c.in_ok-values.ensures c.requires.faces in
    let whole = c.requires.whole in
    let settled = rw c.as_slice-slice.ensures at (c.is_settled.ensures.settled c.if-is_settled.true) in
    search (rules, ready, whole, settled)

pub normal-changed-requires : goal.normal-changed-requires
normal-changed-requires g t c = let ready = ready_runs c.in_ok-values.ensures c.requires.faces in search (rules, ready)

pub normal-returns-in_err-values : goal.normal-returns-in_err-values
normal-returns-in_err-values g t c =
    pass_err_or c.args.whole.now c.from_residual.result c.from_residual.ensures.1 (normal_out c.args.head.now c.as_slice-slice.ensures c.in_err-values.ensures)

pub normal-returns-then-is_settled : goal.normal-returns-then-is_settled
normal-returns-then-is_settled g t c =
    normal_settled c.args.head.now c.in_ok-values.values c.as_slice-slice.ensures c.in_ok-values.ensures (c.is_settled.ensures.same c.if-is_settled.true) c.settled.ensures

pub normal-returns-in_err-value : goal.normal-returns-in_err-value
normal-returns-in_err-value g t c =
    pass_err_or c.args.whole.now c.from_residual-in_err-value.result c.from_residual-in_err-value.ensures.1
    (normal_on c.args.head.now c.in_ok-values.values c.as_slice-slice.ensures c.in_ok-values.ensures c.in_err-value.ensures)

pub normal-returns : goal.normal-returns
normal-returns g t c = normal_on c.args.head.now c.in_ok-values.values c.as_slice-slice.ensures c.in_ok-values.ensures c.in_ok-value.ensures

-- values
pub values-elements-requires : goal.values-elements-requires
values-elements-requires g t c = let ready = ready_evaluates c.in_ok-new.ensures c.requires in search (rules, ready)

pub values-returns-in_err-new : goal.values-returns-in_err-new
values-returns-in_err-new g t c =
    values_err c.args.head.now c.args.items.now c.from_residual.result c.from_residual.ensures.1 (head_out c.args.head.now c.args.items.now c.in_err-new.ensures)

pub values-returns-in_err-items : goal.values-returns-in_err-items
values-returns-in_err-items g t c =
    values_err c.args.head.now c.args.items.now c.from_residual-in_err-items.result c.from_residual-in_err-items.ensures.1
    (items_out c.args.head.now c.args.items.now c.in_ok-new.ensures (rw c.new_or_old.ensures at c.attrs_under-attrs.ensures) c.in_err-items.ensures)

pub values-returns : goal.values-returns
values-returns g t c = values_done c.args.head.now c.args.items.now c.in_ok-new.ensures (rw c.new_or_old.ensures at c.attrs_under-attrs.ensures) c.in_ok-items.ensures

-- elements
pub elements-loop-i-init : goal.elements-loop-i-init
elements-loop-i-init g t c = record { led = rw c.holds_first-held.ensures (led_asking (attributes_in c.args.attrs.now) c.args.items.now); ready = c.requires }

pub elements-returns-in_err-value : goal.elements-returns-in_err-value
elements-returns-in_err-value g t c =
    runs_led c.loop-i.invariant.led
    (runs_err_or c.args.items.now c.from_residual.result c.from_residual.ensures.1
    (item_out (attributes_in c.args.attrs.now) c.loop-i.held c.args.items.now c.loop-i.i c.index-items-i.result (unwrap_or c.loop-i.values (take c.loop-i.i c.args.items.now)) c.loop-i-test.true c.index-items-i.is c.in_err-value.ensures))

pub elements-returns-in_err-values : goal.elements-returns-in_err-values
elements-returns-in_err-values g t c =
    runs_led c.loop-i.invariant.led
    (runs_err_or c.args.items.now c.from_residual-in_err-values.result c.from_residual-in_err-values.ensures.1
    (item_lost (attributes_in c.args.attrs.now) c.loop-i.held c.args.items.now c.loop-i.i c.index-items-i.result (unwrap_or c.loop-i.values (take c.loop-i.i c.args.items.now)) c.loop-i-test.true c.index-items-i.is c.in_ok-value.ensures))

pub elements-loop-i-preserved : goal.elements-loop-i-preserved
elements-loop-i-preserved g t c = record {
  led = led_on c.loop-i.invariant.led
      (rw c.holds_rest-held.ensures
      (led_next (attributes_in c.args.attrs.now) c.loop-i.held c.args.items.now c.loop-i.i c.index-items-i.result c.loop-i.values c.in_ok-values.values c.in_ok-value.value c.loop-i-test.true c.index-items-i.is c.in_ok-values.ensures c.in_ok-value.ensures));
  ready = ready_runs c.in_ok-value.ensures c.loop-i.invariant.ready;
}

pub elements-element-requires : goal.elements-element-requires
elements-element-requires g t c = let ready = c.loop-i.invariant.ready in search (rules, ready)

pub elements-returns : goal.elements-returns
elements-returns g t c = runs_led c.loop-i.invariant.led (items_done (attributes_in c.args.attrs.now) c.loop-i.held c.args.items.now c.loop-i.i c.loop-i.values c.loop-i-test.false)

-- element
pub element-returns-then-not-is_asked : goal.element-returns-then-not-is_asked
element-returns-then-not-is_asked g t c = runs_held (attributes_in c.args.attrs.now) c.args.held c.args.item.now (sym c.if-not-is_asked.ensures) refl

pub element-returns : goal.element-returns
element-returns g t c = runs_asked (attributes_in c.args.attrs.now) c.args.held c.args.item.now (sym c.if-not-is_asked.ensures) c.evaluate.ensures

-- settled
pub settled-returns-in_err-check : goal.settled-returns-in_err-check
settled-returns-in_err-check g t c =
    pass_err_or c.args.whole.now c.from_residual.result c.from_residual.ensures.1
    (settled_out c.args.head.now (attributes_in c.args.attrs.now) c.args.items.now c.args.whole.now c.requires.settled c.requires.whole c.in_err-check.ensures)

pub settled-returns-in_err-each : goal.settled-returns-in_err-each
settled-returns-in_err-each g t c = pass_lost_or c.args.whole.now c.from_residual-in_err-each.result c.from_residual-in_err-each.ensures.1

pub settled-returns-in-Ok : goal.settled-returns-in-Ok
settled-returns-in-Ok g t c =
    settled_listed c.args.head.now (attributes_in c.args.attrs.now) c.args.items.now c.args.whole.now c.in-Some.each c.requires.settled c.requires.whole c.in_ok-check.ensures
    (settled_threads (names_in c.args.room.scene.now.names.now) c.args.head.now (attributes_in c.args.attrs.now) c.as_slice.ensures c.in_ok-each.ensures c.in-Some.is) (pass_answers (Ok c.in-Ok.value) c.in-Ok.ensures)

pub settled-returns-in-Err : goal.settled-returns-in-Err
settled-returns-in-Err g t c =
    settled_listed c.args.head.now (attributes_in c.args.attrs.now) c.args.items.now c.args.whole.now c.in-Some.each c.requires.settled c.requires.whole c.in_ok-check.ensures
    (settled_threads (names_in c.args.room.scene.now.names.now) c.args.head.now (attributes_in c.args.attrs.now) c.as_slice.ensures c.in_ok-each.ensures c.in-Some.is) (rw c.from.ensures (pass_answers (Err c.in-Err.halt) c.in-Err.ensures))

pub settled-returns-in-None : goal.settled-returns-in-None
settled-returns-in-None g t c =
    settled_on c.args.head.now (attributes_in c.args.attrs.now) c.args.items.now c.args.whole.now c.call_steps.result c.requires.settled c.requires.whole c.in_ok-check.ensures
    (settled_threads (names_in c.args.room.scene.now.names.now) c.args.head.now (attributes_in c.args.attrs.now) c.as_slice.ensures c.in_ok-each.ensures c.in-None.is) c.call_steps.ensures

-- changed
pub changed-returns-in_err-head : goal.changed-returns-in_err-head
changed-returns-in_err-head g t c = pass_lost c.from_residual.ensures.1

pub changed-returns-in_err-items : goal.changed-returns-in_err-items
changed-returns-in_err-items g t c = pass_lost c.from_residual-in_err-items.ensures.1

pub changed-returns-in_err-items-2 : goal.changed-returns-in_err-items-2
changed-returns-in_err-items-2 g t c = pass_lost c.from_residual-in_err-items-2.ensures.1

pub changed-returns-in_err-check_call : goal.changed-returns-in_err-check_call
changed-returns-in_err-check_call g t c =
    pass_err c.from_residual-in_err-check_call.ensures.1
    (changed_is c.args.head.now c.args.items.now c.args.values c.in_ok-head.ensures c.in_ok-items.ensures
    (splice_out c.in_ok-head.head (attributes_in c.args.values.attrs) c.in_ok-items.items c.in_ok-items-2.ensures (rw c.as_slice.ensures at c.in_err-check_call.ensures)))

pub changed-returns : goal.changed-returns
changed-returns g t c =
    changed_is c.args.head.now c.args.items.now c.args.values c.in_ok-head.ensures c.in_ok-items.ensures
    (splice_on c.in_ok-head.head (attributes_in c.args.values.attrs) c.in_ok-items.items c.in_ok-items-2.ensures (rw c.as_slice.ensures at c.in_ok-check_call.ensures) c.later.ensures)

-- what each call needs
pub evaluate-settle-requires : goal.evaluate-settle-requires
evaluate-settle-requires g t c = search rules

pub settle-turn-requires : goal.settle-turn-requires
settle-turn-requires g t c = search rules

pub settle-settle_rest-requires : goal.settle-settle_rest-requires
settle-settle_rest-requires g t c = let ready = ready_turned (rw c.in-Some.is at c.in_ok-value.ensures) c.requires in search (rules, ready)

pub settle_rest-turn-requires : goal.settle_rest-turn-requires
settle_rest-turn-requires g t c = let ready = c.passes.invariant.ready in search (rules, ready)

pub turn-pass_or_throw-requires : goal.turn-pass_or_throw-requires
turn-pass_or_throw-requires g t c = search rules

pub pass-own-requires : goal.pass-own-requires
pass-own-requires g t c = search rules

pub settle-overflow_sub-changes : goal.settle-overflow_sub-changes
settle-overflow_sub-changes g t c = let b = rw c.in-Some.is at c.in_ok-value.ensures in let some = b.by.0 in omega (arith, some)

pub settle_rest-overflow_sub-changes : goal.settle_rest-overflow_sub-changes
settle_rest-overflow_sub-changes g t c = let b = rw c.in-Some.is at c.in_ok-value.ensures in let some = b.by.0 in omega (arith, some)

pub settle_rest-passes-smaller : goal.settle_rest-passes-smaller
settle_rest-passes-smaller g t c = let b = rw c.in-Some.is at c.in_ok-value.ensures in let some = b.by.0 in omega (arith, some)

-- later
pub later-returns-in_err-each : goal.later-returns-in_err-each
later-returns-in_err-each g t c = pass_lost c.from_residual.ensures.1

pub later-returns-in-Ok : goal.later-returns-in-Ok
later-returns-in-Ok g t c =
    later_listed c.args.first.head (attributes_in c.args.first.attrs) c.args.first.items c.in-Threaded.each (rw c.in-Threaded.is at c.in_ok-each.ensures) (pass_answers (Ok c.in-Ok.value) c.in-Ok.ensures)

pub later-returns-in-Err : goal.later-returns-in-Err
later-returns-in-Err g t c =
    later_listed c.args.first.head (attributes_in c.args.first.attrs) c.args.first.items c.in-Threaded.each (rw c.in-Threaded.is at c.in_ok-each.ensures) (rw c.from.ensures (pass_answers (Err c.in-Err.halt) c.in-Err.ensures))

pub later-returns-in_err-value-in-Call : goal.later-returns-in_err-value-in-Call
later-returns-in_err-value-in-Call g t c =
    let h = rw c.in-Call.is at c.in_ok-each.ensures in
    later_whole c.args.first.head (attributes_in c.args.first.attrs) c.args.first.items c.in-Call.whole (unwrap_or c.in-Call.standing c.in-Call.whole) h.0 h.1 h.2
    (finish_out (Done (unwrap_or c.in-Call.standing c.in-Call.whole)) c.from_residual-in_err-value-in-Call.result c.from_residual-in_err-value-in-Call.ensures.1 c.in_err-value-in-Call.ensures)

pub later-returns-in-Some : goal.later-returns-in-Some
later-returns-in-Some g t c =
    let h = rw c.in-Call.is at c.in_ok-each.ensures in
    later_whole c.args.first.head (attributes_in c.args.first.attrs) c.args.first.items c.in-Call.whole (unwrap_or c.in-Call.standing c.in-Call.whole) h.0 h.1 h.2
    (finish_value (Done (unwrap_or c.in-Call.standing c.in-Call.whole)) (rw c.in-Some.is at c.in_ok-value-in-Call.ensures))

pub later-returns-in-None : goal.later-returns-in-None
later-returns-in-None g t c =
    let h = rw c.in-Call.is at c.in_ok-each.ensures in
    later_whole c.args.first.head (attributes_in c.args.first.attrs) c.args.first.items c.in-Call.whole (unwrap_or c.in-Call.standing c.in-Call.whole) h.0 h.1 h.2
    (finish_stays c.unwrap_or.ensures (rw c.in-None.is at c.in_ok-value-in-Call.ensures))

pub later-last_steps-requires : goal.later-last_steps-requires
later-last_steps-requires g t c = search rules

-- last_steps
pub last_steps-returns-in-Normal : goal.last_steps-returns-in-Normal
last_steps-returns-in-Normal g t c =
    let e : c.args.whole.now ≡ normal c.in-Normal.head.value (trees c.in-Normal.items) = search rules in
    stepped_last (attributes_in c.args.attrs.now) c.in-Normal.head.value c.in-Normal.items _ c.args.whole.now e c.deref.ensures c.call_steps.ensures

pub last_steps-returns-in-Int : goal.last_steps-returns-in-Int
last_steps-returns-in-Int g t c = let e : c.args.whole.now ≡ integer c.in-Int.field-0 = search rules in rw e stepped_here

pub last_steps-returns-in-Str : goal.last_steps-returns-in-Str
last_steps-returns-in-Str g t c = let e : c.args.whole.now ≡ string c.in-Str.field-0 = search rules in rw e stepped_here

pub last_steps-returns-in-Symbol : goal.last_steps-returns-in-Symbol
last_steps-returns-in-Symbol g t c = let e : c.args.whole.now ≡ symbol c.in-Symbol.field-0 = search rules in rw e stepped_here

pub last_steps-call_steps-requires : goal.last_steps-call_steps-requires
last_steps-call_steps-requires g t c =
    let e : c.args.whole.now ≡ call c.in-Normal.head.value c.in-Normal.items = search rules in
    let whole : c.args.whole.now ≡ call c.deref.result.now c.in-Normal.items = rw c.deref.ensures e in
    search (rules, whole)

-- call_steps
pub call_steps-returns-in_err-value : goal.call_steps-returns-in_err-value
call_steps-returns-in_err-value g t c =
    stepped_err c.from_residual.ensures.1 (call_out (attributes_in c.args.attrs.now) c.args.head.now c.args.items.now c.args.whole.now c.in_err-value.ensures)

pub call_steps-returns-in-Some : goal.call_steps-returns-in-Some
call_steps-returns-in-Some g t c =
    call_value (attributes_in c.args.attrs.now) c.args.head.now c.args.items.now c.args.whole.now (rw c.in-Some.is at c.in_ok-value.ensures)

pub call_steps-returns : goal.call_steps-returns
call_steps-returns g t c =
    call_on (attributes_in c.args.attrs.now) c.args.head.now c.args.items.now c.args.whole.now (rw c.in_default.is at c.in_ok-value.ensures) c.down_steps.ensures

pub call_steps-up_steps-requires : goal.call_steps-up_steps-requires
call_steps-up_steps-requires g t c = search rules

pub call_steps-down_steps-requires : goal.call_steps-down_steps-requires
call_steps-down_steps-requires g t c =
    let ready = ready_stepped (rw c.in_default.is at c.in_ok-value.ensures) c.requires.faces in
    let whole = c.requires.whole in
    search (rules, ready, whole)

-- up_steps
pub up_steps-returns-then-attrs : goal.up_steps-returns-then-attrs
up_steps-returns-then-attrs g t c = ups_held (attributes_in c.args.attrs.now) c.args.items.now c.args.whole.now (has_hold_all_complete c.args.attrs.now ∙ c.if-attrs.true)

pub up_steps-loop-item-init : goal.up_steps-loop-item-init
up_steps-loop-item-init g t c = record { led = λ rest. reached_here; free = c.if-attrs.false; ready = c.requires }

pub up_steps-returns-in_err-value : goal.up_steps-returns-in_err-value
up_steps-returns-in_err-value g t c =
    stepped_err c.from_residual.ensures.1
    (ups_free (attributes_in c.args.attrs.now) c.args.items.now c.args.whole.now (has_hold_all_complete c.args.attrs.now ∙ c.loop-item.invariant.free)
    (ups_out c.args.items.now c.loop-item.item-index c.item-item.result c.args.whole.now (rw c.as_slice-item-items.ensures at c.loop-item-test.true) (rw c.as_slice-item-items.ensures at c.item-item.is) c.loop-item.invariant.led c.in_err-value.ensures))

pub up_steps-returns-in-Some : goal.up_steps-returns-in-Some
up_steps-returns-in-Some g t c =
    ups_free (attributes_in c.args.attrs.now) c.args.items.now c.args.whole.now (has_hold_all_complete c.args.attrs.now ∙ c.loop-item.invariant.free)
    (ups_value c.args.items.now c.loop-item.item-index c.item-item.result c.args.whole.now (rw c.as_slice-item-items.ensures at c.loop-item-test.true) (rw c.as_slice-item-items.ensures at c.item-item.is) c.loop-item.invariant.led (rw c.in-Some.is at c.in_ok-value.ensures))

pub up_steps-loop-item-preserved : goal.up_steps-loop-item-preserved
up_steps-loop-item-preserved g t c = record {
  led = ups_on c.args.items.now c.loop-item.item-index c.item-item.result c.args.whole.now (rw c.as_slice-item-items.ensures at c.loop-item-test.true) (rw c.as_slice-item-items.ensures at c.item-item.is) c.loop-item.invariant.led (rw c.in_default.is at c.in_ok-value.ensures);
  free = c.loop-item.invariant.free;
  ready = ready_stepped (rw c.in_default.is at c.in_ok-value.ensures) c.loop-item.invariant.ready;
}

pub up_steps-returns : goal.up_steps-returns
up_steps-returns g t c =
    ups_free (attributes_in c.args.attrs.now) c.args.items.now c.args.whole.now (has_hold_all_complete c.args.attrs.now ∙ c.loop-item.invariant.free)
    (ups_done c.args.items.now c.loop-item.item-index c.args.whole.now (rw c.as_slice-item-items.ensures at c.loop-item-test.false) c.loop-item.invariant.led)

pub up_steps-element_rules-requires : goal.up_steps-element_rules-requires
up_steps-element_rules-requires g t c = let ready = c.loop-item.invariant.ready in search (rules, ready)

-- element_rules
pub element_rules-returns-in-None : goal.element_rules-returns-in-None
element_rules-returns-in-None g t c = element_none c.args.item.now c.args.whole.now (sym c.symbol_of.ensures ∙ c.in-None.is)

pub element_rules-returns-in-Some : goal.element_rules-returns-in-Some
element_rules-returns-in-Some g t c = element_some c.args.item.now c.args.whole.now (sym c.symbol_of.ensures ∙ c.in-Some.is) c.symbol_rules.ensures

-- symbol_rules
pub symbol_rules-returns-in_err-rules : goal.symbol_rules-returns-in_err-rules
symbol_rules-returns-in_err-rules g t c = stepped_err c.from_residual.ensures.1 (c.in_err-rules.ensures.begins c.args.room.left).by

pub symbol_rules-returns : goal.symbol_rules-returns
symbol_rules-returns g t c = begins_on (c.in_ok-rules.ensures.begins c.args.room.left) c.drive.ensures

pub symbol_rules-drive-requires : goal.symbol_rules-drive-requires
symbol_rules-drive-requires g t c =
    let faces = c.in_ok-rules.ensures.faces in
    let comes = up_comes (Some c.args.symbol) c.args.whole.now (c.in_ok-rules.ensures.begins c.args.room.left) c.requires faces in
    search (rules, faces, comes)

-- down_steps
pub down_steps-returns-then-accesses : goal.down_steps-returns-then-accesses
down_steps-returns-then-accesses g t c =
    down_sent c.args.head.now c.args.items.now c.args.whole.now (rw c.if-accesses.true at c.accesses.ensures.accesses) (c.send_access.ensures.stepped c.args.room.left)

pub down_steps-returns-in_err-rules : goal.down_steps-returns-in_err-rules
down_steps-returns-in_err-rules g t c =
    stepped_err c.from_residual.ensures.1 (down_out c.args.head.now c.args.items.now c.args.whole.now (rw c.if-accesses.false at c.accesses.ensures.accesses) (begins_by c.args.head.now c.args.items.now c.args.whole.now (ap (λ k. k.defs) c.accesses.ensures.kept) (rw c.as_slice.ensures at (c.in_err-rules.ensures c.args.room.left))).by)

pub down_steps-returns-in_err-value : goal.down_steps-returns-in_err-value
down_steps-returns-in_err-value g t c =
    stepped_err c.from_residual-in_err-value.ensures.1
    (down_out c.args.head.now c.args.items.now c.args.whole.now (rw c.if-accesses.false at c.accesses.ensures.accesses) (begins_on (begins_by c.args.head.now c.args.items.now c.args.whole.now (ap (λ k. k.defs) c.accesses.ensures.kept) (rw c.as_slice.ensures at (c.in_ok-rules.ensures c.args.room.left))) c.in_err-value.ensures))

pub down_steps-returns-in-Some : goal.down_steps-returns-in-Some
down_steps-returns-in-Some g t c =
    down_value c.args.head.now c.args.items.now c.args.whole.now (rw c.if-accesses.false at c.accesses.ensures.accesses) (begins_by c.args.head.now c.args.items.now c.args.whole.now (ap (λ k. k.defs) c.accesses.ensures.kept) (rw c.as_slice.ensures at (c.in_ok-rules.ensures c.args.room.left))) (rw c.in-Some.is at c.in_ok-value.ensures)

pub down_steps-returns-in_err-row : goal.down_steps-returns-in_err-row
down_steps-returns-in_err-row g t c =
    stepped_err c.from_residual-in_err-row.ensures.1
    (down_on c.args.head.now c.args.items.now c.args.whole.now (rw c.if-accesses.false at c.accesses.ensures.accesses) (begins_by c.args.head.now c.args.items.now c.args.whole.now (ap (λ k. k.defs) c.accesses.ensures.kept) (rw c.as_slice.ensures at (c.in_ok-rules.ensures c.args.room.left))) (rw c.in_default.is at c.in_ok-value.ensures) (c.in_err-row.ensures.begins c.args.room.left).by)

pub down_steps-returns : goal.down_steps-returns
down_steps-returns g t c =
    down_on c.args.head.now c.args.items.now c.args.whole.now (rw c.if-accesses.false at c.accesses.ensures.accesses) (begins_by c.args.head.now c.args.items.now c.args.whole.now (ap (λ k. k.defs) c.accesses.ensures.kept) (rw c.as_slice.ensures at (c.in_ok-rules.ensures c.args.room.left))) (rw c.in_default.is at c.in_ok-value.ensures)
    (begins_on (c.in_ok-row.ensures.begins c.args.room.left) c.drive-2.ensures)

pub down_steps-send_access-requires : goal.down_steps-send_access-requires
down_steps-send_access-requires g t c =
    record { faces = faces_same (ap (λ k. k.open_section) c.accesses.ensures.kept) c.requires.faces; item = c.accesses.ensures.sent c.if-accesses.true }

pub down_steps-drive-requires : goal.down_steps-drive-requires
down_steps-drive-requires g t c =
    let faces = faces_same (ap (λ k. k.open_section) c.accesses.ensures.kept) c.requires.faces in
    let begins = begins_by c.args.head.now c.args.items.now c.args.whole.now (ap (λ k. k.defs) c.accesses.ensures.kept) (rw c.as_slice.ensures at (c.in_ok-rules.ensures c.args.room.left)) in
    let comes = rules_come c.args.state.now.defs c.args.head.now c.args.items.now c.args.whole.now begins faces faces in
    search (rules, faces, comes)

pub down_steps-head_row_start-requires : goal.down_steps-head_row_start-requires
down_steps-head_row_start-requires g t c =
    record { faces = ready_stepped (rw c.in_default.is at c.in_ok-value.ensures) (faces_same (ap (λ k. k.open_section) c.accesses.ensures.kept) c.requires.faces); whole = c.requires.whole }

pub down_steps-drive-requires-2 : goal.down_steps-drive-requires-2
down_steps-drive-requires-2 g t c =
    let before = ready_stepped (rw c.in_default.is at c.in_ok-value.ensures) (faces_same (ap (λ k. k.open_section) c.accesses.ensures.kept) c.requires.faces) in
    let faces = c.in_ok-row.ensures.faces in
    let comes = row_comes c.args.head.now c.args.items.now c.args.whole.now (c.in_ok-row.ensures.begins c.args.room.left) before faces in
    search (rules, faces, comes)

-- drive
pub drive-returns-in-Given : goal.drive-returns-in-Given
drive-returns-in-Given g t c = rw c.in-Given.is (driven_given c.in-Given.value)

pub drive-returns-in-Machine : goal.drive-returns-in-Machine
drive-returns-in-Machine g t c = rw c.in-Machine.is c.perform.ensures

pub drive-perform-requires : goal.drive-perform-requires
drive-perform-requires g t c =
    let faces = c.requires.faces in
    let comes = rw c.in-Machine.is at c.requires.comes in
    search (rules, faces, comes)

-- perform
pub perform-steps-init : goal.perform-steps-init
perform-steps-init g t c = record { led = λ stay. reached_here; ready = c.requires.faces }

pub perform-returns-in_err-next : goal.perform-returns-in_err-next
perform-returns-in_err-next g t c = stepped_err c.from_residual.ensures.1 (driven_halts c.steps.invariant.led c.in_err-next.ensures.stepped)

pub perform-returns-in_err-value : goal.perform-returns-in_err-value
perform-returns-in_err-value g t c = stepped_err c.from_residual-in_err-value.ensures.1 (driven_out c.steps.invariant.led c.in_ok-next.ensures.stepped c.in_err-value.ensures)

pub perform-returns-in-Ends : goal.perform-returns-in-Ends
perform-returns-in-Ends g t c = driven_ends c.in-Ends.value c.steps.invariant.led c.in_ok-next.ensures.stepped (rw c.in-Ends.is at c.in_ok-value.ensures)

pub perform-steps-preserved : goal.perform-steps-preserved
perform-steps-preserved g t c =
    let b = rw c.in-Goes.is at c.in_ok-value.ensures in
    record { led = driven_goes c.steps.invariant.led c.in_ok-next.ensures.stepped b; ready = ready_follows b c.steps.invariant.ready }

pub perform-steps-smaller : goal.perform-steps-smaller
perform-steps-smaller g t c = let b = rw c.in-Goes.is at c.in_ok-value.ensures in b.fewer _ _ c.in_ok-next.ensures.falls

pub perform-follow-requires : goal.perform-follow-requires
perform-follow-requires g t c =
    let faces = c.steps.invariant.ready in
    let comes = move_comes c.requires.comes c.steps.invariant.led c.in_ok-next.ensures.stepped c.requires.faces faces in
    search (rules, faces, comes)

-- follow
pub follow-returns-in_err-count-in-Ask : goal.follow-returns-in_err-count-in-Ask
follow-returns-in_err-count-in-Ask g t c =
    rw (c.in-Ask.is, c.in_err-count-in-Ask.ensures.rest) (follows_err c.from_residual.ensures.1 (follows_asked_out (runs_turning_out (Ask c.in-Ask.e) c.in_err-count-in-Ask.ensures.steps)))

pub follow-returns-in_err-value-in-Ask : goal.follow-returns-in_err-value-in-Ask
follow-returns-in_err-value-in-Ask g t c =
    rw c.in-Ask.is
    (follows_err c.from_residual-in_err-value-in-Ask.ensures.1 (follows_asked_out (runs_turning c.in_ok-count-in-Ask.ensures.steps (rw c.in_ok-count-in-Ask.ensures.rest at (runs_ask c.in_err-value-in-Ask.ensures)))))

pub follow-returns-in_ok-value-in-Ask : goal.follow-returns-in_ok-value-in-Ask
follow-returns-in_ok-value-in-Ask g t c =
    rw c.in-Ask.is (follows_asked (runs_turning c.in_ok-count-in-Ask.ensures.steps (rw c.in_ok-count-in-Ask.ensures.rest at (runs_ask c.in_ok-value-in-Ask.ensures))))

pub follow-returns-in_err-count-in-Within : goal.follow-returns-in_err-count-in-Within
follow-returns-in_err-count-in-Within g t c =
    rw (c.in-Within.is, c.in_err-count-in-Within.ensures.rest)
    (follows_err c.from_residual-in_err-count-in-Within.ensures.1 (follows_within_out (runs_turning_out (Within (locals_in c.in-Within.locals) c.in-Within.e) c.in_err-count-in-Within.ensures.steps)))

pub follow-returns-in_err-value-in-Within : goal.follow-returns-in_err-value-in-Within
follow-returns-in_err-value-in-Within g t c =
    rw c.in-Within.is
    (follows_err c.from_residual-in_err-value-in-Within.ensures.1 (follows_within_out (runs_turning c.in_ok-count-in-Within.ensures.steps (rw c.in_ok-count-in-Within.ensures.rest at c.in_err-value-in-Within.ensures))))

pub follow-returns-in_ok-value-in-Within : goal.follow-returns-in_ok-value-in-Within
follow-returns-in_ok-value-in-Within g t c =
    rw c.in-Within.is (follows_within (runs_turning c.in_ok-count-in-Within.ensures.steps (rw c.in_ok-count-in-Within.ensures.rest at c.in_ok-value-in-Within.ensures)))

pub follow-returns-in_err-count-in-Turn : goal.follow-returns-in_err-count-in-Turn
follow-returns-in_err-count-in-Turn g t c =
    rw (c.in-Turn.is, c.in_err-count-in-Turn.ensures.rest) (follows_err c.from_residual-in_err-count-in-Turn.ensures.1 (follows_turn_out c.in_err-count-in-Turn.ensures.steps))

pub follow-returns-in_ok-count-in-Turn : goal.follow-returns-in_ok-count-in-Turn
follow-returns-in_ok-count-in-Turn g t c = rw (c.in-Turn.is, c.in_ok-count-in-Turn.ensures.rest) (follows_turn c.in_ok-count-in-Turn.ensures.steps)

pub follow-returns-in-Done : goal.follow-returns-in-Done
follow-returns-in-Done g t c = rw c.in-Done.is follows_done

pub follow-returns-in-Stays : goal.follow-returns-in-Stays
follow-returns-in-Stays g t c = rw c.in-Stays.is follows_stays

pub follow-returns-in_err-value-in-Catch : goal.follow-returns-in_err-value-in-Catch
follow-returns-in_err-value-in-Catch g t c =
    rw c.in-Catch.is (follows_err c.from_residual-in_err-value-in-Catch.ensures.1 (follows_catch_out (sym c.in_err-value-in-Catch.ensures) c.value_of-in-Catch.ensures))

pub follow-returns-in_ok-value-in-Catch : goal.follow-returns-in_ok-value-in-Catch
follow-returns-in_ok-value-in-Catch g t c = rw c.in-Catch.is (follows_catch (sym c.in_ok-value-in-Catch.ensures) c.value_of-in-Catch.ensures)

pub follow-returns-in_err-value-in-Section : goal.follow-returns-in_err-value-in-Section
follow-returns-in_err-value-in-Section g t c =
    rw c.in-Section.is (follows_err c.from_residual-in_err-value-in-Section.ensures.1 (follows_section_out c.in_err-value-in-Section.ensures))

pub follow-returns-in_ok-value-in-Section : goal.follow-returns-in_ok-value-in-Section
follow-returns-in_ok-value-in-Section g t c = rw c.in-Section.is (follows_section c.in_ok-value-in-Section.ensures)

pub follow-returns-in_err-value-in-Call : goal.follow-returns-in_err-value-in-Call
follow-returns-in_err-value-in-Call g t c =
    rw c.in-Call.is (follows_err c.from_residual-in_err-value-in-Call.ensures.1 (follows_call_out c.in_err-value-in-Call.ensures.called))

pub follow-returns-in_ok-value-in-Call : goal.follow-returns-in_ok-value-in-Call
follow-returns-in_ok-value-in-Call g t c = rw c.in-Call.is (follows_call c.in_ok-value-in-Call.ensures.called)

pub follow-returns-in-Throw : goal.follow-returns-in-Throw
follow-returns-in-Throw g t c = rw c.in-Throw.is follows_throw

pub follow-returns-in-Quit : goal.follow-returns-in-Quit
follow-returns-in-Quit g t c = rw c.in-Quit.is follows_quit

pub follow-outward-requires-clause-comes : goal.follow-outward-requires-clause-comes
follow-outward-requires-clause-comes g t c = call_comes (Sends (request_of c.in-Call.request)) c.requires.faces (rw c.in-Call.is at c.requires.comes)

pub follow-value_locked-requires : goal.follow-value_locked-requires
follow-value_locked-requires g t c =
    let faces = c.requires.faces in
    let comes = rw c.in-Section.is at c.requires.comes in
    search (rules, faces, comes)

-- value_locked
pub value_locked-returns-in_default : goal.value_locked-returns-in_default
value_locked-returns-in_default g t c = c.value_inside.ensures

pub value_locked-returns-then-held : goal.value_locked-returns-then-held
value_locked-returns-then-held g t c = ran_inner c.value_of.result (sym c.is_held.ensures ∙ (c.in-Some.is ∙ ap Some c.if-held.true)) c.value_of.ensures

pub value_locked-returns : goal.value_locked-returns
value_locked-returns g t c = ran_refused (sym c.is_held.ensures ∙ (c.in-Some.is ∙ ap Some c.if-held.false)) c.name.ensures

pub value_locked-value_inside-requires : goal.value_locked-value_inside-requires
value_locked-value_inside-requires g t c =
    let none' = held_none c.args.state.now.open_section c.args.locks (sym c.is_held.ensures ∙ c.in_default.is) in
    let faces = c.requires.faces in
    let comes = c.requires.comes none' in
    search (rules, faces, none', comes)

-- value_inside
pub value_inside-returns-in_err-sent : goal.value_inside-returns-in_err-sent
value_inside-returns-in_err-sent g t c = runs_lost c.from_residual.ensures.1

pub value_inside-returns-in_err-outward : goal.value_inside-returns-in_err-outward
value_inside-returns-in_err-outward g t c =
    runs_err c.from_residual-in_err-outward.ensures.1 (ran_not_entered c.requires.none (rw (c.in_ok-sent.ensures, c.as_slice.ensures) at c.in_err-outward.ensures.called))

pub value_inside-returns-then-not-is_left : goal.value_inside-returns-then-not-is_left
value_inside-returns-then-not-is_left g t c =
    ran_stays_inside c.value_of-value.result (sym c.if-not-is_left.ensures) c.requires.none (rw (c.in_ok-sent.ensures, c.as_slice.ensures) at c.in_ok-outward.ensures.called) c.value_of-value.ensures

pub value_inside-returns-in_err-outward-2 : goal.value_inside-returns-in_err-outward-2
value_inside-returns-in_err-outward-2 g t c =
    runs_err c.from_residual-in_err-outward-2.ensures.1
    (ran_not_left c.value_of-value.result (sym c.if-not-is_left.ensures) c.requires.none (rw (c.in_ok-sent.ensures, c.as_slice.ensures) at c.in_ok-outward.ensures.called) c.value_of-value.ensures c.in_err-outward-2.ensures.called)

pub value_inside-returns : goal.value_inside-returns
value_inside-returns g t c =
    ran_left c.value_of-value.result (sym c.if-not-is_left.ensures) c.requires.none (rw (c.in_ok-sent.ensures, c.as_slice.ensures) at c.in_ok-outward.ensures.called) c.value_of-value.ensures c.in_ok-outward-2.ensures.called

pub value_inside-outward-requires-clause-comes : goal.value_inside-outward-requires-clause-comes
value_inside-outward-requires-clause-comes g t c = enter_comes c.requires.faces c.requires.none (c.in_ok-sent.ensures ∙ c.as_slice.ensures) c.requires.comes

pub value_inside-outward-requires-2-clause-ready : goal.value_inside-outward-requires-2-clause-ready
value_inside-outward-requires-2-clause-ready g t c =
    (faces_left c.value_of-value.result (sym c.if-not-is_left.ensures) c.value_of-value.ensures
    (record { may = c.in_ok-outward.ensures.ready; same_names = ap names_in c.in_ok-outward.ensures.names ∙ c.requires.faces.same_names; same_mode = c.in_ok-outward.ensures.mode ∙ c.requires.faces.same_mode; same_open = c.in_ok-outward.ensures.is_open })).may

pub value_inside-outward-requires-2-clause-comes : goal.value_inside-outward-requires-2-clause-comes
value_inside-outward-requires-2-clause-comes g t c =
    leave_comes c.args.locks
    (faces_left c.value_of-value.result (sym c.if-not-is_left.ensures) c.value_of-value.ensures
    (record { may = c.in_ok-outward.ensures.ready; same_names = ap names_in c.in_ok-outward.ensures.names ∙ c.requires.faces.same_names; same_mode = c.in_ok-outward.ensures.mode ∙ c.requires.faces.same_mode; same_open = c.in_ok-outward.ensures.is_open }))
    c.requires.comes

-- value_within
pub value_within-returns-in_err-saved : goal.value_within-returns-in_err-saved
value_within-returns-in_err-saved g t c = runs_lost c.from_residual.ensures.1

pub value_within-returns : goal.value_within-returns
value_within-returns g t c =
    runs_put_back c.in_ok-saved.ensures.definitions (c.put_back.ensures c.args.state.now.defs (locals_in c.args.locals.now) c.in_ok-saved.ensures.saved) c.value_of-value.ensures

pub value_within-value_of-value-requires : goal.value_within-value_of-value-requires
value_within-value_of-value-requires g t c = search rules
