use Rattle.std.proofs.Common.{◌≡◌}
use Rattle.semantics.specs.declared.builtin.Builtin.{Builtin}
use Rattle.semantics.specs.Names.{make}
use Rattle.semantics.specs.Program.{Done}
use Rattle.builtin_names.specs.Named.{names_in}
use Rattle.evaluation_steps.specs.Moves.{same}
use Rattle.eval_seq.proofs.Answered.{shows_on, shows_next, shows_all, answers_check, answers_err, answers_done, answers_large}
use Rattle.eval_seq.proofs.assemble.listed.Goals as goal

pub loop-e-init : goal.loop-e-init
loop-e-init c = same

pub returns-in_err-check : goal.returns-in_err-check
returns-in_err-check c =
    answers_err c.from_residual.ensures.1
    (answers_check (Done (make (names_in c.args.names.now) Builtin.List c.args.each)) c.args.each c.loop-e.e-index c.e-item.result (rw c.as_slice-e-items.ensures at c.loop-e-test.true) (rw c.as_slice-e-items.ensures at c.e-item.is) c.loop-e.invariant c.in_err-check.ensures)

pub loop-e-preserved : goal.loop-e-preserved
loop-e-preserved c =
    shows_on c.loop-e.invariant
    (shows_next (Done (make (names_in c.args.names.now) Builtin.List c.args.each)) c.args.each c.loop-e.e-index c.e-item.result (rw c.as_slice-e-items.ensures at c.loop-e-test.true) (rw c.as_slice-e-items.ensures at c.e-item.is) c.in_ok-check.ensures)

pub returns-in-Err : goal.returns-in-Err
returns-in-Err c = let p = Done (make (names_in c.args.names.now) Builtin.List c.args.each) in
    answers_large {v = make (names_in c.args.names.now) Builtin.List c.args.each} (shows_all p c.args.each c.loop-e.e-index (rw c.as_slice-e-items.ensures at c.loop-e-test.false) c.loop-e.invariant) (c.stop_for.ensures _ (rw c.in-Err.is at c.make.ensures))

pub returns-in-Ok : goal.returns-in-Ok
returns-in-Ok c =
    let p = Done (make (names_in c.args.names.now) Builtin.List c.args.each) in
    let h = rw c.in-Ok.is at c.make.ensures in
    let m : c.in-Ok.v ≡ make (names_in c.args.names.now) Builtin.List c.args.each = h.0 in
    rw m (answers_done (shows_all p c.args.each c.loop-e.e-index (rw c.as_slice-e-items.ensures at c.loop-e-test.false) c.loop-e.invariant))
