use Rattle.std.proofs.Common.{arith, ◌+◌}
use Rattle.master_core.proofs.Lost as l
use Rattle.master_core.proofs.losing.finished_after.Goals as goal

pub loop-place-preserved : goal.loop-place-preserved
loop-place-preserved c =
    l.gets_next c.args.recovery c.args.k c.loop-place.place (c.loop-place.place + 1) c.args.queue.now c.loop-place.ids.items _ _ _ (omega (arith, c.loop-place-test.true, c.count-place-end.ensures)) (omega arith)
    c.is_given.ensures c.in_ok-add_if.ensures c.loop-place.invariant
