use Rattle.std.proofs.Common.{rules, ◌≡◌, false}
use Rattle.journal.specs.Core.{is_waiting}
use Rattle.eval_queue.proofs.Scan.{one_more}
use Rattle.eval_queue.proofs.kept.next_waiting.Goals as goal

pub loop-place-preserved : goal.loop-place-preserved
loop-place-preserved g c =
    let x = c.index-kept-place.result in
    let passed : is_waiting x.status ≡ false = search rules in
    one_more _ _ x c.loop-place-test.true c.index-kept-place.is passed c.loop-place.invariant
