use Rattle.std.proofs.Common.{rules, ◌≡◌, ◌≤◌, length, true, false, arith}
use Rattle.std.specs.Prelude.{◌&&◌}
use Rattle.journal.specs.Core.{is_waiting, may_go}
use Rattle.eval_queue.proofs.Scan.{passed_over, step_on, found_here, found_nowhere}
use Rattle.eval_queue.proofs.kept.first_from.Goals as goal

pub loop-place-init : goal.loop-place-init
loop-place-init g c = passed_over _ _ _ c.requires

pub loop-place-preserved : goal.loop-place-preserved
loop-place-preserved g c =
    let x = c.index-kept-place.result in
    let passed : (is_waiting x.status && may_go x.item c.args.kernel) ≡ false = search rules in
    step_on _ _ _ x _ c.loop-place-test.true c.index-kept-place.is passed c.loop-place.invariant

pub returns-then-may_be_taken : goal.returns-then-may_be_taken
returns-then-may_be_taken g c =
    let x = c.index-kept-place.result in
    let it : (is_waiting x.status && may_go x.item c.args.kernel) ≡ true = search rules in
    found_here _ _ _ x c.loop-place-test.true c.index-kept-place.is it c.loop-place.invariant

pub returns : goal.returns
returns g c =
    let past : length c.args.kept.now ≤ c.loop-place.place = omega (arith, c.loop-place-test.false) in
    found_nowhere _ _ _ past c.loop-place.invariant
