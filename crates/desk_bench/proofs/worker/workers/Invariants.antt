use Rattle.std.proofs.Common.{◌≡◌}
use Rattle.desk_uses.specs.Many.{after_splits}
use Rattle.desk_bench.proofs.worker.workers.Given as goal

abbrev pub invariant-loop-n : goal.invariant-loop-n
invariant-loop-n l = l.pass ≡ after_splits l.fn.first l.n
