use Rattle.std.proofs.Common.{◌≡◌}
use Rattle.desk_uses.specs.Many.{after_splits, new_passes}
use Rattle.desk_uses.proofs.many.split_many.Given as goal

abbrev pub invariant-loop-n : goal.invariant-loop-n
invariant-loop-n g l = (l.pass ≡ after_splits l.fn.pass l.n) × (l.passes.items ≡ new_passes l.fn.pass l.n)
