use Rattle.std.proofs.Common.{◌≡◌, ◌++◌}
use Rattle.desk_uses.specs.Many.{JoinsAll}
use Rattle.desk_uses.proofs.many.join_all.Given as goal

abbrev pub invariant-loop-other : goal.invariant-loop-other
invariant-loop-other g l = record { joins : JoinsAll l.fn.pass l.yielded l.pass; parts : l.yielded ++ l.other-iterator.rest.items ≡ l.fn.passes.items }
