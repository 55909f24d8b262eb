use Rattle.std.proofs.Common.{◌≡◌, map, take}
use Rattle.semantics.specs.Lists.{mapped}
use Rattle.list_ops.proofs.applied.mapped_all.Given as goal

abbrev pub invariant-loop-argument : goal.invariant-loop-argument
invariant-loop-argument l = l.made ≡ map (mapped l.function) (take l.argument-index l.arguments)
