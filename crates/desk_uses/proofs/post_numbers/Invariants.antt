use Rattle.std.proofs.Common.{◌≡◌}
use Rattle.desk_uses.specs.Numbers.{below, with_own}
use Rattle.desk_uses.proofs.post_numbers.Given as goal

abbrev pub invariant-loop-n : goal.invariant-loop-n
invariant-loop-n g l = l.pass ≡ with_own l.fn.pass l.pass.seen (below l.n)
