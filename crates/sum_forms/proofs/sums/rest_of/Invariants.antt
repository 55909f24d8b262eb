use Rattle.std.proofs.Common.{◌≡◌, ◌++◌, drop}
use Rattle.sum_forms.proofs.sums.rest_of.Given as goal

abbrev pub invariant-loop-other : goal.invariant-loop-other
invariant-loop-other l = l.items ++ drop l.other-index l.others ≡ l.others
