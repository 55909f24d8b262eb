use Rattle.std.proofs.Common.{◌≡◌, drop}
use Rattle.semantics.specs.Worked.{all_in_range}
use Rattle.semantics.specs.Numbers.{numbers_of}
use Rattle.sum_forms.proofs.groups.are_in_range.Given as goal

abbrev pub invariant-loop-group : goal.invariant-loop-group
invariant-loop-group l = all_in_range (numbers_of (drop l.group-index l.groups)) ≡ all_in_range (numbers_of l.groups)
