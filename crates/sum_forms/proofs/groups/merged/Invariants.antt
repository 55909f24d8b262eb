use Rattle.std.proofs.Common.{◌≡◌, [], drop}
use Rattle.sum_forms.specs.Gathering.{merged_onto}
use Rattle.sum_forms.proofs.groups.merged.Given as goal

abbrev pub invariant-loop-part : goal.invariant-loop-part
invariant-loop-part l = merged_onto (drop l.part-index l.parts) l.groups.items ≡ merged_onto l.parts []
