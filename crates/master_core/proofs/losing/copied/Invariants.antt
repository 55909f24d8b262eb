use Rattle.std.proofs.Common.{◌≡◌, ◌++◌, drop}
use Rattle.master_core.proofs.losing.copied.Given as goal

abbrev pub invariant-loop-id : goal.invariant-loop-id
invariant-loop-id l = l.copies.items ++ drop l.id-index l.ids ≡ l.ids
