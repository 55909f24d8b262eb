use Rattle.std.proofs.Common.{subst}
use Rattle.kernel_defs.specs.Table.{Ascends}
use Rattle.kernel_defs.proofs.Adding.{ascends_in}
use Rattle.kernel_defs.proofs.defs.Defs.entries_ascend.Goals as goal

pub returns : goal.returns
returns c = subst (λ t. Ascends t.entries) c.self.view_is (ascends_in 0 _ c.self.invariant.table)
