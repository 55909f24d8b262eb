use Rattle.std.proofs.Common.{ap, ◌∙◌}
use Rattle.journal.specs.Core.{count}
use Rattle.master_core.proofs.Crew as k
use Rattle.master_core.proofs.state.State.count.Goals as goal

pub returns : goal.returns
returns c = c.count.ensures ∙ k.count_from 0 c.self.inside.kernels c.self.inside.attempts.items c.self.inside.locks.held ∙ ap count c.self.view_is
