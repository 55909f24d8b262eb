use Rattle.std.proofs.Common.{ap, ◌∙◌}
use Rattle.journal.specs.Core.{lives}
use Rattle.master_core.proofs.Crew as k
use Rattle.master_core.proofs.state.State.lives.Goals as goal

pub returns : goal.returns
returns c = c.live.ensures ∙ k.lives_from 0 c.args.kernel c.self.inside.kernels c.self.inside.attempts.items c.self.inside.locks.held ∙ ap (λ x. lives x c.args.kernel) c.self.view_is
