use Rattle.std.proofs.Common.{ap, ◌∙◌}
use Rattle.master_core.proofs.Joins as j
use Rattle.master_core.proofs.state.State.status.Goals as goal

pub returns : goal.returns
returns c = c.state.ensures ∙ j.status_here c.args.self.now c.self.inside.queue c.args.id (ap (λ x. x.items) c.self.view_is)
