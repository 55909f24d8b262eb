use Rattle.std.proofs.Common.{ap, ◌∙◌, ◌≡◌, subst, true}
use Rattle.std.specs.Prelude.{IfSome}
use Rattle.expr_tree.specs.Substitution.{among}
use Rattle.journal.specs.Core.{held_by_some, locks_of}
use Rattle.master_core.proofs.Crew as k
use Rattle.master_core.proofs.state.State.holder.Goals as goal

pub returns-clause-free : goal.returns-clause-free
returns-clause-free c =
    k.held_is c.self.inside.kernels c.self.inside.attempts.items c.self.inside.locks.held c.self.invariant.within c.args.lock c.holder.result c.holder.ensures.exact
    ∙ ap (λ x. held_by_some x.kernels c.args.lock) c.self.view_is

pub returns-clause-by : goal.returns-clause-by
returns-clause-by c =
    subst (λ x. IfSome c.holder.result (λ k. among c.args.lock (locks_of x k) ≡ true)) c.self.view_is
    (k.holder_is c.self.inside.kernels c.self.inside.attempts.items c.self.inside.locks.held c.self.invariant.within c.args.lock c.holder.result c.holder.ensures.exact)
