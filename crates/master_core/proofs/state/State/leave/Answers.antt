use Rattle.std.proofs.Common.{refl, ap, ◌∙◌}
use Rattle.journal.specs.Entry.{Nothing}
use Rattle.journal.specs.declared.event.Event.TheVariants as event
use Rattle.master_core.specs.Posting.{posting}
use Rattle.master_core.specs.Joined.{items_of}
use Rattle.master_core.proofs.Joins as j
use Rattle.master_core.proofs.Sections as s
use Rattle.master_core.proofs.state.State.leave.Goals as goal

pub invariant_of-self : goal.invariant_of-self
invariant_of-self c = record { places = c.self.invariant.places; within = s.leave_within c.args.kernel _ _ _ c.free_all.ensures.locks c.self.invariant.within; sound = c.self.invariant.sound }

pub returns : goal.returns
returns c =
    j.viewed c.self.view_is
    (j.made _ _ (posting c.args.kernel event.Leave Nothing) (λ set. refl) (λ set. j.each_same _ 1 (items_of c.self.inside.queue) (λ m q. refl))
    (s.locks_set event.Leave c.args.kernel c.self.inside.kernels c.self.inside.attempts.items c.self.inside.locks.held _ c.free_all.ensures.locks c.self.invariant.places (λ b o ls. refl))
    refl (λ set. j.none_more set c.args.kernel event.Leave c.self.inside.finished.items (items_of c.self.inside.queue) (λ m q. refl)) (λ set. refl) c.has_begun-self-inside.ensures (ap (λ x. x.closed) c.self.view_is ∙ c.requires))
