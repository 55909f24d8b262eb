use Rattle.std.proofs.Common.{refl, sym, ap, ◌∙◌, ◌≡◌, ◌<◌, length, arith, Some}
use Rattle.journal.specs.Entry.{Nothing}
use Rattle.journal.specs.declared.event.Event.TheVariants as event
use Rattle.journal.specs.declared.item.Status.TheVariants as status
use Rattle.journal.specs.Core.{queued_after}
use Rattle.eval_queue.specs.Items.{changed}
use Rattle.master_core.specs.Posting.{posting}
use Rattle.master_core.specs.Joined.{items_of}
use Rattle.master_core.proofs.Joins as j
use Rattle.master_core.proofs.state.State.take.Goals as goal

pub take-requires : goal.take-requires
take-requires c = j.status_here c.args.self.now c.self.inside.queue c.args.id (ap (λ x. x.items) c.self.view_is) ∙ c.requires.waits

pub index_mut-requires : goal.index_mut-requires
index_mut-requires c =
    let long : length c.args.self.now.kernels ≡ length c.self.inside.attempts.items =
    ap (λ x. length x.kernels) (sym c.self.view_is) ∙ j.kernels_len 0 c.self.inside.kernels c.self.inside.attempts.items c.self.inside.locks.held ∙ sym c.self.invariant.places in
    omega (arith, c.requires.within, long)

pub returns : goal.returns
returns c =
    j.viewed c.self.view_is
    (j.made _ _ (posting c.args.kernel (event.Take c.args.id) Nothing) (λ set. refl)
    (λ set. ap items_of c.take.ensures ∙ j.each_item (changed c.args.id (status.Running c.args.kernel)) (queued_after set c.self.inside.wait c.args.kernel (event.Take c.args.id)) 1 c.self.inside.queue (λ p q at. refl))
    (j.attempt_set (event.Take c.args.id) (Some c.args.id) c.args.kernel c.self.inside.kernels c.self.inside.attempts.items c.self.inside.locks.held c.self.invariant.places (λ b x ls. refl))
    refl (λ set. j.none_more set c.args.kernel (event.Take c.args.id) c.self.inside.finished.items (items_of c.self.inside.queue) (λ m q. refl)) (λ set. refl) c.has_begun-self-inside.ensures (ap (λ x. x.closed) c.self.view_is ∙ c.requires.open))
