use Rattle.std.proofs.Common.{refl, sym, ap, ◌∙◌, ◌≡◌, ◌<◌, length, arith, None}
use Rattle.journal.specs.Core.{runs_or_dropped}
use Rattle.journal.specs.Entry.{Nothing}
use Rattle.journal.specs.declared.event.Event.TheVariants as event
use Rattle.master_core.specs.Posting.{posting}
use Rattle.master_core.proofs.Joins as j
use Rattle.master_core.proofs.state.State.deliver.Goals as goal

pub finish-requires : goal.finish-requires
finish-requires c =
    ap (runs_or_dropped c.args.kernel) (j.status_here c.args.self.now c.self.inside.queue c.args.id (ap (λ x. x.items) c.self.view_is))
    ∙ j.runs_status c.args.self.now c.args.kernel c.args.id c.requires.runs

pub index_mut-requires : goal.index_mut-requires
index_mut-requires c =
    let long : length c.args.self.now.kernels ≡ length c.self.inside.attempts.items =
    ap (λ x. length x.kernels) (sym c.self.view_is) ∙ j.kernels_len 0 c.self.inside.kernels c.self.inside.attempts.items c.self.inside.locks.held ∙ sym c.self.invariant.places in
    let within : c.args.kernel < length c.args.self.now.kernels = j.runs_within c.args.self.now c.args.kernel c.args.id c.requires.runs in
    omega (arith, within, long)

pub returns-clause-ok : goal.returns-clause-ok
returns-clause-ok c =
    j.viewed c.self.view_is
    (j.made _ _ (posting c.args.kernel (event.Deliver c.args.id c.args.value) Nothing) (λ set. refl)
    (λ set. c.in_ok-finish.ensures.items set c.self.inside.wait)
    (j.attempt_set (event.Deliver c.args.id c.args.value) None c.args.kernel c.self.inside.kernels c.self.inside.attempts.items c.self.inside.locks.held c.self.invariant.places (λ b x ls. refl))
    refl (λ set. c.in_ok-finish.ensures.ids set) (λ set. refl) c.has_begun-self-inside.ensures (ap (λ x. x.closed) c.self.view_is ∙ c.requires.open))
