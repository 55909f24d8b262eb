use Rattle.std.proofs.Common.{refl, sym, ap, subst, ◌∙◌, ◌≡◌, ◌<◌, length, Some, None}
use Rattle.journal.specs.Entry.{Nothing}
use Rattle.journal.specs.declared.event.Event.TheVariants as event
use Rattle.crit_locks.specs.Holdings.{locks_by, first_held, HeldAfter}
use Rattle.master_core.specs.Posting.{posting}
use Rattle.master_core.specs.Joined.{items_of, kernels_in}
use Rattle.master_core.proofs.Joins as j
use Rattle.master_core.proofs.Sections as s
use Rattle.master_core.proofs.state.State.enter.Goals as goal

pub enter-requires-clause-outside : goal.enter-requires-clause-outside
enter-requires-clause-outside c =
    ap (locks_by c.args.kernel) c.in_ok-reserve.ensures.held
    ∙ s.holds_none c.self.inside.kernels c.self.inside.attempts.items c.self.inside.locks.held c.self.invariant.within c.args.self.now (ap (λ x. x.kernels) c.self.view_is) c.args.kernel c.requires.outside

pub invariant_of-self-in-Ok : goal.invariant_of-self-in-Ok
invariant_of-self-in-Ok c =
    let after = subst (λ hs. HeldAfter (event.Enter c.args.locks.now) c.args.kernel hs c.enter.new.self.held) c.in_ok-reserve.ensures.held c.in-Ok.ensures.locks in
    let is_one : c.args.kernel < length c.self.inside.kernels =
    subst (λ n. c.args.kernel < n) (ap (λ x. length x.kernels) (sym c.self.view_is) ∙ j.kernels_len 0 c.self.inside.kernels c.self.inside.attempts.items c.self.inside.locks.held) c.requires.within in
    record { places = c.self.invariant.places; within = s.enter_within c.args.locks.now c.args.kernel _ _ _ after is_one c.self.invariant.within; sound = c.self.invariant.sound }

pub returns-in-Ok-clause-free : goal.returns-in-Ok-clause-free
returns-in-Ok-clause-free c =
    s.free_is c.self.inside.kernels c.self.inside.attempts.items c.self.inside.locks.held c.self.invariant.within c.args.self.now (ap (λ x. x.kernels) c.self.view_is) c.args.locks.now
    (subst (λ hs. first_held hs c.args.locks.now ≡ None) c.in_ok-reserve.ensures.held c.in-Ok.ensures.free)

pub returns-in-Ok-clause-ok : goal.returns-in-Ok-clause-ok
returns-in-Ok-clause-ok c =
    let after = subst (λ hs. HeldAfter (event.Enter c.args.locks.now) c.args.kernel hs c.enter.new.self.held) c.in_ok-reserve.ensures.held c.in-Ok.ensures.locks in
    j.viewed c.self.view_is
    (j.made _ _ (posting c.args.kernel (event.Enter c.args.locks.now) Nothing) (λ set. refl) (λ set. j.each_same _ 1 (items_of c.self.inside.queue) (λ m q. refl))
    (s.locks_set (event.Enter c.args.locks.now) c.args.kernel c.self.inside.kernels c.self.inside.attempts.items c.self.inside.locks.held _ after c.self.invariant.places (λ b o ls. refl))
    refl (λ set. j.none_more set c.args.kernel (event.Enter c.args.locks.now) c.self.inside.finished.items (items_of c.self.inside.queue) (λ m q. refl)) (λ set. refl) c.has_begun-self-inside.ensures
    (ap (λ x. x.closed) c.self.view_is ∙ c.requires.open))

pub returns-in-Err-clause-held : goal.returns-in-Err-clause-held
returns-in-Err-clause-held c =
    s.first_is c.self.inside.kernels c.self.inside.attempts.items c.self.inside.locks.held c.self.invariant.within c.args.self.now (ap (λ x. x.kernels) c.self.view_is) c.args.locks.now c.in-Err.held
    (subst (λ hs. first_held hs c.args.locks.now ≡ Some c.in-Err.held) c.in_ok-reserve.ensures.held c.in-Err.ensures.first)
