use Rattle.std.proofs.Common.{refl, sym, ap, ◌∙◌, ◌≡◌, ◌<◌, ◌++◌, length, arith, None}
use Rattle.std.specs.Prelude.{slice_set}
use Rattle.journal.specs.Core.{lives, attempt_of}
use Rattle.journal.specs.Entry.{Nothing}
use Rattle.journal.specs.declared.event.Event.TheVariants as event
use Rattle.journal.specs.declared.loss.Loss.TheVariants.{Plan}
use Rattle.master_core.specs.Joined.{items_of, kernels_in}
use Rattle.master_core.specs.Losing.{ids_lost}
use Rattle.master_core.specs.Posting.{posting}
use Rattle.master_core.proofs.Joins as j
use Rattle.master_core.proofs.Crew as crew
use Rattle.master_core.proofs.Sections as s
use Rattle.master_core.proofs.Lost as l
use Rattle.master_core.proofs.state.State.lose.Goals as goal

pub lose-requires : goal.lose-requires
lose-requires c = crew.lives_from 0 c.args.kernel c.self.inside.kernels c.self.inside.attempts.items c.self.inside.locks.held ∙ ap (λ x. lives x c.args.kernel) c.self.view_is ∙ c.requires.lives

pub index-attempt-requires : goal.index-attempt-requires
index-attempt-requires c =
    let long : length c.args.self.now.kernels ≡ length c.self.inside.attempts.items =
    ap (λ x. length x.kernels) (sym c.self.view_is) ∙ j.kernels_len 0 c.self.inside.kernels c.self.inside.attempts.items c.self.inside.locks.held ∙ sym c.self.invariant.places in
    let within : c.args.kernel < length c.args.self.now.kernels = l.living_within c.args.self.now c.args.kernel c.requires.lives in
    omega (arith, within, long)

pub index_mut-requires : goal.index_mut-requires
index_mut-requires c =
    let long : length c.args.self.now.kernels ≡ length c.self.inside.attempts.items =
    ap (λ x. length x.kernels) (sym c.self.view_is) ∙ j.kernels_len 0 c.self.inside.kernels c.self.inside.attempts.items c.self.inside.locks.held ∙ sym c.self.invariant.places in
    let within : c.args.kernel < length c.args.self.now.kernels = l.living_within c.args.self.now c.args.kernel c.requires.lives in
    omega (arith, within, long)

pub invariant_of-self : goal.invariant_of-self
invariant_of-self c = record {
  places = j.set_len c.self.inside.attempts.items c.args.kernel None ∙ c.self.invariant.places ∙ sym (ap length c.lose.ensures.kernels ∙ l.change_len c.args.kernel c.self.inside.kernels);
  within = λ k far. s.lose_within Plan c.args.kernel (length c.self.inside.kernels) _ _ (c.lose.ensures.locks Plan) c.self.invariant.within k (let same = ap length c.lose.ensures.kernels ∙ l.change_len c.args.kernel c.self.inside.kernels in omega (arith, far, same));
  sound = c.self.invariant.sound;
}

pub left_value-requires : goal.left_value-requires
left_value-requires c =
    let long : length c.args.self.now.kernels ≡ length c.self.inside.attempts.items =
    ap (λ x. length x.kernels) (sym c.self.view_is) ∙ j.kernels_len 0 c.self.inside.kernels c.self.inside.attempts.items c.self.inside.locks.held ∙ sym c.self.invariant.places in
    let within : c.args.kernel < length c.args.self.now.kernels = l.living_within c.args.self.now c.args.kernel c.requires.lives in
    λ id runs.
    c.index-attempt.ensures
    ∙ crew.attempt_from 0 c.args.kernel c.self.inside.kernels c.self.inside.attempts.items c.self.inside.locks.held _ c.self.invariant.places (omega (arith, within, long))
    ∙ ap (λ x. attempt_of x c.args.kernel) c.self.view_is
    ∙ c.requires.runs id (sym (j.status_here c.args.self.now c.self.inside.queue id (ap (λ x. x.items) c.self.view_is)) ∙ runs)

pub returns-clause-ok : goal.returns-clause-ok
returns-clause-ok c = λ set cause on.
    j.made_in set _ _ _ (posting c.args.kernel (event.Lose cause) Nothing) c.self.view_is refl
    (ap items_of (c.lose.ensures.items set (sym (l.failed_is set c.args.terms on)) (c.in_ok-left.ensures set on)) ∙ l.lost_items set c.self.inside.wait cause c.args.kernel 1 c.self.inside.queue)
    (ap (λ bs. kernels_in 0 bs (slice_set c.self.inside.attempts.items c.args.kernel None) c.lose.new.locks.held) c.lose.ensures.kernels
    ∙ l.kernels_in_loss cause c.args.kernel c.self.inside.kernels c.self.inside.attempts.items c.self.inside.locks.held _ (c.lose.ensures.locks cause) c.self.invariant.places)
    refl
    (l.ids_in set c.args.terms cause c.args.kernel c.self.inside.queue c.self.inside.finished.items _ on
    (c.in_ok-finished.ensures ∙ ap (λ xs. xs ++ ids_lost c.args.terms.recovery c.args.kernel 1 c.self.inside.queue) c.as_slice-before.ensures.value))
    refl c.has_begun-self-inside.ensures (ap (λ x. x.closed) c.self.view_is ∙ c.requires.open)
