use Rattle.std.proofs.Common.{◌≡◌, ◌∙◌, ap, suc, false, map, arith}
use Rattle.std.specs.Prelude.{slice_set}
use Rattle.journal.specs.Places.{change_at}
use Rattle.journal.specs.Core.{new_kernel, count_living}
use Rattle.requeue_core.specs.Losses.{lives_in}
use Rattle.requeue_core.proofs.Living.{one_less, no_longer}
use Rattle.requeue_core.proofs.Losing.{walked_is_lost}
use Rattle.requeue_core.proofs.kernels.Kernels.lose.Goals as goal

pub overflow_sub-self : goal.overflow_sub-self
overflow_sub-self g c =
    let less : c.self.inside.living ≡ suc (count_living (map new_kernel (slice_set c.self.inside.lives.items c.args.k false))) =
    c.self.invariant ∙ one_less c.self.inside.lives.items c.args.k (ap (λ ks. lives_in ks c.args.k) c.self.view_is ∙ c.requires) in
    omega (arith, less)

pub invariant_of-self : goal.invariant_of-self
invariant_of-self g c =
    let less : c.self.inside.living ≡ suc (count_living (map new_kernel (slice_set c.self.inside.lives.items c.args.k false))) =
    c.self.invariant ∙ one_less c.self.inside.lives.items c.args.k (ap (λ ks. lives_in ks c.args.k) c.self.view_is ∙ c.requires) in
    omega (arith, less)

pub returns-clause-kernels : goal.returns-clause-kernels
returns-clause-kernels g c = no_longer c.self.inside.lives.items c.args.k ∙ ap (change_at c.args.k (λ _. false)) c.self.view_is

pub returns-clause-items : goal.returns-clause-items
returns-clause-items g c = λ set names hands. c.settle_all.ensures ∙ walked_is_lost set _ _ _ _ names hands
