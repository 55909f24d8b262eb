use Rattle.std.proofs.Common.{rules, ◌≡◌, ◌∷◌, ◌∙◌, sym, ap, map, replicate, true, false}
use Rattle.journal.specs.Core.{new_kernel, count_living}
use Rattle.requeue_core.proofs.Living.{all_live}
use Rattle.requeue_core.proofs.kernels.Kernels.new.Goals as goal

pub invariant_of-result : goal.invariant_of-result
invariant_of-result c =
    let all : c.loop-kernel.lives.items ≡ false ∷ replicate c.args.count true = search rules in
    sym (ap (λ ks. count_living (map new_kernel ks)) all ∙ all_live c.args.count)
