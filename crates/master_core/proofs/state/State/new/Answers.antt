use Rattle.std.proofs.Common.{rules, ◌≡◌, ◌∷◌, ◌∙◌, replicate, None}
use Rattle.master_core.proofs.Joins as j
use Rattle.master_core.proofs.state.State.new.Goals as goal

pub invariant_of-result : goal.invariant_of-result
invariant_of-result c =
    let all : c.loop-kernel.attempts.items ≡ None ∷ replicate c.args.kernels None = search rules in
    j.first_parts c.args.kernels _ _ _ c.in_ok-new.ensures all c.new-3.ensures

pub returns : goal.returns
returns c =
    let all : c.loop-kernel.attempts.items ≡ None ∷ replicate c.args.kernels None = search rules in
    λ set count. j.first_core set c.args.kernels _ _ _ _ _ _ _ (c.of.ensures ∙ c.requires) c.new.ensures c.in_ok-new.ensures all c.new-3.ensures c.new-4.ensures.items c.new-5.ensures count
