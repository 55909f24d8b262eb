use Rattle.std.proofs.Common.{sym, ap, ◌∙◌}
use Rattle.dist_bundle.specs.Search.{added_all, nothing}
use Rattle.dist_bundle.proofs.Searched.{added_append}
use Rattle.dist_bundle.proofs.reach.begun.Goals as goal

pub returns : goal.returns
returns c =
    c.in_ok-add_all-2.ensures
    ∙ (λ i. added_all ((c.as_slice.ensures ∙ c.named.ensures) i) ((c.in_ok-add_all.ensures ∙ ap (added_all c.args.seeds.now) c.new-search.ensures) i))
    ∙ sym (added_append c.args.seeds.now c.args.defs.now.named nothing)
