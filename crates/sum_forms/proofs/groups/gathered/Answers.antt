use Rattle.std.proofs.Common.{rules, ◌≡◌, [], sym, subst, ap, ◌∙◌}
use Rattle.std.specs.List.Sorted.{IsSortedBy, IsStableBy}
use Rattle.std.proofs.lemmas.Result.{IfOk-weaker}
use Rattle.std.proofs.lemmas.List.Sorted.{ranks_by, answers_always}
use Rattle.semantics.specs.Numbers as Numbers
use Rattle.canon_order.specs.Total.{tree_cmp_total}
use Rattle.sum_forms.specs.Gathering.{Alike, gathered, merged_onto}
use Rattle.sum_forms.proofs.Gathers.{rest_before, sorted-alike}
use Rattle.sum_forms.proofs.groups.gathered.Goals as goal

pub returns : goal.returns
returns c =
    let parts = c.args.parts.items in
    let sorted = c.sort_by.new.self.items in
    let rises : IsSortedBy rest_before sorted = c.in_ok-sort_by.ensures.sorted rest_before (ranks_by tree_cmp_total (λ (p : Numbers.Part). p.rest)) (answers_always _ _ _ (λ f a r g h. search rules)) in
    let stable : IsStableBy rest_before parts sorted = c.sort_by.ensures.stable rest_before (ranks_by tree_cmp_total (λ (p : Numbers.Part). p.rest)) (answers_always _ _ _ (λ f a r g h. search rules)) in
    let slice : c.as_slice.result.now ≡ sorted = search rules in
    IfOk-weaker c.merged.result (λ groups. groups.items ≡ merged_onto c.as_slice.result.now []) (λ groups. Alike groups.items (gathered parts)) (λ groups is. subst (λ gs. Alike gs (gathered parts)) (sym (is ∙ ap (λ ps. merged_onto ps []) slice)) (sorted-alike parts sorted stable rises)) c.merged.ensures
