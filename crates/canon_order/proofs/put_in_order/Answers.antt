use Rattle.std.proofs.Common.{rules, ap}
use Rattle.std.specs.Ordering.{is_lt}
use Rattle.std.proofs.lemmas.Result.{on_ok_weaker}
use Rattle.std.proofs.lemmas.List.Sorted.{ranks_by, answers_always}
use Rattle.expr_tree.specs.Order.{comes_before}
use Rattle.canon_order.specs.Total.{tree_cmp_total}
use Rattle.canon_order.proofs.put_in_order.Goals as goal

pub returns-clause-sorted : goal.returns-clause-sorted
returns-clause-sorted c =
    on_ok_weaker c.sort_by-done.result
    (λ sorted. rw c.from_vec.ensures (sorted comes_before (ranks_by tree_cmp_total (λ t. t)) (answers_always _ _ _ (λ f a r g h. search rules))))
    c.sort_by-done.ensures.sorted
