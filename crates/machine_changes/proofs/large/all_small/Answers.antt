use Rattle.std.proofs.Common.{◌∙◌, ◌≤◌, subst}
use Rattle.expr_tree.specs.Tree.{size, depth}
use Rattle.machine_changes.proofs.Larger.{one_small}
use Rattle.machine_changes.proofs.large.all_small.Goals as goal

pub loop-rule-preserved : goal.loop-rule-preserved
loop-rule-preserved c =
    λ t large.
    one_small t c.args.rules.now c.loop-rule.rule-index c.rule-item.result large c.loop-rule-test.true c.rule-item.is
    (subst (λ e. size e ≤ 4000000) c.left.ensures (subst (λ n. n ≤ 4000000) c.size-nodes.ensures.value c.size-nodes.ensures.within))
    (subst (λ e. depth e ≤ 512) c.left-in-loop-rule.ensures (subst (λ n. n ≤ 512) c.depth-levels.ensures.value c.depth-levels.ensures.within))
    ∙ c.loop-rule.invariant t large
