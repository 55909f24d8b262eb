use Rattle.std.proofs.Common.{ap, ◌∙◌}
use Rattle.journal.specs.Closure.{symbols_of}
use Rattle.dist_bundle.specs.Search.{added_all}
use Rattle.dist_bundle.proofs.Rows.{rules_step}
use Rattle.dist_bundle.proofs.search.Search.add_rules.Goals as goal

pub loop-rule-preserved : goal.loop-rule-preserved
loop-rule-preserved c =
    rules_step c.args.rules.now c.loop-rule.rule-index c.rule-item.result c.loop-rule.self c.add_tree.new.self c.add_tree-in-loop-rule.new.self c.loop-rule-test.true c.rule-item.is
    (c.in_ok-add_tree.ensures ∙ ap (λ t. added_all (symbols_of t) c.loop-rule.self) c.left.ensures)
    (c.in_ok-add_tree-2.ensures ∙ ap (λ t. added_all (symbols_of t) c.add_tree.new.self) c.right.ensures)
    ∙ c.loop-rule.invariant
