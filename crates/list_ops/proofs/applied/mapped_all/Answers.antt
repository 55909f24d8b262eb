use Rattle.std.proofs.Common.{ap, sym, ◌∙◌, map}
use Rattle.std.proofs.lemmas.List.{take_all}
use Rattle.expr_tree.proofs.Trees.{elements-trees}
use Rattle.semantics.specs.Lists.{mapped}
use Rattle.list_ops.proofs.applied.mapped_all.Goals as goal

pub returns : goal.returns
returns c =
    c.loop-argument.invariant
    ∙ ap (map (mapped c.args.function.now)) (take_all c.loop-argument.argument-index c.args.arguments.now c.loop-argument-test.false)
    ∙ sym (elements-trees (map (mapped c.args.function.now) c.args.arguments.now))
