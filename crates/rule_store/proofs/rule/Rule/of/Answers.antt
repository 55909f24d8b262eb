use Rattle.std.proofs.Common.{◌∙◌, ap, sym}
use Rattle.semantics.specs.Rule.{key_of}
use Rattle.rule_store.specs.Marks.{marked}
use Rattle.rule_store.proofs.rule.Rule.of.Goals as goal

pub invariant_of-result : goal.invariant_of-result
invariant_of-result c =
    c.of-key.ensures ∙ ap (λ m. key_of (marked m) (record { left = c.args.left; right = c.args.right })) (sym c.of-marks.ensures)
