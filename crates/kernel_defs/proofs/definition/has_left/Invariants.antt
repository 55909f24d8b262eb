use Rattle.std.proofs.Common.{◌≡◌, drop}
use Rattle.semantics.specs.Rule.{has_left}
use Rattle.kernel_defs.proofs.definition.has_left.Given as goal

abbrev pub invariant-loop-rule : goal.invariant-loop-rule
invariant-loop-rule l = has_left l.left (drop l.rule-index l.rules) ≡ has_left l.left l.rules
