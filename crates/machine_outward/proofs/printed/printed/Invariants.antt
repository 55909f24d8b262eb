use Rattle.std.proofs.Common.{◌≡◌, ◌++◌, drop}
use Rattle.semantics.specs.Sections.{printed}
use Rattle.machine_steps.specs.Setup.{setting_of}
use Rattle.machine_outward.proofs.printed.printed.Given as goal

abbrev pub invariant-loop-value : goal.invariant-loop-value
invariant-loop-value l = l.shown ++ printed (setting_of l.scene).shown (drop l.value-index l.values) ≡ printed (setting_of l.scene).shown l.values
