use Rattle.std.proofs.Common.{◌≡◌, ◌∙◌}
use Rattle.kernel_defs.specs.Definition.{definition_of}
use Rattle.kernel_defs.proofs.Seen.{holds_found, holds_absent}
use Rattle.kernel_defs.proofs.defs.Defs.holds.Goals as goal

pub returns-in-Some : goal.returns-in-Some
returns-in-Some c =
    λ names.
    c.holds.ensures ∙ holds_found names c.args.self.now c.args.symbol c.args.left.now (definition_of c.in-Some.definition.now) c.in-Some.ensures

pub returns-in-None : goal.returns-in-None
returns-in-None c = λ names. holds_absent names c.args.self.now c.args.symbol c.args.left.now c.in-None.ensures
