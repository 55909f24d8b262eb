use Rattle.std.proofs.Common.{◌∙◌, sym}
use Rattle.builtin_names.specs.Named.{names_in}
use Rattle.kernel_defs.proofs.Written.{without_absent, cleared_absent}
use Rattle.kernel_defs.proofs.defs.Defs.clear.Goals as goal

pub returns-in_default : goal.returns-in_default
returns-in_default c =
    c.take.ensures.rest
    ∙ without_absent c.args.self.now c.args.symbol (sym c.in_default.ensures.definition)
    ∙ sym (cleared_absent (names_in c.args.names.now) c.args.self.now c.args.symbol (sym c.in_default.ensures.definition))
