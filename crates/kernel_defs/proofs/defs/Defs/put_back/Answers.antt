use Rattle.std.proofs.Common.{◌∙◌, ap}
use Rattle.builtin_names.specs.Named.{names_in}
use Rattle.kernel_defs.specs.Locals.{restored}
use Rattle.kernel_defs.proofs.Locals.{put_back_along}
use Rattle.kernel_defs.proofs.defs.Defs.put_back.Goals as goal

pub returns : goal.returns
returns c =
    λ old ls p.
    c.put_back_all.ensures
    ∙ ap (λ es. restored (names_in c.args.names.now) es c.args.self.now) p
    ∙ put_back_along (names_in c.args.names.now) ls old c.args.self.now c.entries_ascend.ensures
