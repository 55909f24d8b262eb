use Rattle.std.proofs.Common.{◌∙◌}
use Rattle.kernel_defs.proofs.Attributes.{same_flags}
use Rattle.kernel_defs.proofs.first.are_same.Goals as goal

pub returns : goal.returns
returns c = c.eq.ensures ∙ same_flags c.args.a c.args.b
