use Rattle.std.proofs.Common.{sym}
use Rattle.builtin_names.specs.Named.{names_in}
use Rattle.phrase_form.proofs.Innermost.{half_none}
use Rattle.phrase_form.proofs.close.close_part.Goals as goal

pub returns-in-None : goal.returns-in-None
returns-in-None c = sym (half_none (names_in c.args.names.now) c.args.stack.now c.args.items c.in-None.ensures.1)
