use Rattle.std.proofs.Common.{sym}
use Rattle.phrase_form.specs.Held.{kept_in}
use Rattle.phrase_form.proofs.Innermost.{separated_none}
use Rattle.phrase_form.proofs.close.separate.Goals as goal

pub returns-in-None : goal.returns-in-None
returns-in-None c = λ names. sym (separated_none names c.args.stack.now (kept_in c.args.phrase) c.in-None.ensures.1)
