use Rattle.std.proofs.Common.{◌<◌, length, arith}
use Rattle.phrase_form.specs.Held.{kept_in}
use Rattle.phrase_form.proofs.Follows.{bottom_none}
use Rattle.phrase_form.proofs.finish.at_bottom.Goals as goal

pub returns-else-len-eq0 : goal.returns-else-len-eq0
returns-else-len-eq0 c =
    let some : 0 < length c.args.stack.now = omega arith in
    λ names. bottom_none names c.args.stack.now (kept_in c.args.phrase) some
