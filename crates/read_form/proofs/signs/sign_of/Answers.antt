use Rattle.read_form.proofs.SignSteps.{sign_init}
use Rattle.read_form.proofs.signs.sign_of.Goals as goal

pub loop-row-init : goal.loop-row-init
loop-row-init c = sign_init c.operators.result.rows.now c.args.word.now c.operators.ensures
