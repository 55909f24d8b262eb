use Rattle.lex_form.proofs.Lexing.{operators_init}
use Rattle.lex_form.proofs.longer.operator_scan.Goals as goal

pub loop-row-init : goal.loop-row-init
loop-row-init c = operators_init _ c.args.text.now c.operators.ensures
