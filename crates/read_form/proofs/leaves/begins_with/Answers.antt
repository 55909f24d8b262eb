use Rattle.std.proofs.Common.{◌∙◌}
use Rattle.lex_form.proofs.Lexing.{starts_is}
use Rattle.read_form.proofs.leaves.begins_with.Goals as goal

pub returns : goal.returns
returns c = c.starts_with.ensures.value ∙ starts_is c.args.other.now c.args.text.now
