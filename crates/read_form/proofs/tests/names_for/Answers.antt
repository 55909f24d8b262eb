use Rattle.std.proofs.Common.{ap, map}
use Rattle.semantics.specs.Builtin.{rows}
use Rattle.semantics.specs.Texts.{row_text}
use Rattle.syntax.specs.Tokens as syn
use Rattle.read_form.proofs.KeptNames.{cell_is_kept}
use Rattle.read_form.proofs.tests.names_for.Goals as goal

pub returns : goal.returns
returns c = record { kept = cell_is_kept (map row_text rows) _ _ _ c.args.cell.now _ c.in_ok-names_with.ensures.texts c.in_ok-names_of.ensures c.new-texts.ensures (ap (λ (l : syn.Lexed). l.tokens) c.requires) }
