use Rattle.std.proofs.Common.{sym, refl, subst, map}
use Rattle.syntax.specs.Tokens.{lex}
use Rattle.lex_form.proofs.TokenShapes.{tokens_good}
use Rattle.lex_form.proofs.CellSteps.{AreAll, are_all}
use Rattle.lex_form.proofs.spelled.names_of.Goals as goal

pub loop-token-init : goal.loop-token-init
loop-token-init c = record {
  same = c.as_bytes-bytes.ensures.value;
  names = refl;
  tokens = subst (AreAll c.args.text.now) (sym c.requires) (are_all c.args.text.now 0 (lex c.args.text.now).tokens (tokens_good c.args.text.now));
}
