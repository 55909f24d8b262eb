use Rattle.std.proofs.Common.{◌≡◌, ◌++◌, drop, map}
use Rattle.syntax.specs.Tokens as syn
use Rattle.lex_form.specs.Lexes.{token_of}
use Rattle.lex_form.proofs.CellSteps.{AreAll}
use Rattle.lex_form.proofs.spelled.names_of.Given as goal

abbrev pub invariant-loop-token : goal.invariant-loop-token
invariant-loop-token l = record {
  same : l.bytes ≡ l.text;
  names : l.into ++ syn.names_in l.text (map token_of (drop l.token-index l.tokens)) ≡ l.fn.into ++ syn.names_in l.text (map token_of l.tokens);
  tokens : AreAll l.text (map token_of (drop l.token-index l.tokens));
}
