use Rattle.std.proofs.Common.{◌≡◌, ◌≤◌, ◌-◌, length, drop, map}
use Rattle.syntax.specs.Tokens as syn
use Rattle.lex_form.specs.Lexes.{token_of}
use Rattle.lex_form.proofs.Lexing.{behind}
use Rattle.lex_form.proofs.lexer.lex.Given as goal

abbrev pub invariant-loop-at : goal.invariant-loop-at
invariant-loop-at l = record {
  same : l.bytes ≡ l.text;
  within : l.at ≤ length l.bytes;
  rest : behind (map token_of l.tokens) (syn.lex_from l.at 0 (drop l.at l.bytes)) ≡ syn.lex l.text;
}

abbrev pub decreases-loop-at : goal.decreases-loop-at
decreases-loop-at l = length l.bytes - l.at
