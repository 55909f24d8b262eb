use Rattle.std.proofs.Common.{◌≡◌, drop, true}
use Rattle.syntax.specs.Signs.{signs}
use Rattle.syntax.specs.Tokens.{operator_in}
use Rattle.lex_form.proofs.Lexing.{operator_by, written, are_written}
use Rattle.lex_form.proofs.longer.operator_scan.Given as goal

abbrev pub invariant-loop-row : goal.invariant-loop-row
invariant-loop-row l = record {
  filled : are_written (written (drop l.row-index l.row-items)) ≡ true;
  rest : operator_by (written (drop l.row-index l.row-items)) l.text ≡ operator_in signs l.text;
}
