use Rattle.std.proofs.Common.{◌≡◌, ◌+◌, drop, false}
use Rattle.syntax.specs.Tokens.{string_end}
use Rattle.lex_form.proofs.longer.string_scan.Given as goal

abbrev pub invariant-loop-byte : goal.invariant-loop-byte
invariant-loop-byte l = record {
  counted : l.passed ≡ l.byte-index + 1;
  rest : string_end l.escaped l.passed (drop l.byte-index l.byte-items) ≡ string_end false 1 l.byte-items;
}
