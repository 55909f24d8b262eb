use Rattle.std.proofs.Common.{◌≡◌, ◌+◌, drop, ◌≤◌, suc}
use Rattle.syntax.specs.Tokens.{comment_end}
use Rattle.lex_form.proofs.longer.comment_scan.Given as goal

abbrev pub invariant-loop-byte : goal.invariant-loop-byte
invariant-loop-byte l = record {
  counted : l.passed ≡ l.byte-index + 2;
  nested : l.inner ≤ l.passed;
  rest : comment_end (suc l.inner) l.before l.passed (drop l.byte-index l.byte-items) ≡ comment_end 1 0 2 l.byte-items;
}
