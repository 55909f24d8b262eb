use Rattle.std.proofs.Common.{◌≡◌, ◌+◌, drop}
use Rattle.script_text.specs.Bytes.{run}
use Rattle.lex_form.specs.Scans.{in_class}
use Rattle.lex_form.proofs.classes.Class.run.Given as goal

abbrev pub invariant-loop-byte : goal.invariant-loop-byte
invariant-loop-byte l = record {
  counted : l.len ≡ l.byte-index;
  rest : l.len + run (in_class l.self) (drop l.byte-index l.text) ≡ run (in_class l.self) l.text;
}
