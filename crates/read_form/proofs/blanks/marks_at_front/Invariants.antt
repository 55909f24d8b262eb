use Rattle.std.proofs.Common.{◌≡◌, ◌+◌, ◌≤◌, drop}
use Rattle.std.specs.Prelude.{◌==◌}
use Rattle.script_text.specs.Bytes.{run}
use Rattle.read_form.proofs.blanks.marks_at_front.Given as goal

abbrev pub invariant-loop-byte : goal.invariant-loop-byte
invariant-loop-byte l = record {
  counted : l.marks + run (λ c. c == 95) (drop l.byte-index l.word) ≡ run (λ c. c == 95) l.word;
  within : l.marks ≤ l.byte-index;
}
