use Rattle.std.proofs.Common.{◌≡◌, ◌+◌, ◌≤◌, drop}
use Rattle.script_text.specs.Bytes.{run, in_name}
use Rattle.read_form.proofs.blanks.name_len.Given as goal

abbrev pub invariant-loop-byte : goal.invariant-loop-byte
invariant-loop-byte l = record {
  counted : l.len + run in_name (drop l.byte-index l.word) ≡ run in_name l.word;
  within : l.len ≤ l.byte-index;
}
