use Rattle.std.proofs.Common.{◌≡◌, drop}
use Rattle.script_text.specs.Bytes.{all, is_digit}
use Rattle.script_run.proofs.words.are_digits.Given as goal

abbrev pub invariant-loop-byte : goal.invariant-loop-byte
invariant-loop-byte l = all is_digit (drop l.byte-index l.bytes) ≡ all is_digit l.bytes
