use Rattle.std.proofs.Common.{◌≡◌, ◌++◌, drop}
use Rattle.std.specs.Prelude.{encode_utf8_all}
use Rattle.rows_strings.proofs.strings.text_with.Given as goal

abbrev pub invariant-loop-c : goal.invariant-loop-c
invariant-loop-c l = l.text ++ encode_utf8_all (drop l.c-index l.characters) ≡ encode_utf8_all l.characters
