use Rattle.std.proofs.Common.{◌≡◌, ◌++◌, length, drop}
use Rattle.std.specs.Str.{chars, encode_utf8_all}
use Rattle.script_text.specs.Full.{all_escaped}
use Rattle.show_form.proofs.full_form.put_escaped.Given as goal

abbrev pub invariant-loop-c : goal.invariant-loop-c
invariant-loop-c l =
    l.buffer ++ all_escaped (encode_utf8_all (drop (length l.yielded) (chars l.text))) ≡ l.fn.buffer ++ all_escaped (encode_utf8_all (chars l.text))
