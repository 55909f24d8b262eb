use Rattle.std.proofs.Common.{◌≡◌, ◌++◌, length, drop, false}
use Rattle.std.specs.Str.{chars, encode_utf8_all}
use Rattle.syntax.specs.Leaves.{unescaped}
use Rattle.read_form.proofs.strings.text_of.Given as goal

abbrev pub invariant-loop-character : goal.invariant-loop-character
invariant-loop-character l =
    l.text ++ unescaped l.escape (encode_utf8_all (drop (length l.yielded) (chars l.quoted))) ≡ unescaped false (encode_utf8_all (chars l.quoted))
