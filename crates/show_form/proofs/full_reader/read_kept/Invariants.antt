use Rattle.std.proofs.Common.{◌≡◌, take, drop, Some}
use Rattle.std.specs.Str.Iter.{char_indices_offset, char_indices_rest}
use Rattle.script_text.specs.Spelling.{place_in}
use Rattle.show_form.specs.Steps.{run, first_state}
use Rattle.show_form.proofs.full_reader.read_kept.Given as goal

-- what is gone over, and what is left
abbrev pub invariant-loop-place : goal.invariant-loop-place
invariant-loop-place l = record {
  gone : run (place_in l.names.texts) (take (char_indices_offset l.place-iterator) l.text) first_state ≡ Some (l.stack, l.mode);
  rest : char_indices_rest l.place-iterator ≡ drop (char_indices_offset l.place-iterator) l.text;
}
