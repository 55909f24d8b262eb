use Rattle.std.proofs.Common.{◌≡◌, ◌++◌, ℕ, List, drop, true}
use Rattle.script_text.specs.Bytes.{in_name, all}
use Rattle.script_text.specs.FullNames.{outside, names_in}
use Rattle.show_form.specs.Words.{names_behind}
use Rattle.show_form.proofs.text_names.full_names.Given as goal

-- the word so far, the names that were added, and those that are left
abbrev pub invariant-loop-byte : goal.invariant-loop-byte
invariant-loop-byte l = record {
  word : all in_name l.word ≡ true;
  before : (more : List (List ℕ)) × (l.into ≡ l.fn.into ++ more);
  names : l.into ++ names_behind l.word (outside l.quoted l.escaped (drop l.byte-index l.text)) ≡ l.fn.into ++ names_in l.text;
}
