use Rattle.std.proofs.Common.{◌≡◌, ℕ, ◌≤◌, ◌+◌, ◌||◌, List, length, take, map}
use Rattle.std.specs.List.{list_any}
use Rattle.std.specs.Str.{bytes_eq}
use Rattle.indexmap.specs.IndexSet.{contains_text}
use Rattle.name_table.proofs.Adding.{base_of}
use Rattle.name_table.proofs.names.add_bases.Given as goal

abbrev pub invariant-loop-name : goal.invariant-loop-name
invariant-loop-name l = record {
  few : length l.set.keys ≤ length l.fn.set.keys + l.name-index;
  bases : (t : List ℕ) → contains_text l.set t ≡ (contains_text l.fn.set t || list_any (bytes_eq t) (map base_of (take l.name-index l.names)));
}
