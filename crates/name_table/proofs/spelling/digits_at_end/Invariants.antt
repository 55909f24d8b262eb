use Rattle.std.proofs.Common.{◌≡◌, ◌+◌, ◌-◌, ◌≤◌, length, drop, reverse}
use Rattle.script_text.specs.Bytes.{is_digit, run}
use Rattle.name_table.proofs.spelling.digits_at_end.Given as goal

abbrev pub invariant-loop-count : goal.invariant-loop-count
invariant-loop-count l = record {
  within : l.count ≤ length l.text;
  counted : run is_digit (reverse l.text) ≡ l.count + run is_digit (drop l.count (reverse l.text));
}

abbrev pub decreases-loop-count : goal.decreases-loop-count
decreases-loop-count l = length l.text - l.count
