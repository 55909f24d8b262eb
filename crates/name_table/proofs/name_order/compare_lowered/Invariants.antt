use Rattle.std.proofs.Common.{◌≡◌, ◌≤◌, length, map, drop}
use Rattle.std.specs.Ordering.{nat_cmp}
use Rattle.std.specs.Cmp.Lexicographic.{slice_cmp}
use Rattle.script_text.specs.Spelling.{lowered}
use Rattle.name_table.proofs.name_order.compare_lowered.Given as goal

abbrev pub invariant-loop-i : goal.invariant-loop-i
invariant-loop-i l = record {
  within : l.i ≤ length l.b;
  same : slice_cmp nat_cmp (map lowered (drop l.i l.a)) (map lowered (drop l.i l.b)) ≡ slice_cmp nat_cmp (map lowered l.a) (map lowered l.b);
}
