use Rattle.std.proofs.Common.{◌≡◌, ◌≤◌, ◌*◌, ◌^◌, ◌+ℤ◌, nat_abs, drop}
use Rattle.int_ops.specs.Totals.{total}
use Rattle.int_ops.proofs.sum.total.Given as goal

abbrev pub invariant-loop-number : goal.invariant-loop-number
invariant-loop-number l = record {
  so_far : l.sum +ℤ total (drop l.number-index l.numbers) ≡ total l.numbers;
  small : nat_abs l.sum ≤ l.number-index * 2 ^ 127;
}
