use Rattle.std.proofs.Common.{◌≡◌, pos, [], drop}
use Rattle.semantics.specs.Numbers.{gather_sum}
use Rattle.builtin_names.specs.Named.{names_in}
use Rattle.int_ops.specs.Totals.{total}
use Rattle.sum_forms.specs.Gathering.{gathered}
use Rattle.sum_forms.proofs.sums.plus.Given as goal

abbrev pub invariant-loop-item : goal.invariant-loop-item
invariant-loop-item l =
    gather_sum (names_in l.names) (drop l.item-index l.items) (record { whole_part = total l.numbers.items; parts = gathered l.parts.items })
    ≡ gather_sum (names_in l.names) l.items (record { whole_part = pos 0; parts = [] })
