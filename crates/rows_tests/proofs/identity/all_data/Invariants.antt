use Rattle.std.proofs.Common.{◌≡◌, drop}
use Rattle.semantics.specs.Tests.{all_data}
use Rattle.rows_tests.proofs.identity.all_data.Given as goal

abbrev pub invariant-loop-item : goal.invariant-loop-item
invariant-loop-item l = all_data (drop l.item-index l.items) ≡ all_data l.items
