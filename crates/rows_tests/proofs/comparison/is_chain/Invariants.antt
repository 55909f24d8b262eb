use Rattle.std.proofs.Common.{◌≡◌, drop}
use Rattle.rows_tests.specs.Chains.{holds, is_chain}
use Rattle.rows_tests.proofs.Links.{going}
use Rattle.rows_tests.proofs.comparison.is_chain.Given as goal

abbrev pub invariant-loop-item : goal.invariant-loop-item
invariant-loop-item l = going (holds l.relation) l.before l.good (drop l.item-index l.items) ≡ is_chain (holds l.relation) l.items
