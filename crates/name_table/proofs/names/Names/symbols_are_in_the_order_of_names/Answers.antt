use Rattle.std.proofs.Common.{ap, nat_cmp}
use Rattle.std.specs.Ordering.{ordering_then}
use Rattle.name_table.proofs.Sorted.{by_place}
use Rattle.name_table.proofs.names.Names.symbols_are_in_the_order_of_names.Goals as goal

pub returns : goal.returns
returns c = rw (← c.self.view_is) (λ s r hs hr. ap (λ o. ordering_then o (nat_cmp s.number r.number)) (by_place _ c.self.invariant.ascends s.base r.base hs hr))
