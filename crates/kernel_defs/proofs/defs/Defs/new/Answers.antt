use Rattle.std.proofs.Common.{arith}
use Rattle.kernel_defs.proofs.Adding.{empty_table, empty_entries}
use Rattle.kernel_defs.proofs.defs.Defs.new.Goals as goal

pub invariant_of-result : goal.invariant_of-result
invariant_of-result c = record { width = c.in_ok-empty_chains.ensures.len; table = empty_table 0 _ c.in_ok-empty_chains.ensures.empty; number = omega arith; no_rules = c.new-3.ensures }

pub returns : goal.returns
returns c = λ i. record { entries = empty_entries _ c.in_ok-empty_chains.ensures.empty i; shared = c.new.ensures i; named = c.new-2.ensures i; module_number = 1 }
