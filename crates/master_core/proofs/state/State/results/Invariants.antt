use Rattle.std.proofs.Common.{◌≡◌, ◌++◌, drop}
use Rattle.journal.specs.Core.{results_of}
use Rattle.master_core.proofs.state.State.results.Given as goal

abbrev pub invariant-loop-id : goal.invariant-loop-id
invariant-loop-id l = l.values ++ results_of l.self (drop l.id-index l.ids) ≡ results_of l.self l.ids
