use Rattle.std.proofs.Common.{◌≡◌, drop}
use Rattle.journal.specs.Core.{all_free}
use Rattle.master_core.specs.Waits.{first_taken}
use Rattle.master_core.proofs.state.State.first_taken.Given as goal

abbrev pub invariant-loop-lock : goal.invariant-loop-lock
invariant-loop-lock l = (first_taken l.self (drop l.lock-index l.locks) ≡ first_taken l.self l.locks) × (all_free l.self (drop l.lock-index l.locks) ≡ all_free l.self l.locks)
