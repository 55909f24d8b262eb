use Rattle.std.proofs.Common.{◌≡◌, drop, map}
use Rattle.semantics.specs.Definitions.{shared_as}
use Rattle.shared_calls.specs.View.{shared_symbol}
use Rattle.shared_calls.proofs.shared.find_in.Given as goal

abbrev pub invariant-loop-shared : goal.invariant-loop-shared
invariant-loop-shared l = shared_as (map shared_symbol (drop l.shared-index l.symbols)) l.symbol ≡ shared_as (map shared_symbol l.symbols) l.symbol
