use Rattle.std.proofs.Common.{◌≡◌, drop}
use Rattle.dist_bundle.specs.Search.{followed}
use Rattle.dist_bundle.proofs.search.Search.follow_all.Given as goal

abbrev pub invariant-loop-symbol : goal.invariant-loop-symbol
invariant-loop-symbol l = followed l.defs (drop l.symbol-index l.symbols) l.self ≡ followed l.defs l.symbols l.fn.self
