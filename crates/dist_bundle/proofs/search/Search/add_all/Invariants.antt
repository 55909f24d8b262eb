use Rattle.std.proofs.Common.{◌≡◌, drop}
use Rattle.dist_bundle.specs.Search.{added_all}
use Rattle.dist_bundle.proofs.search.Search.add_all.Given as goal

abbrev pub invariant-loop-symbol : goal.invariant-loop-symbol
invariant-loop-symbol l = added_all (drop l.symbol-index l.symbols) l.self ≡ added_all l.symbols l.fn.self
