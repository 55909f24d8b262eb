use Rattle.journal.specs.Closure.{closure}
use Rattle.builtin_names.specs.Named.{names_in}
use Rattle.dist_bundle.proofs.Searched.{Searching, weight}
use Rattle.dist_bundle.proofs.reach.ended.Given as goal

abbrev pub invariant-loop-symbol : goal.invariant-loop-symbol
invariant-loop-symbol l = Searching (names_in l.names) l.defs l.seeds l.search

abbrev pub decreases-loop-symbol : goal.decreases-loop-symbol
decreases-loop-symbol l = weight (closure (names_in l.names) l.defs l.seeds).symbols l.search
