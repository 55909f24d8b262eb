use Rattle.std.proofs.Common.{◌≡◌, take}
use Rattle.builtin_names.specs.Named.{names_in}
use Rattle.dist_bundle.specs.Search.{row_symbols}
use Rattle.dist_bundle.proofs.search.row_symbols.Given as goal

abbrev pub invariant-loop-row : goal.invariant-loop-row
invariant-loop-row l = l.symbols ≡ take l.row (row_symbols (names_in l.names))
