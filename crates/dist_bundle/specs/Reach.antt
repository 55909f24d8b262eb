-- The program's set of symbols.
--     reach_in              the set
--     IsReach               its symbols stand in order
use Rattle.laws_journal.specs.Symbols.{Ascends}
use Rattle.journal.specs.Closure as closure
use Rattle.dist_bundle.specs.declared.reach.Reach.TheInside.{Inside}

abbrev pub reach_in : Inside → closure.Reach
reach_in r = record { symbols = r.symbols; table = r.table }

abbrev pub IsReach : Inside → Type 0
IsReach r = Ascends r.symbols
