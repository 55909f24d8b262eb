use Rattle.std.proofs.Common.{◌≡◌, map, take, string_bytes}
use Rattle.name_table.specs.Table.{places}
use Rattle.name_table.proofs.names.places_of.Given as goal

abbrev pub invariant-loop-name : goal.invariant-loop-name
invariant-loop-name l = l.found.items ≡ places (map string_bytes l.set.keys) (take l.name-index l.names)
