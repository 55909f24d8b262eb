use Rattle.std.proofs.Common.{◌≡◌, drop}
use Rattle.semantics.specs.Sections.{are_symbols}
use Rattle.machine_outward.proofs.shapes.are_symbols.Given as goal

abbrev pub invariant-loop-item : goal.invariant-loop-item
invariant-loop-item l = are_symbols (drop l.item-index l.items) ≡ are_symbols l.items
