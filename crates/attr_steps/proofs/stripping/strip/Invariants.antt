use Rattle.std.proofs.Common.{◌≡◌, ◌++◌, drop}
use Rattle.semantics.specs.Steps.{strip}
use Rattle.builtin_names.specs.Named.{names_in}
use Rattle.attr_steps.proofs.stripping.strip.Given as goal

abbrev pub invariant-loop-item : goal.invariant-loop-item
invariant-loop-item l = l.stripped ++ strip (names_in l.names) (drop l.item-index l.fn.items) ≡ strip (names_in l.names) l.fn.items
