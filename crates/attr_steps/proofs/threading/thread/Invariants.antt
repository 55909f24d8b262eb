use Rattle.std.proofs.Common.{◌≡◌, ◌++◌, ◌-◌}
use Rattle.semantics.specs.Steps.{threads}
use Rattle.builtin_names.specs.Named.{names_in}
use Rattle.attr_steps.proofs.Threads.{from_places}
use Rattle.attr_steps.proofs.threading.thread.Given as goal

abbrev pub invariant-loop-place : goal.invariant-loop-place
invariant-loop-place l =
    l.each ++ threads (names_in l.names) l.head (l.length - l.place) (from_places (names_in l.names) l.place l.items) ≡ threads (names_in l.names) l.head l.length l.items
