use Rattle.std.proofs.Common.{◌≡◌, length}
use Rattle.builtin_names.specs.Named.{names_in}
use Rattle.phrase_form.specs.Held.{kept_in}
use Rattle.phrase_form.specs.States.{frames_in}
use Rattle.phrase_form.specs.Steps as s
use Rattle.phrase_form.proofs.reduce.reduce.Given as goal

abbrev pub decreases-loop-frame : goal.decreases-loop-frame
decreases-loop-frame l = length l.stack

abbrev pub invariant-loop-frame : goal.invariant-loop-frame
invariant-loop-frame l =
    s.reduce (names_in l.names) l.level (frames_in (names_in l.names) l.stack) (kept_in l.phrase)
    ≡ s.reduce (names_in l.names) l.level (frames_in (names_in l.names) l.initial.stack) (kept_in l.initial.phrase)
