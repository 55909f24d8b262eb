use Rattle.std.proofs.Common.{◌≡◌, ◌++◌, drop}
use Rattle.semantics.specs.Scoping.{with_number}
use Rattle.frames_scope.specs.Reading.{locals_in}
use Rattle.frames_scope.proofs.module_form.with_number.Given as goal

abbrev pub invariant-loop-local : goal.invariant-loop-local
invariant-loop-local l =
    locals_in l.numbered ++ with_number l.number (locals_in (drop l.local-index l.locals)) ≡ with_number l.number (locals_in l.locals)
