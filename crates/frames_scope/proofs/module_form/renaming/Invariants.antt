use Rattle.std.proofs.Common.{◌≡◌, ◌++◌, drop}
use Rattle.semantics.specs.Scoping.{renaming}
use Rattle.frames_scope.specs.Reading.{locals_in}
use Rattle.frames_scope.proofs.module_form.renaming.Given as goal

abbrev pub invariant-loop-local : goal.invariant-loop-local
invariant-loop-local l =
    l.bindings ++ renaming l.number (locals_in (drop l.local-index l.locals)) ≡ renaming l.number (locals_in l.locals)
