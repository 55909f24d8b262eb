use Rattle.std.proofs.Common.{◌≡◌, ◌++◌, drop}
use Rattle.frames_scope.specs.Reading.{locals_in}
use Rattle.frames_scope.specs.Asked.{all_valued}
use Rattle.frames_scope.proofs.with_form.values_of.Given as goal

abbrev pub invariant-loop-local : goal.invariant-loop-local
invariant-loop-local l = locals_in l.locals ≡ all_valued l.values ++ locals_in (drop l.local-index l.locals)
