use Rattle.std.proofs.Common.{◌≡◌, Ok, false, refl}
use Rattle.frames_scope.specs.Reading.{locals_in}
use Rattle.frames_scope.specs.declared.moves.ScopeMove.{ScopeMove}
use Rattle.machine_rows.proofs.Falling.{falls_asks, falls_within}
use Rattle.machine_rows.proofs.Steps.{step_asks, step_done, step_makes, step_results, step_within}
use Rattle.machine_rows.proofs.scoped.scope_move.Goals as goal

pub returns-in-Ok-Ask-clause-stepped : goal.returns-in-Ok-Ask-clause-stepped
returns-in-Ok-Ask-clause-stepped c = λ p stay used rest g.
    let is : c.args.moved ≡ Ok (ScopeMove.Ask c.in-Ok-Ask.e) = cc in
    step_asks (rw is at g)

pub returns-in-Ok-Ask-clause-falls : goal.returns-in-Ok-Ask-clause-falls
returns-in-Ok-Ask-clause-falls c = λ p rest g steady.
    let is : c.args.moved ≡ Ok (ScopeMove.Ask c.in-Ok-Ask.e) = cc in
    falls_asks c.in-Ok-Ask.e false (rw is at g) steady

pub returns-in-Ok-Within-clause-stepped : goal.returns-in-Ok-Within-clause-stepped
returns-in-Ok-Within-clause-stepped c = λ p stay used rest g.
    let is : c.args.moved ≡ Ok (ScopeMove.Within c.in-Ok-Within.locals c.in-Ok-Within.e) = cc in
    step_within (rw is at g) refl

pub returns-in-Ok-Within-clause-falls : goal.returns-in-Ok-Within-clause-falls
returns-in-Ok-Within-clause-falls c = λ p rest g steady.
    let is : c.args.moved ≡ Ok (ScopeMove.Within c.in-Ok-Within.locals c.in-Ok-Within.e) = cc in
    falls_within (locals_in c.in-Ok-Within.locals) c.in-Ok-Within.e false (rw is at g) steady

pub returns-in_ok-make_all-in-Ok-Make-clause-stepped : goal.returns-in_ok-make_all-in-Ok-Make-clause-stepped
returns-in_ok-make_all-in-Ok-Make-clause-stepped c = λ p stay used rest g.
    let is : c.args.moved ≡ Ok (ScopeMove.Make c.in-Ok-Make.locals c.in-Ok-Make.bindings c.in-Ok-Make.e) = cc in
    rw (c.result_move.ensures, c.in_ok-make_all-in-Ok-Make.ensures) (step_makes c.placed.result (rw is at g) c.placed.ensures)

pub returns-in-Ok-Place-clause-stepped : goal.returns-in-Ok-Place-clause-stepped
returns-in-Ok-Place-clause-stepped c = λ p stay used rest g.
    let is : c.args.moved ≡ Ok (ScopeMove.Place c.in-Ok-Place.bindings c.in-Ok-Place.e) = cc in
    rw c.result_move-in-Ok-Place.ensures (step_results c.placed-in-Ok-Place.result (rw is at g) c.placed-in-Ok-Place.ensures)

pub returns-in-Ok-Done-clause-stepped : goal.returns-in-Ok-Done-clause-stepped
returns-in-Ok-Done-clause-stepped c = λ p stay used rest g.
    let is : c.args.moved ≡ Ok (ScopeMove.Done c.in-Ok-Done.e) = cc in
    step_done (rw is at g)
