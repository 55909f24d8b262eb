use Rattle.std.proofs.Common.{◌≡◌}
use Rattle.builtin_names.specs.Named.{names_in}
use Rattle.frames_scope.specs.ScopingLeft as left
use Rattle.frames_scope.specs.Reading.{locals_in}
use Rattle.machine_rows.specs.Asking.{asks}
use Rattle.machine_rows.specs.declared.module_row.ModuleRow.{ModuleRow}
use Rattle.machine_rows.proofs.Scopes.{module_falls, module_numbered}
use Rattle.machine_rows.proofs.module_row.ModuleRow.step.Goals as goal

pub returns-in_ok-form-in-Unnumbered-clause-stepped : goal.returns-in_ok-form-in-Unnumbered-clause-stepped
returns-in_ok-form-in-Unnumbered-clause-stepped c = λ stay used.
    let is : c.args.self.now ≡ ModuleRow.Unnumbered c.in-Unnumbered.scope = cc in
    rw is (module_numbered c.step_module-result.result (locals_in c.in-Unnumbered.scope.locals) c.in-Unnumbered.scope.body c.in-Some.number c.in-Some.ensures.0 c.in-Some.ensures.1 c.in-Some.ensures.2
    (c.in_ok-form-in-Unnumbered.ensures (names_in c.args.scene.now.names.now)) (c.step_module-result.ensures.stepped stay used))

pub returns-in_ok-form-in-Unnumbered-clause-falls : goal.returns-in_ok-form-in-Unnumbered-clause-falls
returns-in_ok-form-in-Unnumbered-clause-falls c =
    let is : c.args.self.now ≡ ModuleRow.Unnumbered c.in-Unnumbered.scope = cc in
    rw is (module_falls c.step_module-result.result (λ v. asks (left.left_module (names_in c.args.scene.now.names.now) c.step_module-result.new.form v)) (names_in c.args.scene.now.names.now) _
    (locals_in c.in-Unnumbered.scope.locals) c.in-Unnumbered.scope.body c.in-Some.number (c.in_ok-form-in-Unnumbered.ensures (names_in c.args.scene.now.names.now)) c.step_module-result.ensures.falls)

pub returns-in-Numbered-clause-stepped : goal.returns-in-Numbered-clause-stepped
returns-in-Numbered-clause-stepped c = λ stay used.
    let is : c.args.self.now ≡ ModuleRow.Numbered c.in-Numbered.form = cc in
    rw is (c.step_module.ensures.stepped stay used)
