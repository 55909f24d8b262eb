use Rattle.std.proofs.Common.{◌≡◌}
use Rattle.machine_rows.specs.declared.machine.Machine.{Machine}
use Rattle.machine_rows.proofs.machine.Machine.step.Goals as goal

pub returns-in-Control-clause-stepped : goal.returns-in-Control-clause-stepped
returns-in-Control-clause-stepped c = λ stay.
    let is : c.args.self.now ≡ Machine.Control c.in-Control.form = cc in
    rw is (c.step_control.ensures.stepped stay)

pub returns-in-Module-clause-stepped : goal.returns-in-Module-clause-stepped
returns-in-Module-clause-stepped c = λ stay.
    let is : c.args.self.now ≡ Machine.Module c.in-Module.form = cc in
    rw is (c.step.ensures.stepped stay c.args.used.now)

pub returns-in-Block-clause-stepped : goal.returns-in-Block-clause-stepped
returns-in-Block-clause-stepped c = λ stay.
    let is : c.args.self.now ≡ Machine.Block c.in-Block.form = cc in
    rw is (c.step-in-Block.ensures.stepped stay)

pub returns-in-With-clause-stepped : goal.returns-in-With-clause-stepped
returns-in-With-clause-stepped c = λ stay.
    let is : c.args.self.now ≡ Machine.With c.in-With.form = cc in
    rw is (c.step_with.ensures.stepped stay c.args.used.now)

pub returns-in-Rules-clause-stepped : goal.returns-in-Rules-clause-stepped
returns-in-Rules-clause-stepped c = λ stay.
    let is : c.args.self.now ≡ Machine.Rules c.in-Rules.attempt = cc in
    rw is (c.step_rules.ensures.stepped stay c.args.used.now)

pub returns-in-Iteration-clause-stepped : goal.returns-in-Iteration-clause-stepped
returns-in-Iteration-clause-stepped c = λ stay.
    let is : c.args.self.now ≡ Machine.Iteration c.in-Iteration.form = cc in
    rw is (c.step-in-Iteration.ensures.stepped stay)

pub returns-in-Change-clause-stepped : goal.returns-in-Change-clause-stepped
returns-in-Change-clause-stepped c = λ stay.
    let is : c.args.self.now ≡ Machine.Change c.in-Change.row = cc in
    rw is (c.step-in-Change.ensures.stepped stay)

pub returns-in-RuleRow-clause-stepped : goal.returns-in-RuleRow-clause-stepped
returns-in-RuleRow-clause-stepped c = λ stay.
    let is : c.args.self.now ≡ Machine.RuleRow c.in-RuleRow.row = cc in
    rw is (c.step-in-RuleRow.ensures.stepped stay)

pub returns-in-Outward-clause-stepped : goal.returns-in-Outward-clause-stepped
returns-in-Outward-clause-stepped c = λ stay.
    let is : c.args.self.now ≡ Machine.Outward c.in-Outward.row = cc in
    rw is (c.step-in-Outward.ensures.stepped stay)
