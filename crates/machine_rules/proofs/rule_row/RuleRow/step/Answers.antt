use Rattle.builtin_names.specs.Named.{names_in}
use Rattle.machine_steps.specs.Setup.{setting_of}
use Rattle.machine_rules.specs.RowLeft.{left_machine}
use Rattle.machine_rules.proofs.Running.{goes_stepped}
use Rattle.machine_rules.proofs.rule_row.RuleRow.step.Goals as goal

pub returns-clause-stepped : goal.returns-clause-stepped
returns-clause-stepped c = λ stay.
    goes_stepped (setting_of c.args.scene.now) c.args.defs.now c.args.used.now (left_machine (names_in c.args.scene.now.names.now) c.args.self.now c.args.answer) stay c.go.result
    (left_machine (names_in c.args.scene.now.names.now) c.go.new.self) c.go.ensures.goes
