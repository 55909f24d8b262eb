use Rattle.builtin_names.specs.Named.{names_in}
use Rattle.machine_rules.proofs.Scanning.{scan_falls}
use Rattle.machine_rules.proofs.rule_row.step_scan.Goals as goal

pub returns-clause-falls : goal.returns-clause-falls
returns-clause-falls c = scan_falls (names_in c.args.scene.now.names.now) c.args.defs.now c.args.scene.now.limits c.args.scan.now c.step.new.self c.args.answer c.step.result c.step.ensures
