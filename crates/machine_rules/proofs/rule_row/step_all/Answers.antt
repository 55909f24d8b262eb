use Rattle.builtin_names.specs.Named.{names_in}
use Rattle.machine_rules.proofs.Falling.{all_falls}
use Rattle.machine_rules.proofs.rule_row.step_all.Goals as goal

pub returns-clause-falls : goal.returns-clause-falls
returns-clause-falls c = all_falls (names_in c.args.scene.now.names.now) c.args.defs.now c.args.scene.now.limits c.args.walk.now c.go_all.new.walk c.args.answer c.go_all.result c.go_all.ensures
