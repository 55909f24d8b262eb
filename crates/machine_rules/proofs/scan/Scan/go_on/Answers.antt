use Rattle.std.proofs.Common.{◌∙◌, ap, sym}
use Rattle.builtin_names.specs.Named.{names_in}
use Rattle.rule_frames.proofs.Shown.{shows_is}
use Rattle.machine_rules.specs.Scans.{left_by}
use Rattle.machine_rules.proofs.scan.Scan.go_on.Goals as goal

pub returns-in-None : goal.returns-in-None
returns-in-None c = record {
  by = shows_is (ap (λ p. left_by (names_in c.args.scene.now.names.now) c.args.self.now.rules c.args.self.now.tally c.args.self.now.rest p c.args.answer) (sym c.take.ensures.value ∙ c.in-None.is));
}
