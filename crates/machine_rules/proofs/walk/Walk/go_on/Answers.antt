use Rattle.std.proofs.Common.{◌∙◌, ap, sym}
use Rattle.builtin_names.specs.Named.{names_in}
use Rattle.rule_frames.proofs.Shown.{shows_is}
use Rattle.machine_rules.specs.Walks.{left_by}
use Rattle.machine_rules.proofs.Walking.{passes_after}
use Rattle.machine_rules.proofs.walk.Walk.go_on.Goals as goal

pub returns-in-Some-clause-goes : goal.returns-in-Some-clause-goes
returns-in-Some-clause-goes c =
    passes_after (λ k. shows_is (ap (λ p. left_by (names_in c.args.scene.now.names.now) c.args.self.now p c.args.answer k) (sym c.take.ensures.value ∙ c.in-Some.is))) c.pursue.ensures.goes

pub returns-in-None-clause-goes : goal.returns-in-None-clause-goes
returns-in-None-clause-goes c = record {
  by = λ k. shows_is (ap (λ p. left_by (names_in c.args.scene.now.names.now) c.args.self.now p c.args.answer k) (sym c.take.ensures.value ∙ c.in-None.is));
}
