use Rattle.std.proofs.Common.{refl}
use Rattle.builtin_names.specs.Named.{names_in}
use Rattle.rule_frames.proofs.Shown.{shows_is}
use Rattle.machine_rules.specs.Walks.{after, upward}
use Rattle.machine_rules.proofs.Walking.{passes_after, begins}
use Rattle.machine_rules.proofs.walk.Walk.begin.Goals as goal

pub returns-clause-goes : goal.returns-clause-goes
returns-clause-goes c =
    passes_after
    (λ k. shows_is (begins (names_in c.args.scene.now.names.now) c.args.self.now c.in_ok-attempt.attempt c.args.self.now.rules k refl
    (c.in_ok-attempt.ensures (names_in c.args.scene.now.names.now) (after (names_in c.args.scene.now.names.now) c.args.self.now.rules c.args.self.now.place (upward (names_in c.args.scene.now.names.now) c.args.self.now k)))))
    c.pursue.ensures.goes
