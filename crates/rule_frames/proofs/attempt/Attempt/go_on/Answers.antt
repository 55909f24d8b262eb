use Rattle.std.proofs.Common.{ap, drop}
use Rattle.builtin_names.specs.Named.{names_in}
use Rattle.rule_frames.specs.Trials.{left_by}
use Rattle.rule_frames.proofs.Shown.{shows_is, goes_after, goes_trial}
use Rattle.rule_frames.proofs.attempt.Attempt.go_on.Goals as goal

pub returns-in-None : goal.returns-in-None
returns-in-None c =
    record { goes = λ d. record { by = λ k. shows_is (ap (λ t. left_by (names_in c.args.names.now) c.args.self.now t c.args.answer.now k) c.in-None.is) } }

pub returns-in-Some : goal.returns-in-Some
returns-in-Some c =
    record {
      goes = λ d.
          goes_after (λ k. shows_is (ap (λ t. left_by (names_in c.args.names.now) c.args.self.now t c.args.answer.now k) c.in-Some.is))
          (goes_trial (drop c.args.self.now.next c.args.self.now.rules) c.args.self.now.subject (c.step.ensures d));
    }
