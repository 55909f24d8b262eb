use Rattle.std.proofs.Common.{◌∙◌, ◌≤◌, ap, sym, length, arith}
use Rattle.builtin_names.specs.Named.{names_in}
use Rattle.rule_frames.specs.Reading.{same}
use Rattle.rule_frames.specs.Rules.{rules_left}
use Rattle.rule_frames.proofs.Shown.{shows_on, shows_is, tried_fails}
use Rattle.rule_frames.proofs.Asked.{drop_past}
use Rattle.rule_frames.proofs.Trying.{tried_unless, shows_next}
use Rattle.rule_frames.proofs.attempt.Attempt.try_rest.Goals as goal

pub loop-self-init : goal.loop-self-init
loop-self-init g c = λ d tells k. same

pub returns-then-is_settled : goal.returns-then-is_settled
returns-then-is_settled g c =
    record { tried = λ d tells. tried_unless c.next_rule-tried.result (c.loop-self.invariant d tells) (c.next_rule-tried.ensures.goes d tells) (sym c.is_settled.ensures ∙ c.if-is_settled.true) }

pub loop-self-preserved-else-is_settled-11 : goal.loop-self-preserved-else-is_settled-11
loop-self-preserved-else-is_settled-11 g c = λ d tells k.
    shows_on (c.loop-self.invariant d tells k) (shows_next c.next_rule-tried.result (c.next_rule-tried.ensures.goes d tells) (sym c.is_settled.ensures ∙ c.if-is_settled.false) k)

pub returns : goal.returns
returns g c =
    record {
      tried = λ d tells.
          let past : length c.loop-self.self.rules ≤ c.loop-self.self.next = omega (arith, c.len.ensures, c.loop-self-test.false) in
          tried_fails (λ k. shows_on (c.loop-self.invariant d tells k)
          (shows_is (ap (λ rs. rules_left (names_in c.args.names.now) rs c.loop-self.self.subject k) (drop_past c.loop-self.self.rules c.loop-self.self.next past))));
    }
