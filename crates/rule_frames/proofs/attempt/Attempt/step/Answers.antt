use Rattle.std.proofs.Common.{◌∙◌, sym}
use Rattle.rule_frames.specs.Reading.{same}
use Rattle.rule_frames.proofs.Trying.{tried_unless, tried_next}
use Rattle.rule_frames.proofs.attempt.Attempt.step.Goals as goal

pub returns-then-is_settled : goal.returns-then-is_settled
returns-then-is_settled g c =
    record { moved = λ d tells. tried_unless c.go_on-tried.result (λ k. same) (c.go_on-tried.ensures.goes d) (sym c.is_settled.ensures ∙ c.if-is_settled.true) }

pub returns : goal.returns
returns g c =
    record { moved = λ d tells. tried_next c.go_on-tried.result (c.go_on-tried.ensures.goes d) (sym c.is_settled.ensures ∙ c.if-is_settled.false) (c.try_rest.ensures.tried d tells) }
