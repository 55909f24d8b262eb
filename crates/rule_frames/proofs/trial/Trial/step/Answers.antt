use Rattle.std.proofs.Common.{◌∙◌, sym}
use Rattle.builtin_names.specs.Named.{names_in}
use Rattle.rule_frames.proofs.Shown.{tried_from}
use Rattle.rule_frames.proofs.Trying.{held, not_held}
use Rattle.rule_frames.proofs.trial.Trial.step.Goals as goal

pub returns-then-holds : goal.returns-then-holds
returns-then-holds c = λ d.
    tried_from (λ k. held (names_in c.args.names.now) c.args.self.now c.args.answer.now k (sym c.holds.ensures ∙ c.if-holds.true)) (c.ask.ensures d)

pub returns : goal.returns
returns c = λ d.
    tried_from (λ k. not_held (names_in c.args.names.now) c.args.self.now c.args.answer.now k (sym c.holds.ensures ∙ c.if-holds.false)) (c.next.ensures d)
