use Rattle.std.proofs.Common.{◌≡◌, ◌+◌, ◌∷◌, drop}
use Rattle.rule_frames.proofs.Shown.{goes_after, goes_trial, rule_shows}
use Rattle.rule_frames.proofs.Asked.{drop_at}
use Rattle.rule_frames.proofs.attempt.Attempt.next_rule.Goals as goal

pub returns-clause-goes : goal.returns-clause-goes
returns-clause-goes g c = λ d tells.
    let a = c.args.self.now in
    let r = c.index-as_slice-at.result in
    let here : drop a.next a.rules ≡ r ∷ drop (a.next + 1) a.rules = drop_at a.rules a.next r c.requires.more (rw c.as_slice.ensures at c.index-as_slice-at.is) in
    goes_after
    (λ k. rule_shows (drop a.next a.rules) (drop (a.next + 1) a.rules) r a.subject c.in_ok-trial.trial.right c.in_ok-trial.trial.matcher here c.in_ok-trial.ensures.right (c.in_ok-trial.ensures.matcher d tells) k)
    (goes_trial (drop (a.next + 1) a.rules) a.subject (c.next-tried.ensures d))
