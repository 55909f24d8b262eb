use Rattle.std.proofs.Common.{◌∙◌, ap, refl}
use Rattle.machine_rules.specs.Walks.{walk_over}
use Rattle.machine_rules.proofs.Ending.{round_turns}
use Rattle.machine_rules.proofs.rounds.Rounds.begin.Goals as goal

pub returns : goal.returns
returns c = λ names d limits.
    round_turns names d limits c.args.self.now.walk.rules c.args.self.now.further c.args.self.now.subject _ (c.restart.ensures ∙ ap (walk_over c.args.self.now.walk.rules) c.in_ok-place.ensures) refl refl refl
