use Rattle.std.proofs.Common.{rules, ap, ◌∙◌, sym}
use Rattle.desk_uses.proofs.Adding.{added, owned}
use Rattle.desk_uses.proofs.number_list.post_listed.Goals as goal

pub post-requires-clause-added : goal.post-requires-clause-added
post-requires-clause-added g c = added c.add-added.result c.add-added.new.self c.turn-turn.result.book c.turn-turn.result.pass c.number-number.result c.args.n
    (search rules) (ap (λ p. p.seen) c.turn-turn.ensures.pass) (c.number-number.ensures ∙ ap (λ p. p.number) (sym c.turn-turn.ensures.pass))
