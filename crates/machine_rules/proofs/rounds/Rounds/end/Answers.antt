use Rattle.std.proofs.Common.{◌≡◌, ◌∙◌, suc, ◌-◌, false, sym, refl, arith}
use Rattle.machine_rules.proofs.Ending.{round_large, round_same, round_last, round_next}
use Rattle.machine_rules.proofs.rounds.Rounds.end.Goals as goal

pub returns-in-Err : goal.returns-in-Err
returns-in-Err c = λ d. round_large c.args.self.now.walk.rules c.args.self.now.further c.args.self.now.subject c.args.whole c.in-Err.ensures

pub returns-then-equals : goal.returns-then-equals
returns-then-equals c = λ d.
    round_same c.args.self.now.walk.rules c.args.self.now.further c.args.self.now.subject c.args.whole c.in-Ok.result c.in-Ok.ensures.0 c.in-Ok.ensures.1 (sym c.equals.ensures ∙ c.if-equals.true)

pub returns-then-self-eq0 : goal.returns-then-self-eq0
returns-then-self-eq0 c = λ d.
    round_last c.args.self.now.walk.rules c.args.self.now.further c.args.self.now.subject c.args.whole c.in-Ok.result c.in-Ok.ensures.0 c.in-Ok.ensures.1 (sym c.equals.ensures ∙ c.if-equals.false) c.if-self-eq0.true

pub returns : goal.returns
returns c = λ d.
    let more : c.args.self.now.further ≡ suc (c.args.self.now.further - 1) = omega (arith, c.if-self-eq0.false) in
    round_next c.args.self.now.walk.rules c.args.self.now.further c.args.self.now.subject c.args.whole c.in-Ok.result c.in-Ok.ensures.0 c.in-Ok.ensures.1 (c.args.self.now.further - 1)
    (record { walk = c.args.self.now.walk; subject = c.args.self.now.subject; further = c.args.self.now.further - 1; begun = false })
    (sym c.equals.ensures ∙ c.if-equals.false) more refl refl refl
