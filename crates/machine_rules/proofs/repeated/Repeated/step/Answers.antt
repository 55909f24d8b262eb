use Rattle.std.proofs.Common.{◌<◌, ◌-◌, arith}
use Rattle.machine_rules.proofs.Falling.{counted}
use Rattle.machine_rules.proofs.repeated.Repeated.step.Goals as goal

pub returns-clause-falls : goal.returns-clause-falls
returns-clause-falls c =
    let less : c.args.self.now.moves - 1 < c.args.self.now.moves = omega (arith, c.if-self-eq0.false) in
    counted c.step.result c.args.self.now.moves (c.args.self.now.moves - 1) less
