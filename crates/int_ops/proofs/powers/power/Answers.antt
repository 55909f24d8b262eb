use Rattle.std.proofs.Common.{rules, nat_abs}
use Rattle.int_ops.proofs.Growth.{power_answers}
use Rattle.int_ops.proofs.powers.power.Goals as goal

pub returns-then-exponent-le127-clause-row : goal.returns-then-exponent-le127-clause-row
returns-then-exponent-le127-clause-row c = power_answers c.args.base (nat_abs c.args.exponent) c.short_power.result (search rules)
