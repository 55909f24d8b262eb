use Rattle.std.proofs.Common.{arith}
use Rattle.frames_control.proofs.Turns.{fixed_starts}
use Rattle.frames_control.proofs.fixed_point.FixedPoint.start.Goals as goal

pub returns : goal.returns
returns c =
    λ stay.
    record { by = fixed_starts stay c.args.items.now (omega arith) c.index-items-0.is c.index-items-1.is c.in_ok-copy.ensures c.in_ok-copy-2.ensures c.from.ensures }
