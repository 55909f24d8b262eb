use Rattle.std.proofs.Common.{arith}
use Rattle.builtin_names.specs.Named.{names_in}
use Rattle.frames_control.proofs.Turns.{while_starts}
use Rattle.frames_control.proofs.while_loop.While.start.Goals as goal

pub returns : goal.returns
returns c =
    λ stay.
    record { by = while_starts (names_in c.args.names.now) stay c.args.items.now (omega arith) c.index-items-0.is c.index-items-1.is c.in_ok-copy.ensures c.in_ok-copy-2.ensures c.from.ensures }
