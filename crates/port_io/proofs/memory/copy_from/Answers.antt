use Rattle.std.proofs.Common.{arith}
use Rattle.port_io.proofs.Pieces.{piece_read}
use Rattle.port_io.proofs.memory.copy_from.Goals as goal

pub returns-clause-bytes : goal.returns-clause-bytes
returns-clause-bytes c = piece_read c.args.bytes.now _ _ _ _ c.copy_from_slice.ensures.after (omega (arith, c.min-count.ensures))
