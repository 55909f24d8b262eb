use Rattle.std.proofs.Common.{arith, sym, ◌∙◌}
use Rattle.port_io.proofs.Pieces.{count_kept, count_rose}
use Rattle.port_io.proofs.memory.MemSourceSource.read.Goals as goal

pub returns-then-next_fails-clause-counted : goal.returns-then-next_fails-clause-counted
returns-then-next_fails-clause-counted c = rw c.next_fails.ensures.numbered (count_kept _ c.args.self.now.fails (omega arith))

pub returns-then-next_fails-clause-failed : goal.returns-then-next_fails-clause-failed
returns-then-next_fails-clause-failed c =
    rw c.next_fails.ensures.numbered (count_rose c.args.self.now.calls c.args.self.now.fails (sym c.next_fails.ensures.fails ∙ c.if-next_fails.true))

pub returns-clause-counted : goal.returns-clause-counted
returns-clause-counted c = rw c.next_fails.ensures.numbered (count_kept _ c.args.self.now.fails (omega arith))
