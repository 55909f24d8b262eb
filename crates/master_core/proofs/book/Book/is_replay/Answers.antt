use Rattle.std.proofs.Common.{subst}
use Rattle.master_core.specs.Book.{IsReplayed}
use Rattle.master_core.proofs.book.Book.is_replay.Goals as goal

pub returns : goal.returns
returns c = subst IsReplayed c.self.view_is (record { replayed = c.self.invariant.replayed; lent = c.self.invariant.lent; unclosed = c.self.invariant.unclosed; kernels = c.self.invariant.kernels })
