use Rattle.std.proofs.Common.{rules, ◌≡◌}
use Rattle.crit_locks.specs.Holdings.{holder_of}
use Rattle.crit_locks.proofs.Holders.{holder_is_told}
use Rattle.crit_locks.proofs.locks.Locks.holder.Goals as goal

pub returns-clause-exact : goal.returns-clause-exact
returns-clause-exact c =
    let value : c.holder_in.result ≡ holder_of c.args.self.now.held c.args.lock = search rules in
    rw value (holder_is_told c.args.self.now.held c.args.lock)
