use Rattle.std.proofs.Common.{rules, ◌≡◌, ◌++◌, map}
use Rattle.crit_locks.specs.Holdings.{held_by}
use Rattle.crit_locks.proofs.Entered.{entered_as_seen}
use Rattle.crit_locks.proofs.locks.Locks.enter.Goals as goal

pub returns-clause-locks : goal.returns-clause-locks
returns-clause-locks c =
    let all : c.take_all.new.held.items ≡ c.self.inside.held.items ++ map (held_by c.args.kernel) c.args.locks.now = search rules in
    entered_as_seen _ _ _ _ _ _ c.self.view_is all c.requires.outside
