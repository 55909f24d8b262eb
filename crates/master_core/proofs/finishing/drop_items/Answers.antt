use Rattle.std.proofs.Common.{rules, ◌≡◌, false}
use Rattle.master_core.specs.Joined.{tries}
use Rattle.master_core.proofs.Dropping as d
use Rattle.master_core.proofs.finishing.drop_items.Goals as goal

pub returns-in-Some-Try : goal.returns-in-Some-Try
returns-in-Some-Try c = λ set. d.dropped_waits set c.args.queue.now c.as_slice.ensures c.drop_all.ensures (search rules)

pub returns-in-Some-All : goal.returns-in-Some-All
returns-in-Some-All c = let other : tries c.args.wait.now ≡ false = search rules in λ set. d.keeps_items set c.args.wait.now c.args.queue.now other

pub returns-in-Some-Next : goal.returns-in-Some-Next
returns-in-Some-Next c = let other : tries c.args.wait.now ≡ false = search rules in λ set. d.keeps_items set c.args.wait.now c.args.queue.now other

pub returns-in-Some-Locks : goal.returns-in-Some-Locks
returns-in-Some-Locks c = let other : tries c.args.wait.now ≡ false = search rules in λ set. d.keeps_items set c.args.wait.now c.args.queue.now other

pub returns-in-None : goal.returns-in-None
returns-in-None c = let other : tries c.args.wait.now ≡ false = search rules in λ set. d.keeps_items set c.args.wait.now c.args.queue.now other
