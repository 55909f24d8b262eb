use Rattle.std.proofs.Common.{rules, ◌≤◌, ◌-◌}
use Rattle.eval_queue.proofs.Scan.{passed_before}
use Rattle.eval_queue.proofs.queue.Queue.give_back.Goals as goal

pub invariant_of-self : goal.invariant_of-self
invariant_of-self g c =
    let from : c.min-self-inside.result ≤ c.self.inside.from = search rules in
    let place : c.min-self-inside.result ≤ c.args.id - 1 = search rules in
    passed_before _ _ _ _ _ _ c.set_status.ensures from place c.self.invariant
