use Rattle.std.proofs.Common.{rules, ◌≡◌, ◌∙◌, refl, Some, None}
use Rattle.journal.specs.declared.item.Status.TheVariants.{Waiting, Running, Done, Dropped}
use Rattle.eval_queue.specs.Items.{status_at}
use Rattle.master_core.proofs.Dropping as d
use Rattle.master_core.proofs.finishing.drop_one.Goals as goal

pub returns-in_default : goal.returns-in_default
returns-in_default c = let none : status_at c.args.queue.now c.args.id ≡ None = search rules in d.drop_none c.args.queue.now c.args.id none

pub returns-in-Done : goal.returns-in-Done
returns-in-Done c = let has : status_at c.args.queue.now c.args.id ≡ Some (Done c.in-Done.field-0) = search rules in d.drop_kept c.args.queue.now c.args.id (Done c.in-Done.field-0) has refl

pub returns-in-Waiting : goal.returns-in-Waiting
returns-in-Waiting c = let has : status_at c.args.queue.now c.args.id ≡ Some Waiting = search rules in c.drop_item.ensures ∙ d.drop_open c.args.queue.now c.args.id Waiting has refl

pub returns-in-Running : goal.returns-in-Running
returns-in-Running c =
    let has : status_at c.args.queue.now c.args.id ≡ Some (Running c.in-Running.field-0) = search rules in
    c.drop_item-in-Running.ensures ∙ d.drop_open c.args.queue.now c.args.id (Running c.in-Running.field-0) has refl

pub returns-in-Dropped : goal.returns-in-Dropped
returns-in-Dropped c = let has : status_at c.args.queue.now c.args.id ≡ Some Dropped = search rules in d.drop_kept c.args.queue.now c.args.id Dropped has refl
