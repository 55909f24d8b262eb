use Rattle.std.proofs.Common.{rules, ◌≡◌, refl}
use Rattle.expr_tree.specs.Tree.{symbol}
use Rattle.journal.specs.declared.item.Status.{Status}
use Rattle.eval_queue.specs.Items.{with_status}
use Rattle.requeue_core.proofs.Settling.{told, stays, changes, changes_twice, missing, no_item, then_status}
use Rattle.requeue_core.proofs.lost.settle.Goals as goal

pub returns-in_default-clause-items : goal.returns-in_default-clause-items
returns-in_default-clause-items g c = missing _ _ _ _ _ (no_item c.args.id c.args.queue.now c.in_default.ensures)

pub returns-in-Stays-clause-items : goal.returns-in-Stays-clause-items
returns-in-Stays-clause-items g c =
    let is = told c.args.k c.args.id c.args.queue.now _ _ _ c.in-Some.ensures c.in-Some-state.ensures c.in-Stays.ensures.value in
    stays _ _ _ _ _ is

pub returns-in-Returns-clause-items : goal.returns-in-Returns-clause-items
returns-in-Returns-clause-items g c =
    let is = told c.args.k c.args.id c.args.queue.now _ _ _ c.in-Some.ensures c.in-Some-state.ensures c.in-Returns.ensures.value in
    changes _ _ _ _ _ _ _ _ is (λ _. refl) c.return_item.ensures

pub finish-requires : goal.finish-requires
finish-requires g c = then_status c.args.id _ _ c.args.queue.now _ c.in-Some-state.ensures c.take.ensures

pub returns-in-FailsWaiting-clause-items : goal.returns-in-FailsWaiting-clause-items
returns-in-FailsWaiting-clause-items g c =
    let last : c.finish.new.self ≡ with_status c.args.id (Status.Done (symbol c.args.failed)) c.take.new.self = search rules in
    let is = told c.args.k c.args.id c.args.queue.now _ _ _ c.in-Some.ensures c.in-Some-state.ensures c.in-FailsWaiting.ensures.value in
    changes_twice _ _ _ _ _ _ _ _ is c.take.ensures last

pub returns-in-FailsRunning-clause-items : goal.returns-in-FailsRunning-clause-items
returns-in-FailsRunning-clause-items g c =
    let last : c.finish-in-FailsRunning.new.self ≡ with_status c.args.id (Status.Done (symbol c.args.failed)) c.args.queue.now = search rules in
    let is = told c.args.k c.args.id c.args.queue.now _ _ _ c.in-Some.ensures c.in-Some-state.ensures c.in-FailsRunning.ensures.value in
    changes _ _ _ _ _ _ _ _ is (λ _. refl) last
