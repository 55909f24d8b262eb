use Rattle.std.proofs.Common.{rules, ◌≡◌, sym, ◌∙◌, true, false}
use Rattle.eval_queue.specs.Items.{item_at, status_at}
use Rattle.master_core.specs.Losing.{abandons, shared_at}
use Rattle.master_core.proofs.Lost as l
use Rattle.master_core.proofs.losing.left_value.Goals as goal

pub returns-in_default : goal.returns-in_default
returns-in_default c = λ set on. l.hands_no_one set c.args.k c.args.queue.now (l.none_run c.args.k c.args.attempt c.args.queue.now c.requires c.in_default.is)

pub returns-then-not-is_shared : goal.returns-then-not-is_shared
returns-then-not-is_shared c =
    let none : shared_at c.args.k (item_at c.args.queue.now c.in-Some.id) (status_at c.args.queue.now c.in-Some.id) ≡ false = search rules in
    λ set on. l.hands_no_one set c.args.k c.args.queue.now (l.runs_none c.args.k c.in-Some.id c.args.attempt c.args.queue.now c.requires c.in-Some.is none)

pub returns : goal.returns
returns c =
    let one : shared_at c.args.k (item_at c.args.queue.now c.in-Some.id) (status_at c.args.queue.now c.in-Some.id) ≡ true = search rules in
    let so : abandons c.args.terms.recovery ≡ true = search rules in
    λ set on.
    l.hands_one set c.args.terms c.args.k c.args.queue.now _ _ on so (l.runs_one c.args.k c.in-Some.id c.args.attempt c.args.queue.now _ c.requires c.in-Some.is one (sym c.in-Some-item.ensures))
    (c.in_ok-abandoned.ensures set on)
