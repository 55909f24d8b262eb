use Rattle.std.proofs.Common.{sym, ap, ◌∙◌, ◌++◌}
use Rattle.master_core.specs.Joined.{items_of}
use Rattle.master_core.proofs.Delivered as d
use Rattle.master_core.proofs.finishing.finish.Goals as goal

pub finish-requires : goal.finish-requires
finish-requires c = d.run_is c.args.kernel _ c.requires (sym c.runs.ensures ∙ c.if-runs.true)

pub returns-in_ok-push-clause-items : goal.returns-in_ok-push-clause-items
returns-in_ok-push-clause-items c = λ set w. ap items_of c.finish.ensures ∙ d.items_run set w c.args.kernel c.args.id c.args.value c.args.queue.now (d.run_is c.args.kernel _ c.requires (sym c.runs.ensures ∙ c.if-runs.true))

pub returns-in_ok-push-clause-ids : goal.returns-in_ok-push-clause-ids
returns-in_ok-push-clause-ids c = λ set. c.in_ok-push.ensures.items ∙ ap (λ xs. c.args.finished.now.items ++ xs) (d.ids_run set c.args.kernel c.args.id c.args.value c.args.queue.now (d.run_is c.args.kernel _ c.requires (sym c.runs.ensures ∙ c.if-runs.true)))

pub returns-else-runs-clause-items : goal.returns-else-runs-clause-items
returns-else-runs-clause-items c = λ set w. d.items_dropped set w c.args.kernel c.args.id c.args.value c.args.queue.now (d.drop_is c.args.kernel _ c.requires (sym c.runs.ensures ∙ c.if-runs.false))

pub returns-else-runs-clause-ids : goal.returns-else-runs-clause-ids
returns-else-runs-clause-ids c = λ set. d.ids_dropped set c.args.kernel c.args.id c.args.value c.args.finished.now.items c.args.queue.now (d.drop_is c.args.kernel _ c.requires (sym c.runs.ensures ∙ c.if-runs.false))
