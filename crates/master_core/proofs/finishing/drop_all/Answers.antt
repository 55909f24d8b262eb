use Rattle.std.proofs.Common.{sym, ap, ◌∙◌, ◌≡◌, List, [], drop, arith}
use Rattle.journal.specs.Places.{each_from}
use Rattle.master_core.specs.Joined.{dropped_all}
use Rattle.master_core.proofs.Dropping as d
use Rattle.master_core.proofs.finishing.drop_all.Goals as goal

pub loop-id-preserved : goal.loop-id-preserved
loop-id-preserved c = d.drop_step c.args.ids.now c.loop-id.id-index c.loop-id.queue _ c.drop_one.new.queue c.loop-id-test.true c.loop-id.invariant c.drop_one.ensures

pub returns : goal.returns
returns c = d.drop_over 1 c.loop-id.queue ∙ ap (λ ids. each_from 1 (dropped_all ids) c.loop-id.queue) (sym (d.drop_past c.args.ids.now c.loop-id.id-index c.loop-id-test.false)) ∙ c.loop-id.invariant
