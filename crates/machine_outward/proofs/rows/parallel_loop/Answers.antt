use Rattle.std.proofs.Common.{◌∙◌, sym}
use Rattle.machine_outward.specs.Placing.{names_at}
use Rattle.machine_outward.proofs.Beginning.{iterates, loops_outside}
use Rattle.machine_outward.proofs.Shaping.{rest_of}
use Rattle.machine_outward.proofs.rows.parallel_loop.Goals as goal

pub returns-then-is_outside : goal.returns-then-is_outside
returns-then-is_outside c =
    loops_outside c.args.place.now c.args.form c.args.items.now c.args.used.now c.is_outside.new.used c.loop_of.result
    (iterates (names_at c.args.place.now) c.args.items.now c.iterator-item.result _ c.in-len2-up.len_at_least c.iterator-item.is (rest_of 2 c.args.items.now) (sym c.is_last_option.ensures ∙ c.if-is_last_option.false))
    (sym c.is_outside.ensures.outside ∙ c.if-is_outside.true) c.is_outside.ensures.used c.loop_of.ensures
