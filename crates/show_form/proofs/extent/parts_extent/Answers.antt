use Rattle.std.proofs.Common.{arith}
use Rattle.show_form.proofs.Extents.{parts_step}
use Rattle.show_form.proofs.extent.parts_extent.Goals as goal

pub loop-item-preserved : goal.loop-item-preserved
loop-item-preserved c =
    let e = parts_step c.args.head.now c.args.items.now c.loop-item.item-index c.item-item.result (omega arith) c.item-item.is in
    cc
