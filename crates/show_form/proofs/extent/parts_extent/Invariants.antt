use Rattle.std.proofs.Common.{◌≡◌, take}
use Rattle.show_form.specs.Extents.{parts_extent}
use Rattle.show_form.proofs.extent.parts_extent.Given as goal

abbrev pub invariant-loop-item : goal.invariant-loop-item
invariant-loop-item l = l.parts ≡ parts_extent l.head (take l.item-index l.items)
