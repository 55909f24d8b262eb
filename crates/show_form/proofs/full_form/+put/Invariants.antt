use Rattle.std.proofs.Common.{◌≡◌, ◌++◌, ◌+◌, ◌*◌, drop}
use Rattle.expr_tree.specs.Tree.{trees, depth, depths}
use Rattle.script_text.specs.Full.{full_items}
use Rattle.script_text.specs.Spelling.{by_texts}
use Rattle.show_form.specs.Parts.{items_from}
use Rattle.show_form.proofs.full_form.+put.Given as goal

abbrev pub decreases-put_full : goal.decreases-put_full
decreases-put_full l = 2 * depth l.e.now

abbrev pub decreases-put_items : goal.decreases-put_items
decreases-put_items l = 2 * depths (trees l.items.now) + 1

-- the text so far, and what is left of the elements
abbrev pub invariant-put_items-loop-i : goal.invariant-put_items-loop-i
invariant-put_items-loop-i l =
    l.buffer ++ items_from (by_texts l.names.texts) l.i (trees (drop l.i l.items))
    ≡ l.fn.buffer ++ full_items (by_texts l.names.texts) (trees l.items)
