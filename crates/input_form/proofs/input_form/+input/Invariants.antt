use Rattle.std.proofs.Common.{◌≡◌, ◌++◌, ◌+◌, ◌*◌, max, drop}
use Rattle.expr_tree.specs.Tree.{trees, depth, depths}
use Rattle.syntax.specs.Input.{all_at, sum_text, negative_text, together}
use Rattle.input_form.specs.Parts.{all_shown_by, joined_from, sum_from, negative_from}
use Rattle.input_form.proofs.input_form.+input.Given as goal

abbrev pub decreases-put_open : goal.decreases-put_open
decreases-put_open l = 5 * depth l.e.now

abbrev pub decreases-put_text : goal.decreases-put_text
decreases-put_text l = 5 * depth l.e.now + 1

abbrev pub decreases-put_term : goal.decreases-put_term
decreases-put_term l = 5 * depth l.item.now + 2

abbrev pub decreases-put_factor : goal.decreases-put_factor
decreases-put_factor l = 5 * depth l.item.now + 2

abbrev pub decreases-put_joined : goal.decreases-put_joined
decreases-put_joined l = 5 * depths (trees l.items.now) + 3

abbrev pub decreases-put_sum : goal.decreases-put_sum
decreases-put_sum l = 5 * depths (trees l.items.now) + 3

abbrev pub decreases-put_negative : goal.decreases-put_negative
decreases-put_negative l = 5 * depths (trees l.items.now) + 3

abbrev pub decreases-put_pair : goal.decreases-put_pair
decreases-put_pair l = 5 * depths (trees l.items.now) + 3

abbrev pub decreases-put_form : goal.decreases-put_form
decreases-put_form l = 5 * max (depth l.head.now) (depths (trees l.items.now)) + 4

-- the text so far, and what is left of the items
abbrev pub invariant-put_joined-loop-i : goal.invariant-put_joined-loop-i
invariant-put_joined-loop-i l =
    l.buffer ++ joined_from l.between l.i (all_at l.level (all_shown_by l.names.texts (trees (drop l.i l.items))))
    ≡ l.fn.buffer ++ together l.between l.level (all_shown_by l.names.texts (trees l.items))

abbrev pub invariant-put_sum-loop-i : goal.invariant-put_sum-loop-i
invariant-put_sum-loop-i l =
    l.buffer ++ sum_from l.i (all_shown_by l.names.texts (trees (drop l.i l.items)))
    ≡ l.fn.buffer ++ sum_text (all_shown_by l.names.texts (trees l.items))

abbrev pub invariant-put_negative-loop-i : goal.invariant-put_negative-loop-i
invariant-put_negative-loop-i l =
    l.buffer ++ negative_from l.i (all_shown_by l.names.texts (trees (drop l.i l.items)))
    ≡ l.fn.buffer ++ negative_text (all_shown_by l.names.texts (trees l.items))
