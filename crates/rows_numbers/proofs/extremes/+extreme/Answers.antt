use Rattle.std.proofs.Common.{rules, ◌≡◌, ◌+◌, Some, ◌∙◌, drop}
use Rattle.std.specs.Option.{option_map}
use Rattle.expr_tree.specs.Tree.{trees, cons}
use Rattle.expr_tree.proofs.Trees.{trees-drop}
use Rattle.semantics.specs.Numbers.{integers_in}
use Rattle.builtin_names.specs.Named.{names_in}
use Rattle.rows_numbers.specs.Better.{better, kept}
use Rattle.rows_numbers.proofs.Kept.{kept_next}
use Rattle.rows_numbers.proofs.extremes.+extreme.Goals as goal

-- src/extremes.rt:59:5
pub best_of-loop-item-preserved : goal.best_of-loop-item-preserved
best_of-loop-item-preserved t c =
    let at = c.loop-item.item-index in
    let items = c.args.items.now in
    let first : trees (drop at items) ≡ cons c.item-item.result (trees (drop (at + 1) items)) = search (rules, trees-drop) in
    let got : Some c.in_ok-best.best ≡ option_map (kept (better c.args.extreme) c.loop-item.best) (integers_in (names_in c.args.names.now) c.item-item.result) = search rules in
    kept_next _ _ _ _ _ _ _ first got ∙ c.loop-item.invariant
