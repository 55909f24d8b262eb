use Rattle.std.proofs.Common.{rules, ◌≡◌, true, is_some}
use Rattle.expr_tree.specs.Shapes.{symbol_of}
use Rattle.kernel_defs.proofs.Symbols.{found_at}
use Rattle.kernel_defs.proofs.refusal.have_no_symbol.Goals as goal

pub returns-then-is_some : goal.returns-then-is_some
returns-then-is_some c =
    let has : is_some (symbol_of c.item-item.result) ≡ true = search rules in
    found_at c.args.items.now c.loop-item.item-index c.item-item.result c.loop-item-test.true c.item-item.is has c.loop-item.invariant
