use Rattle.std.proofs.Common.{rules}
use Rattle.semantics.specs.declared.builtin.Builtin.{Builtin}
use Rattle.master_core.proofs.Keeping as k
use Rattle.master_core.proofs.book.Book.new.Goals as goal

pub invariant_of-result : goal.invariant_of-result
invariant_of-result c = k.first_book _ _ _ _ _ (search rules) (search rules) (k.named_at Builtin.Failed c.args.names.now c.of.result.value c.symbol_for.result c.of.ensures c.symbol_for.ensures.symbol)
    (k.named_at Builtin.List c.args.names.now c.of.result.value c.symbol_for-2.result c.of.ensures c.symbol_for-2.ensures.symbol)
