use Rattle.std.proofs.Common.{◌≡◌, drop}
use Rattle.semantics.specs.Strings.{join_texts}
use Rattle.rows_strings.proofs.Texts.{with_rest}
use Rattle.rows_strings.proofs.strings.joined.Given as goal

abbrev pub invariant-loop-item : goal.invariant-loop-item
invariant-loop-item l = with_rest l.text (drop l.item-index l.items) ≡ join_texts l.items
