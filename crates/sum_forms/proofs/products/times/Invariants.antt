use Rattle.std.proofs.Common.{◌≡◌, ℤ, pos, [], drop}
use Rattle.semantics.specs.Numbers.{gather_product}
use Rattle.builtin_names.specs.Named.{names_in}
use Rattle.int_ops.specs.Products.{Stands}
use Rattle.sum_forms.specs.Gathering.{gathered}
use Rattle.sum_forms.proofs.products.times.Given as goal

abbrev pub invariant-loop-item : goal.invariant-loop-item
invariant-loop-item l = record {
  part : ℤ;
  stands : Stands l.whole part;
  rest : gather_product (names_in l.names) (drop l.item-index l.items) (record { whole_part = part; parts = gathered l.parts.items })
      ≡ gather_product (names_in l.names) l.items (record { whole_part = pos 1; parts = [] });
}
