-- One element more of a product or of a sum, whose parts so far are not gathered.
--     Took                  the product so far stands for another, and the elements that are left give the same
--     TookTerm              the integers and the terms so far with the elements that are left give the same
use Rattle.std.specs.Prelude.{◌≡◌, ℤ, List, ◌∷◌}
use Rattle.expr_tree.specs.Tree.{Tree}
use Rattle.semantics.specs.Names.{Names}
use Rattle.semantics.specs.Numbers.{Part, gather_product, gather_sum}
use Rattle.int_ops.specs.Products.{Kept, Stands}
use Rattle.int_ops.specs.Totals.{total}
use Rattle.sum_forms.specs.Gathering.{gathered}

pub record Took (names : Names) (e : Tree) (z : ℤ) (before : List Part) (whole : Kept) (after : List Part) : Type 0 where
  pub part : ℤ
  pub stands : Stands whole part
  pub rest : (es : List Tree) → gather_product names (e ∷ es) (record { whole_part = z; parts = gathered before }) ≡ gather_product names es (record { whole_part = part; parts = gathered after })

pub record TookTerm (names : Names) (e : Tree) (numbers_before : List ℤ) (before : List Part) (numbers : List ℤ) (after : List Part) : Type 0 where
  pub rest : (es : List Tree) → gather_sum names (e ∷ es) (record { whole_part = total numbers_before; parts = gathered before }) ≡ gather_sum names es (record { whole_part = total numbers; parts = gathered after })
