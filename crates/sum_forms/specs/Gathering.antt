-- Parts whose equal rests are brought together.
--     gathered              the parts one after the other, each added to those before it
--     Alike                 the same parts, maybe in another order: each sum over them is the same
--     add_last, merged_onto parts added at the last place alone, or put behind it
use Rattle.std.specs.Prelude.{◌≡◌, ℕ, ◌+ℤ◌, List, [], ◌∷◌, true, false}
use Rattle.std.specs.List.{sum_by}
use Rattle.expr_tree.specs.Order.{same}
use Rattle.semantics.specs.Numbers.{Part, add_part}

abbrev pub gathered_onto : List Part → List Part → List Part
gathered_onto [] gs = gs
gathered_onto (p ∷ ps) gs = gathered_onto ps (add_part p gs)

abbrev pub gathered : List Part → List Part
gathered ps = gathered_onto ps []

pub record Alike (ps qs : List Part) : Type 0 where
  pub sums : (f : Part → ℕ) → sum_by f ps ≡ sum_by f qs

abbrev pub add_last : Part → List Part → List Part
add_last p [] = p ∷ []
add_last p (q ∷ []) = elim (same p.rest q.rest) [ true ↦ record { number = q.number +ℤ p.number; rest = q.rest } ∷ [] | false ↦ q ∷ p ∷ [] ]
add_last p (q ∷ r ∷ qs) = q ∷ add_last p (r ∷ qs)

abbrev pub merged_onto : List Part → List Part → List Part
merged_onto [] gs = gs
merged_onto (p ∷ ps) gs = merged_onto ps (add_last p gs)
