-- A row of two elements.
use Rattle.std.proofs.Common.{◌≡◌, List, [], ◌∷◌, Option, Some, None, ap}
use Rattle.expr_tree.specs.Shapes.{pair_of}
use Rattle.expr_tree.specs.Tree.{Tree}
use Rattle.semantics.specs.Program.{Prog}

abbrev pub Row : Type 0
Row = Prog → List Tree → Prog

pub two : (f : Row) (stay : Prog) (es : List Tree) (a b : Tree) → pair_of es ≡ Some (a, b) → f stay es ≡ f stay (a ∷ b ∷ [])
two f stay [] a b e = absurd (cc)
two f stay (x ∷ []) a b e = absurd (cc)
two f stay (x ∷ y ∷ []) a b e =
    let p : x ≡ a = ap (λ (o : Option (Tree × Tree)). elim o as (λ _. Tree) [ None ↦ x | Some q ↦ q.0 ]) e in
    let q : y ≡ b = ap (λ (o : Option (Tree × Tree)). elim o as (λ _. Tree) [ None ↦ y | Some q ↦ q.1 ]) e in
    λ i. f stay (p i ∷ q i ∷ [])
two f stay (x ∷ y ∷ z ∷ es) a b e = absurd (cc)
