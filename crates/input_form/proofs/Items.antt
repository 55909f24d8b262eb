-- Elements by their number.
use Rattle.std.proofs.Common.{◌≡◌, ◌≢◌, refl, sym, ap, ◌<◌, false, List, [], ◌∷◌, length, get_or, arith}
use Rattle.expr_tree.specs.Tree.{Tree, trees}
use Rattle.expr_tree.proofs.Trees.{count-trees}
use Rattle.expr_tree.specs.declared.sym.Sym.{Sym}
use Rattle.syntax.specs.Shapes as s
use Rattle.syntax.specs.Input.{symbol_at_most, slot_number, product_form, named_form}

-- a list with one element, or two
pub only_one : (ts : List Tree) (t : Tree) → length ts ≡ 1 → t ≡ get_or ts 0 t → ts ≡ t ∷ []
only_one [] t h is = absurd (omega arith)
only_one (u ∷ []) t h is = ap (λ x. x ∷ []) (sym is)
only_one (u ∷ v ∷ ts) t h is = absurd (omega arith)

pub symbol_long : (ts : List Tree) → length ts ≢ 0 → length ts ≢ 1 → symbol_at_most (trees ts) ≡ false
symbol_long [] p q = absurd (p refl)
symbol_long (t ∷ []) p q = absurd (q refl)
symbol_long (t ∷ u ∷ ts) p q = refl

pub slot_not_one : (ts : List Tree) → length ts ≢ 1 → slot_number (trees ts) ≡ false
slot_not_one [] q = refl
slot_not_one (t ∷ []) q = absurd (q refl)
slot_not_one (t ∷ u ∷ ts) q = refl

pub product_short : (ts : List Tree) → length ts < 2 → product_form (trees ts) ≡ s.Product
product_short [] q = refl
product_short (t ∷ []) q = refl
product_short (t ∷ u ∷ ts) q = absurd (omega arith)

pub named_not_two : (shape : Sym → s.Shape) (ts : List Tree) → length ts ≢ 2 → named_form shape (trees ts) ≡ s.Brackets
named_not_two shape [] q = refl
named_not_two shape (t ∷ []) q = refl
named_not_two shape (t ∷ u ∷ []) q = absurd (q refl)
named_not_two shape (t ∷ u ∷ v ∷ ts) q = refl

pub ruleset item_steps = (count-trees, only_one, symbol_long, slot_not_one, product_short, named_not_two)
