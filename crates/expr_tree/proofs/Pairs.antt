-- When a list has two items.
use Rattle.std.proofs.Common.{◌≡◌, ◌≢◌, List, [], ◌∷◌, Some, None, length, get_or, refl, arith}
use Rattle.expr_tree.specs.Shapes.{pair_of}

pub pair_at : {X : Type 0} (xs : List X) (x y : X) → length xs ≡ 2 → x ≡ get_or xs 0 x → y ≡ get_or xs 1 y → pair_of xs ≡ Some (x, y)
pair_at [] x y long p q = absurd (omega arith)
pair_at (a ∷ []) x y long p q = absurd (omega arith)
pair_at (a ∷ b ∷ []) x y long p q = cc
pair_at (a ∷ b ∷ c ∷ xs) x y long p q = absurd (omega arith)

pub no_pair : {X : Type 0} (xs : List X) → length xs ≢ 2 → pair_of xs ≡ None
no_pair [] other = refl
no_pair (a ∷ []) other = refl
no_pair (a ∷ b ∷ []) other = absurd (other refl)
no_pair (a ∷ b ∷ c ∷ xs) other = refl

pub ruleset pair_steps = (pair_at, no_pair)
