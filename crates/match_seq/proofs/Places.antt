-- The item at a place, and what stands behind it.
use Rattle.std.proofs.Common.{◌≡◌, ◌≢◌, ℕ, zero, suc, ◌+◌, ◌<◌, List, [], ◌∷◌, length, drop, Bool, true, false, ◌&&◌, slice_get, Some, None, refl, ◌∙◌, arith, add-one}
use Rattle.expr_tree.specs.Tree.{Tree, integer, string, symbol, normal, trees, nil, cons}
use Rattle.expr_tree.specs.Order.{same}
use Rattle.semantics.specs.Match.{same_run, have_head}
use Rattle.expr_tree.proofs.Callers.{tree_steps}
use Rattle.match_seq.specs.declared.constructs.Constructs.{Constructs}
use Rattle.match_seq.specs.Search.{second_is_single, second_extent, any_number}

pub at_some : (xs : List Tree) (i : ℕ) (x : Tree) → slice_get xs i ≡ Some x → trees (drop i xs) ≡ cons x (trees (drop (i + 1) xs))
at_some [] i x e = absurd (cc)
at_some (y ∷ ys) zero x e = let f : y ≡ x = cc in rw f refl
at_some (y ∷ ys) (suc i) x e = rw add-one (at_some ys i x e ∙ rw add-one refl)

pub at_none : (xs : List Tree) (i : ℕ) → slice_get xs i ≡ None → trees (drop i xs) ≡ nil
at_none [] zero e = refl
at_none [] (suc i) e = refl
at_none (y ∷ ys) zero e = absurd (cc)
at_none (y ∷ ys) (suc i) e = at_none ys i e

pub ruleset place_steps = (at_some, at_none)

pub unequal_runs : (xs ys : List Tree) → length xs ≢ length ys → same_run xs ys ≡ false
unequal_runs [] [] p = absurd (p refl)
unequal_runs [] (y ∷ ys) p = refl
unequal_runs (x ∷ xs) [] p = refl
unequal_runs (x ∷ xs) (y ∷ ys) p = by_same (same x y) (unequal_runs xs ys (λ e. p (omega (arith, e))))
  where
    by_same : (b : Bool) → same_run xs ys ≡ false → elim b [ true ↦ same_run xs ys | false ↦ false ] ≡ false
    by_same true q = q
    by_same false q = refl

pub have_head-step : (h e : Tree) (es : List Tree) → have_head (h ∷ []) (e ∷ es) ≡ (have_head (h ∷ []) (e ∷ []) && have_head (h ∷ []) es)
have_head-step h (integer n) es = refl
have_head-step h (string t) es = refl
have_head-step h (symbol s) es = refl
have_head-step h (normal g ts) es = by_same (same h g)
  where
    by_same : (b : Bool) → elim b [ true ↦ have_head (h ∷ []) es | false ↦ false ] ≡ (elim b [ true ↦ true | false ↦ false ] && have_head (h ∷ []) es)
    by_same true = refl
    by_same false = refl

pub ruleset run_steps = (unequal_runs, have_head-step)

pub second_single-few : (cs : Constructs) (xs : List Tree) → length xs < 2 → second_is_single cs (trees xs) ≡ false
second_single-few cs [] few = refl
second_single-few cs (x ∷ []) few = refl
second_single-few cs (x ∷ y ∷ xs) few = absurd (omega (arith, few))

pub second_extent-few : (cs : Constructs) (xs : List Tree) → length xs < 2 → second_extent cs (trees xs) ≡ any_number
second_extent-few cs [] few = refl
second_extent-few cs (x ∷ []) few = refl
second_extent-few cs (x ∷ y ∷ xs) few = absurd (omega (arith, few))

pub ruleset item_steps = (tree_steps, second_single-few, second_extent-few)
