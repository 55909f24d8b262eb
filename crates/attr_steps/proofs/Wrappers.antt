-- When an expression is Unevaluated of one element.
use Rattle.std.proofs.Common.{◌≡◌, ◌≢◌, List, [], ◌∷◌, length, Bool, true, false, Option, Some, None, refl, ap, ◌∙◌, arith}
use Rattle.expr_tree.specs.Tree.{Tree, normal, trees}
use Rattle.expr_tree.proofs.Callers.{tree_steps}
use Rattle.semantics.specs.Names.{Names}
use Rattle.semantics.specs.Steps.{unwrapped, has_wrapper, strip}

pub none_unwrapped : (names : Names) (h : Tree) (es : List Tree) → length es ≢ 1 → unwrapped names (normal h (trees es)) ≡ None
none_unwrapped names h [] other = refl
none_unwrapped names h (e ∷ []) other = absurd (other refl)
none_unwrapped names h (e ∷ f ∷ es) other = refl

no_wrapper : (names : Names) (e : Tree) (es : List Tree) → has_wrapper names (e ∷ es) ≡ false → (unwrapped names e ≡ None) × (has_wrapper names es ≡ false)
no_wrapper names e es h = go (unwrapped names e) h
  where
    go : (o : Option Tree) → elim o [ None ↦ has_wrapper names es | Some x ↦ true ] ≡ false → (o ≡ None) × (has_wrapper names es ≡ false)
    go None h = (refl, h)
    go (Some x) h = absurd (cc h)

pub none_stripped : (names : Names) (es : List Tree) → has_wrapper names es ≡ false → strip names es ≡ es
none_stripped names [] h = refl
none_stripped names (e ∷ es) h =
    let parts = no_wrapper names e es h in
    ap (λ o. elim o as (λ _. List Tree) [ None ↦ e ∷ strip names es | Some x ↦ x ∷ strip names es ]) parts.0
    ∙ ap (λ l. e ∷ l) (none_stripped names es parts.1)

pub ruleset wrapper_steps = (tree_steps, none_unwrapped, none_stripped)
