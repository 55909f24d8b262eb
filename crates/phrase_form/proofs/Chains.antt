-- A chain to which operands are added.
use Rattle.std.proofs.Common.{◌≡◌, ◌<◌, ◌≤◌, ⊎_elim, List, [], ◌∷◌, ◌++◌, sym, ap, ◌∙◌, arith}
use Rattle.std.proofs.lemmas.Bool.{cases_lt}
use Rattle.expr_tree.specs.Tree.{Tree, trees, call, size, sizes, depth, depths}
use Rattle.expr_tree.proofs.Trees.{elements-trees}
use Rattle.semantics.specs.declared.builtin.Builtin.{Builtin}
use Rattle.semantics.specs.Names.{Names}
use Rattle.laws_reading.specs.Kept.{cut}
use Rattle.laws_reading.proofs.Cuts.{cut_some, cut_large, cut_deep}
use Rattle.phrase_form.specs.Held.{appended_kept}

longer_sizes : (es : List Tree) (y : Tree) → sizes (trees es) ≤ sizes (trees (es ++ y ∷ []))
longer_sizes [] y = omega arith
longer_sizes (e ∷ es) y = omega (arith, longer_sizes es y)

longer_depths : (es : List Tree) (y : Tree) → depths (trees es) ≤ depths (trees (es ++ y ∷ []))
longer_depths [] y = omega arith
longer_depths (e ∷ es) y = omega (arith, longer_depths es y)

-- within the limits
added_within : (names : Names) (row : Builtin) (h : Tree) (es : List Tree) (y : Tree) → size (call h es) ≤ 4000000 → depth (call h es) ≤ 512 →
    appended_kept names row (cut (call h es)) y ≡ cut (call h (es ++ y ∷ []))
added_within names row h es y p q =
    ap (λ o. appended_kept names row o y) (cut_some (call h es) p q) ∙ ap (λ vs. cut (call h (vs ++ y ∷ []))) (elements-trees es)

-- what is beyond the limits stays so
added_large : (names : Names) (row : Builtin) (h : Tree) (es : List Tree) (y : Tree) → 4000000 < size (call h es) →
    appended_kept names row (cut (call h es)) y ≡ cut (call h (es ++ y ∷ []))
added_large names row h es y p =
    ap (λ o. appended_kept names row o y) (cut_large (call h es) p) ∙ sym (cut_large (call h (es ++ y ∷ [])) (omega (arith, longer_sizes es y)))

added_deep : (names : Names) (row : Builtin) (h : Tree) (es : List Tree) (y : Tree) → 512 < depth (call h es) →
    appended_kept names row (cut (call h es)) y ≡ cut (call h (es ++ y ∷ []))
added_deep names row h es y p =
    ap (λ o. appended_kept names row o y) (cut_deep (call h es) p) ∙ sym (cut_deep (call h (es ++ y ∷ [])) (omega (arith, longer_depths es y)))

pub chain_added : (names : Names) (row : Builtin) (h : Tree) (es : List Tree) (y : Tree) →
    appended_kept names row (cut (call h es)) y ≡ cut (call h (es ++ y ∷ []))
chain_added names row h es y =
    ⊎_elim
    (λ p. added_large names row h es y p)
    (λ p. ⊎_elim (λ q. added_deep names row h es y q) (λ q. added_within names row h es y p q) (cases_lt 512 (depth (call h es))))
    (cases_lt 4000000 (size (call h es)))
