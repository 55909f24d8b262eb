-- The extent of a head and elements, one element more.
use Rattle.std.proofs.Common.{◌≡◌, refl, sym, ap, ◌∙◌, ℕ, ◌+◌, ◌<◌, List, [], ◌∷◌, ◌++◌, length, get_or, take, arith}
use Rattle.std.proofs.lemmas.List.{take_more}
use Rattle.std.specs.Prelude.{min, max}
use Rattle.expr_tree.specs.Tree.{Tree, trees, size, sizes, depth, depths}
use Rattle.show_form.specs.declared.extent.Extent.{Extent}
use Rattle.show_form.specs.Extents.{capped, extent, parts_extent, joined, deepened}

sizes_push : (es : List Tree) (e : Tree) → sizes (trees (es ++ (e ∷ []))) ≡ sizes (trees es) + size e
sizes_push [] e = omega arith
sizes_push (d ∷ es) e = omega (arith, sizes_push es e)

depths_push : (es : List Tree) (e : Tree) → depths (trees (es ++ (e ∷ []))) ≡ max (depths (trees es)) (depth e)
depths_push [] e = omega arith
depths_push (d ∷ es) e = omega (arith, depths_push es e)

pub same_extent : (a b c d : ℕ) → min a 4000001 ≡ min c 4000001 → min b 513 ≡ min d 513 → capped a b ≡ capped c d
same_extent a b c d p q = λ i. record { size = p i; depth = q i }

pub parts_push : (h : Tree) (es : List Tree) (e : Tree) → parts_extent h (es ++ (e ∷ [])) ≡ joined (parts_extent h es) (extent e)
parts_push h es e =
    same_extent (size h + sizes (trees (es ++ (e ∷ [])))) (max (depth h) (depths (trees (es ++ (e ∷ [])))))
    (min (size h + sizes (trees es)) 4000001 + min (size e) 4000001) (max (min (max (depth h) (depths (trees es))) 513) (min (depth e) 513))
    (omega (arith, sizes_push es e)) (omega (arith, depths_push es e))

pub parts_none : (h : Tree) → parts_extent h [] ≡ extent h
parts_none h = same_extent (size h + 0) (max (depth h) 0) (size h) (depth h) (omega arith) (omega arith)

pub parts_step : (h : Tree) (es : List Tree) (i : ℕ) (e : Tree) → i < length es → e ≡ get_or es i e → parts_extent h (take (i + 1) es) ≡ joined (parts_extent h (take i es)) (extent e)
parts_step h es i e within is =
    ap (parts_extent h) (take_more es i e within ∙ ap (λ d. take i es ++ (d ∷ [])) (sym is)) ∙ parts_push h (take i es) e
