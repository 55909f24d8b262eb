-- A chunk has the elements between its places.
use Rattle.std.proofs.Common.{◌≡◌, refl, ap, ◌∙◌, ℕ, zero, suc, ◌+◌, ◌-◌, List, [], ◌∷◌, length, take, drop, Some, option_map, arith}
use Rattle.std.proofs.lemmas.List.{drop-drop}
use Rattle.expr_tree.specs.Tree.{Tree}
use Rattle.journal.specs.Places.{nth}
use Rattle.journal.specs.Cuts.{lengths, cut_by, places_from}
use Rattle.par_plan.specs.Plan.{ChunksAreBetween}

between : (ns : List ℕ) (at : ℕ) (es : List Tree) (i : ℕ) → nth (cut_by ns (drop at es)) i ≡ option_map (λ p. take (p.1 - p.0) (drop p.0 es)) (nth (places_from at ns) i)
between [] at es i = refl
between (n ∷ ns) at es zero = ap (λ m. Some (take m (drop at es))) (so_many at n)
  where
    so_many : (at n : ℕ) → n ≡ at + n - at
    so_many at n = omega arith
between (n ∷ ns) at es (suc i) = ap (λ xs. nth (cut_by ns xs) i) (drop-drop n at es) ∙ between ns (at + n) es i

pub chunks_are_between : ChunksAreBetween
chunks_are_between method kernels es index from to is =
    between (lengths method (length es) kernels) 0 es index ∙ ap (option_map (λ p. take (p.1 - p.0) (drop p.0 es))) is
