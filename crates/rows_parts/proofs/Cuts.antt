-- Pieces of a list, one after another.
use Rattle.std.proofs.Common.{◌≡◌, ◌≢◌, ℕ, zero, suc, ◌+◌, ◌-◌, ◌<◌, ◌≤◌, max, refl, ap, sym, ◌∙◌, Bool, true, false, List, [], ◌∷◌, ◌++◌, map, length, take, drop, append_assoc, append-nil, arith}
use Rattle.std.specs.Prelude.{ℤ, pos, negsuc, nat_abs, leb, ◌<ℤ◌, ◌≤ℤ◌}
use Rattle.std.proofs.lemmas.Bool.{leb-true, le-leb, lt-leb}
use Rattle.std.proofs.lemmas.Int.{ints}
use Rattle.std.proofs.lemmas.List.{length-drop, drop-drop}
use Rattle.expr_tree.specs.Tree.{Tree, integer, string, symbol, normal, call, trees, size, sizes, depth, depths}
use Rattle.expr_tree.proofs.Callers.{tree_steps}
use Rattle.expr_tree.proofs.Trees.{elements-trees}
use Rattle.semantics.specs.Worked.{Stays, Gives}
use Rattle.semantics.specs.Lists.{pieces, partition}
use Rattle.rows_parts.specs.Cut.{cut}

abbrev piece_or_end : ℕ → ℕ → List Tree → Bool → List (List Tree)
piece_or_end m n es t = elim t [ true ↦ take n es ∷ pieces m n (drop n es) | false ↦ [] ]

-- steps that are not needed
spare : (m k n : ℕ) (es : List Tree) → 1 ≤ n → length es ≤ m → length es ≤ k → pieces m n es ≡ pieces k n es
spare zero zero n es some p q = refl
spare zero (suc k) n es some p q = sym (ap (piece_or_end k n es) (lt-leb n (length es) (omega (arith, p, some))))
spare (suc m) zero n es some p q = ap (piece_or_end m n es) (lt-leb n (length es) (omega (arith, q, some)))
spare (suc m) (suc k) n es some p q = go (leb n (length es)) refl (spare m k n (drop n es) some)
  where
    go : (t : Bool) → leb n (length es) ≡ t → (length (drop n es) ≤ m → length (drop n es) ≤ k → pieces m n (drop n es) ≡ pieces k n (drop n es)) → piece_or_end m n es t ≡ piece_or_end k n es t
    go true e rest =
        let l : length (drop n es) ≡ length es - n = length-drop n es in
        let b : n ≤ length es = leb-true n (length es) e in
        ap (λ ps. take n es ∷ ps) (rest (omega (arith, l, b, p, some)) (omega (arith, l, b, q, some)))
    go false e rest = refl

pub cut_more : (es : List Tree) (place n : ℕ) → 0 < n → place ≤ length es → n ≤ length es - place → cut n place es ≡ take n (drop place es) ∷ cut n (place + n) es
cut_more es place n some inside fits = go (length es - place) refl
  where
    go : (m : ℕ) → length es - place ≡ m → pieces m n (drop place es) ≡ take n (drop place es) ∷ cut n (place + n) es
    go zero e = absurd (omega (arith, some, fits, e))
    go (suc m) e =
        let l : length (drop place es) ≡ length es - place = length-drop place es in
        let k : length (drop n (drop place es)) ≡ length (drop place es) - n = length-drop n (drop place es) in
        let d : drop n (drop place es) ≡ drop (place + n) es = drop-drop n place es in
        ap (piece_or_end m n (drop place es)) (le-leb n (length (drop place es)) (omega (arith, l, fits)))
        ∙ ap (λ ps. take n (drop place es) ∷ ps)
        (spare m (length es - (place + n)) n (drop n (drop place es)) (omega (arith, some)) (omega (arith, l, k, e, some)) (omega (arith, l, k, e, fits)) ∙ ap (pieces (length es - (place + n)) n) d)

pub cut_end : (es : List Tree) (place n : ℕ) → length es - place < n → cut n place es ≡ []
cut_end es place n short = go (length es - place) refl
  where
    go : (m : ℕ) → length es - place ≡ m → pieces m n (drop place es) ≡ []
    go zero e = refl
    go (suc m) e =
        let l : length (drop place es) ≡ length es - place = length-drop place es in
        ap (piece_or_end m n (drop place es)) (lt-leb n (length (drop place es)) (omega (arith, l, short)))

pub cut_joined : (h : Tree) (es : List Tree) (place n : ℕ) (c : Tree) (done longer whole : List Tree) → 0 < n → place ≤ length es → n ≤ length es - place → longer ≡ done ++ c ∷ [] → c ≡ call h (take n (drop place es)) → done ++ map (call h) (cut n place es) ≡ whole
    → longer ++ map (call h) (cut n (place + n) es) ≡ whole
cut_joined h es place n c done longer whole some inside fits pushed is so_far =
    ap (λ fs. fs ++ map (call h) (cut n (place + n) es)) pushed
    ∙ append_assoc done (c ∷ []) (map (call h) (cut n (place + n) es))
    ∙ ap (λ d. done ++ d ∷ map (call h) (cut n (place + n) es)) is
    ∙ ap (λ ps. done ++ map (call h) ps) (sym (cut_more es place n some inside fits)) ∙ so_far

pub cut_sizes : (h : Tree) (es : List Tree) (place n : ℕ) → 0 < n → place ≤ length es → n ≤ length es - place
    → sizes (trees (map (call h) (cut n place es))) ≡ (size h + sizes (trees (take n (drop place es)))) + sizes (trees (map (call h) (cut n (place + n) es)))
cut_sizes h es place n some inside fits = ap (λ ps. sizes (trees (map (call h) ps))) (cut_more es place n some inside fits)

pub cut_depths : (h : Tree) (es : List Tree) (place n : ℕ) → 0 < n → place ≤ length es → n ≤ length es - place
    → depths (trees (map (call h) (cut n place es))) ≡ max (depth (call h (take n (drop place es)))) (depths (trees (map (call h) (cut n (place + n) es))))
cut_depths h es place n some inside fits = ap (λ ps. depths (trees (map (call h) ps))) (cut_more es place n some inside fits)

pub cut_all : (h : Tree) (es : List Tree) (place n : ℕ) (done whole : List Tree) → length es - place < n → done ++ map (call h) (cut n place es) ≡ whole → done ≡ whole
cut_all h es place n done whole short so_far = sym (append-nil done) ∙ ap (λ ps. done ++ map (call h) ps) (sym (cut_end es place n short)) ∙ so_far

pub cut_nothing : (h : Tree) (es : List Tree) (place n : ℕ) → length es - place < n → sizes (trees (map (call h) (cut n place es))) ≡ 0
cut_nothing h es place n short = ap (λ ps. sizes (trees (map (call h) ps))) (cut_end es place n short)

pub ruleset cut_steps = (tree_steps, cut_joined, cut_sizes, cut_depths, cut_all)

pub ruleset count_steps = (tree_steps, cut_sizes, cut_nothing)

-- ---- the row

pub row_stays : (h : Tree) (es : List Tree) (z : ℤ) → z ≤ℤ pos 0 → partition (call h es ∷ integer z ∷ []) ≡ Stays
row_stays h es (pos zero) down = refl
row_stays h es (pos (suc n)) down = absurd (omega (arith, ints, down))
row_stays h es (negsuc n) down = refl

in_pieces : (h : Tree) (es : List Tree) (n : ℕ) → partition (call h es ∷ integer (pos (suc n)) ∷ []) ≡ Gives (call h (map (call h) (pieces (length es) (suc n) es)))
in_pieces h es n = ap (λ fs. Gives (call h (map (call h) (pieces (length fs) (suc n) fs)))) (elements-trees es)

-- no piece is longer than what there is
no_piece : (m n : ℕ) (es : List Tree) → length es < n → pieces m n es ≡ []
no_piece zero n es short = refl
no_piece (suc m) n es short = ap (piece_or_end m n es) (lt-leb n (length es) short)

pub row_empty : (h : Tree) (es : List Tree) (z : ℤ) → pos (length es) <ℤ z → partition (call h es ∷ integer z ∷ []) ≡ Gives (call h [])
row_empty h es (pos zero) far = absurd (omega (arith, ints, far))
row_empty h es (pos (suc n)) far = in_pieces h es n ∙ ap (λ ps. Gives (call h (map (call h) ps))) (no_piece (length es) (suc n) es (omega (arith, ints, far)))
row_empty h es (negsuc n) far = absurd (omega (arith, ints, far))

pub row_cuts : (h : Tree) (es : List Tree) (z : ℤ) → pos 0 <ℤ z → partition (call h es ∷ integer z ∷ []) ≡ Gives (call h (map (call h) (cut (nat_abs z) 0 es)))
row_cuts h es (pos zero) up = absurd (omega (arith, ints, up))
row_cuts h es (pos (suc n)) up = let k : length es ≡ length es - 0 = omega arith in in_pieces h es n ∙ ap (λ m. Gives (call h (map (call h) (pieces m (suc n) es)))) k
row_cuts h es (negsuc n) up = absurd (omega (arith, ints, up))

pub ruleset row_steps = (tree_steps, row_stays, row_empty, row_cuts)

pub row_other : (es : List Tree) → length es ≢ 2 → partition es ≡ Stays
row_other [] other = refl
row_other (integer z ∷ es) other = refl
row_other (string t ∷ es) other = refl
row_other (symbol s ∷ es) other = refl
row_other (normal h ts ∷ []) other = refl
row_other (normal h ts ∷ e ∷ []) other = absurd (other refl)
row_other (normal h ts ∷ string t ∷ f ∷ es) other = refl
row_other (normal h ts ∷ symbol s ∷ f ∷ es) other = refl
row_other (normal h ts ∷ normal g us ∷ f ∷ es) other = refl
row_other (normal h ts ∷ integer (pos zero) ∷ f ∷ es) other = refl
row_other (normal h ts ∷ integer (pos (suc n)) ∷ f ∷ es) other = refl
row_other (normal h ts ∷ integer (negsuc n) ∷ f ∷ es) other = refl

pub ruleset other_steps = (tree_steps, row_other)
