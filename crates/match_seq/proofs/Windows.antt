-- The search of sub-lists within bounds has all answers, where those outside have none.
--     finds_within          find_within from a least number of elements up to a greatest
use Rattle.std.proofs.Common.{◌≡◌, ℕ, zero, suc, ◌+◌, ◌-◌, ◌<◌, ◌≤◌, ◌⊎◌, inl, inr, List, [], ◌∷◌, ◌++◌, map, length, take, drop, Bool, true, false, ◌==◌, ltb, if◌then◌else◌, append_assoc, append-nil, refl, ap, sym, ◌∙◌, arith, ltb-true, ltb-false, length-append, length-drop}
use Rattle.std.proofs.lemmas.Bool.{eqb-true}
use Rattle.std.proofs.lemmas.List.{length-take-le}
use Rattle.expr_tree.specs.Tree.{Tree}
use Rattle.semantics.specs.Match.{Found, Taken, also_taken, also_left, runs, choices, choices_up_to, ways, joined}
use Rattle.laws_matching.proofs.Joins.{joined-append, joined-map, joined-same}
use Rattle.laws_matching.proofs.Bounds.{all_of, no_run, no_way, below, choices_few, choices_all_of}
use Rattle.match_seq.specs.Search.{Search, answers, step, dead, fork, Use, find_runs, find_sizes, find_choices, find_ways, find_within}

-- what the first element pattern does with each way
abbrev pub used : Use → List Tree → List Tree → Taken → List Found
used fit taken left t = answers (fit (taken ++ t.run) (left ++ t.left))

abbrev pub used_run : Use → List Tree → Taken → List Found
used_run fit taken t = answers (fit (taken ++ t.run) t.left)

abbrev pub of_ways : Use → Taken → List Found
of_ways fit t = answers (fit t.run t.left)

finds_fork : (fit : Use) (n : ℕ) (taken left es : List Tree) (e : Tree) → ((n : ℕ) (taken left : List Tree) → answers (find_choices fit n taken left es) ≡ joined (map (used fit taken left) (choices n es))) → answers (fork (find_choices fit n (taken ++ e ∷ []) left es) (find_choices fit (suc n) taken (left ++ e ∷ []) es)) ≡ joined (map (used fit taken left) (choices (suc n) (e ∷ es)))
finds_fork fit n taken left es e others =
    let same_taken : (t : Taken) → used fit (taken ++ e ∷ []) left t ≡ used fit taken left (also_taken e t) =
    λ t. ap (λ ts. answers (fit ts (left ++ t.left))) (append_assoc taken (e ∷ []) t.run) in
    let same_left : (t : Taken) → used fit taken (left ++ e ∷ []) t ≡ used fit taken left (also_left e t) =
    λ t. ap (λ ts. answers (fit (taken ++ t.run) ts)) (append_assoc left (e ∷ []) t.left) in
    let first : answers (find_choices fit n (taken ++ e ∷ []) left es) ≡ joined (map (used fit taken left) (map (also_taken e) (choices n es))) =
    others n (taken ++ e ∷ []) left ∙ (joined-same (used fit (taken ++ e ∷ []) left) (λ t. used fit taken left (also_taken e t)) (choices n es) same_taken ∙ sym (joined-map (used fit taken left) (also_taken e) (choices n es))) in
    let second : answers (find_choices fit (suc n) taken (left ++ e ∷ []) es) ≡ joined (map (used fit taken left) (map (also_left e) (choices (suc n) es))) =
    others (suc n) taken (left ++ e ∷ []) ∙ (joined-same (used fit taken (left ++ e ∷ [])) (λ t. used fit taken left (also_left e t)) (choices (suc n) es) same_left ∙ sym (joined-map (used fit taken left) (also_left e) (choices (suc n) es))) in
    (λ i. first i ++ second i) ∙ sym (joined-append (used fit taken left) (map (also_taken e) (choices n es)) (map (also_left e) (choices (suc n) es)))

pub finds_choices : (fit : Use) (n : ℕ) (taken left es : List Tree) → answers (find_choices fit n taken left es) ≡ joined (map (used fit taken left) (choices n es))
finds_choices fit zero taken left es = rw (append-nil taken) (sym (append-nil (answers (fit taken (left ++ es)))))
finds_choices fit (suc n) taken left [] = refl
finds_choices fit (suc n) taken left (e ∷ es) =
    by_room (ltb (length es) n) (length es == n) refl refl (finds_fork fit n taken left es e (λ m ts ls. finds_choices fit m ts ls es))
  where
    f : Taken → List Found
    f = used fit taken left

    forked : Search
    forked = fork (find_choices fit n (taken ++ e ∷ []) left es) (find_choices fit (suc n) taken (left ++ e ∷ []) es)

    by_room : (few all : Bool) → ltb (length es) n ≡ few → (length es == n) ≡ all → answers forked ≡ joined (map f (choices (suc n) (e ∷ es))) → answers (if few then step dead else if all then step (fit (taken ++ e ∷ es) left) else forked) ≡ joined (map f (choices (suc n) (e ∷ es)))
    by_room true all p q others =
        let short : length es < n = ltb-true (length es) n p in
        ap (λ ts. joined (map f ts)) (sym (choices_few (suc n) (e ∷ es) (omega (arith, short))))
    by_room false true p q others =
        let whole : length es ≡ n = eqb-true (length es) n q in
        let here : answers (fit (taken ++ e ∷ es) left) ≡ f (all_of (e ∷ es)) = ap (λ ls. answers (fit (taken ++ e ∷ es) ls)) (sym (append-nil left)) in
        here ∙ (sym (append-nil (f (all_of (e ∷ es)))) ∙ ((λ i. joined (map f (sym (choices_all_of (e ∷ es)) i))) ∙ ap (λ m. joined (map f (choices m (e ∷ es)))) (ap suc whole)))
    by_room false false p q others = others

-- the sub-lists of a size, and of so many sizes above it
abbrev pub choices_from : ℕ → ℕ → List Tree → List Taken
choices_from size zero es = choices size es
choices_from size (suc more) es = choices size es ++ choices_from (suc size) more es

abbrev pub last_size : ℕ → ℕ → ℕ
last_size size zero = suc size
last_size size (suc more) = last_size (suc size) more

choices_above : (size more : ℕ) (es : List Tree) → choices_up_to size es ++ choices_from (suc size) more es ≡ choices_up_to (last_size size more) es
choices_above size zero es = refl
choices_above size (suc more) es =
    sym (append_assoc (choices_up_to size es) (choices (suc size) es) (choices_from (suc (suc size)) more es)) ∙ choices_above (suc size) more es

last_size-is : (size more : ℕ) → last_size size more ≡ suc (size + more)
last_size-is size zero = omega arith
last_size-is size (suc more) = omega (arith, last_size-is (suc size) more)

pub choices_all : (n : ℕ) (es : List Tree) → choices_from 0 n es ≡ choices_up_to n es
choices_all zero es = refl
choices_all (suc n) es =
    let e : last_size 0 n ≡ suc n = omega (arith, last_size-is 0 n) in
    choices_above 0 n es ∙ ap (λ m. choices_up_to m es) e

pub finds_sizes : (fit : Use) (size more : ℕ) (es : List Tree) → answers (find_sizes fit size more es) ≡ joined (map (used fit [] []) (choices_from size more es))
finds_sizes fit size zero es = finds_choices fit size [] [] es
finds_sizes fit size (suc more) es =
    let first : answers (find_choices fit size [] [] es) ≡ joined (map (used fit [] []) (choices size es)) = finds_choices fit size [] [] es in
    let second : answers (find_sizes fit (suc size) more es) ≡ joined (map (used fit [] []) (choices_from (suc size) more es)) = finds_sizes fit (suc size) more es in
    (λ i. first i ++ second i) ∙ sym (joined-append (used fit [] []) (choices size es) (choices_from (suc size) more es))

-- no answers for more elements than a number, beside what was taken, of so many in all
abbrev EndsAt : Use → List Tree → ℕ → ℕ → Type 0
EndsAt fit taken more n = (t : Taken) → length t.run + length t.left ≡ n → more < length t.run → used_run fit taken t ≡ []

runs_up_to : (fit : Use) (more : ℕ) (taken es : List Tree) → EndsAt fit taken more (length es) → answers (find_runs fit more taken es) ≡ joined (map (used_run fit taken) (runs es))
runs_up_to fit zero taken [] ends = rw (append-nil taken) (sym (append-nil (answers (fit taken []))))
runs_up_to fit zero taken (e ∷ es) ends =
    let first : answers (fit taken (e ∷ es)) ≡ used_run fit taken (record { run = []; left = e ∷ es }) = ap (λ ts. answers (fit ts (e ∷ es))) (sym (append-nil taken)) in
    let later : joined (map (used_run fit taken) (map (also_taken e) (runs es))) ≡ [] =
    joined-map (used_run fit taken) (also_taken e) (runs es) ∙ no_run (λ t. used_run fit taken (also_taken e t)) es (λ t q. ends (also_taken e t) (omega (arith, q)) (omega arith)) in
    first ∙ (sym (append-nil (used_run fit taken (record { run = []; left = e ∷ es }))) ∙ (λ i. used_run fit taken (record { run = []; left = e ∷ es }) ++ sym later i))
runs_up_to fit (suc more) taken [] ends = rw (append-nil taken) (sym (append-nil (answers (fit taken []))))
runs_up_to fit (suc more) taken (e ∷ es) ends =
    let first : answers (fit taken (e ∷ es)) ≡ used_run fit taken (record { run = []; left = e ∷ es }) = ap (λ ts. answers (fit ts (e ∷ es))) (sym (append-nil taken)) in
    let same : (t : Taken) → used_run fit (taken ++ e ∷ []) t ≡ used_run fit taken (also_taken e t) =
    λ t. ap (λ ts. answers (fit ts t.left)) (append_assoc taken (e ∷ []) t.run) in
    let later : answers (find_runs fit more (taken ++ e ∷ []) es) ≡ joined (map (used_run fit taken) (map (also_taken e) (runs es))) =
    runs_up_to fit more (taken ++ e ∷ []) es (λ t q p. same t ∙ ends (also_taken e t) (omega (arith, q)) (omega (arith, p)))
    ∙ (joined-same (used_run fit (taken ++ e ∷ [])) (λ t. used_run fit taken (also_taken e t)) (runs es) same ∙ sym (joined-map (used_run fit taken) (also_taken e) (runs es))) in
    λ i. first i ++ later i

-- no answers for fewer elements than a number
abbrev BeginsAt : Use → ℕ → ℕ → Type 0
BeginsAt fit least n = (t : Taken) → length t.run + length t.left ≡ n → length t.run < least → of_ways fit t ≡ []

runs_from : (fit : Use) (least : ℕ) (es : List Tree) → least ≤ length es → BeginsAt fit least (length es) → joined (map (of_ways fit) (runs es)) ≡ joined (map (used_run fit (take least es)) (runs (drop least es)))
runs_from fit zero es l begins = refl
runs_from fit (suc n) [] l begins = absurd (omega (arith, l))
runs_from fit (suc n) (e ∷ es) l begins =
    let here : of_ways fit (record { run = []; left = e ∷ es }) ≡ [] = begins (record { run = []; left = e ∷ es }) (omega arith) (omega arith) in
    let more : Use = λ run left. fit (e ∷ run) left in
    let later : joined (map (of_ways fit) (map (also_taken e) (runs es))) ≡ joined (map (used_run more (take n es)) (runs (drop n es))) =
    joined-map (of_ways fit) (also_taken e) (runs es) ∙ runs_from more n es (omega (arith, l)) (λ t q p. begins (also_taken e t) (omega (arith, q)) (omega (arith, p))) in
    λ i. here i ++ later i

-- no answers outside of a window, of so many elements in all
abbrev pub Outside : ℕ → ℕ → ℕ → (Taken → List Found) → Type 0
Outside least greatest n f = (t : Taken) → length t.run + length t.left ≡ n → (length t.run < least) ⊎ (greatest < length t.run) → f t ≡ []

-- runs of a least length up to a greatest
runs_within : (fit : Use) (least greatest : ℕ) (es : List Tree) → least ≤ greatest → greatest ≤ length es → Outside least greatest (length es) (of_ways fit) → answers (find_runs fit (greatest - least) (take least es) (drop least es)) ≡ joined (map (of_ways fit) (runs es))
runs_within fit least greatest es p l none =
    runs_up_to fit (greatest - least) (take least es) (drop least es) ends
    ∙ sym (runs_from fit least es (omega (arith, p, l)) (λ t whole few. none t whole (inl few)))
  where
    ends : EndsAt fit (take least es) (greatest - least) (length (drop least es))
    ends t whole many =
        let front : length (take least es) ≡ least = length-take-le least es (omega (arith, p, l)) in
        let size : length (take least es ++ t.run) ≡ length (take least es) + length t.run = length-append (take least es) t.run in
        let behind : length (drop least es) ≡ length es - least = length-drop least es in
        none (record { run = take least es ++ t.run; left = t.left }) (omega (arith, front, size, behind, whole, p, l)) (inr (omega (arith, front, size, many)))

-- no answers at a size
abbrev NoneAt : (Taken → List Found) → ℕ → ℕ → Type 0
NoneAt f size n = (t : Taken) → length t.run + length t.left ≡ n → length t.run ≡ size → f t ≡ []

none_at : (size : ℕ) (f : Taken → List Found) (es : List Tree) → NoneAt f size (length es) → joined (map f (choices size es)) ≡ []
none_at zero f es none = let here : f (record { run = []; left = es }) ≡ [] = none (record { run = []; left = es }) (omega arith) refl in λ i. here i ++ []
none_at (suc n) f [] none = refl
none_at (suc n) f (e ∷ es) none =
    let first : joined (map f (map (also_taken e) (choices n es))) ≡ [] =
    joined-map f (also_taken e) (choices n es) ∙ none_at n (λ t. f (also_taken e t)) es (λ t w q. none (also_taken e t) (omega (arith, w)) (omega (arith, q))) in
    let second : joined (map f (map (also_left e) (choices (suc n) es))) ≡ [] =
    joined-map f (also_left e) (choices (suc n) es) ∙ none_at (suc n) (λ t. f (also_left e t)) es (λ t w q. none (also_left e t) (omega (arith, w)) q) in
    joined-append f (map (also_taken e) (choices n es)) (map (also_left e) (choices (suc n) es)) ∙ (λ i. first i ++ second i)

sizes_above : (f : Taken → List Found) (size more : ℕ) (es : List Tree) → ((m : ℕ) → size ≤ m → NoneAt f m (length es)) → joined (map f (choices_from size more es)) ≡ []
sizes_above f size zero es none = none_at size f es (none size (omega arith))
sizes_above f size (suc more) es none =
    joined-append f (choices size es) (choices_from (suc size) more es)
    ∙ (λ i. none_at size f es (none size (omega arith)) i ++ sizes_above f (suc size) more es (λ m p. none m (omega (arith, p))) i)

sizes_cut : (f : Taken → List Found) (size more all : ℕ) (es : List Tree) → more ≤ all → ((m : ℕ) → size + more < m → NoneAt f m (length es)) → joined (map f (choices_from size all es)) ≡ joined (map f (choices_from size more es))
sizes_cut f size zero zero es p none = refl
sizes_cut f size zero (suc all) es p none =
    joined-append f (choices size es) (choices_from (suc size) all es)
    ∙ ((λ i. joined (map f (choices size es)) ++ sizes_above f (suc size) all es (λ m q. none m (omega (arith, q))) i) ∙ append-nil (joined (map f (choices size es))))
sizes_cut f size (suc more) zero es p none = absurd (omega (arith, p))
sizes_cut f size (suc more) (suc all) es p none =
    joined-append f (choices size es) (choices_from (suc size) all es)
    ∙ ((λ i. joined (map f (choices size es)) ++ sizes_cut f (suc size) more all es (omega (arith, p)) (λ m q. none m (omega (arith, q))) i)
    ∙ sym (joined-append f (choices size es) (choices_from (suc size) more es)))

sizes_skip : (f : Taken → List Found) (skip size more all at : ℕ) (es : List Tree) → all ≡ skip + more → at ≡ size + skip → ((m : ℕ) → size ≤ m → m < at → NoneAt f m (length es)) → joined (map f (choices_from size all es)) ≡ joined (map f (choices_from at more es))
sizes_skip f zero size more all at es e s none =
    let a : all ≡ more = omega (arith, e) in
    let b : size ≡ at = omega (arith, s) in
    λ i. joined (map f (choices_from (b i) (a i) es))
sizes_skip f (suc skip) size more zero at es e s none = absurd (omega (arith, e))
sizes_skip f (suc skip) size more (suc all) at es e s none =
    joined-append f (choices size es) (choices_from (suc size) all es)
    ∙ ((λ i. none_at size f es (none size (omega arith) (omega (arith, s))) i ++ joined (map f (choices_from (suc size) all es)))
    ∙ sizes_skip f skip (suc size) more all at es (omega (arith, e)) (omega (arith, s)) (λ m p q. none m (omega (arith, p)) q))

-- sub-lists of a least size up to a greatest
sizes_within : (fit : Use) (least greatest : ℕ) (es : List Tree) → least ≤ greatest → greatest ≤ length es → Outside least greatest (length es) (of_ways fit) → answers (find_sizes fit least (greatest - least) es) ≡ joined (map (of_ways fit) (choices_up_to (length es) es))
sizes_within fit least greatest es p l none =
    let low : (m : ℕ) → m < least → NoneAt (of_ways fit) m (length es) = λ m few t whole size. none t whole (inl (omega (arith, few, size))) in
    let high : (m : ℕ) → greatest < m → NoneAt (of_ways fit) m (length es) = λ m many t whole size. none t whole (inr (omega (arith, many, size))) in
    finds_sizes fit least (greatest - least) es
    ∙ (sym (sizes_skip (of_ways fit) least 0 (greatest - least) greatest least es (omega (arith, p)) (omega arith) (λ m _ q. low m q))
    ∙ (sym (sizes_cut (of_ways fit) 0 greatest (length es) es l (λ m q. high m (omega (arith, q))))
    ∙ ap (λ ts. joined (map (of_ways fit) ts)) (choices_all (length es) es)))

-- the search within a window
pub finds_within : (orderless : Bool) (least greatest : ℕ) (fit : Use) (es : List Tree) → greatest ≤ length es → Outside least greatest (length es) (of_ways fit) → answers (find_within orderless least greatest fit es) ≡ joined (map (of_ways fit) (ways orderless es))
finds_within orderless least greatest fit es l none = by_order (ltb greatest least) orderless refl
  where
    by_order : (b o : Bool) → ltb greatest least ≡ b → answers (if b then dead else find_ways o least (greatest - least) fit es) ≡ joined (map (of_ways fit) (ways o es))
    by_order true o e =
        let empty : greatest < least = ltb-true greatest least e in
        sym (no_way o (of_ways fit) es (λ t whole. elim (below (length t.run) least) [
          | inl few ↦ none t whole (inl few)
          | inr many ↦ none t whole (inr (omega (arith, empty, many)))
        ]))
    by_order false true e = sizes_within fit least greatest es (ltb-false greatest least e) l none
    by_order false false e = runs_within fit least greatest es (ltb-false greatest least e) l none
