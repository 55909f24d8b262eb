-- What an element pattern can take, on the definition: what a bound passes over has an empty list.
--     last_takes_all        the last element pattern takes all that is left
--     too_few, too_many     element patterns have no binding where less is left than their least, or more than their greatest
--     beside_others         nor has a way that leaves the others such a number
--     choices_few           the choices of more elements than there are;  of all of them
use Rattle.std.proofs.Common.{◌≡◌, ℕ, zero, suc, ◌+◌, ◌<◌, ◌≤◌, ◌⊎◌, inl, inr, List, [], ◌∷◌, ◌++◌, map, length, Bool, true, false, append-nil, refl, ap, ◌∙◌, arith, ltb, ltb-true, ltb-false}
use Rattle.expr_tree.specs.declared.sym.Sym.{Sym}
use Rattle.expr_tree.specs.Tree.{Tree, nil, cons, count}
use Rattle.semantics.specs.Names.{Names}
use Rattle.semantics.specs.Match.{Found, Matching, Element, Taken, also_taken, also_left, runs, choices, choices_up_to, ways, joined, wrapped, match_items, matcher, matchers}
use Rattle.laws_matching.specs.Bounds.{fills, is_bounded, least_of, least, all_bounded, FewHaveNothing, ManyHaveNothing, LastTakesAll}
use Rattle.laws_matching.proofs.Joins.{joined-append, joined-map, joined-singles, joined-none}
use Rattle.laws_matching.proofs.Patterns.{needs_one, up_to_one, first-of, second-of}

-- the way that takes all elements, and leaves none
abbrev pub all_of : List Tree → Taken
all_of es = record { run = es; left = [] }

-- a use of ways that has nothing where elements are left
abbrev pub LeavesNone : (Taken → List Found) → Type 0
LeavesNone f = (run left : List Tree) (e : Tree) → f (record { run = run; left = e ∷ left }) ≡ []

last_run : (f : Taken → List Found) (es : List Tree) → LeavesNone f → joined (map f (runs es)) ≡ f (all_of es)
last_run f [] none = append-nil (f (all_of []))
last_run f (e ∷ es) none =
    let later : joined (map f (map (also_taken e) (runs es))) ≡ f (all_of (e ∷ es)) =
    joined-map f (also_taken e) (runs es) ∙ last_run (λ t. f (also_taken e t)) es (λ run left g. none (e ∷ run) left g) in
    λ i. none [] es e i ++ later i

left_over : (f : Taken → List Found) (e : Tree) (ts : List Taken) → LeavesNone f → joined (map f (map (also_left e) ts)) ≡ []
left_over f e ts none = joined-map f (also_left e) ts ∙ joined-none (λ t. f (also_left e t)) ts (λ t. none t.run t.left e)

few_chosen : (n : ℕ) (f : Taken → List Found) (es : List Tree) → LeavesNone f → n < length es → joined (map f (choices n es)) ≡ []
few_chosen n f [] none p = absurd (omega (arith, p))
few_chosen zero f (e ∷ es) none p = λ i. none [] es e i ++ []
few_chosen (suc n) f (e ∷ es) none p =
    let first : joined (map f (map (also_taken e) (choices n es))) ≡ [] =
    joined-map f (also_taken e) (choices n es) ∙ few_chosen n (λ t. f (also_taken e t)) es (λ run left g. none (e ∷ run) left g) (omega (arith, p)) in
    joined-append f (map (also_taken e) (choices n es)) (map (also_left e) (choices (suc n) es)) ∙ (λ i. first i ++ left_over f e (choices (suc n) es) none i)

all_chosen : (f : Taken → List Found) (es : List Tree) → LeavesNone f → joined (map f (choices (length es) es)) ≡ f (all_of es)
all_chosen f [] none = append-nil (f (all_of []))
all_chosen f (e ∷ es) none =
    let first : joined (map f (map (also_taken e) (choices (length es) es))) ≡ f (all_of (e ∷ es)) =
    joined-map f (also_taken e) (choices (length es) es) ∙ all_chosen (λ t. f (also_taken e t)) es (λ run left g. none (e ∷ run) left g) in
    joined-append f (map (also_taken e) (choices (length es) es)) (map (also_left e) (choices (suc (length es)) es))
    ∙ ((λ i. first i ++ left_over f e (choices (suc (length es)) es) none i) ∙ append-nil (f (all_of (e ∷ es))))

few_sizes : (n : ℕ) (f : Taken → List Found) (es : List Tree) → LeavesNone f → n < length es → joined (map f (choices_up_to n es)) ≡ []
few_sizes zero f es none p = few_chosen zero f es none p
few_sizes (suc n) f es none p =
    joined-append f (choices_up_to n es) (choices (suc n) es) ∙ (λ i. few_sizes n f es none (omega (arith, p)) i ++ few_chosen (suc n) f es none p i)

last_size : (f : Taken → List Found) (es : List Tree) → LeavesNone f → joined (map f (choices_up_to (length es) es)) ≡ f (all_of es)
last_size f [] none = append-nil (f (all_of []))
last_size f (e ∷ es) none =
    joined-append f (choices_up_to (length es) (e ∷ es)) (choices (suc (length es)) (e ∷ es))
    ∙ (λ i. few_sizes (length es) f (e ∷ es) none (omega arith) i ++ all_chosen f (e ∷ es) none i)

last_way : (o : Bool) (f : Taken → List Found) (es : List Tree) → LeavesNone f → joined (map f (ways o es)) ≡ f (all_of es)
last_way true f es none = last_size f es none
last_way false f es none = last_run f es none

-- the last element pattern takes all that is left
pub last_takes_all : LastTakesAll
last_takes_all names how h p es found =
    last_way how.orderless (λ t. joined (map (match_items names how h [] t.left) (p.matcher (wrapped names how h p.tree t.run) found))) es
    (λ run left e. joined-none (λ f. []) (p.matcher (wrapped names how h p.tree run) found) (λ f. refl))
    ∙ joined-singles (p.matcher (wrapped names how h p.tree es) found)

-- a use of ways that has nothing, of ways of so many elements
abbrev pub NoneOf : ℕ → (Taken → List Found) → Type 0
NoneOf n f = (t : Taken) → length t.run + length t.left ≡ n → f t ≡ []

pub no_run : (f : Taken → List Found) (es : List Tree) → NoneOf (length es) f → joined (map f (runs es)) ≡ []
no_run f [] none = λ i. none (all_of []) refl i ++ []
no_run f (e ∷ es) none =
    let here : f (record { run = []; left = e ∷ es }) ≡ [] = none (record { run = []; left = e ∷ es }) (omega arith) in
    let later : joined (map f (map (also_taken e) (runs es))) ≡ [] =
    joined-map f (also_taken e) (runs es) ∙ no_run (λ t. f (also_taken e t)) es (λ t q. none (also_taken e t) (omega (arith, q))) in
    λ i. here i ++ later i

no_choice : (n : ℕ) (f : Taken → List Found) (es : List Tree) → NoneOf (length es) f → joined (map f (choices n es)) ≡ []
no_choice zero f es none =
    let here : f (record { run = []; left = es }) ≡ [] = none (record { run = []; left = es }) (omega arith) in
    λ i. here i ++ []
no_choice (suc n) f [] none = refl
no_choice (suc n) f (e ∷ es) none =
    let first : joined (map f (map (also_taken e) (choices n es))) ≡ [] =
    joined-map f (also_taken e) (choices n es) ∙ no_choice n (λ t. f (also_taken e t)) es (λ t q. none (also_taken e t) (omega (arith, q))) in
    let second : joined (map f (map (also_left e) (choices (suc n) es))) ≡ [] =
    joined-map f (also_left e) (choices (suc n) es) ∙ no_choice (suc n) (λ t. f (also_left e t)) es (λ t q. none (also_left e t) (omega (arith, q))) in
    joined-append f (map (also_taken e) (choices n es)) (map (also_left e) (choices (suc n) es)) ∙ (λ i. first i ++ second i)

no_size : (n : ℕ) (f : Taken → List Found) (es : List Tree) → NoneOf (length es) f → joined (map f (choices_up_to n es)) ≡ []
no_size zero f es none = no_choice zero f es none
no_size (suc n) f es none =
    joined-append f (choices_up_to n es) (choices (suc n) es) ∙ (λ i. no_size n f es none i ++ no_choice (suc n) f es none i)

pub no_way : (o : Bool) (f : Taken → List Found) (es : List Tree) → NoneOf (length es) f → joined (map f (ways o es)) ≡ []
no_way true f es none = no_size (length es) f es none
no_way false f es none = no_run f es none

-- the choices of more elements than there are
pub choices_few : (n : ℕ) (es : List Tree) → length es < n → choices n es ≡ []
choices_few zero es p = absurd (omega (arith, p))
choices_few (suc n) [] p = refl
choices_few (suc n) (e ∷ es) p =
    λ i. map (also_taken e) (choices_few n es (omega (arith, p)) i) ++ map (also_left e) (choices_few (suc n) es (omega (arith, p)) i)

-- the choice of all elements
pub choices_all_of : (es : List Tree) → choices (length es) es ≡ all_of es ∷ []
choices_all_of [] = refl
choices_all_of (e ∷ es) =
    λ i. map (also_taken e) (choices_all_of es i) ++ map (also_left e) (choices_few (suc (length es)) es (omega arith) i)

nothing_by : (names : Names) (how : Matching) (h : Tree) (ps : List Element) (left : List Tree) (fs : List Found) → fs ≡ [] → joined (map (match_items names how h ps left) fs) ≡ []
nothing_by names how h ps left fs e = ap (λ gs. joined (map (match_items names how h ps left) gs)) e

-- a way that leaves the others what they have nothing for
pub beside_others : (names : Names) (how : Matching) (h : Tree) (ps : List Element) (left : List Tree) (fs : List Found) → ((found : Found) → match_items names how h ps left found ≡ []) → joined (map (match_items names how h ps left) fs) ≡ []
beside_others names how h ps left fs none = joined-none (match_items names how h ps left) fs none

pub below : (m n : ℕ) → (m < n) ⊎ (n ≤ m)
below m n = by_test (ltb m n) refl
  where
    by_test : (b : Bool) → ltb m n ≡ b → (m < n) ⊎ (n ≤ m)
    by_test true e = inl (ltb-true m n e)
    by_test false e = inr (ltb-false m n e)

-- an element pattern has nothing for fewer elements than it needs, and nothing for more than one where it is bounded
pub under_least : (names : Names) (A : Sym → Matching) (how : Matching) (h p : Tree) (run : List Tree) (found : Found) → length run < least_of (fills names p) → matcher names A p (wrapped names how h p run) found ≡ []
under_least names A how h p run found q = by_fills (fills names p) refl q
  where
    by_fills : (b : Bool) → fills names p ≡ b → length run < least_of b → matcher names A p (wrapped names how h p run) found ≡ []
    by_fills true e q = needs_one names A how h p run found e q
    by_fills false e q = absurd (omega (arith, q))

-- no binding where less is left than the least that the element patterns need
pub too_few : FewHaveNothing
too_few names A how h nil es found few = absurd (omega (arith, few))
too_few names A how h (cons p ps) es found few =
    let others : (left : List Tree) (f : Found) → length left < least names ps → match_items names how h (matchers names A ps) left f ≡ [] = λ left f q. too_few names A how h ps left f q in
    no_way how.orderless (λ t. joined (map (match_items names how h (matchers names A ps) t.left) (matcher names A p (wrapped names how h p t.run) found))) es
    (λ t q. elim (below (length t.run) (least_of (fills names p))) [
      | inl low ↦ nothing_by names how h (matchers names A ps) t.left (matcher names A p (wrapped names how h p t.run) found) (under_least names A how h p t.run found low)
      | inr high ↦ beside_others names how h (matchers names A ps) t.left (matcher names A p (wrapped names how h p t.run) found) (λ f. others t.left f (omega (arith, high, q, few)))
    ])

-- no binding where more is left than the most that the element patterns take
pub too_many : ManyHaveNothing
too_many names A how h nil [] found all many = absurd (omega (arith, many))
too_many names A how h nil (e ∷ es) found all many = refl
too_many names A how h (cons p ps) es found all many =
    let others : (left : List Tree) (f : Found) → count ps < length left → match_items names how h (matchers names A ps) left f ≡ [] =
    λ left f q. too_many names A how h ps left f (second-of (is_bounded names how p) (all_bounded names how ps) all) q in
    no_way how.orderless (λ t. joined (map (match_items names how h (matchers names A ps) t.left) (matcher names A p (wrapped names how h p t.run) found))) es
    (λ t q. elim (below 1 (length t.run)) [
      | inl high ↦ nothing_by names how h (matchers names A ps) t.left (matcher names A p (wrapped names how h p t.run) found) (up_to_one names A how h p t.run found (first-of (is_bounded names how p) (all_bounded names how ps) all) high)
      | inr low ↦ beside_others names how h (matchers names A ps) t.left (matcher names A p (wrapped names how h p t.run) found) (λ f. others t.left f (omega (arith, low, q, many)))
    ])
