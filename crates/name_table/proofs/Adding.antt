-- The bases of the names gone over so far, and the places of texts among the keys of a set.
use Rattle.std.proofs.Common.{◌≡◌, ◌∙◌, refl, sym, ap, ℕ, zero, suc, ◌+◌, ◌<◌, Bool, true, false, true≢false, cond, ◌||◌, List, [], ◌∷◌, ◌++◌, length, map, take, get_or, Some, None, arith}
use Rattle.std.specs.Prelude.{nat_lt, position}
use Rattle.std.specs.List.{position_or_len, list_any}
use Rattle.std.specs.Str.{bytes_eq}
use Rattle.std.proofs.lemmas.List.{take_more, get_or-map}
use Rattle.std.proofs.Math.ListN.{length-map}
use Rattle.std.proofs.lemmas.List.Folds.{list_any-append, list_any_at}
use Rattle.std.proofs.lemmas.Cmp.{nat_list_eq_equiv}
use Rattle.std.proofs.lemmas.Map.Text.{is_eq-slice_cmp}
use Rattle.std.specs.Ordering.{is_eq}
use Rattle.expr_tree.specs.Order.{text_cmp}
use Rattle.name_table.proofs.Sorted.{own_bytes}
use Rattle.script_text.specs.Spelling.{spelled, place_in}
use Rattle.name_table.proofs.Places.{place_is}
use Rattle.name_table.proofs.Steps.{place-map, any-map}
use Rattle.name_table.specs.Table.{places}

abbrev pub base_of : List ℕ → List ℕ
base_of name = (spelled name).base

map-append : {A B : Type 0} (f : A → B) (xs ys : List A) → map f (xs ++ ys) ≡ map f xs ++ map f ys
map-append f [] ys = refl
map-append f (x ∷ xs) ys = ap (λ zs. f x ∷ zs) (map-append f xs ys)

-- one more name
pub more_bases : (f : List ℕ → List ℕ) (names : List (List ℕ)) (i : ℕ) (d : List ℕ) → i < length names → map f (take (i + 1) names) ≡ map f (take i names) ++ (f (get_or names i d) ∷ [])
more_bases f names i d p = ap (map f) (take_more names i d p) ∙ map-append f (take i names) (get_or names i d ∷ [])

pub has_more : (t : List ℕ) (names : List (List ℕ)) (i : ℕ) (d : List ℕ) → i < length names
    → list_any (bytes_eq t) (map base_of (take (i + 1) names)) ≡ (list_any (bytes_eq t) (map base_of (take i names)) || bytes_eq t (base_of (get_or names i d)))
has_more t names i d p =
    ap (list_any (bytes_eq t)) (more_bases base_of names i d p)
    ∙ list_any-append (bytes_eq t) (map base_of (take i names)) (base_of (get_or names i d) ∷ [])
    ∙ ap (λ b. list_any (bytes_eq t) (map base_of (take i names)) || b) (or_no (bytes_eq t (base_of (get_or names i d))))
  where
    or_no : (b : Bool) → (b || false) ≡ b
    or_no true = refl
    or_no false = refl

found_at : (b : Bool) (a i : ℕ) → cond b (Some a) None ≡ Some i → a ≡ i
found_at true a i e = cc
found_at false a i e = absurd (cc)

-- where a look-up finds the text
pub place_at : {K : Type 0} (f : K → List ℕ) (keys : List K) (t : List ℕ) (i : ℕ) → position (λ k. bytes_eq t (f k)) keys ≡ Some i → place_in (map f keys) t ≡ i
place_at f keys t i e =
    place_is (map f keys) t ∙ place-map f (bytes_eq t) keys
    ∙ found_at (nat_lt (position_or_len (λ k. bytes_eq t (f k)) keys) (length keys)) (position_or_len (λ k. bytes_eq t (f k)) keys) i e

pub has_at : {K : Type 0} (f : K → List ℕ) (keys : List K) (t : List ℕ) → list_any (bytes_eq t) (map f keys) ≡ list_any (λ k. bytes_eq t (f k)) keys
has_at f keys t = any-map f (bytes_eq t) keys

pub more_places : (texts names : List (List ℕ)) (i : ℕ) (d : List ℕ) → i < length names
    → places texts (take (i + 1) names) ≡ places texts (take i names) ++ (place_in texts (spelled (get_or names i d)).base ∷ [])
more_places texts names i d p = ap (places texts) (take_more names i d p) ∙ map-append (λ t. place_in texts (spelled t).base) (take i names) (get_or names i d ∷ [])

or_cond : (a b x : Bool) → a ≡ b → cond a true x ≡ (x || b)
or_cond true true x e = or_yes x
  where
    or_yes : (v : Bool) → true ≡ (v || true)
    or_yes true = refl
    or_yes false = refl
or_cond true false x e = absurd (true≢false e)
or_cond false true x e = absurd (true≢false (sym e))
or_cond false false x e = or_none x
  where
    or_none : (v : Bool) → v ≡ (v || false)
    or_none true = refl
    or_none false = refl

or_assoc : (a b c : Bool) → ((a || b) || c) ≡ (a || (b || c))
or_assoc true b c = refl
or_assoc false b c = refl

-- the names contained after one more, s, which is the base of the i-th
pub added : (t s : List ℕ) (before : Bool) (was : Bool) (names : List (List ℕ)) (i : ℕ) (d : List ℕ) → i < length names → s ≡ base_of (get_or names i d)
    → was ≡ (before || list_any (bytes_eq t) (map base_of (take i names)))
    → cond (bytes_eq s t) true was ≡ (before || list_any (bytes_eq t) (map base_of (take (i + 1) names)))
added t s before was names i d p same h =
    or_cond (bytes_eq s t) (bytes_eq t (base_of (get_or names i d))) was (nat_list_eq_equiv.symm s t ∙ ap (bytes_eq t) same)
    ∙ ap (λ b. b || bytes_eq t (base_of (get_or names i d))) h
    ∙ or_assoc before (list_any (bytes_eq t) (map base_of (take i names))) (bytes_eq t (base_of (get_or names i d)))
    ∙ ap (λ b. before || b) (sym (has_more t names i d p))

pub has_own : (names : List (List ℕ)) (i : ℕ) (d : List ℕ) → i < length names → list_any (bytes_eq (base_of (get_or names i d))) (map base_of names) ≡ true
has_own names i d p =
    let long : i < length (map base_of names) = omega (arith, p, length-map names base_of) in
    list_any_at (bytes_eq (base_of (get_or names i d))) (map base_of names) i (base_of d) long
    (ap (bytes_eq (base_of (get_or names i d))) (get_or-map base_of names i d (base_of d) p) ∙ own_bytes (base_of (get_or names i d)))

place_within : (texts : List (List ℕ)) (t : List ℕ) → list_any (bytes_eq t) texts ≡ true → place_in texts t < length texts
place_within [] t h = absurd (true≢false (sym h))
place_within (u ∷ us) t h = go (is_eq (text_cmp u t)) (is_eq-slice_cmp u t ∙ nat_list_eq_equiv.symm u t) (λ e. place_within us t (ap (λ b. b || list_any (bytes_eq t) us) e ∙ h))
  where
    go : (a : Bool) → a ≡ bytes_eq t u → (false ≡ bytes_eq t u → place_in us t < length us) → elim a [ true ↦ zero | false ↦ suc (place_in us t) ] < length (u ∷ us)
    go true e rest = omega arith
    go false e rest = omega (arith, rest e)

pub places_within : (texts names : List (List ℕ)) → ((t : List ℕ) → list_any (bytes_eq t) (map base_of names) ≡ true → list_any (bytes_eq t) texts ≡ true)
    → (row : ℕ) → row < length (places texts names) → get_or (places texts names) row 0 < length texts
places_within texts names h row p =
    let long : row < length names = omega (arith, p, length-map names (λ t. place_in texts (spelled t).base)) in
    rw (get_or-map (λ t. place_in texts (spelled t).base) names row [] 0 long) (place_within texts (base_of (get_or names row [])) (h (base_of (get_or names row [])) (has_own names row [] long)))

pub has_both : (t : List ℕ) (names more : List (List ℕ)) → list_any (bytes_eq t) (map base_of (names ++ more)) ≡ (list_any (bytes_eq t) (map base_of names) || list_any (bytes_eq t) (map base_of more))
has_both t names more = ap (list_any (bytes_eq t)) (map-append base_of names more) ∙ list_any-append (bytes_eq t) (map base_of names) (map base_of more)

pub ruleset adding_steps = (place_at, has_at, more_places)
