-- Steps of the order of names, and of a search in texts.
use Rattle.std.proofs.Common.{◌≡◌, ◌≢◌, ℕ, ◌+◌, ◌<◌, ◌≤◌, Bool, not, ◌||◌, cond, List, [], ◌∷◌, length, map, position, get_or, drop, drop-cons, add-one, refl, ap, arith}
use Rattle.std.proofs.Math.ListN.{drop_of_length-le}
use Rattle.std.specs.List.{position_or_len, list_any}
use Rattle.std.specs.List.Sorted.{IsSortedBy}
use Rattle.std.specs.Cmp.{IsTotalOrder}
use Rattle.std.proofs.lemmas.Cmp.{nat_list_cmp_total, on_total, then_total, back_total}
use Rattle.std.proofs.lemmas.List.{get_or-map}
use Rattle.script_text.specs.Spelling.{lowered, name_cmp}
use Rattle.std.proofs.Math.ListN.{length-map}
use Rattle.std.specs.Ordering.{ordering_then}
use Rattle.std.specs.declared.cmp.Ordering.{Ordering}
use Rattle.std.specs.declared.cmp.Ordering.TheVariants.{Less, Equal, Greater}

pub then_first : (r s : Ordering) → r ≢ Equal → ordering_then r s ≡ r
then_first Less s p = refl
then_first Equal s p = absurd (p refl)
then_first Greater s p = refl

-- a list from the i-th place on
pub at_place : (xs : List ℕ) (i : ℕ) → i < length xs → drop i xs ≡ get_or xs i 0 ∷ drop (i + 1) xs
at_place xs i p = rw (drop-cons xs i 0 p, add-one)

pub at_end : (xs : List ℕ) (i : ℕ) → length xs ≤ i → drop i xs ≡ []
at_end xs i p = drop_of_length-le xs p

pub place-map : {A B : Type 0} (f : A → B) (p : B → Bool) (xs : List A) → position_or_len p (map f xs) ≡ position_or_len (λ x. p (f x)) xs
place-map f p [] = refl
place-map f p (x ∷ xs) = ap (λ n. cond (not (p (f x))) (1 + n) 0) (place-map f p xs)

pub position-map : {A B : Type 0} (f : A → B) (p : B → Bool) (xs : List A) → position p (map f xs) ≡ position (λ x. p (f x)) xs
position-map f p xs = rw (place-map f p xs, length-map)

pub ruleset name_steps = (then_first, at_place, at_end, position-map)

pub name_total : IsTotalOrder name_cmp
name_total = then_total (on_total (map lowered) nat_list_cmp_total) (back_total nat_list_cmp_total)

-- where the elements ascend by what f gives, what f gives ascends
pub sorted-map : {A B : Type 0} (f : A → B) (lt : B → B → Bool) (xs : List A) → IsSortedBy (λ x y. lt (f x) (f y)) xs → IsSortedBy lt (map f xs)
sorted-map f lt [] up = λ k d low high. absurd (omega arith)
sorted-map {A} f lt (x ∷ xs) up = λ k d low high.
    let long = length-map (x ∷ xs) f in
    rw (get_or-map f (x ∷ xs) (k + 1) x d (omega arith), get_or-map f (x ∷ xs) k x d (omega arith)) (up k x low (omega arith))

pub any-map : {A B : Type 0} (f : A → B) (p : B → Bool) (xs : List A) → list_any p (map f xs) ≡ list_any (λ x. p (f x)) xs
any-map f p [] = refl
any-map f p (x ∷ xs) = ap (λ b. p (f x) || b) (any-map f p xs)
