-- Items by their ids.
use Rattle.std.proofs.Common.{◌≡◌, refl, ap, subst, sym, ◌∙◌, ℕ, zero, suc, ◌+◌, ◌-◌, ◌<◌, List, [], ◌∷◌, length, map, get_or, Bool, true, false, true≢false, arith, eq-eqb}
use Rattle.std.proofs.lemmas.Bool.{ne_eqb}
use Rattle.std.specs.Prelude.{slice_get, slice_set, ◌==◌}
use Rattle.std.specs.Option.{option_map}
use Rattle.journal.specs.Places.{nth, each_from}
use Rattle.journal.specs.declared.item.Status.{Status}
use Rattle.eval_queue.specs.declared.kept.Kept.{Kept}
use Rattle.eval_queue.specs.Items.{kept_at, changed, with_status}

get_nth : {B : Type 0} (es : List (Kept B)) (n : ℕ) → slice_get es n ≡ nth es n
get_nth [] n = refl
get_nth (e ∷ es) zero = refl
get_nth (e ∷ es) (suc n) = get_nth es n

pub found_at : {B : Type 0} (es : List (Kept B)) (id : ℕ) → (id ≡ 0 → ⊥) → slice_get es (id - 1) ≡ kept_at es id
found_at es zero ne = absurd (ne refl)
found_at es (suc n) ne = ap (slice_get es) (omega arith) ∙ get_nth es n

-- items before and behind the one that changes
other : {B : Type 0} (b : Bool) (s : Status) (q : Kept B) → b ≡ false → q ≡ record q { status = elim b [ true ↦ s | false ↦ q.status ] }
other true s q e = absurd (true≢false e)
other false s q e = refl

this : {B : Type 0} (b : Bool) (s : Status) (q : Kept B) → b ≡ true → record q { status = s } ≡ record q { status = elim b [ true ↦ s | false ↦ q.status ] }
this true s q e = refl
this false s q e = absurd (true≢false (sym e))

each_same : {B : Type 0} (id n : ℕ) (s : Status) (qs : List (Kept B)) → id < n → qs ≡ each_from n (changed id s) qs
each_same id n s [] p = refl
each_same id n s (q ∷ qs) p =
    let front = other (id == n) s q (ne_eqb id n (λ e. omega (arith, p, e))) in
    let rest = each_same id (suc n) s qs (omega (arith, p)) in
    λ j. front j ∷ rest j

set_from : {B : Type 0} (es : List (Kept B)) (p n : ℕ) (x d : Kept B) (s : Status) → p < length es
    → x ≡ record (get_or es p d) { status = s }
    → slice_set es p x ≡ each_from n (changed (n + p) s) es
set_from [] p n x d s lt is = absurd (omega (arith, lt))
set_from (e ∷ es) zero n x d s lt is =
    let at : n ≡ n + 0 = omega arith in
    let front = is ∙ this (n == n) s e (eq-eqb n n refl) in
    let rest = each_same n (suc n) s es (omega arith) in
    subst (λ m. x ∷ es ≡ each_from n (changed m s) (e ∷ es)) at (λ j. front j ∷ rest j)
set_from (e ∷ es) (suc p) n x d s lt is =
    let at : suc n + p ≡ n + suc p = omega arith in
    let front = other (suc n + p == n) s e (ne_eqb (suc n + p) n (λ e. omega (arith, e))) in
    let rest = set_from es p (suc n) x d s (omega (arith, lt)) is in
    subst (λ m. e ∷ slice_set es p x ≡ each_from n (changed m s) (e ∷ es)) at (λ j. front j ∷ rest j)

pub set_at : {B : Type 0} (es : List (Kept B)) (p : ℕ) (r : Kept B) (t : Status) → p < length es → r ≡ get_or es p r
    → slice_set es p (record r { status = t }) ≡ with_status (suc p) t es
set_at {B} es p r t lt is =
    let x : Kept B = record r { status = t } in
    let same : x ≡ record (get_or es p r) { status = t } = ap {A = Kept B} (λ e. record e { status = t }) is in
    subst (λ m. slice_set es p x ≡ each_from 1 (changed m t) es) (omega arith) (set_from es p 1 x r t lt same)
