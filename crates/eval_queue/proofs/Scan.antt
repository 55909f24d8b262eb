-- The walk that looks for the least waiting item.
use Rattle.std.proofs.Common.{◌≡◌, refl, ap, subst, sym, ◌∙◌, ℕ, zero, suc, ◌+◌, ◌<◌, ◌≤◌, List, [], ◌∷◌, length, map, take, drop, get_or, Option, Some, None, Bool, true, false, true≢false, arith}
use Rattle.std.specs.Prelude.{◌&&◌, ◌==◌, not}
use Rattle.std.proofs.lemmas.Bool.{ne_eqb}
use Rattle.std.proofs.lemmas.List.{drop_all, length-map}
use Rattle.journal.specs.Places.{each_from}
use Rattle.journal.specs.Closure.{Bundle}
use Rattle.journal.specs.declared.item.Status.{Status}
use Rattle.journal.specs.Core.{is_waiting, may_go, first_for}
use Rattle.eval_queue.specs.declared.kept.Kept.{Kept}
use Rattle.eval_queue.specs.Items.{items_in, changed, with_status, none_waits, IsPassed}

-- the same, whatever is kept beside the items
abbrev pub least : {B : Type 0} → ℕ → List (Kept B) → ℕ → Option ℕ
least id [] k = None
least id (q ∷ qs) k = elim (is_waiting q.status && may_go q.item k) [ true ↦ Some id | false ↦ least (suc id) qs k ]

pub least_is_first : {B : Type 0} (b : B → Bundle) (id : ℕ) (qs : List (Kept B)) (k : ℕ) → least id qs k ≡ first_for id (items_in b qs) k
least_is_first b id [] k = refl
least_is_first b id (q ∷ qs) k =
    ap (λ o. elim (is_waiting q.status && may_go q.item k) as (λ _. Option ℕ) [ true ↦ Some id | false ↦ o ]) (least_is_first b (suc id) qs k)

not_both : (a b : Bool) → (not a && b) ≡ true → (a ≡ false) × (b ≡ true)
not_both true b e = absurd (true≢false (sym e))
not_both false b e = (refl, e)

skipped : (a b : Bool) (x y : Option ℕ) → a ≡ false → elim (a && b) as (λ _. Option ℕ) [ true ↦ x | false ↦ y ] ≡ y
skipped a b x y e = ap (λ c. elim (c && b) as (λ _. Option ℕ) [ true ↦ x | false ↦ y ]) e

-- what is passed over holds nothing
over : {B : Type 0} (es : List (Kept B)) (n id k : ℕ) → n ≤ length es → none_waits (take n es) ≡ true
    → least (id + n) (drop n es) k ≡ least id es k
over [] zero id k le none = refl
over [] (suc n) id k le none = absurd (omega (arith, le))
over (e ∷ es) zero id k le none = ap (λ m. least m (e ∷ es) k) (omega arith)
over (e ∷ es) (suc n) id k le none =
    let parts = not_both (is_waiting e.status) (none_waits (take n es)) none in
    let at : id + suc n ≡ suc id + n = omega arith in
    ap (λ m. least m (drop n es) k) at
    ∙ (over es n (suc id) k (omega (arith, le)) parts.1
    ∙ sym (skipped (is_waiting e.status) (may_go e.item k) (Some id) (least (suc id) es k) parts.0))

pub passed_over : {B : Type 0} (es : List (Kept B)) (n k : ℕ) → IsPassed n es → least (suc n) (drop n es) k ≡ least 1 es k
passed_over es n k is =
    let at : suc n ≡ 1 + n = omega arith in
    ap (λ m. least m (drop n es) k) at ∙ over es n 1 k is.within is.passed

least_at : {B : Type 0} (es : List (Kept B)) (p k : ℕ) (x : Kept B) → p < length es → x ≡ get_or es p x
    → least (suc p) (drop p es) k
    ≡ elim (is_waiting x.status && may_go x.item k) as (λ _. Option ℕ) [ true ↦ Some (suc p) | false ↦ least (suc (suc p)) (drop (suc p) es) k ]
least_at {B} es p k x lt is = from es p p x lt is
  where
    from : (fs : List (Kept B)) (n id : ℕ) (y : Kept B) → n < length fs → y ≡ get_or fs n y
        → least (suc id) (drop n fs) k
        ≡ elim (is_waiting y.status && may_go y.item k) as (λ _. Option ℕ) [ true ↦ Some (suc id) | false ↦ least (suc (suc id)) (drop (suc n) fs) k ]
    from [] n id y l e = absurd (omega (arith, l))
    from (f ∷ fs) zero id y l e =
        ap (λ z. elim (is_waiting z.status && may_go z.item k) as (λ _. Option ℕ) [ true ↦ Some (suc id) | false ↦ least (suc (suc id)) fs k ]) (sym e)
    from (f ∷ fs) (suc n) id y l e = from fs n id y (omega (arith, l)) e

pub step_on : {B : Type 0} (es : List (Kept B)) (p k : ℕ) (x : Kept B) (o : Option ℕ) → p < length es → x ≡ get_or es p x
    → (is_waiting x.status && may_go x.item k) ≡ false
    → least (suc p) (drop p es) k ≡ o → least (suc (p + 1)) (drop (p + 1) es) k ≡ o
step_on es p k x o lt is not_it e =
    let at : p + 1 ≡ suc p = omega arith in
    ap (λ n. least (suc n) (drop n es) k) at
    ∙ (sym (least_at es p k x lt is
    ∙ ap (λ b. elim b as (λ _. Option ℕ) [ true ↦ Some (suc p) | false ↦ least (suc (suc p)) (drop (suc p) es) k ]) not_it) ∙ e)

pub found_here : {B : Type 0} (es : List (Kept B)) (p k : ℕ) (x : Kept B) → p < length es → x ≡ get_or es p x
    → (is_waiting x.status && may_go x.item k) ≡ true
    → least (suc p) (drop p es) k ≡ least 1 es k
    → (b : B → Bundle) → Some (p + 1) ≡ first_for 1 (items_in b es) k
found_here es p k x lt is it e b =
    let at : p + 1 ≡ suc p = omega arith in
    ap (λ n. Some n) at
    ∙ (sym (least_at es p k x lt is
    ∙ ap (λ b. elim b as (λ _. Option ℕ) [ true ↦ Some (suc p) | false ↦ least (suc (suc p)) (drop (suc p) es) k ]) it)
    ∙ (e ∙ least_is_first b 1 es k))

pub found_nowhere : {B : Type 0} (es : List (Kept B)) (p k : ℕ) → length es ≤ p
    → least (suc p) (drop p es) k ≡ least 1 es k
    → (b : B → Bundle) → None ≡ first_for 1 (items_in b es) k
found_nowhere es p k past e b =
    ap (λ fs. least (suc p) fs k) (sym (drop_all p es past)) ∙ (e ∙ least_is_first b 1 es k)

-- one item more does not wait
one : {B : Type 0} (es : List (Kept B)) (p : ℕ) (x : Kept B) → p < length es → x ≡ get_or es p x → is_waiting x.status ≡ false
    → none_waits (take p es) ≡ true → none_waits (take (suc p) es) ≡ true
one [] p x lt is w none = absurd (omega (arith, lt))
one (e ∷ es) zero x lt is w none = ap (λ y. not (is_waiting y.status) && true) (sym is) ∙ ap (λ a. not a && true) w
one (e ∷ es) (suc p) x lt is w none =
    let parts = not_both (is_waiting e.status) (none_waits (take p es)) none in
    ap (λ a. not a && none_waits (take (suc p) es)) parts.0 ∙ one es p x (omega (arith, lt)) is w parts.1

pub one_more : {B : Type 0} (es : List (Kept B)) (p : ℕ) (x : Kept B) → p < length es → x ≡ get_or es p x → is_waiting x.status ≡ false
    → IsPassed p es → IsPassed (p + 1) es
one_more es p x lt is w passed =
    let next : suc p ≡ p + 1 = omega arith in
    subst (λ n. IsPassed n es) next (record { within = omega (arith, lt); passed = one es p x lt is w passed.passed })

-- ---- a status that changes

same_length : {B : Type 0} (id n : ℕ) (s : Status) (qs : List (Kept B)) → length (each_from n (changed id s) qs) ≡ length qs
same_length id n s [] = refl
same_length id n s (q ∷ qs) = ap suc (same_length id (suc n) s qs)

neither : (b : Bool) (s t : Status) → is_waiting s ≡ false → is_waiting t ≡ false → is_waiting (elim b as (λ _. Status) [ true ↦ s | false ↦ t ]) ≡ false
neither true s t e f = e
neither false s t e f = f

still : {B : Type 0} (id m n : ℕ) (s : Status) (qs : List (Kept B)) → is_waiting s ≡ false → none_waits (take n qs) ≡ true
    → none_waits (take n (each_from m (changed id s) qs)) ≡ true
still id m zero s qs w none = refl
still id m (suc n) s [] w none = refl
still id m (suc n) s (q ∷ qs) w none =
    let parts = not_both (is_waiting q.status) (none_waits (take n qs)) none in
    ap (λ a. not a && none_waits (take n (each_from (suc m) (changed id s) qs))) (neither (id == m) s q.status w parts.0)
    ∙ still id (suc m) n s qs w parts.1

pub still_passed : {B : Type 0} (id n : ℕ) (s : Status) (qs rs : List (Kept B)) → is_waiting s ≡ false → rs ≡ with_status id s qs → IsPassed n qs → IsPassed n rs
still_passed id n s qs rs w e is =
    subst (IsPassed n) (sym e) (record {
      within = subst (λ m. n ≤ m) (sym (same_length id 1 s qs)) is.within;
      passed = still id 1 n s qs w is.passed;
    })

unlike : (b : Bool) (s t : Status) → b ≡ false → elim b as (λ _. Status) [ true ↦ s | false ↦ t ] ≡ t
unlike b s t e = ap (λ c. elim c as (λ _. Status) [ true ↦ s | false ↦ t ]) e

before : {B : Type 0} (id m n : ℕ) (s : Status) (qs : List (Kept B)) → m + n ≤ id → none_waits (take n qs) ≡ true
    → none_waits (take n (each_from m (changed id s) qs)) ≡ true
before id m zero s qs le none = refl
before id m (suc n) s [] le none = refl
before id m (suc n) s (q ∷ qs) le none =
    let parts = not_both (is_waiting q.status) (none_waits (take n qs)) none in
    let there = unlike (id == m) s q.status (ne_eqb id m (λ e. omega (arith, e, le))) in
    ap (λ t. not (is_waiting t) && none_waits (take n (each_from (suc m) (changed id s) qs))) there
    ∙ (ap (λ a. not a && none_waits (take n (each_from (suc m) (changed id s) qs))) parts.0
    ∙ before id (suc m) n s qs (omega (arith, le)) parts.1)

fewer : {B : Type 0} (m n : ℕ) (qs : List (Kept B)) → m ≤ n → none_waits (take n qs) ≡ true → none_waits (take m qs) ≡ true
fewer zero n qs le none = refl
fewer (suc m) n [] le none = refl
fewer (suc m) zero (q ∷ qs) le none = absurd (omega (arith, le))
fewer (suc m) (suc n) (q ∷ qs) le none =
    let parts = not_both (is_waiting q.status) (none_waits (take n qs)) none in
    ap (λ a. not a && none_waits (take m qs)) parts.0 ∙ fewer m n qs (omega (arith, le)) parts.1

pub passed_before : {B : Type 0} (p n m : ℕ) (s : Status) (qs rs : List (Kept B)) → rs ≡ with_status (suc p) s qs → m ≤ n → m ≤ p → IsPassed n qs → IsPassed m rs
passed_before p n m s qs rs e le lp is =
    let within = is.within in
    subst (IsPassed m) (sym e) (record {
      within = subst (λ l. m ≤ l) (sym (same_length (suc p) 1 s qs)) (omega (arith, le, within));
      passed = before (suc p) 1 m s qs (omega (arith, lp)) (fewer m n qs le is.passed);
    })
