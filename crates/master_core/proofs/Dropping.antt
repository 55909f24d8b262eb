-- The items that the end of a wait drops.
use Rattle.std.proofs.Common.{◌≡◌, refl, sym, ap, subst, ◌∙◌, ℕ, zero, suc, ◌+◌, List, [], ◌∷◌, Bool, true, false, true≢false, Option, Some, None, arith, eq-eqb, eqb-true, ◌<◌, ◌≤◌, length, drop, get_or, drop-cons}
use Rattle.std.specs.Prelude.{◌==◌}
use Rattle.std.proofs.lemmas.Bool.{ne_eqb}
use Rattle.std.specs.Option.{option_map}
use Rattle.expr_tree.specs.Tree.{Tree}
use Rattle.journal.specs.Places.{nth, each_from, member}
use Rattle.journal.specs.Closure.{Bundle}
use Rattle.journal.specs.declared.event.Event.TheVariants.{Resume}
use Rattle.journal.specs.declared.event.Wait.{Wait}
use Rattle.journal.specs.declared.item.Status.{Status}
use Rattle.journal.specs.declared.item.Status.TheVariants.{Waiting, Running, Done, Dropped}
use Rattle.journal.specs.Core.{Setup, queued_after, dropped}
use Rattle.eval_queue.specs.declared.kept.Kept.{Kept}
use Rattle.eval_queue.specs.Items.{status_at, with_status, changed}
use Rattle.master_core.specs.Joined.{items_of, dropped_one, dropped_all, tries}
use Rattle.master_core.proofs.Joins.{each_same, each_item}

eq_swap : (a b : ℕ) → (a == b) ≡ (b == a)
eq_swap a b = go (a == b) refl
  where
    go : (x : Bool) → (a == b) ≡ x → x ≡ (b == a)
    go true e = sym (eq-eqb b a (sym (eqb-true a b e)))
    go false e = sym (ne_eqb b a (λ q. true≢false (sym (eq-eqb a b (sym q)) ∙ e)))

alike : (f g : ℕ → Kept Bundle → Kept Bundle) (n : ℕ) (qs : List (Kept Bundle)) → ((p : ℕ) (q : Kept Bundle) → nth qs p ≡ Some q → f (n + p) q ≡ g (n + p) q)
    → each_from n f qs ≡ each_from n g qs
alike f g n [] each = refl
alike f g n (q ∷ qs) each =
    let here : f n q ≡ g n q = subst (λ m. f m q ≡ g m q) (omega arith) (each 0 q refl) in
    let rest = alike f g (suc n) qs (λ p x at. subst (λ m. f m x ≡ g m x) (omega arith) (each (suc p) x at)) in
    λ i. here i ∷ rest i

status_there : (qs : List (Kept Bundle)) (id p : ℕ) (q : Kept Bundle) → nth qs p ≡ Some q → 1 + p ≡ id → status_at qs id ≡ Some q.status
status_there qs zero p q at is = absurd (omega (arith, is))
status_there qs (suc n) p q at is =
    let same : n ≡ p = omega (arith, is) in
    ap (λ m. option_map (λ (x : Kept Bundle). x.status) (nth qs m)) same ∙ ap (option_map (λ (x : Kept Bundle). x.status)) at

kept_so : (b : Bool) (s : Status) → (b ≡ true → dropped s ≡ s) → s ≡ elim b as (λ _. Status) [ true ↦ dropped s | false ↦ s ]
kept_so true s e = sym (e refl)
kept_so false s e = refl

same_status : (s t : Status) → ◌≡◌ {A = Option Status} (Some s) (Some t) → s ≡ t
same_status s t e = cc

-- one that has no status to drop
stays : (qs : List (Kept Bundle)) (id : ℕ) → ((s : Status) → status_at qs id ≡ Some s → dropped s ≡ s) → qs ≡ each_from 1 (dropped_one id) qs
stays qs id is =
    each_same (λ m q. q) 1 qs (λ m q. refl)
    ∙ alike (λ m q. q) (dropped_one id) 1 qs
    (λ p q at. ap (λ s. record { item = q.item; bundle = q.bundle; status = s }) (kept_so (1 + p == id) q.status (λ b. is q.status (status_there qs id p q at (eqb-true (1 + p) id b)))))

pub drop_none : (qs : List (Kept Bundle)) (id : ℕ) → status_at qs id ≡ None → qs ≡ each_from 1 (dropped_one id) qs
drop_none qs id none = stays qs id (λ s e. let no : None ≡ Some s = sym none ∙ e in cc)

pub drop_kept : (qs : List (Kept Bundle)) (id : ℕ) (s : Status) → status_at qs id ≡ Some s → dropped s ≡ s → qs ≡ each_from 1 (dropped_one id) qs
drop_kept qs id s has keeps = stays qs id (λ t e. let same = same_status s t (sym has ∙ e) in sym (ap dropped same) ∙ keeps ∙ same)

chosen : (b c : Bool) (s : Status) → b ≡ c → (b ≡ true → dropped s ≡ Dropped) → elim b as (λ _. Status) [ true ↦ Dropped | false ↦ s ] ≡ elim c as (λ _. Status) [ true ↦ dropped s | false ↦ s ]
chosen true c s e is = sym (is refl) ∙ ap (λ x. elim x as (λ _. Status) [ true ↦ dropped s | false ↦ s ]) e
chosen false c s e is = ap (λ x. elim x as (λ _. Status) [ true ↦ dropped s | false ↦ s ]) e

pub drop_open : (qs : List (Kept Bundle)) (id : ℕ) (s : Status) → status_at qs id ≡ Some s → dropped s ≡ Dropped → with_status id Dropped qs ≡ each_from 1 (dropped_one id) qs
drop_open qs id s has is =
    alike (changed id Dropped) (dropped_one id) 1 qs
    (λ p q at. ap (λ t. record { item = q.item; bundle = q.bundle; status = t })
    (chosen (id == 1 + p) (1 + p == id) q.status (eq_swap id (1 + p))
    (λ b. let same = same_status s q.status (sym has ∙ status_there qs id p q at (sym (eqb-true id (1 + p) b))) in sym (ap dropped same) ∙ is)))

twice : (s : Status) → dropped (dropped s) ≡ dropped s
twice Waiting = refl
twice (Running k) = refl
twice (Done v) = refl
twice Dropped = refl

joined : (a b : Bool) (s : Status)
    → elim b as (λ _. Status) [ true ↦ dropped (elim a as (λ _. Status) [ true ↦ dropped s | false ↦ s ]) | false ↦ elim a as (λ _. Status) [ true ↦ dropped s | false ↦ s ] ]
    ≡ elim (elim a as (λ _. Bool) [ true ↦ true | false ↦ b ]) as (λ _. Status) [ true ↦ dropped s | false ↦ s ]
joined true true s = twice s
joined true false s = refl
joined false true s = refl
joined false false s = refl

pub drop_next : (id n : ℕ) (ids : List ℕ) (qs : List (Kept Bundle)) → each_from n (dropped_all ids) (each_from n (dropped_one id) qs) ≡ each_from n (dropped_all (id ∷ ids)) qs
drop_next id n ids [] = refl
drop_next id n ids (q ∷ qs) =
    let here = joined (n == id) (member n ids) q.status in
    let rest = drop_next id (suc n) ids qs in
    λ i. record { item = q.item; bundle = q.bundle; status = here i } ∷ rest i

pub drop_over : (n : ℕ) (qs : List (Kept Bundle)) → qs ≡ each_from n (dropped_all []) qs
drop_over n qs = each_same (dropped_all []) n qs (λ m q. refl)

pub dropped_tries : (set : Setup) (ids : List ℕ) (qs : List (Kept Bundle)) → items_of (each_from 1 (dropped_all ids) qs) ≡ each_from 1 (queued_after set (Some (Wait.Try ids)) 0 Resume) (items_of qs)
dropped_tries set ids qs = each_item (dropped_all ids) (queued_after set (Some (Wait.Try ids)) 0 Resume) 1 qs (λ p q at. refl)

pub drop_step : (ids : List ℕ) (i : ℕ) (qs old new : List (Kept Bundle)) → i < length ids → each_from 1 (dropped_all (drop i ids)) qs ≡ old → new ≡ each_from 1 (dropped_one (get_or ids i 0)) qs
    → each_from 1 (dropped_all (drop (i + 1) ids)) new ≡ old
drop_step ids i qs old new within so is =
    let next : i + 1 ≡ suc i = omega arith in
    ap (λ m. each_from 1 (dropped_all (drop m ids)) new) next
    ∙ ap (each_from 1 (dropped_all (drop (suc i) ids))) is
    ∙ drop_next (get_or ids i 0) 1 (drop (suc i) ids) qs
    ∙ ap (λ xs. each_from 1 (dropped_all xs) qs) (sym (drop-cons ids i 0 within))
    ∙ so

pub dropped_waits : (set : Setup) (qs : List (Kept Bundle)) {w : Option Wait} {ids xs : List ℕ} {new : List (Kept Bundle)} → xs ≡ ids → new ≡ each_from 1 (dropped_all xs) qs → w ≡ Some (Wait.Try ids)
    → items_of new ≡ each_from 1 (queued_after set w 0 Resume) (items_of qs)
dropped_waits set qs {w} {ids} {xs} {new} same is e =
    ap items_of is ∙ ap (λ ys. items_of (each_from 1 (dropped_all ys) qs)) same ∙ dropped_tries set ids qs ∙ ap (λ o. each_from 1 (queued_after set o 0 Resume) (items_of qs)) (sym e)

pub keeps_items : (set : Setup) (w : Option Wait) (qs : List (Kept Bundle)) → tries w ≡ false → items_of qs ≡ each_from 1 (queued_after set w 0 Resume) (items_of qs)
keeps_items set None qs e = each_same (queued_after set None 0 Resume) 1 (items_of qs) (λ m q. refl)
keeps_items set (Some (Wait.All ids)) qs e = each_same (queued_after set (Some (Wait.All ids)) 0 Resume) 1 (items_of qs) (λ m q. refl)
keeps_items set (Some (Wait.Next ids)) qs e = each_same (queued_after set (Some (Wait.Next ids)) 0 Resume) 1 (items_of qs) (λ m q. refl)
keeps_items set (Some (Wait.Locks ls)) qs e = each_same (queued_after set (Some (Wait.Locks ls)) 0 Resume) 1 (items_of qs) (λ m q. refl)
keeps_items set (Some (Wait.Try ids)) qs e = absurd (true≢false e)

pub drop_past : (xs : List ℕ) (i : ℕ) → length xs ≤ i → drop i xs ≡ []
drop_past [] zero h = refl
drop_past [] (suc i) h = refl
drop_past (x ∷ xs) zero h = absurd (omega (arith, h))
drop_past (x ∷ xs) (suc i) h = drop_past xs i (omega (arith, h))
