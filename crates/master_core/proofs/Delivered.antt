-- The item that is delivered.
use Rattle.std.proofs.Common.{◌≡◌, refl, sym, ap, subst, ◌∙◌, ℕ, zero, suc, ◌+◌, ◌<◌, List, [], ◌∷◌, ◌++◌, append-nil, Bool, true, false, true≢false, Option, Some, None, arith, eq-eqb, eqb-true}
use Rattle.std.specs.Prelude.{◌==◌}
use Rattle.std.proofs.lemmas.Bool.{ne_eqb}
use Rattle.std.specs.Option.{option_map}
use Rattle.expr_tree.specs.Tree.{Tree}
use Rattle.journal.specs.Places.{nth, each_from}
use Rattle.journal.specs.Closure.{Bundle}
use Rattle.journal.specs.declared.event.Event.{Event}
use Rattle.journal.specs.declared.event.Event.TheVariants.{Deliver}
use Rattle.journal.specs.declared.event.Wait.{Wait}
use Rattle.journal.specs.declared.item.Status.{Status}
use Rattle.journal.specs.declared.item.Status.TheVariants.{Waiting, Running, Done, Dropped}
use Rattle.journal.specs.Core.{Setup, Queued, queued_after, results_given, has_results, ids_given, delivered, delivered_results, runs_or_dropped}
use Rattle.eval_queue.specs.declared.kept.Kept.{Kept}
use Rattle.eval_queue.specs.Items.{queued, kept_at, status_at, with_status, changed}
use Rattle.master_core.specs.Joined.{items_of, is_run}
use Rattle.master_core.proofs.Joins.{each_same, each_item, no_ids}

pub run_is : (k : ℕ) (o : Option Status) → runs_or_dropped k o ≡ true → is_run o ≡ true → o ≡ Some (Running k)
run_is k None h r = absurd (true≢false (sym r))
run_is k (Some (Running j)) h r = ap (λ m. Some (Running m)) (eqb-true j k h)
run_is k (Some Waiting) h r = absurd (true≢false (sym r))
run_is k (Some (Done v)) h r = absurd (true≢false (sym r))
run_is k (Some Dropped) h r = absurd (true≢false (sym r))

pub drop_is : (k : ℕ) (o : Option Status) → runs_or_dropped k o ≡ true → is_run o ≡ false → o ≡ Some Dropped
drop_is k None h r = absurd (true≢false (sym h))
drop_is k (Some (Running j)) h r = absurd (true≢false r)
drop_is k (Some Waiting) h r = absurd (true≢false (sym h))
drop_is k (Some (Done v)) h r = absurd (true≢false (sym h))
drop_is k (Some Dropped) h r = refl

-- the item of an id among those from a number on
at_id : (qs : List (Kept Bundle)) (id p : ℕ) (q : Kept Bundle) (s : Status) → status_at qs id ≡ Some s → nth qs p ≡ Some q → id ≡ 1 + p → q.status ≡ s
at_id qs zero p q s has at is = absurd (omega (arith, is))
at_id qs (suc n) p q s has at is =
    let same : n ≡ p = omega (arith, is) in
    let here : option_map (λ (x : Kept Bundle). x.status) (Some q) ≡ Some s = ap (option_map (λ x. x.status)) (sym at) ∙ ap (λ m. option_map (λ (x : Kept Bundle). x.status) (nth qs m)) (sym same) ∙ has in
    cc

chosen : (b : Bool) (s t x : Status) → (b ≡ true → s ≡ t) → elim b as (λ _. Status) [ true ↦ s | false ↦ x ] ≡ elim b as (λ _. Status) [ true ↦ t | false ↦ x ]
chosen true s t x e = e refl
chosen false s t x e = refl

chosen_same : (b : Bool) (t x : Status) → (b ≡ true → x ≡ t) → x ≡ elim b as (λ _. Status) [ true ↦ t | false ↦ x ]
chosen_same true t x e = e refl
chosen_same false t x e = refl

pub items_run : (set : Setup) (w : Option Wait) (k id : ℕ) (v : Tree) (qs : List (Kept Bundle)) → status_at qs id ≡ Some (Running k)
    → items_of (with_status id (Done v) qs) ≡ each_from 1 (queued_after set w k (Deliver id v)) (items_of qs)
items_run set w k id v qs has =
    each_item (changed id (Done v)) (queued_after set w k (Deliver id v)) 1 qs
    (λ p q at. ap (λ s. record { item = q.item; bundle = q.bundle; status = s })
    (chosen (id == 1 + p) (Done v) (delivered v q.status) q.status (λ b. sym (ap (delivered v) (at_id qs id p q (Running k) has at (eqb-true id (1 + p) b))))))

pub items_dropped : (set : Setup) (w : Option Wait) (k id : ℕ) (v : Tree) (qs : List (Kept Bundle)) → status_at qs id ≡ Some Dropped
    → items_of qs ≡ each_from 1 (queued_after set w k (Deliver id v)) (items_of qs)
items_dropped set w k id v qs has =
    ap items_of (each_same (λ m q. q) 1 qs (λ m q. refl))
    ∙ each_item (λ m q. q) (queued_after set w k (Deliver id v)) 1 qs
    (λ p q at. ap (λ s. record { item = q.item; bundle = q.bundle; status = s })
    (chosen_same (id == 1 + p) (delivered v q.status) q.status (λ b. let is = at_id qs id p q Dropped has at (eqb-true id (1 + p) b) in is ∙ sym (ap (delivered v) is))))

nth_queued : (qs : List (Kept Bundle)) (n : ℕ) → nth (items_of qs) n ≡ option_map (queued (λ b. b)) (nth qs n)
nth_queued [] n = refl
nth_queued (q ∷ qs) zero = refl
nth_queued (q ∷ qs) (suc n) = nth_queued qs n

-- of the item alone
given_from : (set : Setup) (k id : ℕ) (v : Tree) (n p : ℕ) (qs : List (Kept Bundle)) → id ≡ n + p → option_map (λ q. q.status) (nth qs p) ≡ Some (Running k)
    → ids_given set k (Deliver id v) n (items_of qs) ≡ id ∷ []
given_from set k id v n p [] is has = cc
given_from set k id v n zero (q ∷ qs) is has =
    let runs : q.status ≡ Running k = cc in
    let here : has_results (results_given set k (Deliver id v) n (queued (λ b. b) q)) ≡ true =
    ap (λ b. has_results (elim b as (λ _. List Tree) [ true ↦ delivered_results v q.status | false ↦ [] ])) (eq-eqb id n (omega (arith, is))) ∙ ap (λ s. has_results (delivered_results v s)) runs in
    let rest : ids_given set k (Deliver id v) (suc n) (items_of qs) ≡ [] =
    no_ids set k (Deliver id v) (suc n) (items_of qs) (λ m x at. ap (λ b. has_results (elim b as (λ _. List Tree) [ true ↦ delivered_results v x.status | false ↦ [] ])) (ne_eqb id (suc n + m) (λ e. omega (arith, is, e)))) in
    ap (λ b. elim b as (λ _. List ℕ) [ true ↦ n ∷ ids_given set k (Deliver id v) (suc n) (items_of qs) | false ↦ ids_given set k (Deliver id v) (suc n) (items_of qs) ]) here
    ∙ ap (λ xs. n ∷ xs) rest ∙ ap (λ m. m ∷ []) (omega (arith, is))
given_from set k id v n (suc p) (q ∷ qs) is has =
    ap (λ b. elim (has_results (elim b as (λ _. List Tree) [ true ↦ delivered_results v q.status | false ↦ [] ])) as (λ _. List ℕ) [ true ↦ n ∷ ids_given set k (Deliver id v) (suc n) (items_of qs) | false ↦ ids_given set k (Deliver id v) (suc n) (items_of qs) ])
    (ne_eqb id n (λ e. omega (arith, is, e)))
    ∙ given_from set k id v (suc n) p qs (omega (arith, is)) has

pub ids_run : (set : Setup) (k id : ℕ) (v : Tree) (qs : List (Kept Bundle)) → status_at qs id ≡ Some (Running k) → id ∷ [] ≡ ids_given set k (Deliver id v) 1 (items_of qs)
ids_run set k zero v qs has = cc
ids_run set k (suc n) v qs has = sym (given_from set k (suc n) v 1 n qs (omega arith) has)

results_dropped : (b : Bool) (v : Tree) (s : Status) → (b ≡ true → s ≡ Dropped) → has_results (elim b as (λ _. List Tree) [ true ↦ delivered_results v s | false ↦ [] ]) ≡ false
results_dropped true v s e = ap (λ x. has_results (delivered_results v x)) (e refl)
results_dropped false v s e = refl

pub ids_dropped : (set : Setup) (k id : ℕ) (v : Tree) (ids : List ℕ) (qs : List (Kept Bundle)) → status_at qs id ≡ Some Dropped
    → ids ≡ ids ++ ids_given set k (Deliver id v) 1 (items_of qs)
ids_dropped set k id v ids qs has =
    sym (append-nil ids) ∙ ap (λ xs. ids ++ xs) (sym (no_ids set k (Deliver id v) 1 (items_of qs) each))
  where
    each : (p : ℕ) (x : Queued) → nth (items_of qs) p ≡ Some x → has_results (results_given set k (Deliver id v) (1 + p) x) ≡ false
    each p x at = go (nth qs p) refl
      where
        go : (o : Option (Kept Bundle)) → nth qs p ≡ o → has_results (results_given set k (Deliver id v) (1 + p) x) ≡ false
        go None e = let no : None ≡ Some x = ap (option_map (queued (λ b. b))) (sym e) ∙ sym (nth_queued qs p) ∙ at in cc
        go (Some q) e =
            let same : queued (λ b. b) q ≡ x = let s : Some (queued (λ b. b) q) ≡ Some x = ap (option_map (queued (λ b. b))) (sym e) ∙ sym (nth_queued qs p) ∙ at in cc in
            results_dropped (id == 1 + p) v x.status (λ b. ap (λ y. y.status) (sym same) ∙ at_id qs id p q Dropped has e (eqb-true id (1 + p) b))
