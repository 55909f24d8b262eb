-- What the loss of a kernel gives is what the definitions give.
use Rattle.std.proofs.Common.{◌≡◌, refl, sym, ap, subst, ◌∙◌, ℕ, zero, suc, ◌+◌, ◌<◌, List, [], ◌∷◌, ◌++◌, length, append_assoc, map, replicate, drop, Bool, true, false, true≢false, Option, Some, None, arith, eqb-true, inl, inr}
use Rattle.std.specs.Prelude.{◌&&◌, ◌==◌, ◌⊎◌, slice_set}
use Rattle.std.specs.Option.{option_map, option_to_list}
use Rattle.expr_tree.specs.Tree.{Tree, Trees, symbol, normal, trees}
use Rattle.semantics.specs.Names.{Names, name, known}
use Rattle.semantics.specs.declared.builtin.Builtin.{Builtin}
use Rattle.journal.specs.declared.recover.Recover.{Recover}
use Rattle.journal.specs.Places.{nth, change_at, each_from}
use Rattle.journal.specs.Closure.{Bundle}
use Rattle.journal.specs.declared.event.Event.TheVariants.{Lose}
use Rattle.journal.specs.declared.event.Wait.{Wait}
use Rattle.journal.specs.declared.item.Item.{Item}
use Rattle.journal.specs.declared.item.Status.{Status}
use Rattle.journal.specs.declared.loss.Loss.{Loss}
use Rattle.journal.specs.Core.{Setup, fate, abandoned, failed, recovered, loss_results, has_results, ids_given, Core, Kernel, kernel_after, queued_after, lives}
use Rattle.eval_queue.specs.declared.kept.Kept.{Kept}
use Rattle.eval_queue.specs.Items.{item_at, status_at, queued}
use Rattle.crit_locks.specs.declared.held.Held.{Held}
use Rattle.crit_locks.specs.Holdings.{HeldAfter}
use Rattle.requeue_core.specs.Losses.{attempts, handed, runs_shared, lost}
use Rattle.master_core.specs.Joined.{items_of, kernels_in}
use Rattle.master_core.proofs.Joins.{set_is, joined, nth_within}
use Rattle.master_core.specs.declared.losing.Terms.{Terms}
use Rattle.master_core.specs.Losing.{abandons, gets, given_at, shared_at, ids_lost, with_given, IsOn}

-- ---- who gets a result

shared_gets : (r : Recover) (v : Tree) (m : ℕ) (b : Bool)
    → has_results (loss_results (Status.Running m) (elim b as (λ _. Status) [ true ↦ elim r as (λ _. Status) [ Recover.Retry ↦ Status.Waiting | Recover.Abandon ↦ Status.Done v ] | false ↦ Status.Running m ]))
    ≡ (b && abandons r)
shared_gets Recover.Retry v m true = refl
shared_gets Recover.Abandon v m true = refl
shared_gets r v m false = refl

pinned_waits : (v : Tree) (b : Bool) → has_results (loss_results Status.Waiting (elim b as (λ _. Status) [ true ↦ Status.Done v | false ↦ Status.Waiting ])) ≡ b
pinned_waits v true = refl
pinned_waits v false = refl

pinned_runs : (v : Tree) (m : ℕ) (b : Bool) → has_results (loss_results (Status.Running m) (elim b as (λ _. Status) [ true ↦ Status.Done v | false ↦ Status.Running m ])) ≡ b
pinned_runs v m true = refl
pinned_runs v m false = refl

gets_is : (set : Setup) (k : ℕ) (item : Item) (s : Status) → has_results (loss_results s (fate set k item s)) ≡ gets set.recovery k item s
gets_is set k (Item.Plain e) Status.Waiting = refl
gets_is set k (Item.Plain e) (Status.Running m) = shared_gets set.recovery _ m (m == k)
gets_is set k (Item.Plain e) (Status.Done v) = refl
gets_is set k (Item.Plain e) Status.Dropped = refl
gets_is set k (Item.Batch es) Status.Waiting = refl
gets_is set k (Item.Batch es) (Status.Running m) = shared_gets set.recovery _ m (m == k)
gets_is set k (Item.Batch es) (Status.Done v) = refl
gets_is set k (Item.Batch es) Status.Dropped = refl
gets_is set k (Item.Pinned j e) Status.Waiting = pinned_waits _ (j == k)
gets_is set k (Item.Pinned j e) (Status.Running m) = pinned_runs _ m (j == k)
gets_is set k (Item.Pinned j e) (Status.Done v) = refl
gets_is set k (Item.Pinned j e) Status.Dropped = refl

pub ids_are : (set : Setup) (cause : Loss) (k n : ℕ) (qs : List (Kept Bundle)) → ids_lost set.recovery k n qs ≡ ids_given set k (Lose cause) n (items_of qs)
ids_are set cause k n [] = refl
ids_are set cause k n (q ∷ qs) =
    let here = gets_is set k q.item q.status in
    let rest = ids_are set cause k (suc n) qs in
    λ i. elim (sym here i) as (λ _. List ℕ) [ true ↦ n ∷ rest i | false ↦ rest i ]

-- ---- the walk

kept_given : Recover → ℕ → Option (Kept Bundle) → Bool
kept_given r k None = false
kept_given r k (Some q) = gets r k q.item q.status

at_place : (r : Recover) (k p : ℕ) (qs : List (Kept Bundle)) → given_at r k (item_at qs (suc p)) (status_at qs (suc p)) ≡ kept_given r k (nth qs p)
unfolding kept_given
at_place r k p [] = refl
at_place r k zero (q ∷ qs) = refl
at_place r k (suc p) (q ∷ qs) = at_place r k p qs

next : (r : Recover) (k n p : ℕ) (qs : List (Kept Bundle)) → p < length qs
    → ids_lost r k n (drop p qs)
    ≡ elim (kept_given r k (nth qs p)) as (λ _. List ℕ) [ true ↦ n ∷ ids_lost r k (suc n) (drop (suc p) qs) | false ↦ ids_lost r k (suc n) (drop (suc p) qs) ]
unfolding kept_given
next r k n p [] lt = absurd (omega (arith, lt))
next r k n zero (q ∷ []) lt = refl
next r k n zero (q ∷ (x ∷ qs)) lt = refl
next r k n (suc p) (q ∷ qs) lt = next r k n p qs (omega (arith, lt))

next_at : (r : Recover) (k p id : ℕ) (qs : List (Kept Bundle)) (b : Bool) → p < length qs → id ≡ suc p → given_at r k (item_at qs id) (status_at qs id) ≡ b
    → ids_lost r k (suc p) (drop p qs) ≡ elim b as (λ _. List ℕ) [ true ↦ id ∷ ids_lost r k (suc id) (drop id qs) | false ↦ ids_lost r k (suc id) (drop id qs) ]
next_at r k p id qs b lt is e =
    let told : kept_given r k (nth qs p) ≡ b = sym (at_place r k p qs) ∙ ap (λ m. given_at r k (item_at qs m) (status_at qs m)) (sym is) ∙ e in
    next r k (suc p) p qs lt
    ∙ ap (λ c. elim c as (λ _. List ℕ) [ true ↦ suc p ∷ ids_lost r k (suc (suc p)) (drop (suc p) qs) | false ↦ ids_lost r k (suc (suc p)) (drop (suc p) qs) ]) told
    ∙ ap (λ m. elim b as (λ _. List ℕ) [ true ↦ m ∷ ids_lost r k (suc m) (drop m qs) | false ↦ ids_lost r k (suc m) (drop m qs) ]) (sym is)

pub gets_next : (r : Recover) (k p id : ℕ) (qs : List (Kept Bundle)) (xs ys whole : List ℕ) (b : Bool) → p < length qs → id ≡ suc p → b ≡ given_at r k (item_at qs id) (status_at qs id)
    → ys ≡ with_given b id xs → xs ++ ids_lost r k (suc p) (drop p qs) ≡ whole → ys ++ ids_lost r k (suc id) (drop id qs) ≡ whole
gets_next r k p id qs xs ys whole true lt is e more so =
    ap (λ zs. zs ++ ids_lost r k (suc id) (drop id qs)) more ∙ append_assoc xs (id ∷ []) (ids_lost r k (suc id) (drop id qs)) ∙ ap (λ zs. xs ++ zs) (sym (next_at r k p id qs true lt is (sym e))) ∙ so
gets_next r k p id qs xs ys whole false lt is e more so =
    ap (λ zs. zs ++ ids_lost r k (suc id) (drop id qs)) more ∙ ap (λ zs. xs ++ zs) (sym (next_at r k p id qs false lt is (sym e))) ∙ so

-- ---- what an item is abandoned with

all_failed : (f : Tree) (es : List Tree) → replicate (length es) f ≡ map (λ e. f) es
all_failed f [] = refl
all_failed f (e ∷ es) = ap (λ xs. f ∷ xs) (all_failed f es)

pub failed_is : (set : Setup) (terms : Terms) → IsOn set terms → symbol terms.failed ≡ failed set.names
failed_is set terms on = ap symbol (sym on.failed)

-- ---- the one item that the kernel runs

of_one : ℕ → Option (Kept Bundle) → List Item
of_one k None = []
of_one k (Some q) = elim (runs_shared k q.item q.status) [ true ↦ q.item ∷ [] | false ↦ [] ]

none_shared : (k : ℕ) (qs : List (Kept Bundle)) → ((p : ℕ) (q : Kept Bundle) → nth qs p ≡ Some q → runs_shared k q.item q.status ≡ true → ⊥) → attempts k qs ≡ []
none_shared k [] none = refl
none_shared k (q ∷ qs) none = go (runs_shared k q.item q.status) refl (none_shared k qs (λ p x at. none (suc p) x at))
  where
    go : (b : Bool) → runs_shared k q.item q.status ≡ b → attempts k qs ≡ [] → attempts k (q ∷ qs) ≡ []
    go true e rest = absurd (none 0 q refl e)
    go false e rest = ap (λ c. elim c as (λ _. List Item) [ true ↦ q.item ∷ attempts k qs | false ↦ attempts k qs ]) e ∙ rest

alone : (k n p id : ℕ) (qs : List (Kept Bundle)) → id ≡ n + p → ((m : ℕ) (q : Kept Bundle) → nth qs m ≡ Some q → runs_shared k q.item q.status ≡ true → id ≡ n + m)
    → attempts k qs ≡ of_one k (nth qs p)
unfolding of_one
alone k n p id [] is each = refl
alone k n zero id (q ∷ qs) is each =
    ap (λ xs. elim (runs_shared k q.item q.status) as (λ _. List Item) [ true ↦ q.item ∷ xs | false ↦ xs ])
    (none_shared k qs (λ m x at e. let far = each (suc m) x at e in absurd (omega (arith, is, far))))
alone k n (suc p) id (q ∷ qs) is each = go (runs_shared k q.item q.status) refl (alone k (suc n) p id qs (omega (arith, is)) (λ m x at f. let there = each (suc m) x at f in omega (arith, there)))
  where
    go : (b : Bool) → runs_shared k q.item q.status ≡ b → attempts k qs ≡ of_one k (nth qs p) → attempts k (q ∷ qs) ≡ of_one k (nth qs p)
    go true e rest = let near = each 0 q refl e in absurd (omega (arith, is, near))
    go false e rest = ap (λ c. elim c as (λ _. List Item) [ true ↦ q.item ∷ attempts k qs | false ↦ attempts k qs ]) e ∙ rest

runs_it : (k : ℕ) (item : Item) (s : Status) → runs_shared k item s ≡ true → s ≡ Status.Running k
runs_it k (Item.Pinned j x) s e = absurd (true≢false (sym e))
runs_it k (Item.Plain x) Status.Waiting e = absurd (true≢false (sym e))
runs_it k (Item.Plain x) (Status.Running m) e = ap Status.Running (eqb-true m k e)
runs_it k (Item.Plain x) (Status.Done v) e = absurd (true≢false (sym e))
runs_it k (Item.Plain x) Status.Dropped e = absurd (true≢false (sym e))
runs_it k (Item.Batch xs) Status.Waiting e = absurd (true≢false (sym e))
runs_it k (Item.Batch xs) (Status.Running m) e = ap Status.Running (eqb-true m k e)
runs_it k (Item.Batch xs) (Status.Done v) e = absurd (true≢false (sym e))
runs_it k (Item.Batch xs) Status.Dropped e = absurd (true≢false (sym e))

abbrev Runners : ℕ → Option ℕ → List (Kept Bundle) → Type 0
Runners k o qs = (id : ℕ) → status_at qs id ≡ Some (Status.Running k) → o ≡ Some id

ran : (k : ℕ) (o : Option ℕ) (qs : List (Kept Bundle)) → Runners k o qs → (m : ℕ) (q : Kept Bundle) → nth qs m ≡ Some q → runs_shared k q.item q.status ≡ true → o ≡ Some (suc m)
ran k o qs who m q at e = who (suc m) (ap (option_map (λ (x : Kept Bundle). x.status)) at ∙ ap Some (runs_it k q.item q.status e))

pub none_run : (k : ℕ) (o : Option ℕ) (qs : List (Kept Bundle)) → Runners k o qs → o ≡ None → attempts k qs ≡ []
none_run k o qs who is = none_shared k qs (λ m q at e. let no : None ≡ Some (suc m) = sym is ∙ ran k o qs who m q at e in cc)

of_none : (o : Option (Kept Bundle)) (k : ℕ) → shared_at k (option_map (λ q. q.item) o) (option_map (λ q. q.status) o) ≡ false → of_one k o ≡ []
unfolding of_one
of_none None k e = refl
of_none (Some q) k e = ap (λ c. elim c as (λ _. List Item) [ true ↦ q.item ∷ [] | false ↦ [] ]) e

of_some : (o : Option (Kept Bundle)) (k : ℕ) (item : Item) → shared_at k (option_map (λ q. q.item) o) (option_map (λ q. q.status) o) ≡ true → option_map (λ q. q.item) o ≡ Some item → of_one k o ≡ item ∷ []
unfolding of_one
of_some None k item e is = let no : None ≡ Some item = is in cc
of_some (Some q) k item e is =
    let same : q.item ≡ item = let s : Some q.item ≡ Some item = is in cc in
    ap (λ c. elim c as (λ _. List Item) [ true ↦ q.item ∷ [] | false ↦ [] ]) e ∙ ap (λ x. x ∷ []) same

one_run : (k id : ℕ) (qs : List (Kept Bundle)) → Runners k (Some id) qs → (p : ℕ) → id ≡ suc p → attempts k qs ≡ of_one k (nth qs p)
one_run k id qs who p is =
    alone k 1 p id qs (omega (arith, is)) (λ m q at e. let same : Some id ≡ Some (suc m) = ran k (Some id) qs who m q at e in let here : id ≡ suc m = cc in omega (arith, here))

not_shared : (k id : ℕ) (qs : List (Kept Bundle)) → Runners k (Some id) qs → shared_at k (item_at qs id) (status_at qs id) ≡ false → attempts k qs ≡ []
not_shared k zero qs who e = none_shared k qs (λ m q at f. let same : Some zero ≡ Some (suc m) = ran k (Some zero) qs who m q at f in let here : zero ≡ suc m = cc in absurd (omega (arith, here)))
not_shared k (suc p) qs who e = one_run k (suc p) qs who p refl ∙ of_none (nth qs p) k e

is_shared : (k id : ℕ) (qs : List (Kept Bundle)) (item : Item) → Runners k (Some id) qs → shared_at k (item_at qs id) (status_at qs id) ≡ true → item_at qs id ≡ Some item → attempts k qs ≡ item ∷ []
is_shared k zero qs item who e is = absurd (true≢false (sym e))
is_shared k (suc p) qs item who e is = one_run k (suc p) qs who p refl ∙ of_some (nth qs p) k item e is

pub runs_none : (k id : ℕ) (o : Option ℕ) (qs : List (Kept Bundle)) → Runners k o qs → o ≡ Some id → shared_at k (item_at qs id) (status_at qs id) ≡ false → attempts k qs ≡ []
runs_none k id o qs who is e = not_shared k id qs (subst (λ x. Runners k x qs) is who) e

pub runs_one : (k id : ℕ) (o : Option ℕ) (qs : List (Kept Bundle)) (item : Item) → Runners k o qs → o ≡ Some id → shared_at k (item_at qs id) (status_at qs id) ≡ true → item_at qs id ≡ Some item
    → attempts k qs ≡ item ∷ []
runs_one k id o qs item who is e has = is_shared k id qs item (subst (λ x. Runners k x qs) is who) e has

-- ---- the values that are handed in

pub hands_none : (set : Setup) (terms : Terms) (k : ℕ) (qs : List (Kept Bundle)) → IsOn set terms → abandons terms.recovery ≡ false → handed set k qs ≡ []
hands_none set terms k qs on e = go set.recovery (ap abandons on.recovers ∙ e)
  where
    go : (r : Recover) → abandons r ≡ false → elim r as (λ _. List Tree) [ Recover.Retry ↦ [] | Recover.Abandon ↦ map (abandoned set.names) (attempts k qs) ] ≡ []
    go Recover.Retry f = refl
    go Recover.Abandon f = absurd (true≢false f)

pub hands_no_one : (set : Setup) (k : ℕ) (qs : List (Kept Bundle)) → attempts k qs ≡ [] → handed set k qs ≡ []
hands_no_one set k qs e = go set.recovery
  where
    go : (r : Recover) → elim r as (λ _. List Tree) [ Recover.Retry ↦ [] | Recover.Abandon ↦ map (abandoned set.names) (attempts k qs) ] ≡ []
    go Recover.Retry = refl
    go Recover.Abandon = ap (map (abandoned set.names)) e

pub hands_one : (set : Setup) (terms : Terms) (k : ℕ) (qs : List (Kept Bundle)) (item : Item) (v : Tree) → IsOn set terms → abandons terms.recovery ≡ true → attempts k qs ≡ item ∷ []
    → v ≡ abandoned set.names item → handed set k qs ≡ v ∷ []
hands_one set terms k qs item v on e one is = go set.recovery (ap abandons on.recovers ∙ e)
  where
    go : (r : Recover) → abandons r ≡ true → elim r as (λ _. List Tree) [ Recover.Retry ↦ [] | Recover.Abandon ↦ map (abandoned set.names) (attempts k qs) ] ≡ v ∷ []
    go Recover.Retry f = absurd (true≢false (sym f))
    go Recover.Abandon f = ap (map (abandoned set.names)) one ∙ ap (λ x. x ∷ []) (sym is)

pub batch_is : (set : Setup) (terms : Terms) (item : Item) (es vs : List Tree) (n : ℕ) (h v : Tree) → IsOn set terms → item ≡ Item.Batch es → n ≡ length es → vs ≡ replicate n (symbol terms.failed)
    → h ≡ symbol terms.list → v ≡ normal h (trees vs) → v ≡ abandoned set.names item
batch_is set terms item es vs n h v on is count values head made =
    let each : vs ≡ map (λ e. failed set.names) es = values ∙ ap (λ m. replicate m (symbol terms.failed)) count ∙ ap (replicate (length es)) (failed_is set terms on) ∙ all_failed (failed set.names) es in
    made ∙ (λ i. normal (head i) (trees (each i))) ∙ ap (λ s. normal (symbol s) (trees (map (λ e. failed set.names) es))) (sym on.list) ∙ ap (abandoned set.names) (sym is)

-- ---- the core

pub lost_items : (set : Setup) (w : Option Wait) (cause : Loss) (k n : ℕ) (qs : List (Kept Bundle)) → items_of (map (lost set k) qs) ≡ each_from n (queued_after set w k (Lose cause)) (items_of qs)
lost_items set w cause k n [] = refl
lost_items set w cause k n (q ∷ qs) = ap (λ xs. queued (λ b. b) (lost set k q) ∷ xs) (lost_items set w cause k (suc n) qs)

pub ids_in : (set : Setup) (terms : Terms) (cause : Loss) (k : ℕ) (qs : List (Kept Bundle)) (xs ys : List ℕ) → IsOn set terms → ys ≡ xs ++ ids_lost terms.recovery k 1 qs
    → ys ≡ xs ++ ids_given set k (Lose cause) 1 (items_of qs)
ids_in set terms cause k qs xs ys on e = e ∙ ap (λ r. xs ++ ids_lost r k 1 qs) (sym on.recovers) ∙ ap (λ zs. xs ++ zs) (ids_are set cause k 1 qs)

pub kernels_in_loss : (cause : Loss) (k : ℕ) (bs : List Bool) (os : List (Option ℕ)) (hs is : List Held) → HeldAfter (Lose cause) k hs is → length os ≡ length bs
    → kernels_in 0 (change_at k (λ _. false) bs) (slice_set os k None) is ≡ change_at k (kernel_after (Lose cause)) (kernels_in 0 bs os hs)
kernels_in_loss cause k bs os hs is held long =
    ap (λ xs. kernels_in 0 (change_at k (λ _. false) bs) xs is) (set_is k None os) ∙ joined (Lose cause) (λ _. false) (λ _. None) k hs is held (λ b o ls. refl) bs os long

pub change_len : (k : ℕ) (bs : List Bool) → length (change_at k (λ _. false) bs) ≡ length bs
change_len k [] = refl
change_len zero (b ∷ bs) = refl
change_len (suc k) (b ∷ bs) = ap suc (change_len k bs)

some_lives : (o : Option Kernel) → elim o as (λ _. Bool) [ None ↦ false | Some x ↦ x.lives ] ≡ true → o ≡ None → ⊥
some_lives None e is = true≢false (sym e)
some_lives (Some x) e is = let end : Some x ≡ None = is in cc

pub living_within : (c : Core) (k : ℕ) → lives c k ≡ true → k < length c.kernels
living_within c k e = go (nth_within c.kernels k)
  where
    go : (nth c.kernels k ≡ None) ⊎ (k < length c.kernels) → k < length c.kernels
    go (inl past) = absurd (some_lives (nth c.kernels k) e past)
    go (inr lt) = lt
