-- One item after the other is settled.
use Rattle.std.proofs.Common.{◌≡◌, refl, sym, ap, subst, ◌∙◌, ℕ, zero, suc, ◌+◌, ◌<◌, ◌≤◌, List, [], ◌∷◌, ◌++◌, length, take, drop, Option, Some, None, Bool, true, false, true≢false, eqb-true, eq-eqb, arith}
use Rattle.std.specs.Prelude.{◌==◌}
use Rattle.std.specs.Option.{option_map}
use Rattle.std.proofs.lemmas.Bool.{ne_eqb}
use Rattle.std.proofs.lemmas.List.{drop_all}
use Rattle.expr_tree.specs.Tree.{Tree}
use Rattle.journal.specs.Places.{nth, each_from, is_some}
use Rattle.journal.specs.declared.item.Item.{Item}
use Rattle.journal.specs.declared.item.Status.{Status}
use Rattle.eval_queue.specs.declared.kept.Kept.{Kept}
use Rattle.eval_queue.specs.Items.{kept_at, item_at, status_at, changed, with_status}
use Rattle.requeue_core.specs.declared.lost.Fate.{Fate}
use Rattle.requeue_core.specs.Fates.{fate_in, becoming, settled, settled_at, spent_at, spent, walked}

none≢some : {A : Type 0} {a : A} → ◌≡◌ {A = Option A} None (Some a) → ⊥
none≢some e = true≢false (sym (ap is_some e))

some_is : {A : Type 0} {a b : A} → ◌≡◌ {A = Option A} (Some a) (Some b) → a ≡ b
some_is {a = a} e = ap (λ o. elim o [ None ↦ a | Some x ↦ x ]) e

-- two ways to change each item that agree on what stands there
alike : {B : Type 0} (n : ℕ) (f g : ℕ → Kept B → Kept B) (qs : List (Kept B)) → ((m : ℕ) (q : Kept B) → nth qs m ≡ Some q → f (n + m) q ≡ g (n + m) q)
    → each_from n f qs ≡ each_from n g qs
alike n f g [] h = refl
alike n f g (q ∷ qs) h =
    let at : n + 0 ≡ n = omega arith in
    let front : f n q ≡ g n q = subst (λ m. f m q ≡ g m q) at (h 0 q refl) in
    let rest = alike (suc n) f g qs (λ m r e. subst (λ i. f i r ≡ g i r) (omega arith) (h (suc m) r e)) in
    λ i. front i ∷ rest i

abbrev only : {B : Type 0} → ℕ → (Kept B → Kept B) → ℕ → Kept B → Kept B
only id e i q = elim (id == i) [ true ↦ e q | false ↦ q ]

settles_by : {B : Type 0} (id : ℕ) (v : Tree) (l : Option Tree) (k : ℕ) (e : Kept B → Kept B) (qs : List (Kept B))
    → ((q : Kept B) → kept_at qs id ≡ Some q → e q ≡ settled v l k q) → each_from 1 (only id e) qs ≡ each_from 1 (settled_at id v l k) qs
settles_by {B} id v l k e qs h = alike 1 (only id e) (settled_at id v l k) qs (λ m q at. go m (id == 1 + m) refl q at)
  where
    go : (m : ℕ) (b : Bool) → (id == 1 + m) ≡ b → (q : Kept B) → nth qs m ≡ Some q
        → elim b as (λ _. Kept B) [ true ↦ e q | false ↦ q ] ≡ elim b as (λ _. Kept B) [ true ↦ settled v l k q | false ↦ q ]
    go m true e' q at =
        let is : id ≡ suc m = eqb-true id (1 + m) e' ∙ omega arith in
        h q (subst (λ i. kept_at qs i ≡ Some q) (sym is) at)
    go m false e' q at = refl

unchanged : {B : Type 0} (id n : ℕ) (qs : List (Kept B)) → qs ≡ each_from n (only id (λ q. q)) qs
unchanged id n [] = refl
unchanged {B} id n (q ∷ qs) = λ i. this (id == n) i ∷ unchanged id (suc n) qs i
  where
    this : (b : Bool) → q ≡ elim b as (λ _. Kept B) [ true ↦ q | false ↦ q ]
    this true = refl
    this false = refl

as_only : {B : Type 0} (id n : ℕ) (s : Status) (qs : List (Kept B)) → each_from n (changed id s) qs ≡ each_from n (only id (λ q. record q { status = s })) qs
as_only id n s [] = refl
as_only {B} id n s (q ∷ qs) = λ i. this (id == n) i ∷ as_only id (suc n) s qs i
  where
    this : (b : Bool) → ◌≡◌ {A = Kept B} (record q { status = elim b as (λ _. Status) [ true ↦ s | false ↦ q.status ] }) (elim b as (λ _. Kept B) [ true ↦ record q { status = s } | false ↦ q ])
    this true = refl
    this false = refl

twice : {B : Type 0} (id n : ℕ) (s t : Status) (qs : List (Kept B)) → each_from n (changed id t) (each_from n (changed id s) qs) ≡ each_from n (changed id t) qs
twice id n s t [] = refl
twice {B} id n s t (q ∷ qs) = λ i. this (id == n) i ∷ twice id (suc n) s t qs i
  where
    this : (b : Bool) → ◌≡◌ {A = Kept B}
        (record q { status = elim b as (λ _. Status) [ true ↦ t | false ↦ elim b as (λ _. Status) [ true ↦ s | false ↦ q.status ] ] })
        (record q { status = elim b as (λ _. Status) [ true ↦ t | false ↦ q.status ] })
    this true = refl
    this false = refl

-- what is told of the item of an id
abbrev Told : {B : Type 0} → ℕ → List (Kept B) → ℕ → Fate → Type 0
Told k qs id f = (q : Kept _) → kept_at qs id ≡ Some q → fate_in k q.item q.status ≡ f

pub told : {B : Type 0} (k id : ℕ) (qs : List (Kept B)) (item : Item) (s : Status) (f : Fate) → Some item ≡ item_at qs id → Some s ≡ status_at qs id
    → f ≡ fate_in k item s → (q : Kept B) → kept_at qs id ≡ Some q → fate_in k q.item q.status ≡ f
told k id qs item s f at_item at_status is q at =
    let same_item : item ≡ q.item = some_is (at_item ∙ ap (option_map (λ x. x.item)) at) in
    let same_status : s ≡ q.status = some_is (at_status ∙ ap (option_map (λ x. x.status)) at) in
    sym (is ∙ ap (λ i. fate_in k i s) same_item ∙ ap (fate_in k q.item) same_status)

pub stays : {B : Type 0} (k id : ℕ) (v : Tree) (l : Option Tree) (qs : List (Kept B)) → Told k qs id Fate.Stays → qs ≡ each_from 1 (settled_at id v l k) qs
stays k id v l qs t =
    unchanged id 1 qs ∙ settles_by id v l k (λ q. q) qs (λ q at. λ i. record q { status = becoming v l (sym (t q at) i) q.status })

pub changes : {B : Type 0} (k id : ℕ) (v : Tree) (l : Option Tree) (s : Status) (f : Fate) (qs rs : List (Kept B)) → Told k qs id f
    → ((t : Status) → becoming v l f t ≡ s) → rs ≡ with_status id s qs → rs ≡ each_from 1 (settled_at id v l k) qs
changes k id v l s f qs rs t makes is =
    is ∙ (as_only id 1 s qs ∙ settles_by id v l k (λ q. record q { status = s }) qs
    (λ q at. λ i. record q { status = sym (ap (λ g. becoming v l g q.status) (t q at) ∙ makes q.status) i }))

pub changes_twice : {B : Type 0} (k id : ℕ) (v : Tree) (l : Option Tree) (s : Status) (qs rs ts : List (Kept B)) → Told k qs id Fate.FailsWaiting
    → rs ≡ with_status id s qs → ts ≡ with_status id (Status.Done v) rs → ts ≡ each_from 1 (settled_at id v l k) qs
changes_twice k id v l s qs rs ts t first then =
    changes k id v l (Status.Done v) Fate.FailsWaiting qs ts t (λ _. refl)
    (then ∙ (ap (with_status id (Status.Done v)) first ∙ twice id 1 s (Status.Done v) qs))

pub missing : {B : Type 0} (k id : ℕ) (v : Tree) (l : Option Tree) (qs : List (Kept B)) → kept_at qs id ≡ None → qs ≡ each_from 1 (settled_at id v l k) qs
missing k id v l qs e = unchanged id 1 qs ∙ settles_by id v l k (λ q. q) qs (λ q at. absurd (none≢some (sym e ∙ at)))

pub no_item : {B : Type 0} (id : ℕ) (qs : List (Kept B)) → None ≡ item_at qs id → kept_at qs id ≡ None
no_item {B} id qs e = go (kept_at qs id) e
  where
    go : (o : Option (Kept B)) → None ≡ option_map (λ q. q.item) o → o ≡ None
    go None h = refl
    go (Some q) h = absurd (none≢some h)

pub no_status : {B : Type 0} (id : ℕ) (qs : List (Kept B)) → None ≡ status_at qs id → kept_at qs id ≡ None
no_status {B} id qs e = go (kept_at qs id) e
  where
    go : (o : Option (Kept B)) → None ≡ option_map (λ q. q.status) o → o ≡ None
    go None h = refl
    go (Some q) h = absurd (none≢some h)

pub spends : {B : Type 0} (k id : ℕ) (l : Option Tree) (f : Fate) (qs : List (Kept B)) (item : Item) → Some item ≡ item_at qs id → Told k qs id f
    → spent f l ≡ spent_at k (kept_at qs id) l
spends {B} k id l f qs item there t = go (kept_at qs id) refl
  where
    go : (o : Option (Kept B)) → kept_at qs id ≡ o → spent f l ≡ spent_at k o l
    go None e = absurd (none≢some (sym (there ∙ ap (option_map (λ q. q.item)) e)))
    go (Some q) e = ap (λ g. spent g l) (sym (t q e))

status_from : {B : Type 0} (n p : ℕ) (s t : Status) (qs : List (Kept B)) → Some t ≡ option_map (λ q. q.status) (nth qs p)
    → option_map (λ q. q.status) (nth (each_from n (changed (n + p) s) qs) p) ≡ Some s
status_from n p s t [] e = absurd (none≢some (sym e))
status_from n zero s t (q ∷ qs) e = ap (λ b. Some (elim b as (λ _. Status) [ true ↦ s | false ↦ q.status ])) (eq-eqb (n + 0) n (omega arith))
status_from n (suc p) s t (q ∷ qs) e =
    let at : suc n + p ≡ n + suc p = omega arith in
    subst (λ m. option_map (λ q. q.status) (nth (each_from (suc n) (changed m s) qs) p) ≡ Some s) at (status_from (suc n) p s t qs e)

pub then_status : {B : Type 0} (id : ℕ) (s t : Status) (qs rs : List (Kept B)) → Some t ≡ status_at qs id → rs ≡ with_status id s qs → status_at rs id ≡ Some s
then_status zero s t qs rs e is = absurd (none≢some (sym e))
then_status (suc p) s t qs rs e is =
    ap (λ xs. status_at xs (suc p)) is
    ∙ (ap (λ m. option_map (λ q. q.status) (nth (each_from 1 (changed m s) qs) p)) (omega arith) ∙ status_from 1 p s t qs e)

-- ---- the walk

apart : {B : Type 0} (id n : ℕ) (v : Tree) (l : Option Tree) (k : ℕ) (qs : List (Kept B)) → id < n → each_from n (settled_at id v l k) qs ≡ qs
apart id n v l k [] p = refl
apart {B} id n v l k (q ∷ qs) p =
    let front : settled_at id v l k n q ≡ q = ap (λ b. elim b as (λ _. Kept B) [ true ↦ settled v l k q | false ↦ q ]) (ne_eqb id n (λ e. omega (arith, p, e))) in
    let rest = apart id (suc n) v l k qs (omega (arith, p)) in
    λ i. front i ∷ rest i

walk_from : {B : Type 0} (n p : ℕ) (v : Tree) (k : ℕ) (l : Option Tree) (qs : List (Kept B))
    → take (suc p) (each_from n (settled_at (n + p) v l k) qs) ++ walked v k (spent_at k (nth qs p) l) (drop (suc p) (each_from n (settled_at (n + p) v l k) qs))
    ≡ take p qs ++ walked v k l (drop p qs)
walk_from n zero v k l [] = refl
walk_from n (suc p) v k l [] = refl
walk_from {B} n zero v k l (q ∷ qs) =
    let at : n + 0 ≡ n = omega arith in
    let front : settled_at (n + 0) v l k n q ≡ settled v l k q =
    ap (λ b. elim b as (λ _. Kept B) [ true ↦ settled v l k q | false ↦ q ]) (eq-eqb (n + 0) n at) in
    let rest = apart (n + 0) (suc n) v l k qs (omega arith) in
    λ i. front i ∷ walked v k (spent (fate_in k q.item q.status) l) (rest i)
walk_from {B} n (suc p) v k l (q ∷ qs) =
    let at : suc n + p ≡ n + suc p = omega arith in
    let front : settled_at (n + suc p) v l k n q ≡ q =
    ap (λ b. elim b as (λ _. Kept B) [ true ↦ settled v l k q | false ↦ q ]) (ne_eqb (n + suc p) n (λ e. omega (arith, e))) in
    let rest = subst (λ m. take (suc p) (each_from (suc n) (settled_at m v l k) qs) ++ walked v k (spent_at k (nth qs p) l) (drop (suc p) (each_from (suc n) (settled_at m v l k) qs))
    ≡ take p qs ++ walked v k l (drop p qs)) at (walk_from (suc n) p v k l qs) in
    λ i. front i ∷ rest i

same_length : {B : Type 0} (id n : ℕ) (v : Tree) (l : Option Tree) (k : ℕ) (qs : List (Kept B)) → length (each_from n (settled_at id v l k) qs) ≡ length qs
same_length id n v l k [] = refl
same_length id n v l k (q ∷ qs) = ap suc (same_length id (suc n) v l k qs)

-- how far the walk has come
pub record HasWalked {B : Type 0} (v : Tree) (k : ℕ) (olds news : List (Kept B)) (first left : Option Tree) (place : ℕ) : Type 0 where
  pub all : length news ≡ length olds
  pub rest : take place news ++ walked v k left (drop place news) ≡ walked v k first olds

pub begins : {B : Type 0} (v : Tree) (k : ℕ) (qs : List (Kept B)) (l : Option Tree) → HasWalked v k qs qs l l 0
begins v k qs l = record { all = refl; rest = refl }

pub walks : {B : Type 0} (v : Tree) (k : ℕ) (olds qs rs : List (Kept B)) (first l m : Option Tree) (p id : ℕ) → HasWalked v k olds qs first l p → id ≡ p + 1
    → rs ≡ each_from 1 (settled_at id v l k) qs → m ≡ spent_at k (kept_at qs id) l → HasWalked v k olds rs first m (p + 1)
walks v k olds qs rs first l m p id w is made left =
    let at : id ≡ 1 + p = is ∙ omega arith in
    let place : id ≡ suc p = is ∙ omega arith in
    let change : rs ≡ each_from 1 (settled_at (1 + p) v l k) qs = made ∙ ap (λ i. each_from 1 (settled_at i v l k) qs) at in
    let more : m ≡ spent_at k (nth qs p) l = left ∙ ap (λ i. spent_at k (kept_at qs i) l) place in
    let next : p + 1 ≡ suc p = omega arith in
    record {
      all = (ap length change ∙ same_length (1 + p) 1 v l k qs) ∙ w.all;
      rest = ap (λ n. take n rs ++ walked v k m (drop n rs)) next
          ∙ ((λ i. take (suc p) (change i) ++ walked v k (more i) (drop (suc p) (change i))) ∙ (walk_from 1 p v k l qs ∙ w.rest));
    }

pub ends : {B : Type 0} (v : Tree) (k : ℕ) (olds qs : List (Kept B)) (first l : Option Tree) (p : ℕ) → HasWalked v k olds qs first l p → length olds ≤ p
    → qs ≡ walked v k first olds
ends v k olds qs first l p w past =
    let same = w.all in
    let whole : length qs ≤ p = omega (arith, same, past) in
    with_nothing qs ∙ ((λ i. sym (take_whole p qs whole) i ++ walked v k l (sym (drop_all p qs whole) i)) ∙ w.rest)
  where
    with_nothing : {A : Type 0} (xs : List A) → xs ≡ xs ++ []
    with_nothing [] = refl
    with_nothing (x ∷ xs) = ap (λ ys. x ∷ ys) (with_nothing xs)

    take_whole : {A : Type 0} (n : ℕ) (xs : List A) → length xs ≤ n → take n xs ≡ xs
    take_whole zero [] q = refl
    take_whole (suc n) [] q = refl
    take_whole zero (x ∷ xs) q = absurd (omega (arith, q))
    take_whole (suc n) (x ∷ xs) q = ap (λ ys. x ∷ ys) (take_whole n xs (omega (arith, q)))
