-- The walk is the loss of the definitions.
use Rattle.std.proofs.Common.{◌≡◌, refl, sym, ap, ℕ, List, [], ◌∷◌, map, Bool, true, false, true≢false, Option, Some, None}
use Rattle.std.specs.Prelude.{◌==◌}
use Rattle.std.specs.Option.{option_to_list}
use Rattle.expr_tree.specs.Tree.{Tree}
use Rattle.journal.specs.declared.recover.Recover.{Recover}
use Rattle.journal.specs.declared.item.Item.{Item}
use Rattle.journal.specs.declared.item.Status.{Status}
use Rattle.journal.specs.Core.{Setup, fate, abandoned, failed}
use Rattle.eval_queue.specs.declared.kept.Kept.{Kept}
use Rattle.requeue_core.specs.declared.lost.Fate.{Fate}
use Rattle.requeue_core.specs.Losses.{lost, attempts, handed, runs_shared}
use Rattle.requeue_core.specs.Fates.{fate_in, becoming, returned, spent, walked}

abbrev is_cons : List Tree → Bool
is_cons [] = false
is_cons (x ∷ xs) = true

abbrev first_of : Tree → List Tree → Tree
first_of a [] = a
first_of a (x ∷ xs) = x

abbrev rest_of : List Tree → List Tree
rest_of [] = []
rest_of (x ∷ xs) = xs

abbrev handing : Recover → List Tree → List Tree
handing r vs = elim r [ Recover.Retry ↦ [] | Recover.Abandon ↦ vs ]

comes_back : (r : Recover) (a : Tree) (rest : List Tree) (l : Option Tree) → handing r (a ∷ rest) ≡ option_to_list l
    → (returned l ≡ elim r as (λ _. Status) [ Recover.Retry ↦ Status.Waiting | Recover.Abandon ↦ Status.Done a ]) × (handing r rest ≡ [])
comes_back Recover.Retry a rest None e = (refl, refl)
comes_back Recover.Retry a rest (Some v) e = absurd (true≢false (sym (ap is_cons e)))
comes_back Recover.Abandon a rest None e = absurd (true≢false (ap is_cons e))
comes_back Recover.Abandon a rest (Some v) e = (ap Status.Done (sym (ap (first_of a) e)), ap rest_of e)

-- of one item: its status, and what is left for those behind it
abbrev Steps : Setup → ℕ → Tree → Option Tree → List Item → Item → Status → Type 0
Steps set k v l rest item s =
    (becoming v l (fate_in k item s) s ≡ fate set k item s) × (handing set.recovery (map (abandoned set.names) rest) ≡ option_to_list (spent (fate_in k item s) l))

abbrev Hands : Setup → ℕ → Option Tree → List Item → Item → Status → Type 0
Hands set k l rest item s = handing set.recovery (map (abandoned set.names) (elim (runs_shared k item s) as (λ _. List Item) [ true ↦ item ∷ rest | false ↦ rest ])) ≡ option_to_list l

shared_step : (set : Setup) (v : Tree) (l : Option Tree) (rest : List Item) (item : Item) (m : ℕ) (b : Bool)
    → handing set.recovery (map (abandoned set.names) (elim b as (λ _. List Item) [ true ↦ item ∷ rest | false ↦ rest ])) ≡ option_to_list l
    → (becoming v l (elim b as (λ _. Fate) [ true ↦ Fate.Returns | false ↦ Fate.Stays ]) (Status.Running m)
    ≡ elim b as (λ _. Status) [
      | true ↦ elim set.recovery as (λ _. Status) [ Recover.Retry ↦ Status.Waiting | Recover.Abandon ↦ Status.Done (abandoned set.names item) ]
      | false ↦ Status.Running m
    ])
    × (handing set.recovery (map (abandoned set.names) rest) ≡ option_to_list (spent (elim b as (λ _. Fate) [ true ↦ Fate.Returns | false ↦ Fate.Stays ]) l))
shared_step set v l rest item m true e = comes_back set.recovery (abandoned set.names item) (map (abandoned set.names) rest) l e
shared_step set v l rest item m false e = (refl, e)

pinned_waits : (f v : Tree) (l : Option Tree) (xs : List Tree) (b : Bool) → f ≡ v → xs ≡ option_to_list l
    → (becoming v l (elim b as (λ _. Fate) [ true ↦ Fate.FailsWaiting | false ↦ Fate.Stays ]) Status.Waiting ≡ elim b as (λ _. Status) [ true ↦ Status.Done f | false ↦ Status.Waiting ])
    × (xs ≡ option_to_list (spent (elim b as (λ _. Fate) [ true ↦ Fate.FailsWaiting | false ↦ Fate.Stays ]) l))
pinned_waits f v l xs true is e = (ap Status.Done (sym is), e)
pinned_waits f v l xs false is e = (refl, e)

pinned_runs : (f v : Tree) (l : Option Tree) (xs : List Tree) (m : ℕ) (b : Bool) → f ≡ v → xs ≡ option_to_list l
    → (becoming v l (elim b as (λ _. Fate) [ true ↦ Fate.FailsRunning m | false ↦ Fate.Stays ]) (Status.Running m) ≡ elim b as (λ _. Status) [ true ↦ Status.Done f | false ↦ Status.Running m ])
    × (xs ≡ option_to_list (spent (elim b as (λ _. Fate) [ true ↦ Fate.FailsRunning m | false ↦ Fate.Stays ]) l))
pinned_runs f v l xs m true is e = (ap Status.Done (sym is), e)
pinned_runs f v l xs m false is e = (refl, e)

step : (set : Setup) (k : ℕ) (v : Tree) (l : Option Tree) (rest : List Item) (item : Item) (s : Status) → failed set.names ≡ v → Hands set k l rest item s → Steps set k v l rest item s
step set k v l rest (Item.Plain x) Status.Waiting is e = (refl, e)
step set k v l rest (Item.Plain x) (Status.Running m) is e = shared_step set v l rest (Item.Plain x) m (m == k) e
step set k v l rest (Item.Plain x) (Status.Done w) is e = (refl, e)
step set k v l rest (Item.Plain x) Status.Dropped is e = (refl, e)
step set k v l rest (Item.Batch xs) Status.Waiting is e = (refl, e)
step set k v l rest (Item.Batch xs) (Status.Running m) is e = shared_step set v l rest (Item.Batch xs) m (m == k) e
step set k v l rest (Item.Batch xs) (Status.Done w) is e = (refl, e)
step set k v l rest (Item.Batch xs) Status.Dropped is e = (refl, e)
step set k v l rest (Item.Pinned j x) Status.Waiting is e = pinned_waits (failed set.names) v l _ (j == k) is e
step set k v l rest (Item.Pinned j x) (Status.Running m) is e = pinned_runs (failed set.names) v l _ m (j == k) is e
step set k v l rest (Item.Pinned j x) (Status.Done w) is e = (refl, e)
step set k v l rest (Item.Pinned j x) Status.Dropped is e = (refl, e)

pub walked_is_lost : {B : Type 0} (set : Setup) (k : ℕ) (v : Tree) (l : Option Tree) (qs : List (Kept B)) → failed set.names ≡ v
    → handed set k qs ≡ option_to_list l → walked v k l qs ≡ map (lost set k) qs
walked_is_lost set k v l [] is e = refl
walked_is_lost set k v l (q ∷ qs) is e =
    let here = step set k v l (attempts k qs) q.item q.status is e in
    let rest = walked_is_lost set k v (spent (fate_in k q.item q.status) l) qs is here.1 in
    λ i. record q { status = here.0 i } ∷ rest i
