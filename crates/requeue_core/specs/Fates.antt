-- A loss, item by item.
--     fate_in               what becomes of an item
--     becoming              the status that it then has; `left` is the value for an item that would wait again, if there is one
--     spent                 whether that value is left afterwards
--     CanBecome             which status it has before
--     settled, settled_at   an item after that; the item of an id alone
--     spent_at              what the item of an id leaves of the value
--     walked                all items, one after the other
use Rattle.std.specs.Prelude.{◌≡◌, ℕ, List, [], ◌∷◌, true, false, ◌==◌, Option, Some, None, ⊤}
use Rattle.expr_tree.specs.Tree.{Tree}
use Rattle.journal.specs.declared.item.Item.{Item}
use Rattle.journal.specs.declared.item.Status.{Status}
use Rattle.eval_queue.specs.declared.kept.Kept.{Kept}
use Rattle.requeue_core.specs.declared.lost.Fate.{Fate}

abbrev pub waiting_fate : ℕ → Item → Fate
waiting_fate k (Item.Plain e) = Fate.Stays
waiting_fate k (Item.Batch es) = Fate.Stays
waiting_fate k (Item.Pinned j e) = elim (j == k) [ true ↦ Fate.FailsWaiting | false ↦ Fate.Stays ]

abbrev pub running_fate : ℕ → Item → ℕ → Fate
running_fate k (Item.Plain e) m = elim (m == k) [ true ↦ Fate.Returns | false ↦ Fate.Stays ]
running_fate k (Item.Batch es) m = elim (m == k) [ true ↦ Fate.Returns | false ↦ Fate.Stays ]
running_fate k (Item.Pinned j e) m = elim (j == k) [ true ↦ Fate.FailsRunning m | false ↦ Fate.Stays ]

abbrev pub fate_in : ℕ → Item → Status → Fate
fate_in k item Status.Waiting = waiting_fate k item
fate_in k item (Status.Running m) = running_fate k item m
fate_in k item (Status.Done v) = Fate.Stays
fate_in k item Status.Dropped = Fate.Stays

abbrev pub returned : Option Tree → Status
returned None = Status.Waiting
returned (Some v) = Status.Done v

abbrev pub becoming : Tree → Option Tree → Fate → Status → Status
becoming failed left Fate.Stays s = s
becoming failed left Fate.Returns s = returned left
becoming failed left Fate.FailsWaiting s = Status.Done failed
becoming failed left (Fate.FailsRunning m) s = Status.Done failed

abbrev pub spent : Fate → Option Tree → Option Tree
spent Fate.Stays left = left
spent Fate.Returns left = None
spent Fate.FailsWaiting left = left
spent (Fate.FailsRunning m) left = left

abbrev pub CanBecome : ℕ → Fate → Status → Type 0
CanBecome k Fate.Stays s = ⊤
CanBecome k Fate.Returns s = s ≡ Status.Running k
CanBecome k Fate.FailsWaiting s = s ≡ Status.Waiting
CanBecome k (Fate.FailsRunning m) s = s ≡ Status.Running m

abbrev pub settled : {B : Type 0} → Tree → Option Tree → ℕ → Kept B → Kept B
settled failed left k q = record q { status = becoming failed left (fate_in k q.item q.status) q.status }

abbrev pub settled_at : {B : Type 0} → ℕ → Tree → Option Tree → ℕ → ℕ → Kept B → Kept B
settled_at id failed left k i q = elim (id == i) [ true ↦ settled failed left k q | false ↦ q ]

abbrev pub spent_at : {B : Type 0} → ℕ → Option (Kept B) → Option Tree → Option Tree
spent_at k None left = left
spent_at k (Some q) left = spent (fate_in k q.item q.status) left

abbrev pub walked : {B : Type 0} → Tree → ℕ → Option Tree → List (Kept B) → List (Kept B)
walked failed k left [] = []
walked failed k left (q ∷ qs) = settled failed left k q ∷ walked failed k (spent (fate_in k q.item q.status) left) qs
