-- The items of a queue, as the definitions of a journal have them. What is kept of an item is a struct of the program.
--     items_in              the items of a core, where it is said for which bundles the things stand that are kept beside them
--     kept_at               the item of an id, from 1, with what is kept; in parts:
--     item_at, bundle_at, status_at
--     with_status           the items with another status of one of them
--     none_waits, IsPassed  that none of these waits; that none waits before a place
use Rattle.std.specs.Prelude.{◌≡◌, ◌≤◌, ℕ, zero, suc, List, [], ◌∷◌, length, take, Bool, true, false, ◌==◌, ◌&&◌, not, Option, None}
use Rattle.std.specs.Option.{option_map}
use Rattle.journal.specs.Places.{nth, each_from}
use Rattle.journal.specs.Closure.{Bundle}
use Rattle.journal.specs.declared.item.Item.{Item}
use Rattle.journal.specs.declared.item.Status.{Status}
use Rattle.journal.specs.Core.{Queued, is_waiting}
use Rattle.eval_queue.specs.declared.kept.Kept.{Kept}

abbrev pub queued : {B : Type 0} → (B → Bundle) → Kept B → Queued
queued bundle_of q = record { item = q.item; bundle = bundle_of q.bundle; status = q.status }

abbrev pub items_in : {B : Type 0} → (B → Bundle) → List (Kept B) → List Queued
items_in bundle_of [] = []
items_in bundle_of (q ∷ qs) = queued bundle_of q ∷ items_in bundle_of qs

abbrev pub kept_at : {B : Type 0} → List (Kept B) → ℕ → Option (Kept B)
kept_at qs zero = None
kept_at qs (suc n) = nth qs n

abbrev pub item_at : {B : Type 0} → List (Kept B) → ℕ → Option Item
item_at qs id = option_map (λ q. q.item) (kept_at qs id)

abbrev pub bundle_at : {B : Type 0} → List (Kept B) → ℕ → Option B
bundle_at qs id = option_map (λ q. q.bundle) (kept_at qs id)

abbrev pub status_at : {B : Type 0} → List (Kept B) → ℕ → Option Status
status_at qs id = option_map (λ q. q.status) (kept_at qs id)

abbrev pub changed : {B : Type 0} → ℕ → Status → ℕ → Kept B → Kept B
changed id status i q = record q { status = elim (id == i) [ true ↦ status | false ↦ q.status ] }

abbrev pub with_status : {B : Type 0} → ℕ → Status → List (Kept B) → List (Kept B)
with_status id status qs = each_from 1 (changed id status) qs

abbrev pub none_waits : {B : Type 0} → List (Kept B) → Bool
none_waits [] = true
none_waits (q ∷ qs) = not (is_waiting q.status) && none_waits qs

pub record IsPassed {Bundled : Type 0} (n : ℕ) (qs : List (Kept Bundled)) : Type 0 where
  pub within : n ≤ length qs
  pub passed : none_waits (take n qs) ≡ true
