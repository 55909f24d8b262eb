-- A core in the parts that the program keeps.
--     kernels_in            the kernels, from a number on: which live, which item each runs, and who holds which locks
--     core_in               the core
--     AreParts              what holds of the parts: each kernel has a place, no other holds a lock, and a wait for the next of some items has some
--     is_run, tries         whether an item runs; whether a wait is a try
--     item_of, bundle_of    an item of a core, and its bundle
--     dropped_one, dropped_all    items of which one is dropped, or each of some
use Rattle.std.specs.Prelude.{◌≡◌, ℕ, suc, ◌≤◌, List, [], ◌∷◌, length, Bool, true, false, ◌==◌, Option, Some, None}
use Rattle.std.specs.Option.{option_map}
use Rattle.semantics.specs.Definitions.{Definitions}
use Rattle.journal.specs.Places.{member}
use Rattle.journal.specs.declared.event.Wait.{Wait}
use Rattle.journal.specs.declared.item.Item.{Item}
use Rattle.journal.specs.declared.item.Status.{Status}
use Rattle.journal.specs.declared.item.Status.TheVariants.{Running}
use Rattle.journal.specs.Closure.{Bundle}
use Rattle.journal.specs.Entry.{Text}
use Rattle.journal.specs.Core.{Kernel, Queued, Core, dropped, item_at}
use Rattle.crit_locks.specs.declared.held.Held.{Held}
use Rattle.crit_locks.specs.Holdings.{locks_by}
use Rattle.eval_queue.specs.declared.kept.Kept.{Kept}
use Rattle.eval_queue.specs.Items.{items_in}

abbrev pub kernel_in : ℕ → Bool → Option ℕ → List Held → Kernel
kernel_in k lives attempt hs = record { lives = lives; attempt = attempt; locks = locks_by k hs }

abbrev pub kernels_in : ℕ → List Bool → List (Option ℕ) → List Held → List Kernel
kernels_in k [] os hs = []
kernels_in k (b ∷ bs) [] hs = kernel_in k b None hs ∷ kernels_in (suc k) bs [] hs
kernels_in k (b ∷ bs) (o ∷ os) hs = kernel_in k b o hs ∷ kernels_in (suc k) bs os hs

-- a bundle is what it stands for
abbrev pub items_of : List (Kept Bundle) → List Queued
items_of qs = items_in (λ b. b) qs

abbrev pub core_in : Definitions → List (Kept Bundle) → List Kernel → Option Wait → List ℕ → List Text → Bool → Bool → Core
core_in d qs ks w ids ts begun closed =
    record {
      definitions = d;
      items = items_of qs;
      kernels = ks;
      wait = w;
      finished = ids;
      lines = ts;
      begun = begun;
      closed = closed;
    }

abbrev pub IsSound : Option Wait → Type 0
IsSound (Some (Wait.Next [])) = ⊥
IsSound _ = Unit {0}

pub record AreParts (bs : List Bool) (os : List (Option ℕ)) (hs : List Held) (w : Option Wait) : Type 0 where
  pub places : length os ≡ length bs
  pub within : (k : ℕ) → length bs ≤ k → locks_by k hs ≡ []
  pub sound : IsSound w

abbrev pub is_run : Option Status → Bool
is_run (Some (Running k)) = true
is_run _ = false

abbrev pub tries : Option Wait → Bool
tries (Some (Wait.Try ids)) = true
tries _ = false

-- an item of a core, and its bundle
abbrev pub item_of : Core → ℕ → Option Item
item_of c id = option_map (λ q. q.item) (item_at c id)

abbrev pub bundle_of : Core → ℕ → Option Bundle
bundle_of c id = option_map (λ q. q.bundle) (item_at c id)

-- an item that is dropped, unless it is done; each of some
abbrev pub dropped_one : ℕ → ℕ → Kept Bundle → Kept Bundle
dropped_one id m q = record q { status = elim (m == id) [ true ↦ dropped q.status | false ↦ q.status ] }

abbrev pub dropped_all : List ℕ → ℕ → Kept Bundle → Kept Bundle
dropped_all ids m q = record q { status = elim (member m ids) [ true ↦ dropped q.status | false ↦ q.status ] }
