-- The fate of an item and the status that it then has.
use Rattle.std.proofs.Common.{◌≡◌, refl, ap, ℕ, Bool, true, false, eqb-true}
use Rattle.std.specs.Prelude.{◌==◌}
use Rattle.journal.specs.declared.item.Item.{Item}
use Rattle.journal.specs.declared.item.Status.{Status}
use Rattle.requeue_core.specs.declared.lost.Fate.{Fate}
use Rattle.requeue_core.specs.Fates.{fate_in, CanBecome}

can_return : (m k : ℕ) (b : Bool) → (m == k) ≡ b → CanBecome k (elim b as (λ _. Fate) [ true ↦ Fate.Returns | false ↦ Fate.Stays ]) (Status.Running m)
can_return m k true e = ap Status.Running (eqb-true m k e)
can_return m k false e = tt

can_fail : (k : ℕ) (b : Bool) → CanBecome k (elim b as (λ _. Fate) [ true ↦ Fate.FailsWaiting | false ↦ Fate.Stays ]) Status.Waiting
can_fail k true = refl
can_fail k false = tt

can_fail_there : (k m : ℕ) (b : Bool) → CanBecome k (elim b as (λ _. Fate) [ true ↦ Fate.FailsRunning m | false ↦ Fate.Stays ]) (Status.Running m)
can_fail_there k m true = refl
can_fail_there k m false = tt

pub can_become : (k : ℕ) (item : Item) (s : Status) → CanBecome k (fate_in k item s) s
can_become k (Item.Plain e) Status.Waiting = tt
can_become k (Item.Batch es) Status.Waiting = tt
can_become k (Item.Pinned j e) Status.Waiting = can_fail k (j == k)
can_become k (Item.Plain e) (Status.Running m) = can_return m k (m == k) refl
can_become k (Item.Batch es) (Status.Running m) = can_return m k (m == k) refl
can_become k (Item.Pinned j e) (Status.Running m) = can_fail_there k m (j == k)
can_become k item (Status.Done v) = tt
can_become k item Status.Dropped = tt
