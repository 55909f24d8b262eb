-- What the loss of a kernel gives.
--     IsOn                  the recovery of a setup, and the symbols that its values are made of
--     gets, given_at        whether an item gets its result by the loss; the item of an id
--     shared_at             whether the item of an id runs on the kernel, and is not for it alone
--     ids_lost              the ids of the items that get their result
--     with_given            ids with one more, if it is given
use Rattle.std.specs.Prelude.{◌≡◌, ℕ, suc, List, [], ◌∷◌, ◌++◌, Bool, true, false, ◌&&◌, ◌==◌, Option, Some, None}
use Rattle.semantics.specs.Names.{known}
use Rattle.semantics.specs.declared.builtin.Builtin.{Builtin}
use Rattle.journal.specs.declared.recover.Recover.{Recover}
use Rattle.journal.specs.declared.item.Item.{Item}
use Rattle.journal.specs.declared.item.Status.{Status}
use Rattle.journal.specs.Core.{Setup}
use Rattle.eval_queue.specs.declared.kept.Kept.{Kept}
use Rattle.requeue_core.specs.Losses.{runs_shared}
use Rattle.master_core.specs.declared.losing.Terms.{Terms}

pub record IsOn (set : Setup) (terms : Terms) : Type 0 where
  pub recovers : set.recovery ≡ terms.recovery
  pub failed : known set.names Builtin.Failed ≡ terms.failed
  pub list : known set.names Builtin.List ≡ terms.list

abbrev pub abandons : Recover → Bool
abandons Recover.Retry = false
abandons Recover.Abandon = true

abbrev pub gets : Recover → ℕ → Item → Status → Bool
gets r k (Item.Pinned j e) Status.Waiting = j == k
gets r k (Item.Pinned j e) (Status.Running m) = j == k
gets r k (Item.Plain e) (Status.Running m) = (m == k) && abandons r
gets r k (Item.Batch es) (Status.Running m) = (m == k) && abandons r
gets r k _ _ = false

abbrev pub given_at : Recover → ℕ → Option Item → Option Status → Bool
given_at r k (Some item) (Some status) = gets r k item status
given_at r k _ _ = false

abbrev pub shared_at : ℕ → Option Item → Option Status → Bool
shared_at k (Some item) (Some status) = runs_shared k item status
shared_at k _ _ = false

abbrev pub ids_lost : {B : Type 0} → Recover → ℕ → ℕ → List (Kept B) → List ℕ
ids_lost r k n [] = []
ids_lost r k n (q ∷ qs) = elim (gets r k q.item q.status) [ true ↦ n ∷ ids_lost r k (suc n) qs | false ↦ ids_lost r k (suc n) qs ]

abbrev pub with_given : Bool → ℕ → List ℕ → List ℕ
with_given true id ids = ids ++ id ∷ []
with_given false id ids = ids
