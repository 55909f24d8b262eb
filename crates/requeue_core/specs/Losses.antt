-- What the loss of a kernel does.
--     lives_in              whether a kernel lives, of those that live by number
--     lost                  an item after the loss
--     attempts              the items that the kernel runs, but those for it alone
--     handed                the values that these get where items are abandoned
use Rattle.std.specs.Prelude.{ℕ, List, [], ◌∷◌, map, Bool, true, false, Some, None}
use Rattle.expr_tree.specs.Tree.{Tree}
use Rattle.journal.specs.declared.recover.Recover.{Recover}
use Rattle.journal.specs.Places.{nth}
use Rattle.journal.specs.declared.item.Item.{Item}
use Rattle.journal.specs.declared.item.Status.{Status}
use Rattle.journal.specs.Core.{Setup, fate, runs_on, abandoned}
use Rattle.eval_queue.specs.declared.kept.Kept.{Kept}

abbrev pub lives_in : List Bool → ℕ → Bool
lives_in ks k = elim (nth ks k) [ None ↦ false | Some b ↦ b ]

abbrev pub lost : {B : Type 0} → Setup → ℕ → Kept B → Kept B
lost set k q = record q { status = fate set k q.item q.status }

abbrev pub runs_shared : ℕ → Item → Status → Bool
runs_shared k (Item.Pinned j e) status = false
runs_shared k item status = runs_on k status

abbrev pub attempts : {B : Type 0} → ℕ → List (Kept B) → List Item
attempts k [] = []
attempts k (q ∷ qs) = elim (runs_shared k q.item q.status) [ true ↦ q.item ∷ attempts k qs | false ↦ attempts k qs ]

abbrev pub handed : {B : Type 0} → Setup → ℕ → List (Kept B) → List Tree
handed set k qs = elim set.recovery [ Recover.Retry ↦ [] | Recover.Abandon ↦ map (abandoned set.names) (attempts k qs) ]
