-- Why a wait goes on.
--     first_undone          the first of these items that has no result
--     first_taken           the first of these locks that some kernel holds
--     IsTaken               the first of these locks that is held, with a kernel that holds it
--     IsUnmet               what the standing wait still lacks
use Rattle.std.specs.Prelude.{◌≡◌, ℕ, List, [], ◌∷◌, Bool, true, false, Option, Some, None}
use Rattle.expr_tree.specs.declared.sym.Sym.{Sym}
use Rattle.expr_tree.specs.Substitution.{among}
use Rattle.journal.specs.Places.{is_some}
use Rattle.journal.specs.declared.event.Wait.{Wait}
use Rattle.journal.specs.Core.{Core, result_of, locks_of, held_by_some}
use Rattle.master_core.specs.declared.answers.Unmet.{Unmet}
use Rattle.master_core.specs.declared.answers.EnterNo.{EnterNo}

abbrev pub first_undone : Core → List ℕ → Option ℕ
first_undone c [] = None
first_undone c (id ∷ ids) = elim (is_some (result_of c id)) [ true ↦ first_undone c ids | false ↦ Some id ]

abbrev pub first_taken : Core → List Sym → Option Sym
first_taken c [] = None
first_taken c (l ∷ ls) = elim (held_by_some c.kernels l) [ true ↦ Some l | false ↦ first_taken c ls ]

abbrev pub Lacks : Core → Wait → Unmet → Type 0
Lacks c (Wait.All ids) (Unmet.Id id) = first_undone c ids ≡ Some id
Lacks c (Wait.Next ids) (Unmet.Id id) = first_undone c ids ≡ Some id
Lacks c (Wait.Try ids) (Unmet.Id id) = first_undone c ids ≡ Some id
Lacks c (Wait.Locks ls) (Unmet.Lock l k) = (first_taken c ls ≡ Some l) × (among l (locks_of c k) ≡ true)
Lacks c _ _ = ⊥

abbrev pub LacksOf : Core → Option Wait → Unmet → Type 0
LacksOf c None u = ⊥
LacksOf c (Some w) u = Lacks c w u

pub record IsUnmet (c : Core) (u : Unmet) : Type 0 where
  pub lacks : LacksOf c c.wait u

abbrev pub IsTaken : Core → List Sym → EnterNo → Type 0
IsTaken c ls (EnterNo.Held h) = (first_taken c ls ≡ Some h.lock) × (among h.lock (locks_of c h.by) ≡ true)
IsTaken c ls EnterNo.Closed = ⊥
IsTaken c ls EnterNo.NoMemory = Unit {0}
