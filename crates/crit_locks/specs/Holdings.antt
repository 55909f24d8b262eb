-- Who holds which locks.
--     Holdings              the locks that are held, in the order in which they were taken, and how many have room
--     held_by               a lock as a kernel holds it
--     locks_by              the locks that a kernel holds
--     holder_of             the kernel that holds a lock
--     first_held            the first of these locks that is held, and by whom
--     without               holdings without those of a kernel
--     HeldAfter             each kernel holds what an entry of one kernel leaves it
use Rattle.std.specs.Prelude.{◌≡◌, ℕ, List, [], ◌∷◌, true, false, ◌==◌, Option, Some, None}
use Rattle.expr_tree.specs.declared.sym.Sym.{Sym}
use Rattle.expr_tree.specs.Same.{symbol_eq}
use Rattle.journal.specs.declared.event.Event.{Event}
use Rattle.journal.specs.Core.{kernel_after}
use Rattle.crit_locks.specs.declared.held.Held.{Held}

pub record Holdings : Type 0 where
  pub held : List Held
  pub room : ℕ

abbrev pub held_by : ℕ → Sym → Held
held_by k l = record { lock = l; by = k }

abbrev pub locks_by : ℕ → List Held → List Sym
locks_by k [] = []
locks_by k (h ∷ hs) = elim (h.by == k) [ true ↦ h.lock ∷ locks_by k hs | false ↦ locks_by k hs ]

abbrev pub holder_of : List Held → Sym → Option ℕ
holder_of [] l = None
holder_of (h ∷ hs) l = elim (symbol_eq l h.lock) [ true ↦ Some h.by | false ↦ holder_of hs l ]

abbrev pub first_held : List Held → List Sym → Option Held
first_held hs [] = None
first_held hs (l ∷ ls) = elim (holder_of hs l) [ None ↦ first_held hs ls | Some k ↦ Some (held_by k l) ]

abbrev pub without : ℕ → List Held → List Held
without k [] = []
without k (h ∷ hs) = elim (h.by == k) [ true ↦ without k hs | false ↦ h ∷ without k hs ]

-- what an entry leaves of the locks of the kernel that posts it
abbrev pub locks_after : Event → List Sym → List Sym
locks_after event ls = (kernel_after event (record { lives = true; attempt = None; locks = ls })).locks

abbrev pub HeldAfter : Event → ℕ → List Held → List Held → Type 0
HeldAfter event k old new =
    (j : ℕ) → locks_by j new ≡ elim (k == j) [ true ↦ locks_after event (locks_by j old) | false ↦ locks_by j old ]
