-- The book as contracts see it.
--     Contents              what the run began with, what was posted, the core, the definitions that lie in the book, whether a kernel starved
--     opening_with          an opening by its parts
--     IsReplayed            the core is the replay of what was posted; a wait that stands has the definitions that lie there
--     IsBook                the same of the parts of a book, with the symbols that it keeps
--     IsEntered             one entry more, which might be posted
--     is_shut               whether a kernel may post nothing any more
--     MayPost, IsInside     that it may post if it is not shut, and is inside an evaluation
--     first_take            the item that a kernel may take
--     TakeRefused, Refused, EnterRefused, WaitRefused   why an entry is refused
use Rattle.std.specs.Prelude.{◌≡◌, ℕ, suc, List, [], ◌∷◌, ◌++◌, length, Bool, true, false, ◌&&◌, ◌||◌, not, ◌==◌, Option, Some, None}
use Rattle.expr_tree.specs.declared.limits.Limits.{Limits}
use Rattle.expr_tree.specs.declared.sym.Sym.{Sym}
use Rattle.expr_tree.specs.Substitution.{among}
use Rattle.semantics.specs.Definitions.{Definitions}
use Rattle.semantics.specs.Names.{Names, known}
use Rattle.semantics.specs.declared.builtin.Builtin.{Builtin}
use Rattle.journal.specs.Places.{is_some}
use Rattle.journal.specs.declared.recover.Recover.{Recover}
use Rattle.journal.specs.Entry.{Text, Posted}
use Rattle.journal.specs.Core.{Setup, Core, may_post, in_evaluation, lives, may_take, first_for, allowed, effect, replay, condition_holds, locks_of}
use Rattle.journal.specs.Members.{Opening, setup_of}
use Rattle.master_core.specs.declared.losing.Terms.{Terms}
use Rattle.master_core.specs.declared.answers.TakeNo.{TakeNo}
use Rattle.master_core.specs.declared.answers.No.{No}
use Rattle.master_core.specs.declared.answers.EnterNo.{EnterNo}
use Rattle.master_core.specs.declared.answers.WaitNo.{WaitNo}
use Rattle.master_core.specs.Waits.{first_taken, IsUnmet}

pub record Contents : Type 0 where
  pub opening : Opening
  pub posted : List Posted
  pub core : Core
  pub definitions : Definitions
  pub starved : Bool

abbrev pub opening_with : ℕ → Limits → List Text → Recover → Opening
opening_with kernels limits texts recovery = record { kernels = kernels; limits = limits; texts = texts; recovery = recovery }

pub record IsReplayed (b : Contents) : Type 0 where
  pub replayed : replay (setup_of b.opening) b.posted ≡ Some b.core
  pub lent : is_some b.core.wait ≡ true → b.core.definitions ≡ b.definitions
  pub unclosed : is_some b.core.wait ≡ true → b.core.closed ≡ false
  pub kernels : length b.core.kernels ≡ suc b.opening.kernels

pub record IsBook (o : Opening) (ps : List Posted) (c : Core) (d : Definitions) (terms : Terms) : Type 0 where
  pub replayed : replay (setup_of o) ps ≡ Some c
  pub lent : is_some c.wait ≡ true → c.definitions ≡ d
  pub unclosed : is_some c.wait ≡ true → c.closed ≡ false
  pub kernels : length c.kernels ≡ suc o.kernels
  pub named : known (setup_of o).names Builtin.Failed ≡ terms.failed
  pub listed : known (setup_of o).names Builtin.List ≡ terms.list

abbrev pub with_entry : Posted → Contents → Contents
with_entry p b = record b { posted = b.posted ++ p ∷ []; core = effect (setup_of b.opening) b.core p }

pub record IsEntered (p : Posted) (old new : Contents) : Type 0 where
  pub may : allowed (setup_of old.opening) old.core p ≡ true
  pub entered : new ≡ with_entry p old

-- after Close, and after a kernel's own loss
abbrev pub is_shut : Core → ℕ → Bool
is_shut c k = c.closed || (not (k == 0) && not (lives c k))

-- of a kernel that is not shut: kernel 0, or a kernel whose turn it is, may post; it is inside an attempt, or the master outside a wait
abbrev pub MayPost : Core → ℕ → Type 0
MayPost c k = is_shut c k ≡ false → ((k == 0) || may_post c) ≡ true

abbrev pub IsInside : Core → ℕ → Type 0
IsInside c k = is_shut c k ≡ false → in_evaluation c k ≡ true

abbrev pub first_take : Setup → Core → ℕ → Option ℕ
first_take set c k = elim (is_some c.wait && may_take set c k) [ true ↦ first_for 1 c.items k | false ↦ None ]

abbrev pub TakeRefused : Setup → Core → ℕ → TakeNo → Type 0
TakeRefused set c k TakeNo.Closed = is_shut c k ≡ true
TakeRefused set c k TakeNo.Idle = (is_shut c k ≡ false) × (first_take set c k ≡ None)
TakeRefused set c k TakeNo.NoMemory = is_shut c k ≡ false

abbrev pub Refused : Core → ℕ → No → Type 0
Refused c k No.Closed = is_shut c k ≡ true
Refused c k No.NoMemory = is_shut c k ≡ false

abbrev pub EnterRefused : Core → ℕ → List Sym → EnterNo → Type 0
EnterRefused c k ls (EnterNo.Held h) = (is_shut c k ≡ false) × (first_taken c ls ≡ Some h.lock) × (among h.lock (locks_of c h.by) ≡ true)
EnterRefused c k ls EnterNo.Closed = is_shut c k ≡ true
EnterRefused c k ls EnterNo.NoMemory = is_shut c k ≡ false

abbrev pub WaitRefused : Names → Core → WaitNo → Type 0
WaitRefused names c (WaitNo.NotYet u) = (condition_holds names c ≡ false) × IsUnmet c u
WaitRefused names c WaitNo.NoMemory = Unit {0}
