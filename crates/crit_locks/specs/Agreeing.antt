-- Locks that are held as a core says.
--     AgreesWith            each kernel holds the locks that it holds in the core
--     AreFreeAlike          then the locks of which none is held are the free ones of the core
use Rattle.std.specs.Prelude.{◌≡◌, ℕ, List, is_none}
use Rattle.expr_tree.specs.declared.sym.Sym.{Sym}
use Rattle.journal.specs.Core.{Core, locks_of, all_free}
use Rattle.crit_locks.specs.declared.held.Held.{Held}
use Rattle.crit_locks.specs.Holdings.{locks_by, first_held}

abbrev pub AgreesWith : Core → List Held → Type 0
AgreesWith c hs = (k : ℕ) → locks_by k hs ≡ locks_of c k

abbrev pub AreFreeAlike : Type 0
AreFreeAlike = (c : Core) (hs : List Held) (ls : List Sym) → AgreesWith c hs → all_free c ls ≡ is_none (first_held hs ls)
