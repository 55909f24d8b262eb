-- What is posted. Waits, events, entries and items are types of the program; a journal is a list of entries.
--     Text                  a text
--     Handed, Posted        what the master hands in at an entry; an entry with that
use Rattle.std.specs.Prelude.{ℕ, List}
use Rattle.expr_tree.specs.declared.sym.Sym.{Sym}
use Rattle.semantics.specs.Definitions.{Definitions}
use Rattle.journal.specs.declared.event.Entry.{Entry}
use Rattle.journal.specs.declared.item.Item.{Item}
use Rattle.journal.specs.Closure.{Bundle}

-- a text is the list of its bytes
abbrev pub Text : Type 0
Text = List ℕ

-- at Submit the item with its bundle; at Yield the master's definitions; at Take the versions of definitions that the kernel holds, which
-- change nothing; and nothing elsewhere
pub data Handed : Type 0 where
  Nothing : Handed
  Given : Item → Bundle → Handed
  Lent : Definitions → Handed
  Held : List (Sym × ℕ) → Handed

pub record Posted : Type 0 where
  pub entry : Entry
  pub handed : Handed
