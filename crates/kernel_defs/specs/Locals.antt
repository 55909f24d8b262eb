-- Locals that are put by, one after another, and put back.
--     without               definitions without the entry of a symbol
--     linked                definitions with an entry that was taken out
--     or_first              what an entry says, or the first definition where there is none
--     saved_along           the entries of the locals, each as the one before it left them
--     restored              definitions with these entries again, the last first
use Rattle.std.specs.Prelude.{List, [], ◌∷◌, Option, Some, None}
use Rattle.expr_tree.specs.declared.sym.Sym.{Sym}
use Rattle.semantics.specs.Names.{Names}
use Rattle.semantics.specs.Definitions.{Definition, Definitions, look_up, drop_entry, add_entry, first_definition, put}
use Rattle.semantics.specs.Program.{Local}
use Rattle.semantics.specs.Play.{local_definition}

abbrev pub without : Definitions → Sym → Definitions
without d s = record d { entries = drop_entry d.entries s }

abbrev pub linked : Sym × Option Definition → Definitions → Definitions
linked e d = elim e.1 [ None ↦ d | Some x ↦ record d { entries = add_entry d.entries e.0 x } ]

abbrev pub or_first : Names → Sym → Option Definition → Definition
or_first names s o = elim o [ None ↦ first_definition names s | Some definition ↦ definition ]

abbrev pub saved_along : Names → List Local → Definitions → List (Sym × Option Definition)
saved_along names [] d = []
saved_along names (l ∷ ls) d = (l.symbol, look_up d.entries l.symbol) ∷ saved_along names ls (put names d l.symbol (local_definition l))

abbrev pub restored : Names → List (Sym × Option Definition) → Definitions → Definitions
restored names [] d = d
restored names (e ∷ es) d = put names (restored names es d) e.0 (or_first names e.0 e.1)
