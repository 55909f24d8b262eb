-- What is kept of symbols that are put by.
--     saved_in              each symbol, with the definition of its entry, if it had one
use Rattle.std.specs.Prelude.{List, map, Option, Some, None}
use Rattle.expr_tree.specs.declared.sym.Sym.{Sym}
use Rattle.semantics.specs.Definitions as d
use Rattle.kernel_defs.specs.Definition.{definition_of}
use Rattle.kernel_defs.specs.declared.saved.Piece.{Piece}
use Rattle.kernel_defs.specs.declared.saved.Piece.TheVariants.{Kept, Absent}
use Rattle.kernel_defs.specs.declared.saved.Saved.{Saved}

abbrev pub piece_of : Piece → Sym × Option d.Definition
piece_of (Kept e) = (e.value.symbol, Some (definition_of e.value.definition))
piece_of (Absent s) = (s, None)

abbrev pub saved_in : Saved → List (Sym × Option d.Definition)
saved_in s = map piece_of s.pieces.items
