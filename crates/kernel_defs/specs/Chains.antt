-- What the program keeps as entries.
--     entry_of              an entry: a symbol with its definition
--     listed                the entries of a chain
--     behind                entries behind others that were taken off one after the other
--     without_first         entries without the first one of a symbol
use Rattle.std.specs.Prelude.{List, [], ◌∷◌, true, false}
use Rattle.expr_tree.specs.declared.sym.Sym.{Sym}
use Rattle.expr_tree.specs.Order.{same_symbol}
use Rattle.semantics.specs.Definitions as d
use Rattle.kernel_defs.specs.Definition.{definition_of}
use Rattle.kernel_defs.specs.declared.chain.Chain.{Chain}
use Rattle.kernel_defs.specs.declared.chain.Chain.TheVariants.{End, Link'}
use Rattle.kernel_defs.specs.declared.chain.Entry.{Entry}

abbrev pub entry_of : Entry → Sym × d.Definition
entry_of e = (e.symbol, definition_of e.definition)

abbrev pub listed : Chain → List (Sym × d.Definition)
listed End = []
listed (Link' p symbol definition rest) = (symbol, definition_of definition) ∷ listed rest

abbrev pub behind : List (Sym × d.Definition) → List (Sym × d.Definition) → List (Sym × d.Definition)
behind [] es = es
behind (p ∷ ps) es = behind ps (p ∷ es)

abbrev pub without_first : List (Sym × d.Definition) → Sym → List (Sym × d.Definition)
without_first [] s = []
without_first (e ∷ es) s = elim (same_symbol e.0 s) [ true ↦ es | false ↦ e ∷ without_first es s ]
