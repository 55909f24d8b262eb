-- The search for the symbols of a closure, step by step. No public contract cites these words.
--     Search                the symbols found, in order; those of them that are not followed yet; whether a name of the table was followed
--     found                 the set of what is found
--     added, added_all      a symbol, or several, found
--     followed              what is stored for some symbols found, but for shared ones
--     turn                  a symbol followed: a name of the table stands for all of them
use Rattle.std.specs.Prelude.{List, [], ◌∷◌, ◌++◌, Bool, true, false, map}
use Rattle.expr_tree.specs.declared.sym.Sym.{Sym}
use Rattle.expr_tree.specs.Substitution.{among}
use Rattle.semantics.specs.Builtin.{rows}
use Rattle.semantics.specs.Names.{Names, known}
use Rattle.semantics.specs.Definitions.{Definitions}
use Rattle.journal.specs.Closure.{Reach, put_symbol, is_row, is_shared, stored_symbols}

pub record Search : Type 0 where
  pub symbols : List Sym
  pub waiting : List Sym
  pub table : Bool

abbrev pub nothing : Search
nothing = record { symbols = []; waiting = []; table = false }

abbrev pub found : Search → Reach
found x = record { symbols = x.symbols; table = x.table }

-- the symbol to be followed next is the last
abbrev pub added : Sym → Search → Search
added s x = elim (among s x.symbols) [ true ↦ x | false ↦ record x { symbols = put_symbol s x.symbols; waiting = x.waiting ++ s ∷ [] } ]

abbrev pub added_all : List Sym → Search → Search
added_all [] x = x
added_all (s ∷ ss) x = added_all ss (added s x)

abbrev pub stored_added : Definitions → Sym → Search → Search
stored_added d s x = elim (is_shared d s) [ true ↦ x | false ↦ added_all (stored_symbols d s) x ]

abbrev pub followed : Definitions → List Sym → Search → Search
followed d [] x = x
followed d (s ∷ ss) x = followed d ss (stored_added d s x)

abbrev pub row_symbols : Names → List Sym
row_symbols names = map (known names) rows

abbrev pub table_followed : Names → Definitions → Search → Search
table_followed names d x = elim x.table [ true ↦ x | false ↦ followed d (row_symbols names) (record x { table = true }) ]

abbrev pub turn : Names → Definitions → Sym → Search → Search
turn names d s x =
    elim (is_shared d s) [
      | true ↦ x
      | false ↦ elim (is_row names s) [ true ↦ table_followed names d x | false ↦ added_all (stored_symbols d s) x ]
    ]
