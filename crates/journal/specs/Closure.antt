-- What an item takes with it: the definitions on a closed set of symbols.
--     symbols_of             the symbols that stand in an expression, a rule, a definition
--     InClosure              the least set that holds the seeds, the symbols named to DistributeDefinitions, and those of every definition in it
--     Reach, reaches         a set of symbols, which may hold all names of the built-in table; its members
--     closure                the same set, computed; the names of the table come in all together
--     bundle, install        the definitions on it; a kernel's definitions with a bundle put in the place of what it had there
use Rattle.std.specs.Prelude.{◌≡◌, ℕ, zero, suc, List, [], ◌∷◌, ◌++◌, map, length, Bool, true, false, ◌&&◌, ◌||◌, not, Option, Some, None}
use Rattle.std.specs.declared.cmp.Ordering.TheVariants.{Less, Equal, Greater}
use Rattle.expr_tree.specs.declared.sym.Sym.{Sym}
use Rattle.expr_tree.specs.Tree.{Tree, integer, string, symbol, normal, Trees, nil, cons}
use Rattle.expr_tree.specs.Order.{symbol_cmp}
use Rattle.semantics.specs.Builtin.{rows}
use Rattle.semantics.specs.Names.{Names, known, role_of}
use Rattle.expr_tree.specs.Substitution.{among}
use Rattle.semantics.specs.Rule.{Rule}
use Rattle.semantics.specs.Definitions.{Definition, Definitions, Shared, shared_as, look_up, add_entry}
use Rattle.journal.specs.Places.{is_some}

-- the symbols of an expression, from left to right
abbrev mutual
  pub symbols_of : Tree → List Sym
  symbols_of (integer n) = []
  symbols_of (string t) = []
  symbols_of (symbol s) = s ∷ []
  symbols_of (normal h es) = symbols_of h ++ symbols_of_items es

  pub symbols_of_items : Trees → List Sym
  symbols_of_items nil = []
  symbols_of_items (cons e es) = symbols_of e ++ symbols_of_items es

abbrev pub symbols_of_all : List Tree → List Sym
symbols_of_all [] = []
symbols_of_all (e ∷ es) = symbols_of e ++ symbols_of_all es

abbrev pub symbols_of_rules : List Rule → List Sym
symbols_of_rules [] = []
symbols_of_rules (r ∷ rs) = symbols_of r.left ++ (symbols_of r.right ++ symbols_of_rules rs)

abbrev pub symbols_of_own : Option Tree → List Sym
symbols_of_own None = []
symbols_of_own (Some e) = symbols_of e

abbrev pub symbols_of_definition : Definition → List Sym
symbols_of_definition d = symbols_of_own d.own ++ (symbols_of_rules d.downs ++ symbols_of_rules d.ups)

abbrev pub is_row : Names → Sym → Bool
is_row names s = is_some (role_of names s)

abbrev pub has_row : Names → List Sym → Bool
has_row names [] = false
has_row names (s ∷ ss) = is_row names s || has_row names ss

abbrev pub is_shared : Definitions → Sym → Bool
is_shared d s = is_some (shared_as d.shared s)

-- the symbols that stand in what is stored for s
abbrev pub stored_symbols : Definitions → Sym → List Sym
stored_symbols d s = elim (look_up d.entries s) [ None ↦ [] | Some definition ↦ symbols_of_definition definition ]

-- the least closed set. The definition of a shared symbol is not followed, and attributes are no symbols of a definition
pub data InClosure (names : Names) (d : Definitions) (seeds : List Sym) : Sym → Type 0 where
  seed : (s : Sym) → among s seeds ≡ true → InClosure names d seeds s
  named : (s : Sym) → among s d.named ≡ true → InClosure names d seeds s
  -- a symbol of the definition of one in the set
  followed : (s t : Sym) → InClosure names d seeds s → is_shared d s ≡ false → among t (stored_symbols d s) ≡ true → InClosure names d seeds t
  -- one name of the table brings in all of them
  table : (s t : Sym) → InClosure names d seeds s → is_shared d s ≡ false → is_row names s ≡ true → is_row names t ≡ true → InClosure names d seeds t

-- a set of symbols: some, in order and without repeats, and, where `table` says so, all names of the table
pub record Reach : Type 0 where
  pub symbols : List Sym
  pub table : Bool

abbrev pub reaches : Names → Reach → Sym → Bool
reaches names r s = elim (among s r.symbols) [ true ↦ true | false ↦ r.table && is_row names s ]

abbrev pub put_symbol : Sym → List Sym → List Sym
put_symbol s [] = s ∷ []
put_symbol s (t ∷ ts) = elim (symbol_cmp s t) [ Less ↦ s ∷ t ∷ ts | Equal ↦ t ∷ ts | Greater ↦ t ∷ put_symbol s ts ]

abbrev pub put_symbols : List Sym → List Sym → List Sym
put_symbols [] set = set
put_symbols (s ∷ ss) set = put_symbols ss (put_symbol s set)

-- a name of the table that is not shared brings in all of them
abbrev pub opens_table : Names → Definitions → List Sym → Bool
opens_table names d [] = false
opens_table names d (s ∷ ss) = (is_row names s && not (is_shared d s)) || opens_table names d ss

-- the set with these symbols
abbrev pub reach_of : Names → Definitions → Reach → List Sym → Reach
reach_of names d r ss = record { symbols = put_symbols ss r.symbols; table = r.table || opens_table names d ss }

abbrev pub is_followed : Names → Definitions → Reach → Sym → Bool
is_followed names d r s = reaches names r s && not (is_shared d s)

abbrev pub set_aside : Sym → Option (Sym × List Sym) → Option (Sym × List Sym)
set_aside s None = None
set_aside s (Some p) = Some (p.0, s ∷ p.1)

-- the first of these symbols whose definition has to be followed, and the others
abbrev pub next_followed : Names → Definitions → Reach → List Sym → Option (Sym × List Sym)
next_followed names d r [] = None
next_followed names d r (s ∷ ss) = elim (is_followed names d r s) [ true ↦ Some (s, ss) | false ↦ set_aside s (next_followed names d r ss) ]

-- the definition of each of these symbols is followed at most once, so there are no more turns than symbols
abbrev pub grown : ℕ → Names → Definitions → List Sym → Reach → Reach
grown zero names d ss r = r
grown (suc n) names d ss r = elim (next_followed names d r ss) [ None ↦ r | Some p ↦ grown n names d p.1 (reach_of names d r (stored_symbols d p.0)) ]

-- the symbols that have a definition of their own
abbrev pub defined : Definitions → List Sym
defined d = map (λ e. e.0) d.entries

abbrev pub nothing_reached : Reach
nothing_reached = record { symbols = []; table = false }

abbrev pub closure : Names → Definitions → List Sym → Reach
closure names d seeds = grown (length (defined d)) names d (defined d) (reach_of names d nothing_reached (seeds ++ d.named))

-- its members in order
abbrev pub members : Names → Reach → List Sym
members names r = elim r.table [ true ↦ put_symbols (map (known names) rows) r.symbols | false ↦ r.symbols ]

-- the definitions on a set; a symbol of it without an entry has its first definition
pub record Bundle : Type 0 where
  pub reach : Reach
  pub entries : List (Sym × Definition)
  pub shared : List Shared
  pub module_number : ℕ

abbrev pub inside : Names → Reach → List (Sym × Definition) → List (Sym × Definition)
inside names r [] = []
inside names r (e ∷ es) = elim (reaches names r e.0) [ true ↦ e ∷ inside names r es | false ↦ inside names r es ]

abbrev pub outside : Names → Reach → List (Sym × Definition) → List (Sym × Definition)
outside names r [] = []
outside names r (e ∷ es) = elim (reaches names r e.0) [ true ↦ outside names r es | false ↦ e ∷ outside names r es ]

-- shared symbols have no definition in a bundle
abbrev pub unshared : Definitions → List (Sym × Definition) → List (Sym × Definition)
unshared d [] = []
unshared d (e ∷ es) = elim (is_shared d e.0) [ true ↦ unshared d es | false ↦ e ∷ unshared d es ]

abbrev pub bundle : Names → Definitions → List Sym → Bundle
bundle names d seeds =
    let r = closure names d seeds in
    record { reach = r; entries = unshared d (inside names r d.entries); shared = d.shared; module_number = d.module_number }

abbrev pub with_entries : List (Sym × Definition) → List (Sym × Definition) → List (Sym × Definition)
with_entries [] es = es
with_entries (n ∷ ns) es = with_entries ns (add_entry es n.0 n.1)

-- d with these three replaced
abbrev pub install : Names → Definitions → Bundle → Definitions
install names d b =
    record d {
      entries = with_entries b.entries (outside names b.reach d.entries);
      shared = b.shared;
      module_number = b.module_number;
    }
