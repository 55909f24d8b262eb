-- The names that an evaluation goes by: which base is which row of the built-in table.
--     Names, IsNames        two functions, from rows to bases and back; that they agree
--     name, make            the symbol of a row, and row[items]
--     is_name, is_call      whether an expression is the row's symbol, or row[..]
--     role_of               the row of a symbol, if it is one
use Rattle.std.specs.Prelude.{◌≡◌, ℕ, List, [], Bool, true, false, ◌&&◌, ◌==◌, Option, Some, None}
use Rattle.expr_tree.specs.declared.sym.Sym.{Sym}
use Rattle.expr_tree.specs.Tree.{Tree, symbol, normal, elements, call}
use Rattle.semantics.specs.declared.builtin.Builtin.{Builtin}

-- `place` is the base of a row's name, and `role` the row that a base is the name of
pub record Names : Type 0 where
  pub place : Builtin → ℕ
  pub role : ℕ → Option Builtin

-- each row is found at the place of its name, and no other base is a row
pub record IsNames (names : Names) : Type 0 where
  pub found : (row : Builtin) → names.role (names.place row) ≡ Some row
  pub only : (base : ℕ) (row : Builtin) → names.role base ≡ Some row → names.place row ≡ base

abbrev pub known : Names → Builtin → Sym
known names row = record { base = names.place row; number = 0 }

-- the symbol of a row as an expression
abbrev pub name : Names → Builtin → Tree
name names row = symbol (known names row)

abbrev pub is_known : Names → Builtin → Sym → Bool
is_known names row s = (s.number == 0) && (s.base == names.place row)

-- whether e is the row's symbol
abbrev pub is_name : Names → Builtin → Tree → Bool
is_name names row (symbol s) = is_known names row s
is_name names row _ = false

-- whether e is row[..]
abbrev pub is_call : Names → Builtin → Tree → Bool
is_call names row (normal (symbol s) es) = is_known names row s
is_call names row _ = false

abbrev pub head_of : Tree → Option Tree
head_of (normal h es) = Some h
head_of _ = None

-- the items of a normal expression; an atom has none
abbrev pub items_of : Tree → List Tree
items_of (normal h es) = elements es
items_of _ = []

-- the row of a symbol, if it is one
abbrev pub role_of : Names → Sym → Option Builtin
role_of names s = elim (s.number == 0) [ true ↦ names.role s.base | false ↦ None ]

-- row[items]
abbrev pub make : Names → Builtin → List Tree → Tree
make names row items = call (name names row) items

abbrev pub truth : Names → Bool → Tree
truth names true = name names Builtin.True
truth names false = name names Builtin.False
