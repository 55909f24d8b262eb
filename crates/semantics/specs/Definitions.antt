-- What an evaluation knows of symbols.
--     Definition             attributes, own value, down rules and up rules of one symbol
--     Definitions            the definitions that differ from the first ones, the shared symbols, the symbols named to DistributeDefinitions, the module number
--     empty                  nothing but the attributes of the built-in table
--     definition_of, put     the definition of a symbol; definitions with another one for a symbol
use Rattle.std.specs.Prelude.{ℕ, List, [], ◌∷◌, Bool, true, false, ◌&&◌, ◌==◌, Option, Some, None, is_none}
use Rattle.std.specs.declared.cmp.Ordering.TheVariants.{Less}
use Rattle.expr_tree.specs.declared.sym.Sym.{Sym}
use Rattle.expr_tree.specs.Tree.{Tree}
use Rattle.expr_tree.specs.Order.{symbol_cmp, same_symbol}
use Rattle.semantics.specs.declared.builtin.Builtin.{Builtin}
use Rattle.semantics.specs.Builtin.{row_number, first_attributes}
use Rattle.semantics.specs.Names.{Names, role_of}
use Rattle.semantics.specs.Rule.{Rule}

-- attribute names, in the table's order and without repeats
abbrev pub Attributes : Type 0
Attributes = List Builtin

abbrev pub has : Builtin → Attributes → Bool
has a [] = false
has a (b ∷ bs) = elim (row_number a == row_number b) [ true ↦ true | false ↦ has a bs ]

abbrev pub same_attributes : Attributes → Attributes → Bool
same_attributes [] [] = true
same_attributes (a ∷ as') (b ∷ bs) = elim (row_number a == row_number b) [ true ↦ same_attributes as' bs | false ↦ false ]
same_attributes _ _ = false

pub record Definition : Type 0 where
  pub attributes : Attributes
  pub own : Option Tree
  pub downs : List Rule
  pub ups : List Rule

pub data Share : Type 0 where
  Variable Function : Share

pub record Shared : Type 0 where
  pub symbol : Sym
  pub kind : Share
  pub attributes : Attributes

pub record Definitions : Type 0 where
  pub entries : List (Sym × Definition)
  pub shared : List Shared
  pub named : List Sym
  pub module_number : ℕ

abbrev pub empty : Definitions
empty = record { entries = []; shared = []; named = []; module_number = 1 }

-- what a symbol has at the start
abbrev pub first_definition : Names → Sym → Definition
first_definition names s =
    record {
      attributes = elim (role_of names s) [ None ↦ [] | Some row ↦ first_attributes row ];
      own = None;
      downs = [];
      ups = [];
    }

abbrev pub is_empty : {A : Type 0} → List A → Bool
is_empty [] = true
is_empty (x ∷ xs) = false

abbrev pub is_first : Names → Sym → Definition → Bool
is_first names s definition =
    is_none definition.own && (is_empty definition.downs && (is_empty definition.ups && same_attributes definition.attributes (first_definition names s).attributes))

abbrev pub look_up : List (Sym × Definition) → Sym → Option Definition
look_up [] s = None
look_up (e ∷ es) s = elim (same_symbol e.0 s) [ true ↦ Some e.1 | false ↦ look_up es s ]

abbrev pub drop_entry : List (Sym × Definition) → Sym → List (Sym × Definition)
drop_entry [] s = []
drop_entry (e ∷ es) s = elim (same_symbol e.0 s) [ true ↦ drop_entry es s | false ↦ e ∷ drop_entry es s ]

abbrev pub add_entry : List (Sym × Definition) → Sym → Definition → List (Sym × Definition)
add_entry [] s definition = (s, definition) ∷ []
add_entry (e ∷ es) s definition = elim (symbol_cmp s e.0) [ Less ↦ (s, definition) ∷ e ∷ es | _ ↦ e ∷ add_entry es s definition ]

-- the shared kind and attributes of a symbol, if it is shared
abbrev pub shared_as : List Shared → Sym → Option Shared
shared_as [] s = None
shared_as (e ∷ es) s = elim (same_symbol e.symbol s) [ true ↦ Some e | false ↦ shared_as es s ]

abbrev pub stored : Names → Definitions → Sym → Definition
stored names d s = elim (look_up d.entries s) [ None ↦ first_definition names s | Some definition ↦ definition ]

-- the attributes of a shared symbol are those that the list of shared symbols has for it
abbrev pub definition_of : Names → Definitions → Sym → Definition
definition_of names d s =
    let definition = stored names d s in
    elim (shared_as d.shared s) [ None ↦ definition | Some e ↦ record definition { attributes = e.attributes } ]

-- entries stand in the order of the symbols; one that says no more than the first definition is left out
abbrev pub put : Names → Definitions → Sym → Definition → Definitions
put names d s definition =
    record d {
      entries = elim (is_first names s definition) [ true ↦ drop_entry d.entries s | false ↦ add_entry (drop_entry d.entries s) s definition ];
    }
