-- What an assignment is attached to, and why one is refused.
--     Form, Place                the six forms; own value, down rules, up rules
--     inner                      the left side without Condition and HoldPattern round it
--     places                     the symbols that an assignment is attached to, with the place
--     refusal                    the first cause for which an assignment is refused
use Rattle.std.specs.Prelude.{List, [], ◌∷◌, ◌++◌, Bool, true, false, ◌&&◌, ◌||◌, not, Option, Some, None}
use Rattle.expr_tree.specs.declared.sym.Sym.{Sym}
use Rattle.expr_tree.specs.Tree.{Tree, integer, string, symbol, normal, Trees, nil, cons}
use Rattle.semantics.specs.declared.builtin.Builtin.{Builtin}
use Rattle.semantics.specs.Names.{Names, is_name, is_call, items_of}
use Rattle.expr_tree.specs.Order.{same_symbol}
use Rattle.expr_tree.specs.Shapes.{symbol_of}
use Rattle.expr_tree.specs.Substitution.{among}
use Rattle.semantics.specs.Rule.{insert}
use Rattle.semantics.specs.Definitions.{Definition}

pub data Form : Type 0 where
  ToHead : Form
  ToItems : Form
  ToTag : Sym → Form

pub data Place : Type 0 where
  Own Down Up : Place

pub record Target : Type 0 where
  pub symbol : Sym
  pub place : Place

pub data Why : Type 0 where
  IsProtected : Sym → Why
  NoSymbol Nested NoTag : Why

abbrev pub is_wrapper : Names → Tree → Trees → Bool
is_wrapper names h nil = false
is_wrapper names h (cons p nil) = is_name names Builtin.HoldPattern h
is_wrapper names h (cons p (cons c nil)) = is_name names Builtin.Condition h
is_wrapper names h (cons p (cons c (cons x xs))) = false

-- Condition[p, c] and HoldPattern[p], also inside one another, stand for p
abbrev mutual
  pub inner : Names → Tree → Tree
  inner names (integer n) = integer n
  inner names (string t) = string t
  inner names (symbol s) = symbol s
  inner names (normal h es) = elim (is_wrapper names h es) [ true ↦ inner_first names h es | false ↦ normal h es ]

  pub inner_first : Names → Tree → Trees → Tree
  inner_first names h nil = normal h nil
  inner_first names h (cons p es) = inner names p

-- symbols with one more, where there is one and it does not stand there
abbrev pub add_symbol : Option Sym → List Sym → List Sym
add_symbol None ss = ss
add_symbol (Some s) ss = elim (among s ss) [ true ↦ ss | false ↦ ss ++ s ∷ [] ]

-- the symbols of the items, each once, from left to right
abbrev pub item_symbols : List Tree → List Sym → List Sym
item_symbols [] ss = ss
item_symbols (e ∷ es) ss = item_symbols es (add_symbol (symbol_of e) ss)

-- the symbols to which a rule with this left side may be attached: that of its head, and those of its items
abbrev pub symbols_at : Tree → List Sym
symbols_at left = item_symbols (items_of left) (add_symbol (symbol_of left) [])

abbrev pub all_at : Place → List Sym → List Target
all_at place [] = []
all_at place (s ∷ ss) = record { symbol = s; place = place } ∷ all_at place ss

abbrev pub at_head : Option Sym → List Target
at_head None = []
at_head (Some s) = record { symbol = s; place = Down } ∷ []

abbrev pub is_that : Sym → Option Sym → Bool
is_that t None = false
is_that t (Some s) = same_symbol t s

-- where a tag stands: at the head, or as the symbol of an item
abbrev pub tag_place : Sym → Tree → List Target
tag_place t p =
    elim (is_that t (symbol_of p)) [
      | true ↦ elim p [ normal h es ↦ record { symbol = t; place = Down } ∷ [] | _ ↦ [] ]
      | false ↦ elim (among t (item_symbols (items_of p) [])) [ true ↦ record { symbol = t; place = Up } ∷ [] | false ↦ [] ]
    ]

abbrev pub places_in : Form → Tree → List Target
places_in ToHead (symbol s) = record { symbol = s; place = Own } ∷ []
places_in ToHead p = at_head (symbol_of p)
places_in ToItems p = all_at Up (item_symbols (items_of p) [])
places_in (ToTag t) p = tag_place t p

abbrev pub places : Names → Form → Tree → List Target
places names form left = places_in form (inner names left)

-- the symbols of which none may be protected; a tag counts also where it does not occur
abbrev pub asked_symbols : Form → List Target → List Sym
asked_symbols (ToTag t) targets = t ∷ []
asked_symbols _ [] = []
asked_symbols form (t ∷ ts) = t.symbol ∷ asked_symbols form ts

abbrev pub is_normal : Tree → Bool
is_normal (normal h es) = true
is_normal _ = false

-- f[x][y], a Part or a List
abbrev pub is_nested : Names → Tree → Bool
is_nested names (normal (normal h es) fs) = true
is_nested names e = is_call names Builtin.Part e || is_call names Builtin.List e

abbrev pub has_wrapping : Names → Tree → Bool
has_wrapping names (normal h es) = is_wrapper names h es
has_wrapping names _ = false

abbrev pub has_no_symbol : Names → Form → Tree → Bool
has_no_symbol names form left =
    elim (has_wrapping names left && not (is_normal (inner names left))) [
      | true ↦ true
      | false ↦ elim form [
        | ToHead ↦ elim (places names ToHead left) [ [] ↦ true | _ ↦ false ]
        | ToItems ↦ elim (places names ToItems left) [ [] ↦ true | _ ↦ false ]
        | ToTag t ↦ elim (symbols_at (inner names left)) [ [] ↦ true | _ ↦ false ]
      ]
    ]

abbrev pub first_protected : (Sym → Bool) → List Sym → Option Sym
first_protected protected [] = None
first_protected protected (s ∷ ss) = elim (protected s) [ true ↦ Some s | false ↦ first_protected protected ss ]

-- the first cause: a protected symbol, the first of them; no symbol to attach to; a nested left side, a Part or a List; a tag that does not occur
abbrev pub refusal : Names → (Sym → Bool) → Form → Tree → Option Why
refusal names protected form left =
    let targets = places names form left in
    elim (first_protected protected (asked_symbols form targets)) [
      | Some s ↦ Some (IsProtected s)
      | None ↦ elim (has_no_symbol names form left) [
        | true ↦ Some NoSymbol
        | false ↦ elim (is_nested names (inner names left)) [
          | true ↦ Some Nested
          | false ↦ elim targets [ [] ↦ Some NoTag | _ ↦ None ]
        ]
      ]
    ]

-- a definition with a value or rule attached
abbrev pub attached : Names → Place → Tree → Tree → Definition → Definition
attached names Own left right d = record d { own = Some right }
attached names Down left right d = record d { downs = insert names (record { left = left; right = right }) d.downs }
attached names Up left right d = record d { ups = insert names (record { left = left; right = right }) d.ups }
