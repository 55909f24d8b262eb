-- Putting in place: runs of expressions in the place of symbols.
--     Binders               the symbols that the rule looks for, a record of the program
--     Binding               a list of pairs of a symbol and a run
--     value_of              the run that a binding has for a symbol
--     bound_in              the symbols that an expression with this head and these items binds: Module, With and Function do, where their shape is right
--     without               a binding without these symbols
--     as_one                a run as one expression: a run of one stands for its element, another run for Sequence of it
--     put_in_place          an expression with the runs of a binding put in
use Rattle.std.specs.Prelude.{List, [], ◌∷◌, Bool, false, ◌||◌, Option, Some, None, unwrap_or, if◌then◌else◌}
use Rattle.expr_tree.specs.declared.sym.Sym.{Sym}
use Rattle.expr_tree.specs.declared.binders.Binders.{Binders}
use Rattle.expr_tree.specs.Same.{symbol_eq}
use Rattle.expr_tree.specs.Shapes.{pair_under, elements_under}
use Rattle.expr_tree.specs.Tree.{Tree, Trees, integer, string, symbol, normal, nil, cons, elements, call}

abbrev pub Binding : Type 0
Binding = List (Sym × List Tree)

abbrev pub value_of : Binding → Sym → Option (List Tree)
value_of [] s = None
value_of (b ∷ bs) s = if symbol_eq b.0 s then Some b.1 else value_of bs s

abbrev pub among : Sym → List Sym → Bool
among s [] = false
among s (t ∷ ts) = symbol_eq s t || among s ts

-- an expression that is a symbol binds it
abbrev pub symbol_in : Tree → List Sym
symbol_in (symbol s) = s ∷ []
symbol_in _ = []

abbrev pub plain_symbol : Tree → Option Sym
plain_symbol (symbol s) = Some s
plain_symbol _ = None

-- the symbol of `symbol = value`
abbrev pub valued_symbol : Binders → Tree → Option Sym
valued_symbol binders e = elim (pair_under binders.set e) [ None ↦ None | Some pair ↦ plain_symbol pair.0 ]

-- the symbol of a local: a symbol, or `symbol = value`
abbrev pub local_symbol : Binders → Tree → Option Sym
local_symbol binders e = elim (pair_under binders.set e) [ None ↦ plain_symbol e | Some pair ↦ plain_symbol pair.0 ]

-- the symbols of the members of a list, where each of them has one
abbrev pub symbols_by : (Tree → Option Sym) → List Tree → Option (List Sym)
symbols_by member [] = Some []
symbols_by member (e ∷ es) =
    elim (member e) [ None ↦ None | Some s ↦ elim (symbols_by member es) [ None ↦ None | Some ss ↦ Some (s ∷ ss) ] ]

-- a list in which some member has no symbol binds nothing
abbrev pub bound_by : (Tree → Option Sym) → List Tree → List Sym
bound_by member es = unwrap_or (symbols_by member es) []

-- Module and With of two items bind the members of the List that is the first of them
abbrev pub bound_locals : Binders → (Tree → Option Sym) → List Tree → List Sym
bound_locals binders member (x ∷ y ∷ []) = elim (elements_under binders.list x) [ None ↦ [] | Some es ↦ bound_by member es ]
bound_locals binders member _ = []

-- Function of two items binds the first of them, or the members of the List that it is
abbrev pub bound_parameters : Binders → List Tree → List Sym
bound_parameters binders (x ∷ y ∷ []) = elim (elements_under binders.list x) [ None ↦ symbol_in x | Some es ↦ bound_by plain_symbol es ]
bound_parameters binders _ = []

-- the members of a Module are locals, those of a With have a value, those of a Function are symbols
abbrev pub bound_under : Binders → Sym → List Tree → List Sym
bound_under binders s es =
    if symbol_eq s binders.module then bound_locals binders (local_symbol binders) es
    else if symbol_eq s binders.with then bound_locals binders (valued_symbol binders) es
    else if symbol_eq s binders.function then bound_parameters binders es
    else []

abbrev pub bound_in : Binders → Tree → List Tree → List Sym
bound_in binders (symbol s) es = bound_under binders s es
bound_in binders _ es = []

abbrev pub without : List Sym → Binding → Binding
without ss [] = []
without ss (b ∷ bs) = if among b.0 ss then without ss bs else b ∷ without ss bs

abbrev pub as_one : Sym → List Tree → Tree
as_one sequence (e ∷ []) = e
as_one sequence run = call (symbol sequence) run

abbrev pub value_or_symbol : Sym → Sym → Option (List Tree) → Tree
value_or_symbol sequence s None = symbol s
value_or_symbol sequence s (Some run) = as_one sequence run

-- what an inner Module, With or Function binds is put in nowhere in it, its head and its initial values included
abbrev mutual
  pub put_in_place : Binders → Binding → Tree → Tree
  put_in_place binders b (integer n) = integer n
  put_in_place binders b (string t) = string t
  put_in_place binders b (symbol s) = value_or_symbol binders.sequence s (value_of b s)
  put_in_place binders b (normal h es) =
      normal (put_in_place binders (without (bound_in binders h (elements es)) b) h)
      (put_in_items binders (without (bound_in binders h (elements es)) b) es)

  pub put_in_items : Binders → Binding → Trees → Trees
  put_in_items binders b nil = nil
  put_in_items binders b (cons e es) = cons (put_in_place binders b e) (put_in_items binders b es)
