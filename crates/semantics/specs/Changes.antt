-- Assignment: the rows that change definitions, as programs.
--     assign                a value or rule attached to all its symbols, or $Failed
--     set, set_delayed, tag_set, tag_set_delayed      the six forms of assignment
--     unset                 an own value, or all rules with a left side, taken away
--     change                an expression made of the old value of a symbol is evaluated and becomes its new value
--     clear, clear_all, change_attributes, protect, attributes_row      the rows on one symbol
--     unless_item           a definition of a shared symbol that is no access is refused in an item
use Rattle.std.specs.Prelude.{ℤ, negsuc, List, [], ◌∷◌, map, Bool, true, false, ◌&&◌, ◌||◌, not, Option, Some, None, is_some}
use Rattle.expr_tree.specs.declared.sym.Sym.{Sym}
use Rattle.expr_tree.specs.Tree.{Tree, integer, symbol}
use Rattle.expr_tree.specs.Order.{same_symbol}
use Rattle.semantics.specs.declared.builtin.Builtin.{Builtin}
use Rattle.semantics.specs.Names.{Names, name, is_call, items_of, make, role_of}
use Rattle.semantics.specs.Steps.{ordered}
use Rattle.semantics.specs.Rule.{remove, has_left}
use Rattle.semantics.specs.Definitions.{Definition, Attributes, has}
use Rattle.semantics.specs.Program.{Prog, Done, Ask, Look, Put, Check, Moded, Item, Seen}
use Rattle.semantics.specs.Assign.{Form, ToTag, Target, places, refusal, asked_symbols, attached, inner, symbols_at}
use Rattle.semantics.specs.Assemble.{left_side}
use Rattle.semantics.specs.Control.{failed, null}

-- what is seen of several symbols
abbrev pub see_all : List Sym → (List (Sym × Seen) → Prog) → Prog
see_all [] k = k []
see_all (s ∷ ss) k = Look s (λ seen. see_all ss (λ rest. k ((s, seen) ∷ rest)))

abbrev pub is_protected : Definition → Bool
is_protected d = has Builtin.Protected d.attributes

abbrev pub protected_in : List (Sym × Seen) → Sym → Bool
protected_in [] s = false
protected_in (e ∷ es) s = elim (same_symbol e.0 s) [ true ↦ is_protected e.1.definition | false ↦ protected_in es s ]

abbrev pub any_shared : List (Sym × Seen) → Bool
any_shared [] = false
any_shared (e ∷ es) = is_some e.1.shared || any_shared es

-- a definition of a shared symbol that is no access: $Failed in mode Item, else an ordinary one
abbrev pub unless_item : Names → Bool → Prog → Prog
unless_item names false p = p
unless_item names true p = Moded (λ mode kernel. elim mode [ Item ↦ failed names | _ ↦ p ])

-- a use of a shared symbol that is the same in every mode
abbrev pub noting : Bool → Prog → Prog
noting false p = p
noting true p = Moded (λ mode kernel. p)

abbrev pub attach_all : Names → List Target → Tree → Tree → Prog → Prog
attach_all names [] left right p = p
attach_all names (t ∷ ts) left right p =
    Look t.symbol (λ seen. Put t.symbol (attached names t.place left right seen.definition) (attach_all names ts left right p))

-- whether something would be attached to a shared symbol; a tag that does not occur attaches nothing
abbrev pub attaches_shared : List Target → List (Sym × Seen) → Bool
attaches_shared [] seen = false
attaches_shared (t ∷ ts) seen = any_shared seen

-- left = right by one of the forms; the left side's items are evaluated
abbrev pub assign : Names → Form → Tree → Tree → Prog → Prog
assign names form left right p =
    see_all (asked_symbols form (places names form left)) (λ seen.
    unless_item names (attaches_shared (places names form left) seen) (elim (refusal names (protected_in seen) form left) [
      | None ↦ attach_all names (places names form left) left right p
      | Some why ↦ failed names
    ]))

abbrev pub set : Names → Form → Prog → List Tree → Prog
set names form stay (left ∷ right ∷ []) = left_side names left (λ l. assign names form l right (Done right))
set names form stay _ = stay

abbrev pub set_delayed : Names → Form → Prog → List Tree → Prog
set_delayed names form stay (left ∷ right ∷ []) = left_side names left (λ l. assign names form l right (null names))
set_delayed names form stay _ = stay

abbrev pub tag_set : Names → Prog → List Tree → Prog
tag_set names stay (symbol t ∷ left ∷ right ∷ []) = left_side names left (λ l. Ask right (λ v. assign names (ToTag t) l v (Done v)))
tag_set names stay _ = stay

abbrev pub tag_set_delayed : Names → Prog → List Tree → Prog
tag_set_delayed names stay (symbol t ∷ left ∷ right ∷ []) = left_side names left (λ l. assign names (ToTag t) l right (null names))
tag_set_delayed names stay _ = stay

-- the symbols that may hold something with this left side
abbrev pub holders : Names → Tree → List Sym
holders names left = symbols_at (inner names left)

abbrev pub holds : Tree → Definition → Bool
holds (symbol s) d = is_some d.own
holds left d = has_left left d.downs || has_left left d.ups

abbrev pub holding : Tree → List (Sym × Seen) → List (Sym × Seen)
holding left [] = []
holding left (e ∷ es) = elim (holds left e.1.definition) [ true ↦ e ∷ holding left es | false ↦ holding left es ]

abbrev pub any_protected : List (Sym × Seen) → Bool
any_protected [] = false
any_protected (e ∷ es) = is_protected e.1.definition || any_protected es

abbrev pub without_left : Tree → Definition → Definition
without_left (symbol s) d = record d { own = None }
without_left left d = record d { downs = remove left d.downs; ups = remove left d.ups }

abbrev pub take_away : Tree → List (Sym × Seen) → Prog → Prog
take_away left [] p = p
take_away left (e ∷ es) p = Put e.0 (without_left left e.1.definition) (take_away left es p)

abbrev pub unset_from : Names → Tree → List (Sym × Seen) → Prog
unset_from names left [] = failed names
unset_from names left (e ∷ es) = elim (any_protected (e ∷ es)) [ true ↦ failed names | false ↦ take_away left (e ∷ es) (null names) ]

abbrev pub unset : Names → Prog → List Tree → Prog
unset names stay (left ∷ []) =
    left_side names left (λ l. see_all (holders names l) (λ seen. unless_item names (any_shared seen) (unset_from names l (holding l seen))))
unset names stay _ = stay

-- an expression made of the old value of a symbol is evaluated and becomes its new value
-- the new value is assigned, where the symbol is not Protected when it is known
abbrev pub renew : Names → Sym → Tree → Tree → Definition → Prog
renew names s new given d = elim (is_protected d) [ true ↦ failed names | false ↦ Put s (record d { own = Some new }) (Done given) ]

abbrev pub change_own : Names → Sym → (Tree → Tree) → (Tree → Tree → Tree) → Definition → Prog
change_own names s next gives d =
    elim d.own [
      | None ↦ failed names
      | Some old ↦ Check (next old) (Ask (next old) (λ v. Look s (λ seen. noting (is_some seen.shared) (renew names s v (gives old v) seen.definition))))
    ]

abbrev pub change : Names → Sym → (Tree → Tree) → (Tree → Tree → Tree) → Prog
change names s next gives = Look s (λ seen. unless_item names (is_some seen.shared) (change_own names s next gives seen.definition))

abbrev pub old_value : Tree → Tree → Tree
old_value old new = old

abbrev pub new_value : Tree → Tree → Tree
new_value old new = new

abbrev pub plus_int : Names → ℤ → Tree → Tree
plus_int names n old = make names Builtin.Plus (old ∷ integer n ∷ [])

abbrev pub step_by : Names → ℤ → (Tree → Tree → Tree) → Prog → List Tree → Prog
step_by names n gives stay (symbol s ∷ []) = change names s (plus_int names n) gives
step_by names n gives stay _ = stay

-- row[old, x]
abbrev pub change_with : Names → Builtin → Prog → List Tree → Prog
change_with names row stay (symbol s ∷ x ∷ []) = change names s (λ old. make names row (old ∷ x ∷ [])) new_value
change_with names row stay _ = stay

abbrev pub subtract_from : Names → Prog → List Tree → Prog
subtract_from names stay (symbol s ∷ x ∷ []) =
    change names s (λ old. make names Builtin.Plus (old ∷ make names Builtin.Times (integer (negsuc 0) ∷ x ∷ []) ∷ [])) new_value
subtract_from names stay _ = stay

-- the row of the mode table that fails for a shared symbol in every mode
abbrev pub unless_shared_symbol : Names → Bool → Prog → Prog
unless_shared_symbol names false p = p
unless_shared_symbol names true p = Moded (λ mode kernel. failed names)

abbrev pub write : Names → Sym → (Definition → Definition) → Definition → Prog
write names s f d = elim (is_protected d) [ true ↦ failed names | false ↦ Put s (f d) (null names) ]

abbrev pub cleared : Definition → Definition
cleared d = record { attributes = d.attributes; own = None; downs = []; ups = [] }

abbrev pub nothing_left : Definition → Definition
nothing_left d = record { attributes = []; own = None; downs = []; ups = [] }

-- Clear of a shared function in an item clears the kernel's own rules of it, which are none
abbrev pub clear : Names → Prog → List Tree → Prog
clear names stay (symbol s ∷ []) = Look s (λ seen. noting (is_some seen.shared) (write names s cleared seen.definition))
clear names stay _ = stay

abbrev pub clear_all : Names → Prog → List Tree → Prog
clear_all names stay (symbol s ∷ []) = Look s (λ seen. unless_shared_symbol names (is_some seen.shared) (write names s nothing_left seen.definition))
clear_all names stay _ = stay

abbrev pub all_attributes : Attributes
all_attributes =
    Builtin.Flat ∷ Builtin.Orderless ∷ Builtin.Listable ∷ Builtin.HoldFirst ∷ Builtin.HoldRest ∷ Builtin.HoldAll ∷ Builtin.HoldAllComplete
    ∷ Builtin.SequenceHold ∷ Builtin.OneIdentity ∷ Builtin.Protected ∷ []

-- the attributes of the table's order that pass a test
abbrev pub those : (Builtin → Bool) → Attributes → Attributes
those test [] = []
those test (a ∷ as') = elim (test a) [ true ↦ a ∷ those test as' | false ↦ those test as' ]

abbrev pub with_attributes : Attributes → Definition → Definition
with_attributes new d = record d { attributes = those (λ a. has a new || has a d.attributes) all_attributes }

abbrev pub without_attributes : Attributes → Definition → Definition
without_attributes old d = record d { attributes = those (λ a. has a d.attributes && not (has a old)) all_attributes }

abbrev pub attribute_name : Names → Tree → Option Builtin
attribute_name names (symbol s) = elim (role_of names s) [ None ↦ None | Some row ↦ elim (has row all_attributes) [ true ↦ Some row | false ↦ None ] ]
attribute_name names _ = None

abbrev pub attribute_names : Names → List Tree → Option Attributes
attribute_names names [] = Some []
attribute_names names (e ∷ es) =
    elim (attribute_name names e) [ None ↦ None | Some a ↦ elim (attribute_names names es) [ None ↦ None | Some as' ↦ Some (a ∷ as') ] ]

-- an attribute name or a List of such names
abbrev pub named_attributes : Names → Tree → Option Attributes
named_attributes names e = elim (is_call names Builtin.List e) [ true ↦ attribute_names names (items_of e) | false ↦ attribute_names names (e ∷ []) ]

abbrev pub change_attributes : Names → (Attributes → Definition → Definition) → Prog → List Tree → Prog
change_attributes names f stay (symbol s ∷ e ∷ []) =
    elim (named_attributes names e) [
      | None ↦ stay
      | Some a ↦ Look s (λ seen. unless_shared_symbol names (is_some seen.shared) (write names s (f a) seen.definition))
    ]
change_attributes names f stay _ = stay

-- Protect and Unprotect do so whether the symbol is Protected or not
abbrev pub protect : Names → (Definition → Definition) → Prog → List Tree → Prog
protect names f stay (symbol s ∷ []) = Look s (λ seen. unless_shared_symbol names (is_some seen.shared) (Put s (f seen.definition) (null names)))
protect names f stay _ = stay

abbrev pub attributes_row : Names → Prog → List Tree → Prog
attributes_row names stay (symbol s ∷ []) =
    Look s (λ seen. unless_shared_symbol names (is_some seen.shared) (Done (make names Builtin.List (ordered (map (name names) seen.definition.attributes)))))
attributes_row names stay _ = stay
