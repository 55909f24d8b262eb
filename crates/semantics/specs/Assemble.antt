-- The steps of a pass that the left side of an assignment goes through too: head, elements, splicing, flattening, threading, sorting.
--     attributes_of         the attributes of a head: those of a symbol, else none
--     is_asked              whether an element is evaluated: it is not held, or it is Evaluate[x] where that counts
--     ask_items             the elements from left to right, but for those that are held
--     first_steps           head, elements and splicing; the expression assembled counts as a result
--     flattened, threaded, sorted      what Flat, Listable and Orderless do
--     left_side             the left side of an assignment after all of these steps
use Rattle.std.specs.Prelude.{List, [], ◌∷◌, ◌++◌, Bool, true, false, ◌&&◌, ◌||◌, not, Option, Some, None}
use Rattle.expr_tree.specs.Tree.{Tree, symbol, normal, elements, call}
use Rattle.semantics.specs.declared.builtin.Builtin.{Builtin}
use Rattle.semantics.specs.Names.{Names, is_call, items_of, make}
use Rattle.semantics.specs.Steps.{splice, flatten, thread, ordered}
use Rattle.semantics.specs.Definitions.{Attributes, has}
use Rattle.semantics.specs.Program.{Prog, Ask, Look, Check}

-- the attributes of an expression's head: those of a symbol, else none
abbrev pub attributes_of : Tree → (Attributes → Prog) → Prog
attributes_of (symbol s) k = Look s (λ seen. k seen.definition.attributes)
attributes_of _ k = k []

abbrev pub holds_first : Attributes → Bool
holds_first a = has Builtin.HoldFirst a || (has Builtin.HoldAll a || has Builtin.HoldAllComplete a)

abbrev pub holds_rest : Attributes → Bool
holds_rest a = has Builtin.HoldRest a || (has Builtin.HoldAll a || has Builtin.HoldAllComplete a)

abbrev pub is_single : List Tree → Bool
is_single (e ∷ []) = true
is_single _ = false

abbrev pub is_evaluate : Names → Tree → Bool
is_evaluate names e = is_call names Builtin.Evaluate e && is_single (items_of e)

-- a held element is evaluated all the same where it is Evaluate[x], of one element, but not under HoldAllComplete
abbrev pub is_asked : Names → Attributes → Bool → Tree → Bool
is_asked names a held e = not held || (is_evaluate names e && not (has Builtin.HoldAllComplete a))

-- the elements from left to right, but for those that are held
abbrev pub ask_rest : Names → Attributes → List Tree → List Tree → (List Tree → Prog) → Prog
ask_rest names a [] done k = k done
ask_rest names a (e ∷ es) done k =
    elim (is_asked names a (holds_rest a) e) [ true ↦ Ask e (λ v. ask_rest names a es (done ++ v ∷ []) k) | false ↦ ask_rest names a es (done ++ e ∷ []) k ]

abbrev pub ask_items : Names → Attributes → List Tree → (List Tree → Prog) → Prog
ask_items names a [] k = k []
ask_items names a (e ∷ es) k =
    elim (is_asked names a (holds_first a) e) [ true ↦ Ask e (λ v. ask_rest names a es (v ∷ []) k) | false ↦ ask_rest names a es (e ∷ []) k ]

-- splicing, but under SequenceHold and HoldAllComplete
abbrev pub spliced : Names → Attributes → List Tree → List Tree
spliced names a items = elim (has Builtin.SequenceHold a || has Builtin.HoldAllComplete a) [ true ↦ items | false ↦ splice names items ]

-- head, elements, splicing; the expression assembled counts as a result
abbrev pub first_steps : Names → Tree → List Tree → (Tree → Attributes → List Tree → Prog) → Prog
first_steps names h items k =
    Ask h (λ head. attributes_of head (λ a. ask_items names a items (λ values.
    let spliced_items = spliced names a values in
    Check (call head spliced_items) (k head a spliced_items))))

-- flattening under Flat, where the head is a symbol
abbrev pub flattened : Tree → Attributes → List Tree → List Tree
flattened (symbol s) a items = elim (has Builtin.Flat a) [ true ↦ flatten s items | false ↦ items ]
flattened _ a items = items

-- threading under Listable
abbrev pub threaded : Names → Tree → Attributes → List Tree → Option (List Tree)
threaded names (symbol s) a items = elim (has Builtin.Listable a) [ true ↦ thread names s items | false ↦ None ]
threaded names _ a items = None

-- sorting under Orderless
abbrev pub sorted : Attributes → List Tree → List Tree
sorted a items = elim (has Builtin.Orderless a) [ true ↦ ordered items | false ↦ items ]

-- each of them counts as a result
abbrev pub check_all : List Tree → Prog → Prog
check_all [] p = p
check_all (e ∷ es) p = Check e (check_all es p)

-- a left side, evaluated: all of these steps; no Unevaluated is taken off
abbrev pub left_side : Names → Tree → (Tree → Prog) → Prog
left_side names (normal h es) k =
    first_steps names h (elements es) (λ head a items.
    elim (threaded names head a (flattened head a items)) [
      | Some each ↦ check_all each (k (make names Builtin.List each))
      | None ↦ k (call head (sorted a (flattened head a items)))
    ])
left_side names e k = k e
