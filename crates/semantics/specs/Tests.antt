-- The rows of comparison and logic, but for And and Or, which evaluate their elements in turn.
--     equal, unequal        True, False, or nothing where neither is known
--     compared              integers, each neighbouring pair
--     all_same, some_same   whether all elements are identical, or some two
--     asked_of_one          the tests of one element, True or False always
use Rattle.std.specs.Prelude.{ℤ, List, [], ◌∷◌, Bool, true, false, ◌&&◌, ◌||◌, not, Option, Some, None}
use Rattle.expr_tree.specs.Tree.{Tree, integer, string, normal}
use Rattle.expr_tree.specs.Order.{same}
use Rattle.semantics.specs.declared.builtin.Builtin.{Builtin}
use Rattle.semantics.specs.Names.{Names, is_name, truth}
use Rattle.semantics.specs.Worked.{Worked, Stays, Gives}

abbrev pub all_same : List Tree → Bool
all_same [] = true
all_same (e ∷ []) = true
all_same (e ∷ f ∷ es) = same e f && all_same (f ∷ es)

abbrev pub stands_in : Tree → List Tree → Bool
stands_in e [] = false
stands_in e (f ∷ fs) = elim (same e f) [ true ↦ true | false ↦ stands_in e fs ]

abbrev pub some_same : List Tree → Bool
some_same [] = false
some_same (e ∷ es) = stands_in e es || some_same es

abbrev pub is_datum : Tree → Bool
is_datum (integer n) = true
is_datum (string t) = true
is_datum _ = false

abbrev pub all_data : List Tree → Bool
all_data [] = true
all_data (e ∷ es) = is_datum e && all_data es

-- whether two neighbours are integers or texts and differ
abbrev pub neighbours_differ : List Tree → Bool
neighbours_differ [] = false
neighbours_differ (e ∷ []) = false
neighbours_differ (e ∷ f ∷ es) = (is_datum e && (is_datum f && not (same e f))) || neighbours_differ (f ∷ es)

abbrev pub equal : Names → List Tree → Worked
equal names es =
    elim (all_same es) [ true ↦ Gives (truth names true) | false ↦ elim (neighbours_differ es) [ true ↦ Gives (truth names false) | false ↦ Stays ] ]

abbrev pub unequal : Names → List Tree → Worked
unequal names es =
    elim (some_same es) [ true ↦ Gives (truth names false) | false ↦ elim (all_data es) [ true ↦ Gives (truth names true) | false ↦ Stays ] ]

-- the integers, where all elements are integers
abbrev pub integers : List Tree → Option (List ℤ)
integers [] = Some []
integers (integer n ∷ es) = elim (integers es) [ None ↦ None | Some ns ↦ Some (n ∷ ns) ]
integers (e ∷ es) = None

abbrev pub chain : (ℤ → ℤ → Bool) → List ℤ → Bool
chain holds [] = true
chain holds (m ∷ []) = true
chain holds (m ∷ n ∷ ns) = holds m n && chain holds (n ∷ ns)

abbrev pub compared : Names → (ℤ → ℤ → Bool) → List Tree → Worked
compared names holds es = elim (integers es) [ None ↦ Stays | Some ns ↦ Gives (truth names (chain holds ns)) ]

abbrev pub negated : Names → List Tree → Worked
negated names (e ∷ []) =
    elim (is_name names Builtin.True e) [
      | true ↦ Gives (truth names false)
      | false ↦ elim (is_name names Builtin.False e) [ true ↦ Gives (truth names true) | false ↦ Stays ]
    ]
negated names _ = Stays

abbrev pub asked_of_one : Names → (Tree → Bool) → List Tree → Worked
asked_of_one names holds (e ∷ []) = Gives (truth names (holds e))
asked_of_one names holds _ = Stays

abbrev pub is_atom : Tree → Bool
is_atom (normal h es) = false
is_atom _ = true

abbrev pub is_int : Tree → Bool
is_int (integer n) = true
is_int _ = false

abbrev pub is_str : Tree → Bool
is_str (string t) = true
is_str _ = false
