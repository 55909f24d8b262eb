-- Rules and their order.
--     Rule, Key, key_of          a left and a right side; its five counts
--     condition_of, result_of    what stands in a right side r /; c
--     insert, remove             a rule put into a list of rules; the rules with a left side taken out
use Rattle.std.specs.Prelude.{ℕ, ◌+◌, ◌-◌, ◌==◌, leb, List, [], ◌∷◌, length, Bool, true, false, ◌&&◌, ◌||◌}
use Rattle.std.specs.declared.cmp.Ordering.TheVariants.{Greater}
use Rattle.expr_tree.specs.Tree.{Tree, integer, string, symbol, normal, Trees, nil, cons, count}
use Rattle.expr_tree.specs.Order.{same, text_cmp}
use Rattle.semantics.specs.declared.builtin.Builtin.{Builtin}
use Rattle.semantics.specs.Names.{Names, is_name, is_call, items_of}

pub record Rule : Type 0 where
  pub left : Tree
  pub right : Tree

abbrev pub condition_in : List Tree → List Tree
condition_in (r ∷ c ∷ []) = c ∷ []
condition_in _ = []

abbrev pub result_in : Tree → List Tree → Tree
result_in e (r ∷ c ∷ []) = r
result_in e _ = e

-- a right side `r /; c` gives r under the condition c
abbrev pub condition_of : Names → Tree → List Tree
condition_of names e = elim (is_call names Builtin.Condition e) [ true ↦ condition_in (items_of e) | false ↦ [] ]

abbrev pub result_of : Names → Tree → Tree
result_of names e = elim (is_call names Builtin.Condition e) [ true ↦ result_in e (items_of e) | false ↦ e ]

-- the number of subexpressions head[..] that pass a test
abbrev mutual
  pub occurrences : (Tree → Trees → Bool) → Tree → ℕ
  occurrences test (integer n) = 0
  occurrences test (string t) = 0
  occurrences test (symbol s) = 0
  occurrences test (normal h es) = elim (test h es) [ true ↦ 1 | false ↦ 0 ] + occurrences test h + occurrences_in test es

  pub occurrences_in : (Tree → Trees → Bool) → Trees → ℕ
  occurrences_in test nil = 0
  occurrences_in test (cons e es) = occurrences test e + occurrences_in test es

-- a construct of patterns in another shape is an ordinary expression, and does not count
abbrev pub is_untyped : Names → Tree → Trees → Bool
is_untyped names h es = is_name names Builtin.Blank h && (count es == 0)

abbrev pub is_typed : Names → Tree → Trees → Bool
is_typed names h es = is_name names Builtin.Blank h && (count es == 1)

abbrev pub is_run : Names → Builtin → Tree → Trees → Bool
is_run names row h es = is_name names row h && leb (count es) 1

abbrev pub is_guarded : Names → Tree → Trees → Bool
is_guarded names h es = (is_name names Builtin.Condition h || is_name names Builtin.PatternTest h) && (count es == 2)

-- (number of ___, of __, of untyped _, of typed _, 1000 less the number of conditions and tests)
abbrev pub key_of : Names → Rule → List ℕ
key_of names rule =
    occurrences (is_run names Builtin.BlankNullSequence) rule.left
    ∷ occurrences (is_run names Builtin.BlankSequence) rule.left
    ∷ occurrences (is_untyped names) rule.left
    ∷ occurrences (is_typed names) rule.left
    ∷ (1000 - (occurrences (is_guarded names) rule.left + length (condition_of names rule.right)))
    ∷ []

abbrev pub same_condition : List Tree → List Tree → Bool
same_condition [] [] = true
same_condition (c ∷ cs) (d ∷ ds) = same c d
same_condition _ _ = false

-- left side and right-hand condition are identical
abbrev pub replaces : Names → Rule → Rule → Bool
replaces names new old = same new.left old.left && same_condition (condition_of names new.right) (condition_of names old.right)

abbrev pub is_replaced : Names → Rule → List Rule → Bool
is_replaced names new [] = false
is_replaced names new (r ∷ rs) = elim (replaces names new r) [ true ↦ true | false ↦ is_replaced names new rs ]

abbrev pub replace_in : Names → Rule → List Rule → List Rule
replace_in names new [] = []
replace_in names new (r ∷ rs) = elim (replaces names new r) [ true ↦ new ∷ rs | false ↦ r ∷ replace_in names new rs ]

-- before the first rule with a greater key
abbrev pub insert_in : Names → Rule → List Rule → List Rule
insert_in names new [] = new ∷ []
insert_in names new (r ∷ rs) =
    elim (text_cmp (key_of names r) (key_of names new)) [ Greater ↦ new ∷ r ∷ rs | _ ↦ r ∷ insert_in names new rs ]

abbrev pub insert : Names → Rule → List Rule → List Rule
insert names new rs = elim (is_replaced names new rs) [ true ↦ replace_in names new rs | false ↦ insert_in names new rs ]

abbrev pub remove : Tree → List Rule → List Rule
remove left [] = []
remove left (r ∷ rs) = elim (same r.left left) [ true ↦ remove left rs | false ↦ r ∷ remove left rs ]

abbrev pub has_left : Tree → List Rule → Bool
has_left left [] = false
has_left left (r ∷ rs) = elim (same r.left left) [ true ↦ true | false ↦ has_left left rs ]
