-- Replacing, and the rows that ask whether a pattern matches.
--     rule_set              one rule or a List of rules
--     replaced, rounds      ReplaceAll, and the rounds of ReplaceRepeated
--     asks                  a pattern as a rule, for the rows that ask whether it matches
--     match_q, member_q, free_q, count_row, cases      these rows
use Rattle.std.specs.Prelude.{ℕ, zero, suc, List, [], ◌∷◌, reverse, pos, true, false, ◌||◌, Option, Some, None}
use Rattle.expr_tree.specs.Tree.{Tree, integer, string, symbol, normal, Trees, nil, cons, elements, call}
use Rattle.expr_tree.specs.Order.{same}
use Rattle.semantics.specs.declared.builtin.Builtin.{Builtin}
use Rattle.semantics.specs.Names.{Names, is_call, items_of, truth}
use Rattle.semantics.specs.Rule.{Rule}
use Rattle.semantics.specs.Attempt.{try_rules}
use Rattle.semantics.specs.Program.{Prog, Done, Stops, Ask, Turn, Check}
use Rattle.expr_tree.specs.declared.limits.Stop.{Stop}

abbrev pub rule_in : List Tree → Option Rule
rule_in (l ∷ r ∷ []) = Some (record { left = l; right = r })
rule_in _ = None

-- Rule or RuleDelayed of two elements
abbrev pub rule_of : Names → Tree → Option Rule
rule_of names e = elim (is_call names Builtin.Rule e || is_call names Builtin.RuleDelayed e) [ true ↦ rule_in (items_of e) | false ↦ None ]

abbrev pub rules_in : Names → List Tree → Option (List Rule)
rules_in names [] = Some []
rules_in names (e ∷ es) = elim (rule_of names e) [ None ↦ None | Some r ↦ elim (rules_in names es) [ None ↦ None | Some rs ↦ Some (r ∷ rs) ] ]

-- one rule or a List of rules
abbrev pub rule_set : Names → Tree → Option (List Rule)
rule_set names e = elim (is_call names Builtin.List e) [ true ↦ rules_in names (items_of e) | false ↦ rules_in names (e ∷ []) ]

-- from the outside inwards, at each place the first rule that applies; what was replaced is not entered
abbrev mutual
  pub replaced : Names → List Rule → Tree → (Tree → Prog) → Prog
  replaced names rs (integer n) k = try_rules names rs (integer n) k (k (integer n))
  replaced names rs (string t) k = try_rules names rs (string t) k (k (string t))
  replaced names rs (symbol s) k = try_rules names rs (symbol s) k (k (symbol s))
  replaced names rs (normal h es) k =
      try_rules names rs (normal h es) k (replaced names rs h (λ g. replaced_items names rs es (λ fs. k (normal g fs))))

  pub replaced_items : Names → List Rule → Trees → (Trees → Prog) → Prog
  replaced_items names rs nil k = k nil
  replaced_items names rs (cons e es) k = replaced names rs e (λ f. replaced_items names rs es (λ fs. k (cons f fs)))

abbrev pub replace_all : Names → Prog → List Tree → Prog
replace_all names stay (e ∷ r ∷ []) = elim (rule_set names r) [ None ↦ stay | Some rs ↦ replaced names rs e Done ]
replace_all names stay _ = stay

-- rounds until one changes nothing; each is a turn, and begins with the value of what the one before it made. After 4096 that all change something
-- it stops
abbrev pub rounds : Names → List Rule → ℕ → Tree → Prog
rounds names rs zero e = Turn (replaced names rs e (λ f. Check f (elim (same f e) [ true ↦ Done f | false ↦ Stops Stop.Iteration ])))
rounds names rs (suc n) e = Turn (replaced names rs e (λ f. Check f (elim (same f e) [ true ↦ Done f | false ↦ Ask f (rounds names rs n) ])))

abbrev pub replace_repeated : Names → Prog → List Tree → Prog
replace_repeated names stay (e ∷ r ∷ []) = elim (rule_set names r) [ None ↦ stay | Some rs ↦ rounds names rs 4095 e ]
replace_repeated names stay _ = stay

-- p as a rule, for the rows that ask whether it matches; the result says nothing
abbrev pub asks : Names → Tree → List Rule
asks names p = record { left = p; right = truth names true } ∷ []

abbrev pub match_q : Names → Prog → List Tree → Prog
match_q names stay (e ∷ p ∷ []) = try_rules names (asks names p) e (λ v. Done (truth names true)) (Done (truth names false))
match_q names stay _ = stay

abbrev pub member : Names → Tree → List Tree → Prog
member names p [] = Done (truth names false)
member names p (e ∷ es) = try_rules names (asks names p) e (λ v. Done (truth names true)) (member names p es)

abbrev pub member_q : Names → Prog → List Tree → Prog
member_q names stay (normal h es ∷ p ∷ []) = member names p (elements es)
member_q names stay _ = stay

-- h of the results of the elements to which a rule applies
abbrev pub cases_of : Names → Tree → List Rule → List Tree → List Tree → Prog
cases_of names h rs [] done = Done (call h (reverse done))
cases_of names h rs (e ∷ es) done = try_rules names rs e (λ v. cases_of names h rs es (v ∷ done)) (cases_of names h rs es done)

abbrev pub case_rule : Names → Tree → List Rule
case_rule names p = elim (rule_of names p) [ None ↦ [] | Some r ↦ r ∷ [] ]

-- h of the elements that match
abbrev pub matching : Names → Tree → Tree → List Tree → List Tree → Prog
matching names h p [] done = Done (call h (reverse done))
matching names h p (e ∷ es) done = try_rules names (asks names p) e (λ v. matching names h p es (e ∷ done)) (matching names h p es done)

-- the head of the list is kept
abbrev pub cases : Names → Prog → List Tree → Prog
cases names stay (normal h es ∷ p ∷ []) =
    elim (case_rule names p) [ [] ↦ matching names h p (elements es) [] | r ∷ rs ↦ cases_of names h (r ∷ rs) (elements es) [] ]
cases names stay _ = stay

-- how many elements match
abbrev pub count_of : Names → Tree → List Tree → ℕ → Prog
count_of names p [] n = Done (integer (pos n))
count_of names p (e ∷ es) n = try_rules names (asks names p) e (λ v. count_of names p es (suc n)) (count_of names p es n)

abbrev pub count_row : Names → Prog → List Tree → Prog
count_row names stay (normal h es ∷ p ∷ []) = count_of names p (elements es) 0
count_row names stay _ = stay

-- whether no part and no head matches
abbrev mutual
  pub free : Names → Tree → Tree → Prog → Prog
  free names p (integer n) k = try_rules names (asks names p) (integer n) (λ v. Done (truth names false)) k
  free names p (string t) k = try_rules names (asks names p) (string t) (λ v. Done (truth names false)) k
  free names p (symbol s) k = try_rules names (asks names p) (symbol s) (λ v. Done (truth names false)) k
  free names p (normal h es) k = try_rules names (asks names p) (normal h es) (λ v. Done (truth names false)) (free names p h (free_items names p es k))

  pub free_items : Names → Tree → Trees → Prog → Prog
  free_items names p nil k = k
  free_items names p (cons e es) k = free names p e (free_items names p es k)

abbrev pub free_q : Names → Prog → List Tree → Prog
free_q names stay (e ∷ p ∷ []) = free names p e (Done (truth names true))
free_q names stay _ = stay
