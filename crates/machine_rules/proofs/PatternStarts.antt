-- The rows that try a pattern before their first question, by the shape of their elements.
use Rattle.std.proofs.Common.{◌≡◌, ◌∙◌, List, [], ◌∷◌, Option, Some, None, Result, Ok, Err, IfOk, true, false, ap, sym}
use Rattle.std.specs.declared.alloc.AllocError.{AllocError}
use Rattle.machine_steps.specs.Steps.{Starts}
use Rattle.machine_rules.specs.declared.rule_row.RuleRow.{RuleRow}
use Rattle.machine_rules.specs.declared.tally.Pick.{Pick}
use Rattle.machine_rules.specs.declared.tally.Tally.{Tally}
use Rattle.machine_rules.specs.RowLeft.{left, left_machine, scanning}
use Rattle.expr_tree.specs.Shapes.{pair_of}
use Rattle.expr_tree.specs.Tree.{Tree, normal, elements, trees}
use Rattle.expr_tree.proofs.Trees.{elements-trees}
use Rattle.semantics.specs.Names.{Names, truth}
use Rattle.semantics.specs.Rule.{Rule}
use Rattle.semantics.specs.Program.{Prog, Done}
use Rattle.semantics.specs.Replace.{asks, match_q, member_q, count_row, free_q, case_rule, matching, cases_of, cases}
use Rattle.machine_rules.specs.Parts.{parts}
use Rattle.machine_rules.specs.Picks.{Picks}
use Rattle.machine_rules.specs.Scans.{first_of, counted, gathered, scanned}
use Rattle.machine_rules.proofs.TwoElements.{two}
use Rattle.machine_rules.proofs.PatternRows.{members, counts, frees, subjects, results}

-- ---- the rows as they begin

abbrev found : Names → Tree → Prog → Prog → List Tree → Prog
found names p = first_of names (asks names p)

-- a list of a head and elements
member_begins : (names : Names) (stay : Prog) (h p l : Tree) (es : List Tree) → l ≡ normal h (trees es)
    → member_q names stay (l ∷ p ∷ []) ≡ found names p (Done (truth names true)) (Done (truth names false)) es
member_begins names stay h p l es is =
    ap (λ x. member_q names stay (x ∷ p ∷ [])) is ∙ (members names p (elements (trees es)) ∙ ap (found names p (Done (truth names true)) (Done (truth names false))) (elements-trees es))

count_begins : (names : Names) (stay : Prog) (h p l : Tree) (es : List Tree) → l ≡ normal h (trees es) → count_row names stay (l ∷ p ∷ []) ≡ counted names (asks names p) es 0
count_begins names stay h p l es is =
    ap (λ x. count_row names stay (x ∷ p ∷ [])) is ∙ (counts names p (elements (trees es)) 0 ∙ ap (λ xs. counted names (asks names p) xs 0) (elements-trees es))

-- ---- what Cases tries

abbrev with_rules : Names → Tree → Tree → List Tree → List Rule → Prog
with_rules names h p es xs = elim xs as (λ _. Prog) [ [] ↦ matching names h p es [] | r ∷ rs ↦ cases_of names h (r ∷ rs) es [] ]

picked_begins : (names : Names) (h p : Tree) (es : List Tree) (rs : List Rule) (pick : Pick) → Picks names p rs pick → with_rules names h p es (case_rule names p) ≡ gathered names rs pick h es []
picked_begins names h p es rs Pick.Result picks =
    ap (with_rules names h p es) picks.by.1 ∙ (results names (picks.by.0 ∷ []) h es [] ∙ ap (λ xs. gathered names xs Pick.Result h es []) (sym picks.by.2))
picked_begins names h p es rs Pick.Subject picks =
    ap (with_rules names h p es) picks.by.0 ∙ (subjects names p h es [] ∙ ap (λ xs. gathered names xs Pick.Subject h es []) (sym picks.by.1))

cases_begins : (names : Names) (stay : Prog) (h p l : Tree) (es : List Tree) (rs : List Rule) (pick : Pick) → l ≡ normal h (trees es) → Picks names p rs pick
    → cases names stay (l ∷ p ∷ []) ≡ gathered names rs pick h es []
cases_begins names stay h p l es rs pick is picks =
    ap (λ x. cases names stay (x ∷ p ∷ [])) is
    ∙ (picked_begins names h p (elements (trees es)) rs pick picks ∙ ap (λ xs. gathered names rs pick h xs []) (elements-trees es))

-- ---- a machine that starts

starts : {names : Names} (p : Prog → Prog) (m : RuleRow) (r : Result (Option RuleRow) AllocError) → IfOk r (λ o. o ≡ Some m) → ((stay : Prog) → p stay ≡ left_machine names m None) → Starts (left names) p r
starts {names = names} p m (Ok (Some x)) is e =
    let same : x ≡ m = ap (λ (o : Option RuleRow). elim o as (λ _. RuleRow) [ None ↦ x | Some y ↦ y ]) is in
    record { by = λ stay. e stay ∙ ap (λ y. left_machine names y None) (sym same) }
starts p m (Ok None) is e = absurd (cc)
starts p m (Err x) is e = record { by = tt }

module _ (names : Names) (items : List Tree) (l p : Tree) (rs : List Rule) (es : List Tree) (r : Result (Option RuleRow) AllocError) (two_items : pair_of items ≡ Some (l, p)) (rule : rs ≡ asks names p) where
  pub match_starts : es ≡ l ∷ [] → IfOk r (λ o. o ≡ Some (scanning rs (Tally.Decides true) es)) → Starts (left names) (λ stay. match_q names stay items) r
  match_starts one is =
      starts {names = names} (λ stay. match_q names stay items) (scanning rs (Tally.Decides true) es) r is
      (λ stay. two (match_q names) stay items l p two_items ∙ (λ i. first_of names (sym rule i) (Done (truth names true)) (Done (truth names false)) (sym one i)))

  pub member_starts : (h : Tree) → l ≡ normal h (trees es) → IfOk r (λ o. o ≡ Some (scanning rs (Tally.Decides true) es)) → Starts (left names) (λ stay. member_q names stay items) r
  member_starts h list is =
      starts {names = names} (λ stay. member_q names stay items) (scanning rs (Tally.Decides true) es) r is
      (λ stay. two (member_q names) stay items l p two_items ∙ (member_begins names stay h p l es list ∙ ap (λ xs. first_of names xs (Done (truth names true)) (Done (truth names false)) es) (sym rule)))

  pub count_starts : (h : Tree) → l ≡ normal h (trees es) → IfOk r (λ o. o ≡ Some (scanning rs (Tally.Counts 0) es)) → Starts (left names) (λ stay. count_row names stay items) r
  count_starts h list is =
      starts {names = names} (λ stay. count_row names stay items) (scanning rs (Tally.Counts 0) es) r is
      (λ stay. two (count_row names) stay items l p two_items ∙ (count_begins names stay h p l es list ∙ ap (λ xs. counted names xs es 0) (sym rule)))

  pub free_starts : es ≡ parts l → IfOk r (λ o. o ≡ Some (scanning rs (Tally.Decides false) es)) → Starts (left names) (λ stay. free_q names stay items) r
  free_starts all is =
      starts {names = names} (λ stay. free_q names stay items) (scanning rs (Tally.Decides false) es) r is
      (λ stay. two (free_q names) stay items l p two_items ∙ (frees names p l ∙ (λ i. first_of names (sym rule i) (Done (truth names false)) (Done (truth names true)) (sym all i))))

pub cases_starts : (names : Names) (items : List Tree) (l p : Tree) (rs : List Rule) (pick : Pick) (t : Tally) (es : List Tree) (r : Result (Option RuleRow) AllocError) → pair_of items ≡ Some (l, p)
    → Picks names p rs pick → (h : Tree) → l ≡ normal h (trees es) → t ≡ Tally.Gathers pick h [] → IfOk r (λ o. o ≡ Some (scanning rs t es)) → Starts (left names) (λ stay. cases names stay items) r
cases_starts names items l p rs pick t es r two_items picks h list gathers is =
    starts {names = names} (λ stay. cases names stay items) (scanning rs t es) r is
    (λ stay. two (cases names) stay items l p two_items ∙ (cases_begins names stay h p l es rs pick list picks ∙ ap (λ x. scanned names rs x es) (sym gathers)))
