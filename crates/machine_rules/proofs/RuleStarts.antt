-- ReplaceAll and ReplaceRepeated before their first question, by the shape of their elements.
use Rattle.std.proofs.Common.{◌≡◌, ◌∙◌, ℕ, List, Option, Some, None, Ok, refl, ap, sym}
use Rattle.std.specs.declared.alloc.AllocError.{AllocError}
use Rattle.expr_tree.specs.Shapes.{pair_of}
use Rattle.expr_tree.specs.Tree.{Tree}
use Rattle.machine_steps.specs.Steps.{Starts}
use Rattle.semantics.specs.Names.{Names}
use Rattle.semantics.specs.Rule.{Rule}
use Rattle.semantics.specs.Program.{Prog, Done}
use Rattle.semantics.specs.Replace.{replaced, rounds, rule_set, replace_all, replace_repeated}
use Rattle.machine_rules.specs.declared.rule_row.RuleRow.{RuleRow}
use Rattle.machine_rules.specs.declared.repeated.Repeated.{Repeated}
use Rattle.machine_rules.specs.declared.rounds.Rounds.{Rounds}
use Rattle.machine_rules.specs.declared.walk.Walk.{Walk}
use Rattle.machine_rules.specs.RowLeft.{left, left_all}
use Rattle.machine_rules.specs.Rounds.{left_rounds, rounds_over}
use Rattle.machine_rules.specs.Walks.{walk_over}
use Rattle.machine_rules.proofs.TwoElements.{two}
use Rattle.machine_rules.proofs.Ending.{before_round}

-- what a row makes of a set of rules
abbrev by_rules : Prog → Option (List Rule) → (List Rule → Prog) → Prog
by_rules stay o f = elim o as (λ _. Prog) [ None ↦ stay | Some rs ↦ f rs ]

before_first : (names : Names) (rs : List Rule) (e : Tree) (x : Rounds) → x ≡ rounds_over rs e → left_rounds names x None ≡ rounds names rs x.further e
before_first names rs e x is = before_round names x None (ap (λ y. y.begun) is) ∙ (λ i. rounds names (is i).walk.rules x.further (is i).subject)

module _ (names : Names) (items : List Tree) (e s : Tree) (pair : pair_of items ≡ Some (e, s)) where
  all_by : (stay : Prog) (o : Option (List Rule)) → o ≡ rule_set names s → replace_all names stay items ≡ by_rules stay o (λ rs. replaced names rs e Done)
  all_by stay o set = two (replace_all names) stay items e s pair ∙ ap (λ x. by_rules stay x (λ rs. replaced names rs e Done)) (sym set)

  repeated_by : (stay : Prog) (o : Option (List Rule)) (n : ℕ) → o ≡ rule_set names s → 4095 ≡ n → replace_repeated names stay items ≡ by_rules stay o (λ rs. rounds names rs n e)
  repeated_by stay o n set many = two (replace_repeated names) stay items e s pair ∙ (λ i. by_rules stay (sym set i) (λ rs. rounds names rs (many i) e))

  pub all_stays : None ≡ rule_set names s → Starts {F = RuleRow} {E = AllocError} (left names) (λ stay. replace_all names stay items) (Ok None)
  all_stays set = record { by = λ stay. all_by stay None set }

  pub repeated_stays : None ≡ rule_set names s → Starts {F = RuleRow} {E = AllocError} (left names) (λ stay. replace_repeated names stay items) (Ok None)
  repeated_stays set = record { by = λ stay. repeated_by stay None 4095 set refl }

  pub all_starts : (rs : List Rule) (w : Walk) → Some rs ≡ rule_set names s → w ≡ walk_over rs e → Starts {F = RuleRow} {E = AllocError} (left names) (λ stay. replace_all names stay items) (Ok (Some (RuleRow.All w)))
  all_starts rs w set is = record { by = λ stay. all_by stay (Some rs) set ∙ ap (λ x. left_all names x None) (sym is) }

  pub repeated_starts : (rs : List Rule) (x : Repeated) → Some rs ≡ rule_set names s → x.rounds ≡ rounds_over rs e
      → Starts {F = RuleRow} {E = AllocError} (left names) (λ stay. replace_repeated names stay items) (Ok (Some (RuleRow.Repeated x)))
  repeated_starts rs x set is = record { by = λ stay. repeated_by stay (Some rs) x.rounds.further set (sym (ap (λ y. y.further) is)) ∙ sym (before_first names rs e x.rounds is) }
