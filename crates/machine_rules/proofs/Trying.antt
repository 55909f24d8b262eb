-- The trial at a place or of an expression in turn: what it is told, and that its questions grow fewer.
use Rattle.std.proofs.Common.{◌≡◌, ◌<◌, ◌≤◌, ◌+◌, Bool, Option, Some, None, refl, sym, subst, arith}
use Rattle.std.specs.Prelude.{pos, drop}
use Rattle.expr_tree.specs.Tree.{Tree, integer}
use Rattle.expr_tree.specs.declared.limits.Limits.{Limits}
use Rattle.name_table.specs.Table.{NameTable}
use Rattle.semantics.specs.Names.{Names}
use Rattle.semantics.specs.Definitions.{Definitions}
use Rattle.semantics.specs.Program.{Prog, Ask, Turn}
use Rattle.evaluation_steps.specs.Moves.{turning}
use Rattle.builtin_names.specs.Named.{names_in}
use Rattle.machine_steps.specs.Attributes.{attrs_seen}
use Rattle.rule_frames.specs.declared.attempt.Attempt.{Attempt}
use Rattle.rule_frames.specs.declared.trial.Trial.{Trial}
use Rattle.rule_frames.specs.Reading.{Shows, Tells}
use Rattle.rule_frames.specs.Rules.{holds, or_rules}
use Rattle.rule_frames.specs.Trials as trials
use Rattle.rule_frames.specs.Worst.{worst}
use Rattle.rule_frames.proofs.Falling.{Plain, shows_no_more, question_falls, both_plain, guards_plain, bindings_plain, rules_plain}

-- what definitions tell of symbols
pub definitions_tell : (table : NameTable) (d : Definitions) → Tells (names_in table) d (λ s. attrs_seen table d s)
definitions_tell table d = record { by = λ s. refl }

-- ---- the trial of an attempt is plain, where what follows is

module _ (names : Names) (a : Attempt) (k : Option Tree → Prog) (plain : (o : Option Tree) → Plain names (k o)) where
  others_plain : Plain names (trials.left_rules names a k)
  others_plain = rules_plain names (drop a.next a.rules) a.subject (λ v. k (Some v)) (k None) (λ v. plain (Some v)) (plain None)

  bindings_left_plain : (t : Trial) → Plain names (trials.bindings_left names t (or_rules names (drop a.next a.rules) a.subject k))
  bindings_left_plain t =
      bindings_plain names t.right t.matcher (λ v. or_rules names (drop a.next a.rules) a.subject k (Some v)) (or_rules names (drop a.next a.rules) a.subject k None) (λ v. plain (Some v)) others_plain

  by_trial_plain : (t : Option Trial) (answer : Option Tree) → Plain names (trials.left_by names a t answer k)
  by_trial_plain None answer = others_plain
  by_trial_plain (Some t) answer =
      both_plain names (trials.binding_left names t (or_rules names (drop a.next a.rules) a.subject k)) (trials.bindings_left names t (or_rules names (drop a.next a.rules) a.subject k))
      (holds names answer)
      (guards_plain names t.binding (trials.guards_left t) (or_rules names (drop a.next a.rules) a.subject k (Some (trials.placed names t)))
      (trials.bindings_left names t (or_rules names (drop a.next a.rules) a.subject k)) (plain (Some (trials.placed names t))) (bindings_left_plain t))
      (bindings_left_plain t)

  pub attempt_plain : (answer : Option Tree) → Plain names (trials.left names a answer k)
  attempt_plain answer = by_trial_plain a.trial answer

-- ---- no answer is as one that is not True

trial_alike : (names : Names) (a : Attempt) (t : Option Trial) (k : Option Tree → Prog) → trials.left_by names a t None k ≡ trials.left_by names a t (Some (integer (pos 0))) k
trial_alike names a None k = refl
trial_alike names a (Some t) k = refl

pub attempt_alike : (names : Names) (a : Attempt) (k : Option Tree → Prog) → trials.left names a None k ≡ trials.left names a (Some (integer (pos 0))) k
attempt_alike names a k = trial_alike names a a.trial k

-- ---- fewer are left

module _ {names : Names} {d : Definitions} {limits : Limits} {p : Prog} (rest : Option Tree → Prog) where
  pub asks_less : (e : Tree) (turn : Bool) → rest None ≡ rest (Some (integer (pos 0))) → Shows names d limits p (turning turn (Ask e (λ v. rest (Some v)))) → Plain names p
      → (v : Option Tree) → worst names (rest v) < worst names p
  asks_less e turn alike s plain None = subst (λ q. worst names q < worst names p) (sym alike) (question_falls e turn (λ v. rest (Some v)) s plain (integer (pos 0)))
  asks_less e turn alike s plain (Some v) = question_falls e turn (λ x. rest (Some x)) s plain v

  pub turns_less : ((answer : Option Tree) → Shows names d limits p (Turn (rest answer))) → Plain names p → (v : Option Tree) → worst names (rest v) < worst names p
  turns_less s plain v = let on = shows_no_more (s v) plain in let less : 1 + worst names (rest v) ≤ worst names p = on.0 in omega (arith, less)
