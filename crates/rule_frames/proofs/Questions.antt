-- A trial comes to an end, whatever the answers are: what it may still ask gets less with each guard that it asks for.
use Rattle.std.proofs.Common.{◌<◌, Bool, Option, Some, None, Ok, drop}
use Rattle.expr_tree.specs.Tree.{Tree}
use Rattle.expr_tree.specs.declared.limits.Limits.{Limits}
use Rattle.semantics.specs.Names.{Names}
use Rattle.semantics.specs.Definitions.{Definitions}
use Rattle.semantics.specs.Program.{Prog}
use Rattle.evaluation_steps.specs.Moves.{Guards}
use Rattle.rule_frames.specs.declared.trial.Trial.{Trial}
use Rattle.rule_frames.specs.declared.attempt.Attempt.{Attempt}
use Rattle.rule_frames.specs.Reading.{Tried}
use Rattle.rule_frames.specs.Rules.{holds, or_rules}
use Rattle.rule_frames.specs.Trials.{guards_left, placed, binding_left, bindings_left, left, left_by, left_rules}
use Rattle.rule_frames.specs.Questions.{ended, questions}
use Rattle.rule_frames.proofs.Falling.{Plain, both_plain, guards_plain, bindings_plain, rules_plain, question_falls}

rest_plain : (names : Names) (a : Attempt) → Plain names (left_rules names a ended)
rest_plain names a = rules_plain names (drop a.next a.rules) a.subject (λ v. ended (Some v)) (ended None) (λ v. tt) tt

abbrev later : Names → Attempt → Option Tree → Prog
later names a = or_rules names (drop a.next a.rules) a.subject ended

others : (names : Names) (a : Attempt) (t : Trial) → Plain names (bindings_left names t (later names a))
others names a t = bindings_plain names t.right t.matcher (λ v. later names a (Some v)) (later names a None) (λ v. tt) (rest_plain names a)

left_plain : (names : Names) (a : Attempt) (t : Option Trial) (answer : Option Tree) → Plain names (left_by names a t answer ended)
left_plain names a None answer = rest_plain names a
left_plain names a (Some t) answer = both_plain names (binding_left names t (later names a)) (bindings_left names t (later names a)) (holds names answer)
    (guards_plain names t.binding (guards_left t) (later names a (Some (placed names t))) (bindings_left names t (later names a)) tt (others names a t)) (others names a t)

pub guard_falls : {names : Names} {d : Definitions} {limits : Limits} (a b : Attempt) (answer : Option Tree) (e : Tree) (turn : Bool)
    → Tried names d limits (left names a answer) (Ok (Guards e turn)) (left names b) → (v : Tree) → questions names b (Some v) < questions names a answer
guard_falls {names = names} a b answer e turn t v = question_falls e turn (λ x. left names b (Some x) ended) (t.by ended) (left_plain names a a.trial answer) v
