-- What a trial of rules stands for: the program that is left, before an answer and after.
--     left                  of a list of rules
--     trying                what a step answers
use Rattle.std.specs.Prelude.{List, map, drop, Bool, true, false, Option, Some, None, Result, Ok, Err}
use Rattle.expr_tree.specs.Tree.{Tree}
use Rattle.semantics.specs.Names.{Names}
use Rattle.semantics.specs.InPlace.{put_in_place}
use Rattle.semantics.specs.Match as match
use Rattle.semantics.specs.Rule.{result_of}
use Rattle.semantics.specs.Attempt.{try_guards, try_bindings}
use Rattle.semantics.specs.Program.{Prog}
use Rattle.evaluation_steps.specs.declared.Halt.{Halt}
use Rattle.evaluation_steps.specs.Moves as m
use Rattle.match_seq.specs.Goals.{guard_of}
use Rattle.rule_frames.specs.Rules.{holds, asked_by, rules_left, or_rules}
use Rattle.rule_frames.specs.declared.trial.Trial.{Trial}
use Rattle.rule_frames.specs.declared.attempt.Attempt.{Attempt}
use Rattle.rule_frames.specs.declared.tries.Try.{Try}

-- the guards of the present binding that are left
abbrev pub guards_left : Trial → List match.Guard
guards_left t = map guard_of (drop t.at t.guards)

abbrev pub placed : Names → Trial → Tree
placed names t = put_in_place names t.binding (result_of names t.right)

-- the first result, or none
abbrev pub bindings_left : Names → Trial → (Option Tree → Prog) → Prog
bindings_left names t k = try_bindings names t.right t.matcher (λ v. k (Some v)) (k None)

abbrev pub binding_left : Names → Trial → (Option Tree → Prog) → Prog
binding_left names t k = try_guards names t.binding (guards_left t) (k (Some (placed names t))) (bindings_left names t k)

abbrev pub asked_trial : Names → Bool → Trial → (Option Tree → Prog) → Prog
asked_trial names turn t k = asked_by turn names t.binding (guards_left t) (k (Some (placed names t))) (bindings_left names t k)

-- the guards so far held, where the answer says so
abbrev pub left_trial : Names → Trial → Option Tree → (Option Tree → Prog) → Prog
left_trial names t answer k = elim (holds names answer) [ true ↦ binding_left names t k | false ↦ bindings_left names t k ]

abbrev pub left_rules : Names → Attempt → (Option Tree → Prog) → Prog
left_rules names a k = rules_left names (drop a.next a.rules) a.subject k

abbrev pub left_by : Names → Attempt → Option Trial → Option Tree → (Option Tree → Prog) → Prog
left_by names a None answer k = left_rules names a k
left_by names a (Some t) answer k = left_trial names t answer (or_rules names (drop a.next a.rules) a.subject k)

abbrev pub left : Names → Attempt → Option Tree → (Option Tree → Prog) → Prog
left names a = left_by names a a.trial

abbrev pub try_of : Names → Try → m.Try
try_of names (Try.Guard e turn) = m.Guards e turn
try_of names (Try.Found b e) = m.Yields (put_in_place names b e)
try_of names Try.Fails = m.Fails

abbrev pub trying : Names → Result Try Halt → Result m.Try Halt
trying names (Ok t) = Ok (try_of names t)
trying names (Err h) = Err h

-- it asks or ends, so that no further rule is tried
abbrev pub is_settled : Result Try Halt → Bool
is_settled (Ok (Try.Guard e turn)) = true
is_settled (Ok (Try.Found b e)) = true
is_settled (Ok Try.Fails) = false
is_settled (Err h) = true
