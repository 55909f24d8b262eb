-- The questions of trials of rules grow fewer, also where an answer is missing.
use Rattle.std.proofs.Common.{◌≡◌, ◌<◌, Bool, Option, Some, None, Ok, pos, refl, sym, subst}
use Rattle.expr_tree.specs.declared.limits.Limits.{Limits}
use Rattle.expr_tree.specs.Tree.{Tree, integer}
use Rattle.semantics.specs.Definitions.{Definitions}
use Rattle.semantics.specs.Names.{Names}
use Rattle.evaluation_steps.specs.Moves.{Guards}
use Rattle.rule_frames.specs.declared.attempt.Attempt.{Attempt}
use Rattle.rule_frames.specs.declared.trial.Trial.{Trial}
use Rattle.rule_frames.specs.Questions.{ended, questions}
use Rattle.rule_frames.specs.Reading.{Tried}
use Rattle.rule_frames.specs.Trials.{left, left_by}
use Rattle.rule_frames.specs.Worst.{worst}
use Rattle.rule_frames.proofs.Questions.{guard_falls}

-- a missing answer is one that is not True
missing : (names : Names) (a : Attempt) (t : Option Trial) → worst names (left_by names a t None ended) ≡ worst names (left_by names a t (Some (integer (pos 0))) ended)
missing names a None = refl
missing names a (Some t) = refl

pub rules_fall : {names : Names} {d : Definitions} {limits : Limits} (a b : Attempt) (answer : Option Tree) (e : Tree) (turn : Bool) →
    Tried names d limits (left names a answer) (Ok (Guards e turn)) (left names b) → (v : Option Tree) → questions names b v < questions names a answer
rules_fall {names = names} a b answer e turn t None = subst (λ n. n < questions names a answer) (sym (missing names b b.trial)) (guard_falls a b answer e turn t (integer (pos 0)))
rules_fall a b answer e turn t (Some v) = guard_falls a b answer e turn t v
