-- What is left of a walk over the places of an expression, before what goes on with the whole.
--     entered, after        where no rule applies at a place; what follows the trial there
--     walk_over             a walk at its beginning
--     upward                goes on with the part at the place
--     place_left, trial_left, left_walk      what is left, before a trial, in it, and in either case
--     going                 at the place, or with the whole
--     whole_of              the whole, as what a walk comes to
use Rattle.std.specs.Prelude.{List, [], reverse, Option, Some, None}
use Rattle.expr_tree.specs.Tree.{Tree, integer, string, symbol, normal}
use Rattle.semantics.specs.Names.{Names}
use Rattle.semantics.specs.Rule.{Rule}
use Rattle.semantics.specs.Program.{Prog}
use Rattle.semantics.specs.Replace.{replaced, replaced_items}
use Rattle.rule_frames.specs.declared.attempt.Attempt.{Attempt}
use Rattle.rule_frames.specs.Trials as trials
use Rattle.machine_rules.specs.declared.walk.Walk.{Walk}
use Rattle.machine_rules.specs.declared.walk.Walked.{Walked}
use Rattle.machine_rules.specs.Levels.{risen}

abbrev pub entered : Names → List Rule → Tree → (Tree → Prog) → Prog
entered names rs (integer n) k = k (integer n)
entered names rs (string t) k = k (string t)
entered names rs (symbol s) k = k (symbol s)
entered names rs (normal h es) k = replaced names rs h (λ g. replaced_items names rs es (λ fs. k (normal g fs)))

abbrev pub after : Names → List Rule → Tree → (Tree → Prog) → Option Tree → Prog
after names rs e k None = entered names rs e k
after names rs e k (Some v) = k v

-- before the first trial
abbrev pub walk_over : List Rule → Tree → Walk
walk_over rs e = record { rules = rs; levels = []; place = e; present = None }

abbrev pub upward : Names → Walk → (Tree → Prog) → Tree → Prog
upward names w k = risen names w.rules (reverse w.levels) k

abbrev pub place_left : Names → Walk → (Tree → Prog) → Prog
place_left names w k = replaced names w.rules w.place (upward names w k)

abbrev pub trial_left : Names → Walk → Attempt → Option Tree → (Tree → Prog) → Prog
trial_left names w a answer k = trials.left names a answer (after names w.rules w.place (upward names w k))

abbrev pub left_by : Names → Walk → Option Attempt → Option Tree → (Tree → Prog) → Prog
left_by names w None answer k = place_left names w k
left_by names w (Some a) answer k = trial_left names w a answer k

abbrev pub left_walk : Names → Walk → Option Tree → (Tree → Prog) → Prog
left_walk names w = left_by names w w.present

abbrev pub going : Names → Walk → (Tree → Prog) → Option Tree → Prog
going names w k None = place_left names w k
going names w k (Some v) = k v

abbrev pub whole_of : Option Tree → Option Walked
whole_of None = None
whole_of (Some v) = Some (Walked.Whole v)
