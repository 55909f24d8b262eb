-- Rules tried on expressions in turn, and what a row makes of it.
--     first_of              up to the first expression to which a rule applies
--     counted               how many there are
--     picked, gathered      what is gathered where a rule gives v of e, and the call of a head and all of it
--     scanned                what is left of a row, where these expressions are
--     ending                its result where none is left
--     taken, after          what follows where a rule gives v of e, and what follows the trial of e
--     Takes, Finishes       that a rule applies is noted; the result is made where it is within the limits
use Rattle.std.specs.Prelude.{◌≡◌, ℕ, ◌+◌, List, [], ◌∷◌, ◌++◌, not, pos, Option, Some, None, Result, Ok, Err}
use Rattle.std.specs.declared.alloc.AllocError.{AllocError}
use Rattle.expr_tree.specs.Tree.{Tree, integer, call}
use Rattle.expr_tree.specs.declared.limits.Limits.{Limits}
use Rattle.semantics.specs.Names.{Names, truth}
use Rattle.semantics.specs.Rule.{Rule}
use Rattle.semantics.specs.Attempt.{try_rules}
use Rattle.semantics.specs.Program.{Prog, Done}
use Rattle.evaluation_steps.specs.declared.Halt.{Halt}
use Rattle.evaluation_steps.specs.Stopping.{HaltsFor}
use Rattle.rule_frames.specs.Trials as trials
use Rattle.machine_rules.specs.declared.tally.Pick.{Pick}
use Rattle.machine_rules.specs.declared.tally.Tally.{Tally}
use Rattle.machine_rules.specs.declared.scan.Present.{Present}
use Rattle.machine_rules.specs.declared.scan.Scan.{Scan}

abbrev pub first_of : Names → List Rule → Prog → Prog → List Tree → Prog
first_of names rs found none_found [] = none_found
first_of names rs found none_found (e ∷ es) = try_rules names rs e (λ v. found) (first_of names rs found none_found es)

abbrev pub counted : Names → List Rule → List Tree → ℕ → Prog
counted names rs [] n = Done (integer (pos n))
counted names rs (e ∷ es) n = try_rules names rs e (λ v. counted names rs es (n + 1)) (counted names rs es n)

abbrev pub picked : Pick → Tree → Tree → Tree
picked Pick.Subject e v = e
picked Pick.Result e v = v

abbrev pub gathered : Names → List Rule → Pick → Tree → List Tree → List Tree → Prog
gathered names rs pick h [] found = Done (call h found)
gathered names rs pick h (e ∷ es) found =
    try_rules names rs e (λ v. gathered names rs pick h es (found ++ picked pick e v ∷ [])) (gathered names rs pick h es found)

abbrev pub scanned : Names → List Rule → Tally → List Tree → Prog
scanned names rs (Tally.Decides b) es = first_of names rs (Done (truth names b)) (Done (truth names (not b))) es
scanned names rs (Tally.Counts n) es = counted names rs es n
scanned names rs (Tally.Gathers pick h found) es = gathered names rs pick h es found

abbrev pub ending : Names → Tally → Tree
ending names (Tally.Decides b) = truth names (not b)
ending names (Tally.Counts n) = integer (pos n)
ending names (Tally.Gathers pick h found) = call h found

abbrev pub taken : Names → List Rule → Tally → Tree → Tree → List Tree → Prog
taken names rs (Tally.Decides b) e v es = Done (truth names b)
taken names rs (Tally.Counts n) e v es = counted names rs es (n + 1)
taken names rs (Tally.Gathers pick h found) e v es = gathered names rs pick h es (found ++ picked pick e v ∷ [])

abbrev pub after : Names → List Rule → Tally → Tree → List Tree → Option Tree → Prog
after names rs t e es None = scanned names rs t es
after names rs t e es (Some v) = taken names rs t e v es

-- it is noted, or decides
abbrev pub TakesBy : Names → Tally → Tree → Tree → Result (Option Tree) AllocError → Tally → Type 0
TakesBy names t e v (Ok None) t' = (rs : List Rule) (es : List Tree) → taken names rs t e v es ≡ scanned names rs t' es
TakesBy names t e v (Ok (Some r)) t' = (rs : List Rule) (es : List Tree) → taken names rs t e v es ≡ Done r
TakesBy names t e v (Err x) t' = Unit {0}

pub record Takes (names : Names) (t : Tally) (e v : Tree) (r : Result (Option Tree) AllocError) (t' : Tally) : Type 0 where
  pub by : TakesBy names t e v r t'

abbrev pub FinishesBy : Limits → Tree → Result Tree Halt → Type 0
FinishesBy limits t (Ok e) = e ≡ t
FinishesBy limits t (Err h) = HaltsFor limits t h

pub record Finishes (limits : Limits) (t : Tree) (r : Result Tree Halt) : Type 0 where
  pub by : FinishesBy limits t r

abbrev pub left_by : Names → List Rule → Tally → List Tree → Option Present → Option Tree → Prog
left_by names rs t es None answer = scanned names rs t es
left_by names rs t es (Some p) answer = trials.left names p.attempt answer (after names rs t p.subject es)

abbrev pub left_scan : Names → Scan → Option Tree → Prog
left_scan names w = left_by names w.rules w.tally w.rest w.present

-- where nothing is being tried
abbrev pub rest_of_scan : Names → Scan → Prog
rest_of_scan names w = scanned names w.rules w.tally w.rest
