-- The programs of scans: their heads, and that each question leaves fewer.
use Rattle.std.proofs.Common.{◌≡◌, ◌∙◌, ◌+◌, List, [], ◌∷◌, ◌++◌, Bool, Option, Some, None, Result, Ok, Err, not, refl, ap, sym, inr}
use Rattle.std.specs.Prelude.{pos}
use Rattle.expr_tree.specs.Tree.{Tree, integer}
use Rattle.expr_tree.specs.declared.limits.Limits.{Limits}
use Rattle.semantics.specs.Names.{Names, truth}
use Rattle.semantics.specs.Rule.{Rule}
use Rattle.semantics.specs.Definitions.{Definitions}
use Rattle.semantics.specs.Program.{Prog, Done}
use Rattle.evaluation_steps.specs.declared.Halt.{Halt}
use Rattle.machine_steps.specs.declared.moves.Move.{Move}
use Rattle.machine_steps.specs.Steps.{Falls}
use Rattle.rule_frames.specs.declared.attempt.Attempt.{Attempt}
use Rattle.evaluation_steps.specs.Moves.{Guards, Yields, Fails}
use Rattle.rule_frames.specs.Reading.{Shows, Tried}
use Rattle.rule_frames.specs.Trials as trials
use Rattle.rule_frames.specs.Rules.{rules_left}
use Rattle.rule_frames.specs.Worst.{worst}
use Rattle.rule_frames.proofs.Shown.{shows_on, shows_is}
use Rattle.rule_frames.proofs.Falling.{Plain}
use Rattle.machine_rules.specs.declared.tally.Tally.{Tally}
use Rattle.machine_rules.specs.declared.scan.Present.{Present}
use Rattle.machine_rules.specs.declared.scan.Scan.{Scan}
use Rattle.machine_rules.specs.Stepping.{Goes, GoesOn}
use Rattle.machine_rules.specs.Scans.{scanned, ending, taken, after, picked, left_by, left_scan, Takes, Finishes}
use Rattle.machine_rules.proofs.Going.{tried_ends}
use Rattle.machine_rules.proofs.Trying.{asks_less, turns_less, attempt_alike, attempt_plain}
use Rattle.machine_rules.proofs.ScanPlain.{first_plain, counted_plain, gathered_plain}

item_tried : (names : Names) (rs : List Rule) (t : Tally) (e : Tree) (es : List Tree) → scanned names rs t (e ∷ es) ≡ rules_left names rs e (after names rs t e es)
item_tried names rs (Tally.Decides b) e es = refl
item_tried names rs (Tally.Counts n) e es = refl
item_tried names rs (Tally.Gathers pick h found) e es = refl

-- ---- what a trial says of its scan

module _ (names : Names) (d : Definitions) (limits : Limits) (rs : List Rule) (t : Tally) (e : Tree) (es : List Tree) (a b : Attempt) (answer : Option Tree) where
  pub trial_asks : {q : Tree} {turn : Bool} {next : Prog} → Tried names d limits (trials.left names a answer) (Ok (Guards q turn)) (trials.left names b)
      → GoesOn names d limits (trials.left names a answer (after names rs t e es)) (Ok (Some (Move.Ask q turn)))
      (left_scan names (record { rules = rs; tally = t; rest = es; present = Some (record { subject = e; attempt = b }) })) next
  trial_asks tried = record { by = tried.by (after names rs t e es) }

  pub trial_decides : {v r : Tree} {t' : Tally} {rest : Option Tree → Prog} {next : Prog} → Tried names d limits (trials.left names a answer) (Ok (Yields v)) (trials.left names b)
      → Takes names t e v (Ok (Some r)) t' → GoesOn names d limits (trials.left names a answer (after names rs t e es)) (Ok (Some (Move.Done r))) rest next
  trial_decides tried takes = record { by = shows_on (tried.by (after names rs t e es)) (shows_is (takes.by rs es)) }

  pub trial_notes : {v : Tree} {t' : Tally} {rest : Option Tree → Prog} → Tried names d limits (trials.left names a answer) (Ok (Yields v)) (trials.left names b)
      → Takes names t e v (Ok None) t' → GoesOn names d limits (trials.left names a answer (after names rs t e es)) (Ok None) rest (scanned names rs t' es)
  trial_notes tried takes = record { by = shows_on (tried.by (after names rs t e es)) (shows_is (takes.by rs es)) }

  pub trial_fails : {rest : Option Tree → Prog} → Tried names d limits (trials.left names a answer) (Ok Fails) (trials.left names b)
      → GoesOn names d limits (trials.left names a answer (after names rs t e es)) (Ok None) rest (scanned names rs t es)
  trial_fails tried = record { by = tried.by (after names rs t e es) }

  pub trial_ends : {h : Halt} {rest : Option Tree → Prog} {next : Prog} → Tried names d limits (trials.left names a answer) (Err h) (trials.left names b)
      → GoesOn names d limits (trials.left names a answer (after names rs t e es)) (Err h) rest next
  trial_ends tried = record { by = tried_ends (after names rs t e es) tried }

-- ---- the parts of a step

module _ {names : Names} {d : Definitions} {limits : Limits} {p : Prog} {rest : Option Tree → Prog} {next : Prog} where
  -- with a move, or an end
  pub goes_move : {m : Move} → GoesOn names d limits p (Ok (Some m)) rest next → Goes names d limits p (Ok m) rest
  goes_move g = record { by = g.by }

  pub goes_end : {h : Halt} → GoesOn names d limits p (Err h) rest next → Goes names d limits p (Err h) rest
  goes_end g = record { by = g.by }

  pub goes_next : GoesOn names d limits p (Ok None) rest next → Shows names d limits p next
  goes_next g = g.by

-- ---- over what is left

module _ {names : Names} {d : Definitions} {limits : Limits} {p : Prog} (rs : List Rule) (t : Tally) where
  pub shows_item : {xs : List Tree} (e : Tree) (es : List Tree) → Shows names d limits p (scanned names rs t xs) → xs ≡ e ∷ es → Shows names d limits p (rules_left names rs e (after names rs t e es))
  shows_item e es s is = shows_on s (shows_is (ap (scanned names rs t) is ∙ item_tried names rs t e es))

-- ---- where nothing is left

scanned_end : (names : Names) (rs : List Rule) (t : Tally) → scanned names rs t [] ≡ Done (ending names t)
scanned_end names rs (Tally.Decides b) = refl
scanned_end names rs (Tally.Counts n) = refl
scanned_end names rs (Tally.Gathers pick h found) = refl

module _ {names : Names} {d : Definitions} {limits : Limits} where
  pub shows_end : {p : Prog} (rs : List Rule) (t : Tally) {xs : List Tree} → Shows names d limits p (scanned names rs t xs) → xs ≡ [] → Shows names d limits p (Done (ending names t))
  shows_end rs t s is = shows_on s (shows_is (ap (scanned names rs t) is ∙ scanned_end names rs t))

  pub finish_made : {t u e : Tree} {rest : Option Tree → Prog} → t ≡ u → Finishes limits t (Ok e) → Goes names d limits (Done u) (Ok (Move.Done e)) rest
  finish_made is f = record { by = shows_is (ap Done (sym (f.by ∙ is))) }

  pub finish_halted : {t u : Tree} {h : Halt} {rest : Option Tree → Prog} → t ≡ u → Finishes limits t (Err h) → Goes names d limits (Done u) (Err h) rest
  finish_halted {t = t} {h = Halt.Stopped c} is f = record { by = record { by = inr (t, shows_is (ap Done (sym is)), f.by.by) } }
  finish_halted {h = Halt.NoMemory} is f = record { by = record { by = tt } }

-- ---- questions

scanned_plain : (names : Names) (rs : List Rule) (t : Tally) (es : List Tree) → Plain names (scanned names rs t es)
scanned_plain names rs (Tally.Decides b) es = first_plain names rs (Done (truth names b)) (Done (truth names (not b))) es tt tt
scanned_plain names rs (Tally.Counts n) es = counted_plain names rs es n
scanned_plain names rs (Tally.Gathers pick h found) es = gathered_plain names rs pick h es found

taken_plain : (names : Names) (rs : List Rule) (t : Tally) (e v : Tree) (es : List Tree) → Plain names (taken names rs t e v es)
taken_plain names rs (Tally.Decides b) e v es = tt
taken_plain names rs (Tally.Counts n) e v es = counted_plain names rs es (n + 1)
taken_plain names rs (Tally.Gathers pick h found) e v es = gathered_plain names rs pick h es (found ++ picked pick e v ∷ [])

after_plain : (names : Names) (rs : List Rule) (t : Tally) (e : Tree) (es : List Tree) (o : Option Tree) → Plain names (after names rs t e es o)
after_plain names rs t e es None = scanned_plain names rs t es
after_plain names rs t e es (Some v) = taken_plain names rs t e v es

left_plain : (names : Names) (rs : List Rule) (t : Tally) (es : List Tree) (p : Option Present) (answer : Option Tree) → Plain names (left_by names rs t es p answer)
left_plain names rs t es None answer = scanned_plain names rs t es
left_plain names rs t es (Some p) answer = attempt_plain names p.attempt (after names rs t p.subject es) (after_plain names rs t p.subject es) answer

left_alike : (names : Names) (rs : List Rule) (t : Tally) (es : List Tree) (p : Option Present) → left_by names rs t es p None ≡ left_by names rs t es p (Some (integer (pos 0)))
left_alike names rs t es None = refl
left_alike names rs t es (Some p) = attempt_alike names p.attempt (after names rs t p.subject es)

pub scan_falls : (names : Names) (d : Definitions) (limits : Limits) (old new : Scan) (answer : Option Tree) (r : Result Move Halt) → Goes names d limits (left_scan names old answer) r (left_scan names new)
    → Falls r (worst names (left_scan names old answer)) (λ v. worst names (left_scan names new v))
scan_falls names d limits old new answer (Ok (Move.Ask e turn)) g =
    asks_less (left_scan names new) e turn (left_alike names new.rules new.tally new.rest new.present) g.by (left_plain names old.rules old.tally old.rest old.present answer)
scan_falls names d limits old new answer (Ok (Move.Within ls e turn)) g = absurd g.by
scan_falls names d limits old new answer (Ok (Move.Catch e)) g = absurd g.by
scan_falls names d limits old new answer (Ok (Move.Section locks e)) g = absurd g.by
scan_falls names d limits old new answer (Ok (Move.Call request)) g = absurd g.by
scan_falls names d limits old new answer (Ok Move.Turn) g = turns_less (left_scan names new) g.by (left_plain names old.rules old.tally old.rest old.present answer)
scan_falls names d limits old new answer (Ok (Move.Done e)) g = tt
scan_falls names d limits old new answer (Ok Move.Stays) g = tt
scan_falls names d limits old new answer (Ok (Move.Throw e)) g = tt
scan_falls names d limits old new answer (Ok Move.Quit) g = tt
scan_falls names d limits old new answer (Err h) g = tt
