-- How the parts of a walk are put together.
use Rattle.std.proofs.Common.{◌≡◌, ◌∙◌, ◌<◌, ◌≤◌, Bool, reverse, List, Option, Some, None, Result, Ok, Err, ap, sym, subst, refl, arith}
use Rattle.expr_tree.specs.Tree.{Tree}
use Rattle.expr_tree.specs.declared.limits.Limits.{Limits}
use Rattle.semantics.specs.Names.{Names}
use Rattle.semantics.specs.Rule.{Rule}
use Rattle.semantics.specs.Definitions.{Definitions}
use Rattle.semantics.specs.Program.{Prog}
use Rattle.semantics.specs.Replace.{replaced}
use Rattle.evaluation_steps.specs.declared.Halt.{Halt}
use Rattle.evaluation_steps.specs.Moves.{Guards, Yields, Fails}
use Rattle.expr_tree.specs.Tree.{integer, string, symbol, normal}
use Rattle.rule_frames.specs.declared.attempt.Attempt.{Attempt}
use Rattle.rule_frames.specs.Reading.{Shows, Tried}
use Rattle.rule_frames.specs.Rules.{rules_left}
use Rattle.rule_frames.specs.Trials as trials
use Rattle.rule_frames.proofs.Shown.{shows_on, shows_stop, shows_is}
use Rattle.machine_rules.specs.declared.walk.Walk.{Walk}
use Rattle.machine_rules.specs.declared.walk.Walked.{Walked}
use Rattle.machine_rules.specs.Stepping.{Part, Shown, Halted, Walks, Passes}
use Rattle.machine_rules.specs.Rising.{Rises, Enters}
use Rattle.machine_rules.specs.Walks.{after, upward, place_left, trial_left, left_walk, whole_of}
use Rattle.machine_rules.specs.Weights.{weight, levels_weight, weight_of, IsLighter}
use Rattle.machine_rules.proofs.Rising.{weight_is_positive}

-- whatever goes on with the whole
abbrev pub Before : Names → Definitions → Limits → Part → Part → Type 0
Before names d limits p q = (k : Tree → Prog) → Shows names d limits (p k) (q k)

module _ {names : Names} {d : Definitions} {limits : Limits} where
  shown_on : {p q : Part} (w : Walked) (rest : Option Tree → Part) → Before names d limits p q → Shown names d limits q w rest → Shown names d limits p w rest
  shown_on (Walked.Ask e turn) rest s g = λ k. shows_on (s k) (g k)
  shown_on (Walked.Whole v) rest s g = λ k. shows_on (s k) (g k)

  halted_on : {p q : Part} (h : Halt) → Before names d limits p q → Halted names d limits q h → Halted names d limits p h
  halted_on (Halt.Stopped c) s g = λ k. shows_stop (s k) (g k)
  halted_on Halt.NoMemory s g = tt

  pub walks_after : {p q : Part} {r : Result Walked Halt} {rest : Option Tree → Part} → Before names d limits p q → Walks names d limits q r rest → Walks names d limits p r rest
  walks_after {r = Ok w} {rest = rest} s g = record { by = shown_on w rest s g.by }
  walks_after {r = Err h} s g = record { by = halted_on h s g.by }

  pub passes_after : {p q : Part} {r : Result (Option Walked) Halt} {rest : Option Tree → Part} {next : Part} → Before names d limits p q → Passes names d limits q r rest next → Passes names d limits p r rest next
  passes_after {r = Ok None} s g = record { by = λ k. shows_on (s k) (g.by k) }
  passes_after {r = Ok (Some w)} {rest = rest} s g = record { by = shown_on w rest s g.by }
  passes_after {r = Err h} s g = record { by = halted_on h s g.by }

  module _ {p : Part} {rest : Option Tree → Part} {next : Part} where
    pub passes_walks : {w : Walked} → Passes names d limits p (Ok (Some w)) rest next → Walks names d limits p (Ok w) rest
    passes_walks g = record { by = g.by }

    pub passes_halts : {h : Halt} → Passes names d limits p (Err h) rest next → Walks names d limits p (Err h) rest
    passes_halts g = record { by = g.by }

    pub passes_next : Passes names d limits p (Ok None) rest next → Before names d limits p next
    passes_next g = g.by

-- ---- a place

pub rules_at_place : (names : Names) (rs : List Rule) (e : Tree) (k : Tree → Prog) → replaced names rs e k ≡ rules_left names rs e (after names rs e k)
rules_at_place names rs (integer n) k = refl
rules_at_place names rs (string t) k = refl
rules_at_place names rs (symbol s) k = refl
rules_at_place names rs (normal h es) k = refl

pub begins : (names : Names) (w : Walk) (a : Attempt) (rs : List Rule) (k : Tree → Prog) → rs ≡ w.rules
    → trials.left names a None (after names w.rules w.place (upward names w k)) ≡ rules_left names rs w.place (after names w.rules w.place (upward names w k))
    → place_left names w k ≡ trial_left names w a None k
begins names w a rs k same is =
    rules_at_place names w.rules w.place (upward names w k)
    ∙ (ap (λ xs. rules_left names xs w.place (after names w.rules w.place (upward names w k))) (sym same) ∙ sym is)

-- ---- what a trial says of its walk

module _ (names : Names) (d : Definitions) (limits : Limits) (w : Walk) (a b : Attempt) (answer : Option Tree) where
  pub trial_asks : {e : Tree} {turn : Bool} {next : Part} → Tried names d limits (trials.left names a answer) (Ok (Guards e turn)) (trials.left names b)
      → Passes names d limits (trial_left names w a answer) (Ok (Some (Walked.Ask e turn))) (left_walk names (record { rules = w.rules; levels = w.levels; place = w.place; present = Some b })) next
  trial_asks tried = record { by = λ k. tried.by (after names w.rules w.place (upward names w k)) }

  finds : {v u : Tree} (o : Option Tree) (new : Walk) → Tried names d limits (trials.left names a answer) (Ok (Yields v)) (trials.left names b) → u ≡ v → Rises w u o new
      → Passes names d limits (trial_left names w a answer) (Ok (whole_of o)) (left_walk names new) (place_left names new)
  finds None new tried is r = record { by = λ k. shows_on (tried.by (after names w.rules w.place (upward names w k))) (shows_is (ap (upward names w k) (sym is) ∙ r.goes names k)) }
  finds (Some x) new tried is r = record { by = λ k. shows_on (tried.by (after names w.rules w.place (upward names w k))) (shows_is (ap (upward names w k) (sym is) ∙ r.goes names k)) }

  pub trial_finds : {v u : Tree} (o : Option Tree) (new : Walk) (x : Option Walked) → x ≡ whole_of o → Tried names d limits (trials.left names a answer) (Ok (Yields v)) (trials.left names b) → u ≡ v → Rises w u o new
      → Passes names d limits (trial_left names w a answer) (Ok x) (left_walk names new) (place_left names new)
  trial_finds o new x whole tried is r = subst (λ y. Passes names d limits (trial_left names w a answer) (Ok y) (left_walk names new) (place_left names new)) (sym whole) (finds o new tried is r)

  fails : (o : Option Tree) (new : Walk) → Tried names d limits (trials.left names a answer) (Ok Fails) (trials.left names b) → Enters w o new
      → Passes names d limits (trial_left names w a answer) (Ok (whole_of o)) (left_walk names new) (place_left names new)
  fails None new tried r = record { by = λ k. shows_on (tried.by (after names w.rules w.place (upward names w k))) (shows_is (r.goes names k)) }
  fails (Some x) new tried r = record { by = λ k. shows_on (tried.by (after names w.rules w.place (upward names w k))) (shows_is (r.goes names k)) }

  pub trial_fails : (o : Option Tree) (new : Walk) (x : Option Walked) → x ≡ whole_of o → Tried names d limits (trials.left names a answer) (Ok Fails) (trials.left names b) → Enters w o new
      → Passes names d limits (trial_left names w a answer) (Ok x) (left_walk names new) (place_left names new)
  trial_fails o new x whole tried r = subst (λ y. Passes names d limits (trial_left names w a answer) (Ok y) (left_walk names new) (place_left names new)) (sym whole) (fails o new tried r)

  pub trial_halts : {h : Halt} {rest : Option Tree → Part} {next : Part} → Tried names d limits (trials.left names a answer) (Err h) (trials.left names b)
      → Passes names d limits (trial_left names w a answer) (Err h) rest next
  trial_halts {h = Halt.Stopped c} tried = record { by = λ k. tried.by (after names w.rules w.place (upward names w k)) }
  trial_halts {h = Halt.NoMemory} tried = record { by = tt }

-- ---- less is left

rises_less : (w new : Walk) (u : Tree) (o : Option Tree) → Rises w u o new → IsLighter (Ok (whole_of o)) (weight_of new) (weight_of w)
rises_less w new u None r =
    let more : weight_of new ≤ levels_weight (reverse w.levels) = r.falls in
    let here : 0 < weight w.place = weight_is_positive w.place in
    omega (arith, more, here)
rises_less w new u (Some x) r = tt

pub rises_lighter : (w new : Walk) (u : Tree) (o : Option Tree) (x : Option Walked) → x ≡ whole_of o → Rises w u o new → IsLighter (Ok x) (weight_of new) (weight_of w)
rises_lighter w new u o x whole r = subst (λ y. IsLighter (Ok y) (weight_of new) (weight_of w)) (sym whole) (rises_less w new u o r)

enters_less : (w new : Walk) (o : Option Tree) → Enters w o new → IsLighter (Ok (whole_of o)) (weight_of new) (weight_of w)
enters_less w new None r = r.falls
enters_less w new (Some x) r = tt

pub enters_lighter : (w new : Walk) (o : Option Tree) (x : Option Walked) → x ≡ whole_of o → Enters w o new → IsLighter (Ok x) (weight_of new) (weight_of w)
enters_lighter w new o x whole r = subst (λ y. IsLighter (Ok y) (weight_of new) (weight_of w)) (sym whole) (enters_less w new o r)
