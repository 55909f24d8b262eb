-- What the result of a walk says of a row.
use Rattle.std.proofs.Common.{◌≡◌, ◌∙◌, ℕ, zero, suc, List, Bool, true, false, Option, Some, None, Ok, Err, ap, sym, subst, refl, inl, inr}
use Rattle.std.specs.Prelude.{unwrap_or}
use Rattle.expr_tree.specs.Tree.{Tree}
use Rattle.expr_tree.specs.Order.{same}
use Rattle.expr_tree.specs.declared.limits.Limits.{Limits}
use Rattle.expr_tree.specs.declared.limits.Stop.{Stop}
use Rattle.semantics.specs.Names.{Names}
use Rattle.semantics.specs.Rule.{Rule}
use Rattle.semantics.specs.Definitions.{Definitions}
use Rattle.semantics.specs.Play.{too_large}
use Rattle.semantics.specs.Program.{Prog, Done, Ask, Turn}
use Rattle.semantics.specs.Replace.{replaced, rounds}
use Rattle.evaluation_steps.specs.declared.Halt.{Halt}
use Rattle.evaluation_steps.specs.Moves.{turning}
use Rattle.machine_steps.specs.declared.moves.Move.{Move}
use Rattle.rule_frames.specs.Reading.{Shows, fitting, stop, large, passing}
use Rattle.rule_frames.proofs.Shown.{shows_on, shows_stop, shows_is}
use Rattle.machine_rules.specs.declared.rounds.Rounds.{Rounds}
use Rattle.machine_rules.specs.declared.walk.Walked.{Walked}
use Rattle.machine_rules.specs.Stepping.{Part, Walks, Goes}
use Rattle.machine_rules.specs.Rounds.{after_round, round_end, left_by, left_rounds}
use Rattle.machine_rules.specs.Walks.{left_walk, walk_over}
use Rattle.machine_rules.proofs.Going.{goes_after}

pub before_round : (names : Names) (x : Rounds) (answer : Option Tree) → x.begun ≡ false → left_rounds names x answer ≡ rounds names x.walk.rules x.further (unwrap_or answer x.subject)
before_round names x answer is = ap (λ b. left_by names x b answer) is

-- the test of a round, of what was made
by_change : (names : Names) (rs : List Rule) (n : ℕ) (e v x : Tree) → x ≡ v → (b : Bool) → same x e ≡ b
    → (elim (same v e) as (λ _. Prog) [ true ↦ Done v | false ↦ after_round names rs n v ]) ≡ (elim b as (λ _. Prog) [ true ↦ Done x | false ↦ after_round names rs n x ])
by_change names rs n e v x made b is =
    (λ i. elim (same (sym made i) e) as (λ _. Prog) [ true ↦ Done (sym made i) | false ↦ after_round names rs n (sym made i) ])
    ∙ ap (λ c. elim c as (λ _. Prog) [ true ↦ Done x | false ↦ after_round names rs n x ]) is

module _ {names : Names} {d : Definitions} {limits : Limits} where
  -- ---- a step of a walk, before what goes on with the whole

  pub walk_asks : {p : Part} {e : Tree} {turn : Bool} {rest : Option Tree → Part} (k : Tree → Prog) → Walks names d limits p (Ok (Walked.Ask e turn)) rest → Goes names d limits (p k) (Ok (Move.Ask e turn)) (λ v. rest v k)
  walk_asks k g = record { by = g.by k }

  pub walk_halts : {p : Part} {h : Halt} {rest : Option Tree → Part} {left : Option Tree → Prog} (k : Tree → Prog) → Walks names d limits p (Err h) rest → Goes names d limits (p k) (Err h) left
  walk_halts {h = Halt.Stopped c} k g = record { by = record { by = inl (g.by k) } }
  walk_halts {h = Halt.NoMemory} k g = record { by = record { by = tt } }

  -- ---- ReplaceAll

  pub whole_done : {p : Part} {v e : Tree} {rest : Option Tree → Part} {left : Option Tree → Prog} → Walks names d limits p (Ok (Walked.Whole v)) rest → e ≡ v → Goes names d limits (p Done) (Ok (Move.Done e)) left
  whole_done {p = p} g is = record { by = subst (λ x. Shows names d limits (p Done) (Done x)) (sym is) (g.by Done) }

  pub whole_stops : {p : Part} {v : Tree} {c : Stop} {rest : Option Tree → Part} {left : Option Tree → Prog} → Walks names d limits p (Ok (Walked.Whole v)) rest → too_large limits v ≡ Some c → Goes names d limits (p Done) (Err (Halt.Stopped c)) left
  whole_stops {v = v} g is = record { by = record { by = inr (v, g.by Done, is) } }

  -- ---- a round

  module _ (rs : List Rule) (n : ℕ) (e v : Tree) where
    pub round_large : {c : Stop} {left : Option Tree → Prog} → too_large limits v ≡ Some c → Goes names d limits (round_end names rs n e v) (Err (Halt.Stopped c)) left
    round_large is = record { by = record { by = inl (large is) } }

    module _ (x : Tree) (made : x ≡ v) (fits : too_large limits v ≡ None) where
      pub round_same : {left : Option Tree → Prog} → same x e ≡ true → Goes names d limits (round_end names rs n e v) (Ok (Move.Done x)) left
      round_same is = record { by = fitting fits (shows_is (by_change names rs n e v x made true is)) }

      pub round_last : {left : Option Tree → Prog} → same x e ≡ false → n ≡ 0 → Goes names d limits (round_end names rs n e v) (Err (Halt.Stopped Stop.Iteration)) left
      round_last is last = record { by = record { by = inl (passing fits (shows_stop (shows_is (by_change names rs n e v x made false is ∙ ap (λ m. after_round names rs m x) last)) stop)) } }

      pub round_next : (m : ℕ) (new : Rounds) → same x e ≡ false → n ≡ suc m → new.walk.rules ≡ rs → new.further ≡ m → new.begun ≡ false
          → Goes names d limits (round_end names rs n e v) (Ok (Move.Ask x false)) (left_rounds names new)
      round_next m new is more rules_stay further begun =
          record { by = fitting fits (shows_is (by_change names rs n e v x made false is ∙ (ap (λ i. after_round names rs i x) more ∙ (λ i. Ask x (λ u. rest u i))))) }
        where
          rest : (u : Tree) → rounds names rs m u ≡ left_rounds names new (Some u)
          rest u = (λ i. rounds names (sym rules_stay i) (sym further i) u) ∙ sym (before_round names new (Some u) begun)

-- ---- a round begins

round_begins : (names : Names) (rs : List Rule) (n : ℕ) (e : Tree) → rounds names rs n e ≡ Turn (replaced names rs e (round_end names rs n e))
round_begins names rs zero e = refl
round_begins names rs (suc n) e = refl

begun_round : (names : Names) (rs : List Rule) (n : ℕ) (e : Tree) (new : Rounds) (answer : Option Tree) → new.walk ≡ walk_over rs e → new.subject ≡ e → new.further ≡ n → new.begun ≡ true
    → left_rounds names new answer ≡ replaced names rs e (round_end names rs n e)
begun_round names rs n e new answer walk subject further begun =
    ap (λ b. left_by names new b answer) begun
    ∙ (λ i. left_walk names (walk i) answer (round_end names (walk i).rules (further i) (subject i)))

pub round_turns : (names : Names) (d : Definitions) (limits : Limits) (rs : List Rule) (n : ℕ) (e : Tree) (new : Rounds) → new.walk ≡ walk_over rs e → new.subject ≡ e → new.further ≡ n → new.begun ≡ true
    → Goes names d limits (rounds names rs n e) (Ok Move.Turn) (left_rounds names new)
round_turns names d limits rs n e new walk subject further begun =
    record { by = λ answer. shows_is (round_begins names rs n e ∙ ap Turn (sym (begun_round names rs n e new answer walk subject further begun))) }

-- ---- a step in a round

in_round : (names : Names) (x : Rounds) (answer : Option Tree) → x.begun ≡ true → left_rounds names x answer ≡ left_walk names x.walk answer (round_end names x.walk.rules x.further x.subject)
in_round names x answer is = ap (λ b. left_by names x b answer) is

module _ (names : Names) (d : Definitions) (limits : Limits) (old : Rounds) (answer : Option Tree) (begun : old.begun ≡ true) where
  pub round_asks : {e : Tree} {turn : Bool} (new : Rounds) → new.begun ≡ true → new.further ≡ old.further → new.subject ≡ old.subject → new.walk.rules ≡ old.walk.rules
      → Walks names d limits (left_walk names old.walk answer) (Ok (Walked.Ask e turn)) (left_walk names new.walk) → Goes names d limits (left_rounds names old answer) (Ok (Move.Ask e turn)) (left_rounds names new)
  round_asks {e} {turn} new on further subject rules_stay g =
      record { by = shows_on (shows_is (in_round names old answer begun)) (shows_on (g.by (round_end names old.walk.rules old.further old.subject)) (shows_is (λ i. turning turn (Ask e (λ v. rest (Some v) i))))) }
    where
      rest : (v : Option Tree) → left_walk names new.walk v (round_end names old.walk.rules old.further old.subject) ≡ left_rounds names new v
      rest v = (λ i. left_walk names new.walk v (round_end names (sym rules_stay i) (sym further i) (sym subject i))) ∙ sym (in_round names new v on)

  pub round_whole : {v : Tree} {rest : Option Tree → Part} (rs : List Rule) → rs ≡ old.walk.rules → Walks names d limits (left_walk names old.walk answer) (Ok (Walked.Whole v)) rest
      → Shows names d limits (left_rounds names old answer) (round_end names rs old.further old.subject v)
  round_whole {v} rs rules_stay g =
      shows_on (shows_is (in_round names old answer begun)) (shows_on (g.by (round_end names old.walk.rules old.further old.subject)) (shows_is (ap (λ xs. round_end names xs old.further old.subject v) (sym rules_stay))))

  pub round_halts : {h : Halt} {rest : Option Tree → Part} {left : Option Tree → Prog} → Walks names d limits (left_walk names old.walk answer) (Err h) rest → Goes names d limits (left_rounds names old answer) (Err h) left
  round_halts g = goes_after (shows_is (in_round names old answer begun)) (walk_halts (round_end names old.walk.rules old.further old.subject) g)
