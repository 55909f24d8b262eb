-- Moves of the lower machines as steps over the definitions.
use Rattle.std.proofs.Common.{◌≡◌, true≢false, is_some, ◌⊎◌, inl, inr, ℕ, List, [], ◌∷◌, Bool, true, false, Option, Some, None, Result, Ok, Err, refl, ap, sym, ◌∙◌}
use Rattle.expr_tree.specs.declared.sym.Sym.{Sym}
use Rattle.expr_tree.specs.declared.limits.Stop.{Stop}
use Rattle.expr_tree.specs.Tree.{Tree}
use Rattle.semantics.specs.Definitions.{Definitions, Share, Shared, shared_as}
use Rattle.semantics.specs.Program as p
use Rattle.semantics.specs.Program.{Prog, Done, Within, Moded}
use Rattle.semantics.specs.Scoping.{make_all}
use Rattle.semantics.specs.Play.{Setting, State, Evaluator, Over, Value, Stopped, run, too_large, unless_stopped}
use Rattle.evaluation_steps.specs.declared.Halt.{Halt}
use Rattle.evaluation_steps.specs.Moves as m
use Rattle.evaluation_steps.specs.Moves.{Moved, Shows, same, fitting, HasStopped, stop, large, passing, turning}
use Rattle.evaluation_steps.specs.Stopping.{Checked}
use Rattle.frames_scope.specs.declared.locals.Local.{Local}
use Rattle.frames_scope.specs.Reading.{locals_in}
use Rattle.rule_frames.specs.Reading as reading
use Rattle.machine_steps.specs.declared.moves.Move.{Move}
use Rattle.machine_steps.specs.Steps.{state_at, Stepped}
use Rattle.machine_rows.specs.StepResults.{done_of, is_shared, made_all}
use Rattle.machine_rows.specs.RowsLeft.{or_stays}

-- ---- what is shown of a program runs as it does

pub run_shows : (set : Setting) {a b : Prog} (st : State) → Shows set.limits a b → (ev : Evaluator) → run set ev a st ≡ run set ev b st
run_shows set st same ev = refl
run_shows set st (fitting {p = q} f s) ev = ap (λ o. unless_stopped o st (λ t. run set ev q t)) f ∙ run_shows set st s ev

pub run_stops : (set : Setting) {a : Prog} {c : Stop} (st : State) → HasStopped set.limits a c → (ev : Evaluator) → run set ev a st ≡ Over (Stopped c) st
run_stops set st stop ev = refl
run_stops set st (large {p = q} f) ev = ap (λ o. unless_stopped o st (λ t. run set ev q t)) f
run_stops set st (passing {p = q} f s) ev = ap (λ o. unless_stopped o st (λ t. run set ev q t)) f ∙ run_stops set st s ev

pub run_seen : (set : Setting) (st : State) {a b : Prog} → reading.Shows set.names st.definitions set.limits a b → (ev : Evaluator) → run set ev a st ≡ run set ev b st
run_seen set st reading.same ev = refl
run_seen set st (reading.fitting {p = q} f s) ev = ap (λ o. unless_stopped o st (λ t. run set ev q t)) f ∙ run_seen set st s ev
run_seen set st (reading.looked s) ev = run_seen set st s ev

pub run_seen_stops : (set : Setting) (st : State) {a : Prog} {c : Stop} → reading.HasStopped set.names st.definitions set.limits a c → (ev : Evaluator) → run set ev a st ≡ Over (Stopped c) st
run_seen_stops set st reading.stop ev = refl
run_seen_stops set st (reading.large {p = q} f) ev = ap (λ o. unless_stopped o st (λ t. run set ev q t)) f
run_seen_stops set st (reading.passing {p = q} f s) ev = ap (λ o. unless_stopped o st (λ t. run set ev q t)) f ∙ run_seen_stops set st s ev
run_seen_stops set st (reading.looking s) ev = run_seen_stops set st s ev

-- ---- a step after others

-- a runs as b does from other definitions
abbrev pub Leads : Setting → Prog → Definitions → Bool → Prog → Definitions → Bool → Type 0
Leads set a d used b d' used' = (steps : ℕ) (open_section : Option (List Sym)) (ev : Evaluator) → run set ev a (state_at d used steps open_section) ≡ run set ev b (state_at d' used' steps open_section)

pub stepped_after : {set : Setting} {a b stay : Prog} {d e f : Definitions} {x y z : Bool} (r : Result Move Halt) {rest : Option Tree → Prog} → Leads set a d x b e y → Stepped set b stay e y r rest f z → Stepped set a stay d x r rest f z
stepped_after (Ok move) l s = record { by = λ n o ev. l n o ev ∙ s.by n o ev }
stepped_after {set = set} {a = a} {b = b} {d = d} {e = e} {f = f} {x = x} {y = y} {z = z} (Err (Halt.Stopped c)) l s = record { by = λ n o. go n o (s.by n o) }
  where
    go : (n : ℕ) (o : Option (List Sym)) →
        ((ev : Evaluator) → run set ev b (state_at e y n o) ≡ Over (Stopped c) (state_at f z n o)) ⊎ ((v : Tree) × ((ev : Evaluator) → run set ev b (state_at e y n o) ≡ Over (Value v) (state_at f z n o)) × (too_large set.limits v ≡ Some c)) →
        ((ev : Evaluator) → run set ev a (state_at d x n o) ≡ Over (Stopped c) (state_at f z n o)) ⊎ ((v : Tree) × ((ev : Evaluator) → run set ev a (state_at d x n o) ≡ Over (Value v) (state_at f z n o)) × (too_large set.limits v ≡ Some c))
    go n o (inl q) = inl (λ ev. l n o ev ∙ q ev)
    go n o (inr q) = inr (q.0, λ ev. l n o ev ∙ q.1 ev, q.2)
stepped_after (Err Halt.NoMemory) l s = record { by = λ n o. tt }

-- the result, where it could be made
pub stepped_done : {set : Setting} {t : Tree} {stay : Prog} {d : Definitions} {x : Bool} (r : Result Tree Halt) {rest : Option Tree → Prog} → Checked set.limits t r → Stepped set (Done t) stay d x (done_of r) rest d x
stepped_done {set = set} {t = t} {d = d} {x = x} (Ok e) c = record { by = λ n o ev. ap (λ v. run set ev (Done v) (state_at d x n o)) (sym c.by.0) }
stepped_done {t = t} (Err (Halt.Stopped s)) c = record { by = λ n o. inr (t, λ ev. refl, c.by.by) }
stepped_done (Err Halt.NoMemory) c = record { by = λ n o. tt }

-- ---- the moves

pub step_memory : {set : Setting} {a stay : Prog} {d d' : Definitions} {used used' : Bool} {rest : Option Tree → Prog} → Stepped set a stay d used (Err Halt.NoMemory) rest d' used'
step_memory = record { by = λ n o. tt }

module _ {set : Setting} {a stay : Prog} {d : Definitions} {used : Bool} {rest : Option Tree → Prog} where
  pub step_asks : {e : Tree} {turn : Bool} → Moved set.limits a (Ok (m.Asks e turn)) rest → Stepped set a stay d used (Ok (Move.Ask e turn)) rest d used
  step_asks g = record { by = λ n o ev. run_shows set (state_at d used n o) g.by ev }

  pub step_within : {ls : List p.Local} {vs : List Local} {e : Tree} {turn : Bool} → Moved set.limits a (Ok (m.Locals ls e turn)) rest → locals_in vs ≡ ls → Stepped set a stay d used (Ok (Move.Within vs e turn)) rest d used
  step_within {e = e} {turn = turn} g is =
      record { by = λ n o ev. run_shows set (state_at d used n o) g.by ev ∙ ap (λ x. run set ev (turning turn (Within x e (λ v. rest (Some v)))) (state_at d used n o)) (sym is) }

  pub step_results : {t : Tree} (r : Result Tree Halt) → Moved set.limits a (Ok (m.Results t)) rest → Checked set.limits t r → Stepped set a stay d used (done_of r) rest d used
  step_results r g c = stepped_after (done_of r) (λ n o ev. run_shows set (state_at d used n o) g.by ev) (stepped_done r c)

  pub step_done : {t : Tree} → Moved set.limits a (Ok (m.Results t)) rest → Stepped set a stay d used (Ok (Move.Done t)) rest d used
  step_done g = record { by = λ n o ev. run_shows set (state_at d used n o) g.by ev }

  pub step_halts : (h : Halt) → Moved set.limits a (Err h) rest → Stepped set a stay d used (Err h) rest d used
  step_halts (Halt.Stopped c) g = record { by = λ n o. inl (λ ev. run_stops set (state_at d used n o) g.by ev) }
  step_halts Halt.NoMemory g = record { by = λ n o. tt }

  -- a symbol that is shared, and one that is not
  pub step_shared : {s : Sym} {e : Tree} {rest' : Option Tree → Prog} → Moved set.limits a (Ok (m.Unless s e)) rest → is_shared d.shared s ≡ true → Stepped set a stay d used (Ok (Move.Done e)) rest' d true
  step_shared {s = s} {e = e} g is = record { by = λ n o ev. run_shows set (state_at d used n o) g.by ev ∙ fails (shared_as d.shared s) n o ev is }
    where
      fails : (x : Option Shared) (n : ℕ) (o : Option (List Sym)) (ev : Evaluator) → is_some x ≡ true →
          run set ev (elim (elim x as (λ _. Option Share) [ None ↦ None | Some y ↦ Some y.kind ]) as (λ _. Prog) [ None ↦ rest None | Some kind ↦ Moded (λ mode kernel. Done e) ]) (state_at d used n o)
          ≡ run set ev (Done e) (state_at d true n o)
      fails None n o ev q = absurd (true≢false (sym q))
      fails (Some x) n o ev q = refl

  pub step_unshared : {s : Sym} {e : Tree} (r : Result Move Halt) {rest' : Option Tree → Prog} {d' : Definitions} {used' : Bool} →
      Moved set.limits a (Ok (m.Unless s e)) rest → is_shared d.shared s ≡ false → Stepped set (rest None) stay d used r rest' d' used' → Stepped set a stay d used r rest' d' used'
  step_unshared {s = s} {e = e} r g is s' = stepped_after r (λ n o ev. run_shows set (state_at d used n o) g.by ev ∙ goes (shared_as d.shared s) n o ev is) s'
    where
      goes : (x : Option Shared) (n : ℕ) (o : Option (List Sym)) (ev : Evaluator) → is_some x ≡ false →
          run set ev (elim (elim x as (λ _. Option Share) [ None ↦ None | Some y ↦ Some y.kind ]) as (λ _. Prog) [ None ↦ rest None | Some kind ↦ Moded (λ mode kernel. Done e) ]) (state_at d used n o)
          ≡ run set ev (rest None) (state_at d used n o)
      goes None n o ev q = refl
      goes (Some x) n o ev q = absurd (true≢false q)

  -- locals get their values for good
  pub step_makes : {ls : List p.Local} {t : Tree} (r : Result Tree Halt) → Moved set.limits a (Ok (m.Makes ls t)) rest → Checked set.limits t r → Stepped set a stay d used (done_of r) rest (made_all set.names ls d) used
  step_makes {ls = ls} {t = t} r g c = stepped_after (done_of r) (λ n o ev. run_shows set (state_at d used n o) g.by ev ∙ makes ls d n o ev) (stepped_done r c)
    where
      makes : (ls : List p.Local) (d : Definitions) (n : ℕ) (o : Option (List Sym)) (ev : Evaluator) → run set ev (make_all ls (Done t)) (state_at d used n o) ≡ run set ev (Done t) (state_at (made_all set.names ls d) used n o)
      makes [] d n o ev = refl
      makes (l ∷ ls) d n o ev = makes ls _ n o ev

-- ---- trials of rules

module _ {set : Setting} {d : Definitions} {used : Bool} {stay : Prog} {a : (Option Tree → Prog) → Prog} {rest : Option Tree → (Option Tree → Prog) → Prog} where
  pub step_guards : {e : Tree} {turn : Bool} → reading.Tried set.names d set.limits a (Ok (m.Guards e turn)) rest → Stepped set (a (or_stays stay)) stay d used (Ok (Move.Ask e turn)) (λ v. rest v (or_stays stay)) d used
  step_guards g = record { by = λ n o ev. run_seen set (state_at d used n o) (g.by (or_stays stay)) ev }

  pub step_yields : {t : Tree} (r : Result Tree Halt) → reading.Tried set.names d set.limits a (Ok (m.Yields t)) rest → Checked set.limits t r → Stepped set (a (or_stays stay)) stay d used (done_of r) (λ v. rest v (or_stays stay)) d used
  step_yields r g c = stepped_after (done_of r) (λ n o ev. run_seen set (state_at d used n o) (g.by (or_stays stay)) ev) (stepped_done r c)

  pub step_fails : reading.Tried set.names d set.limits a (Ok m.Fails) rest → Stepped set (a (or_stays stay)) stay d used (Ok Move.Stays) (λ v. rest v (or_stays stay)) d used
  step_fails g = record { by = λ n o ev. run_seen set (state_at d used n o) (g.by (or_stays stay)) ev }

  pub step_trial_halts : (h : Halt) → reading.Tried set.names d set.limits a (Err h) rest → Stepped set (a (or_stays stay)) stay d used (Err h) (λ v. rest v (or_stays stay)) d used
  step_trial_halts (Halt.Stopped c) g = record { by = λ n o. inl (λ ev. run_seen_stops set (state_at d used n o) (g.by (or_stays stay)) ev) }
  step_trial_halts Halt.NoMemory g = record { by = λ n o. tt }
