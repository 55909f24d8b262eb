-- An outside that faces an evaluation faces what is left of it after each part that goes on.
use Rattle.std.proofs.Common.{◌≡◌, ◌∙◌, refl, sym, ap, subst, ℕ, Bool, true, false, List, Option, Some, None, Result, Ok, Err, true≢false}
use Rattle.std.specs.Prelude.{pos}
use Rattle.expr_tree.specs.declared.sym.Sym.{Sym}
use Rattle.expr_tree.specs.Tree.{Tree, integer}
use Rattle.expr_tree.specs.declared.limits.Stop.{Stop}
use Rattle.name_table.specs.Table.{NameTable}
use Rattle.semantics.specs.Definitions.{Definitions}
use Rattle.semantics.specs.Opened.{opens}
use Rattle.semantics.specs.Pass.{pass}
use Rattle.semantics.specs.Program.{Prog, Done, Call, Mode}
use Rattle.semantics.specs.Play.{Setting, State, End, Value, Stopped, Throwing, Thrown, Quit, Closed, Starved, Replied, Halted, Shut, Lacking, Reply, Play, Over, Calls, run, eval_at}
use Rattle.builtin_names.specs.Named.{names_in}
use Rattle.evaluation_steps.specs.declared.Exit.{Exit}
use Rattle.evaluation_steps.specs.Leads.{Leads, here, called}
use Rattle.evaluation_steps.specs.Words.{Evaluated, Ran}
use Rattle.evaluation_steps.proofs.Laws.{went_somewhere}
use Rattle.machine_steps.specs.Steps.{headed}
use Rattle.machine_steps.specs.declared.moves.Move.{Move}
use Rattle.eval_seq.specs.declared.machine.Followed.{Followed}
use Rattle.eval_seq.specs.Outward.{AfterReply, Faces, Guarded}
use Rattle.eval_seq.specs.Ends.{leaves}
use Rattle.eval_seq.specs.Told.{outcome_of, AfterOutcome, IsClosed, IsThrowing}
use Rattle.eval_seq.specs.Walks.{Stepped}
use Rattle.eval_seq.specs.Driven.{Follows}
use Rattle.eval_seq.specs.Sequence.{Turned}
use Rattle.eval_seq.proofs.Sound.{Sound, Same, over, calls, IsLost, open_in, run-sound, eval_at-sound}

-- what holds unless a call ended it
abbrev pub Unless : Play → Type 0 → Type 0
Unless (Over (Value v) s) P = P
Unless (Over (Stopped c) s) P = P
Unless (Over (Throwing v) s) P = P
Unless (Over (Thrown v) s) P = P
Unless (Over Quit s) P = P
Unless (Over Closed s) P = Unit {0}
Unless (Over Starved s) P = Unit {0}
Unless (Calls c s k) P = P

unless_any : (t : Play) {P : Type 0} → P → Unless t P
unless_any (Over (Value v) s) h = h
unless_any (Over (Stopped c) s) h = h
unless_any (Over (Throwing v) s) h = h
unless_any (Over (Thrown v) s) h = h
unless_any (Over Quit s) h = h
unless_any (Over Closed s) h = tt
unless_any (Over Starved s) h = tt
unless_any (Calls c s k) h = h

unless_lost : (P : Type 0) (t : Play) → IsLost t → Unless t P
unless_lost P (Over (Value v) s) h = absurd h
unless_lost P (Over (Stopped c) s) h = absurd h
unless_lost P (Over (Throwing v) s) h = absurd h
unless_lost P (Over (Thrown v) s) h = absurd h
unless_lost P (Over Quit s) h = absurd h
unless_lost P (Over Closed s) h = tt
unless_lost P (Over Starved s) h = tt
unless_lost P (Calls c s k) h = absurd h

after : (P : Type 0) (r : Reply) (t : Play) → (r ≡ Shut → IsLost t) → (r ≡ Lacking → IsLost t) → AfterReply r P → Unless t P
after P (Replied v) t shut lack h = unless_any t h
after P (Halted c) t shut lack h = unless_any t h
after P Shut t shut lack h = unless_lost P t (shut refl)
after P Lacking t shut lack h = unless_lost P t (lack refl)

open_at : {w a now : Bool} {v : Tree} {s : State} → Sound w a now (Over (Value v) s) → open_in s ≡ now
open_at (over e h p) = e

evaluated_sound : (set : Setting) (n : ℕ) (e : Tree) (st : State) (now : Bool) → now ≡ open_in st → Sound true (open_in st) now (eval_at set n e st)
evaluated_sound set n e st now is = subst (λ x. Sound true (open_in st) x (eval_at set n e st)) (sym is) (eval_at-sound set n e st)

run_sound : (set : Setting) (n : ℕ) (p : Prog) (st : State) (now : Bool) → now ≡ open_in st → Sound false (open_in st) now (run set (eval_at set n) p st)
run_sound set n p st now is = subst (λ x. Sound false (open_in st) x (run set (eval_at set n) p st)) (sym is) (run-sound set (eval_at set n) (eval_at-sound set n) p st (open_in st) refl)

state_open : {w b now : Bool} {o : End} {t : State} → Sound w b now (Over o t) → now ≡ open_in t
state_open (over x y p) = sym x

still_open : {w b now : Bool} {o : End} {t : State} → Sound w b now (Over o t) → Same b o now
still_open (over x y p) = y

value_same : {w b now : Bool} {v : Tree} {t : State} → Sound w b now (Over (Value v) t) → now ≡ b
value_same (over x y p) = y

stop_same : {w b now : Bool} {c : Stop} {t : State} → Sound w b now (Over (Stopped c) t) → now ≡ b
stop_same (over x y p) = y

throw_same : {w b now : Bool} {v : Tree} {t : State} → Sound w b now (Over (Thrown v) t) → now ≡ b
throw_same (over x y p) = y

improper : {b now : Bool} {v : Tree} {t : State} → Sound true b now (Over (Throwing v) t) → ⊥
improper (over x y p) = p

pub faces_same : {S : Type 0} {ready : S → Type 0} {names : S → NameTable} {mode : S → Mode} {is_open : S → Bool} {m : Setting} {s : S} {a b : Option (List Sym)} → a ≡ b → Faces ready names mode is_open m b s → Faces ready names mode is_open m a s
faces_same e f = rw e f

module _ {S : Type 0} {step : S → Definitions → Call → Reply → Definitions → S → Type 0} {ready : S → Type 0} {names : S → NameTable} {mode : S → Mode} {is_open : S → Bool} where
  pub leads_names : {s z : S} {t u : Play} → Leads (Guarded step ready names mode is_open) s t u z → names z ≡ names s
  leads_names here = refl
  leads_names (called g l) = leads_names l ∙ g.same_names

  pub leads_mode : {s z : S} {t u : Play} → Leads (Guarded step ready names mode is_open) s t u z → mode z ≡ mode s
  leads_mode here = refl
  leads_mode (called g l) = leads_mode l ∙ g.same_mode

  pub leads_sound : {w a : Bool} {s z : S} {t u : Play} → Leads (Guarded step ready names mode is_open) s t u z → Sound w a (is_open s) t → Sound w a (is_open z) u
  leads_sound here h = h
  leads_sound {w = w} {a = a} (called {c = c} {k = k} {r = r} {d = d} g l) (calls e may one two f) = leads_sound l (subst (λ now. Sound w a now (k r d)) (sym g.follows) (f r d g.fits))

  pub leads_ready : {w a now : Bool} {s z : S} {t u : Play} → Leads (Guarded step ready names mode is_open) s t u z → Sound w a now t → Unless t (ready s) → Unless u (ready z)
  leads_ready here h p = p
  leads_ready {now = now} (called {c = c} {k = k} {r = r} {d = d} g l) (calls e may one two f) p =
      leads_ready {now = opens c r now} l (f r d g.fits) (after (ready _) r (k r d) (λ is. subst (λ x. IsLost (k x d)) (sym is) (one d)) (λ is. subst (λ x. IsLost (k x d)) (sym is) (two d)) g.again)

  -- to a value
  faces_to : {w : Bool} {m : Setting} {v : Tree} {s z : S} {t : Play} (st : State) {st' : State} → Leads (Guarded step ready names mode is_open) s t (Over (Value v) st') z → Sound w (open_in st) (is_open s) t →
      Faces ready names mode is_open m st.open_section s → (Unless t (ready s)) → Faces ready names mode is_open m st'.open_section z
  faces_to st l h f p = record { may = leads_ready l h p; same_names = ap names_in (leads_names l) ∙ f.same_names; same_mode = leads_mode l ∙ f.same_mode; same_open = sym (open_at (leads_sound l h)) }

  pub ready_evaluates : {set : Setting} {n : ℕ} {e v : Tree} {s z : S} {st st' : State} → Evaluated (Guarded step ready names mode is_open) set n e s st (Ok v) st' z →
      Faces ready names mode is_open set st.open_section s → Faces ready names mode is_open set st'.open_section z
  ready_evaluates {set = set} {n = n} {e = e} {s = s} {st = st} a f = faces_to st a.went.by (evaluated_sound set n e st (is_open s) f.same_open) f (unless_any (eval_at set n e st) f.may)

  played_faces : (set : Setting) (n : ℕ) (p : Prog) (st : State) {v : Tree} {s z : S} {st' : State} → Leads (Guarded step ready names mode is_open) s (run set (eval_at set n) p st) (Over (Value v) st') z →
      Faces ready names mode is_open set st.open_section s → Faces ready names mode is_open set st'.open_section z
  played_faces set n p st {s = s} l f = faces_to st l (run_sound set n p st (is_open s) f.same_open) f (unless_any (run set (eval_at set n) p st) f.may)

  pub ready_runs : {A : Type 0} {set : Setting} {n : ℕ} {p : (A → Prog) → Prog} {v : A} {s z : S} {st st' : State} → Ran (Guarded step ready names mode is_open) set n p s st (Ok v) st' z →
      Faces ready names mode is_open set st.open_section s → Faces ready names mode is_open set st'.open_section z
  ready_runs {set = set} {n = n} {p = p} {st = st} a f = played_faces set n (p (λ x. Done (integer (pos 0)))) st (a.went (λ x. Done (integer (pos 0)))).by f

  pub ready_turned : {set : Setting} {n i : ℕ} {e v : Tree} {s z : S} {st st' : State} → Turned (Guarded step ready names mode is_open) set n i e s st (Ok (Some v)) st' z →
      Faces ready names mode is_open set st.open_section s → Faces ready names mode is_open set st'.open_section z
  ready_turned {set = set} {n = n} {e = e} {z = z} {st = st} a f = subst (λ o. Faces ready names mode is_open set o z) a.by.1.1.1.1 (played_faces set n (pass set.names e) st a.by.1.1.1.0.went.by f)

  pub ready_stepped : {set : Setting} {n : ℕ} {p : Prog → Prog} {s z : S} {st st' : State} → Stepped (Guarded step ready names mode is_open) set n p s st (Ok None) st' z →
      Faces ready names mode is_open set st.open_section s → Faces ready names mode is_open set st'.open_section z
  ready_stepped {set = set} {n = n} {p = p} {st = st} a f = played_faces set n (p (Done (integer (pos 0)))) st (a.by (Done (integer (pos 0)))).on f

  pub ready_follows : {set : Setting} {n : ℕ} {move : Move} {answer : Option Tree} {s z : S} {st st' : State} → Follows (Guarded step ready names mode is_open) set n move s st (Ok (Followed.Goes answer)) st' z →
      Faces ready names mode is_open set st.open_section s → Faces ready names mode is_open set st'.open_section z
  ready_follows {set = set} {n = n} {move = move} {st = st} a f = played_faces set n (headed move (Done (integer (pos 0))) (λ _. Done (integer (pos 0)))) st (a.by (Done (integer (pos 0))) (λ _. Done (integer (pos 0)))).on f

  -- ---- ends after which the outside may be called again

  pub faces_left : (r : Result Tree Exit) {set : Setting} {n : ℕ} {e : Tree} {s z : S} {st st' : State} → leaves r ≡ true → Evaluated (Guarded step ready names mode is_open) set n e s st r st' z →
      Faces ready names mode is_open set st.open_section s → Faces ready names mode is_open set st.open_section z
  faces_left (Ok v) {set = set} {n = n} {e = e} {s = s} {st = st} is a f =
      let h = leads_sound a.went.by (evaluated_sound set n e st (is_open s) f.same_open) in
      record { may = leads_ready a.went.by (evaluated_sound set n e st (is_open s) f.same_open) (unless_any (eval_at set n e st) f.may); same_names = ap names_in (leads_names a.went.by) ∙ f.same_names; same_mode = leads_mode a.went.by ∙ f.same_mode; same_open = value_same h }
  faces_left (Err (Exit.Stopped c)) {set = set} {n = n} {e = e} {s = s} {st = st} is a f =
      let h = leads_sound a.went.by (evaluated_sound set n e st (is_open s) f.same_open) in
      record { may = leads_ready a.went.by (evaluated_sound set n e st (is_open s) f.same_open) (unless_any (eval_at set n e st) f.may); same_names = ap names_in (leads_names a.went.by) ∙ f.same_names; same_mode = leads_mode a.went.by ∙ f.same_mode; same_open = stop_same h }
  faces_left (Err (Exit.Throwing v)) is a f = absurd (true≢false (sym is))
  faces_left (Err (Exit.Thrown v)) {set = set} {n = n} {e = e} {s = s} {st = st} is a f =
      let h = leads_sound a.went.by (evaluated_sound set n e st (is_open s) f.same_open) in
      record { may = leads_ready a.went.by (evaluated_sound set n e st (is_open s) f.same_open) (unless_any (eval_at set n e st) f.may); same_names = ap names_in (leads_names a.went.by) ∙ f.same_names; same_mode = leads_mode a.went.by ∙ f.same_mode; same_open = throw_same h }
  faces_left (Err Exit.Quit) is a f = absurd (true≢false (sym is))
  faces_left (Err Exit.Closed) is a f = absurd (true≢false (sym is))
  faces_left (Err Exit.NoMemory) is a f = absurd (true≢false (sym is))

  -- an evaluation throws nothing that it has not judged
  pub never_throwing : (r : Result Tree Exit) {set : Setting} {n : ℕ} {e : Tree} {s z : S} {st st' : State} → Evaluated (Guarded step ready names mode is_open) set n e s st r st' z →
      Faces ready names mode is_open set st.open_section s → IsThrowing r → ⊥
  never_throwing (Ok v) a f h = h
  never_throwing (Err (Exit.Stopped c)) a f h = h
  never_throwing (Err (Exit.Throwing v)) {set = set} {n = n} {e = e} {s = s} {st = st} a f h = improper (leads_sound a.went.by (evaluated_sound set n e st (is_open s) f.same_open))
  never_throwing (Err (Exit.Thrown v)) a f h = h
  never_throwing (Err Exit.Quit) a f h = h
  never_throwing (Err Exit.Closed) a f h = h
  never_throwing (Err Exit.NoMemory) a f h = h

  -- what a whole evaluation leaves
  pub ends_ready : (r : Result Tree Exit) {set : Setting} {n : ℕ} {e : Tree} {s z : S} {st st' : State} → Evaluated (Guarded step ready names mode is_open) set n e s st r st' z →
      Faces ready names mode is_open set st.open_section s → AfterOutcome (outcome_of r) (ready z)
  ends_ready (Ok v) {set = set} {n = n} {e = e} {s = s} {st = st} a f = leads_ready a.went.by (evaluated_sound set n e st (is_open s) f.same_open) (unless_any (eval_at set n e st) f.may)
  ends_ready (Err (Exit.Stopped c)) {set = set} {n = n} {e = e} {s = s} {st = st} a f = leads_ready a.went.by (evaluated_sound set n e st (is_open s) f.same_open) (unless_any (eval_at set n e st) f.may)
  ends_ready (Err (Exit.Throwing v)) a f = tt
  ends_ready (Err (Exit.Thrown v)) {set = set} {n = n} {e = e} {s = s} {st = st} a f = leads_ready a.went.by (evaluated_sound set n e st (is_open s) f.same_open) (unless_any (eval_at set n e st) f.may)
  ends_ready (Err Exit.Quit) {set = set} {n = n} {e = e} {s = s} {st = st} a f = leads_ready a.went.by (evaluated_sound set n e st (is_open s) f.same_open) (unless_any (eval_at set n e st) f.may)
  ends_ready (Err Exit.Closed) a f = tt
  ends_ready (Err Exit.NoMemory) a f = tt

  pub ends_closed : (r : Result Tree Exit) {set : Setting} {n : ℕ} {e : Tree} {s z : S} {st st' : State} → open_in st ≡ false → Evaluated (Guarded step ready names mode is_open) set n e s st r st' z →
      Faces ready names mode is_open set st.open_section s → IsClosed (outcome_of r) st' (is_open z)
  ends_closed (Ok v) {set = set} {n = n} {e = e} {s = s} {st = st} none a f =
      let h = leads_sound a.went.by (evaluated_sound set n e st (is_open s) f.same_open) in (sym (state_open h) ∙ (still_open h ∙ none), still_open h ∙ none)
  ends_closed (Err (Exit.Stopped c)) {set = set} {n = n} {e = e} {s = s} {st = st} none a f =
      let h = leads_sound a.went.by (evaluated_sound set n e st (is_open s) f.same_open) in (sym (state_open h) ∙ (still_open h ∙ none), still_open h ∙ none)
  ends_closed (Err (Exit.Throwing v)) none a f = tt
  ends_closed (Err (Exit.Thrown v)) {set = set} {n = n} {e = e} {s = s} {st = st} none a f =
      let h = leads_sound a.went.by (evaluated_sound set n e st (is_open s) f.same_open) in (sym (state_open h) ∙ (still_open h ∙ none), still_open h ∙ none)
  ends_closed (Err Exit.Quit) {set = set} {n = n} {e = e} {s = s} {st = st} none a f = state_open (leads_sound a.went.by (evaluated_sound set n e st (is_open s) f.same_open))
  ends_closed (Err Exit.Closed) none a f = tt
  ends_closed (Err Exit.NoMemory) none a f = tt

  somewhere : {n : ℕ} {e : Tree} {r : Result Tree Exit} {set : Setting} {s z : S} {st st' : State} → Evaluated (Guarded step ready names mode is_open) set n e s st r st' z → (u : Play) × Leads (Guarded step ready names mode is_open) s (eval_at set n e st) u z
  somewhere a = went_somewhere a.went

  pub ends_names : {n : ℕ} {e : Tree} {r : Result Tree Exit} {set : Setting} {s z : S} {st st' : State} → Evaluated (Guarded step ready names mode is_open) set n e s st r st' z → names z ≡ names s
  ends_names a = leads_names (somewhere a).1

  pub ends_mode : {n : ℕ} {e : Tree} {r : Result Tree Exit} {set : Setting} {s z : S} {st st' : State} → Evaluated (Guarded step ready names mode is_open) set n e s st r st' z → mode z ≡ mode s
  ends_mode a = leads_mode (somewhere a).1
