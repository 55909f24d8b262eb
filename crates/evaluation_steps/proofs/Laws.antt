-- How the parts of an evaluation follow one another: one rule for each effect, as it goes on and as it ends.
--     leads_on, ending_leads      appending; a part inside a whole
--     went_..                     the same for results
--     reached_.., played_..       closed programs;  led_.., ran_..  parts of programs
--     called_..                   one call, by its reply
--     evaluated_.., settled_..    the fixed point
use Rattle.std.proofs.Common.{◌≡◌, ℕ, zero, suc, ◌-◌, sub-one, ◌<◌, List, Option, Some, None, sym, ap, subst, Result, Ok, Err, refl, true, false, arith}
use Rattle.std.specs.Result.{IsErrAnd}
use Rattle.std.proofs.lemmas.Bool.{lt-ltb, le-ltb, eq-eqb, ne_eqb}
use Rattle.expr_tree.specs.declared.sym.Sym.{Sym}
use Rattle.expr_tree.specs.Tree.{Tree}
use Rattle.expr_tree.specs.Order.{same}
use Rattle.semantics.specs.Definitions.{Definition, Definitions}
use Rattle.semantics.specs.Program.{Prog, Done, Stops, Quits, Throws, Ask, Catches, Within, Section, Open, Look, Put, Fresh, Turn, Check, Outer, Moded, Call, Enter, Leave, Local, Seen, Mode, Request, Sends}
use Rattle.semantics.specs.declared.builtin.Builtin.{Builtin}
use Rattle.semantics.specs.Names.{name}
use Rattle.expr_tree.specs.declared.limits.Stop.{Stop}
use Rattle.semantics.specs.Pass.{pass}
use Rattle.semantics.specs.Play.{Setting, State, End, Value, Stopped, Throwing, Thrown, Replied, Halted, Shut, Lacking, Play, Over, ending, on_value, after, catching, with_locals, without_locals, leaving_locals, with_definitions, all_among, by_locks, sectioned, calling, opened, leaving, seen, written, now_used, run, passes, eval_at, too_large, unless_stopped, last_number, changed, judged, passed}
use Rattle.evaluation_steps.specs.declared.Exit.{Exit}
use Rattle.evaluation_steps.specs.declared.Halt.{Halt}
use Rattle.evaluation_steps.specs.Leads.{Step, Leads, here, called, exit_of, Went}
use Rattle.evaluation_steps.specs.Words.{Evaluated, Settled, Played, Reached, Ran, Led, Called, Gives, Counted, Fits, FitsBy, Numbered}
use Rattle.evaluation_steps.specs.Passed.{Passed}

-- a throw is caught
abbrev pub caught : Result Tree Exit → Result Tree Exit
caught (Ok v) = Ok v
caught (Err (Exit.Stopped c)) = Err (Exit.Stopped c)
caught (Err (Exit.Throwing v)) = Err (Exit.Throwing v)
caught (Err (Exit.Thrown v)) = Ok v
caught (Err Exit.Quit) = Err Exit.Quit
caught (Err Exit.Closed) = Err Exit.Closed
caught (Err Exit.NoMemory) = Err Exit.NoMemory

abbrev pub throws_nothing : {A : Type 0} → Result A Exit → Type 0
throws_nothing (Ok v) = Unit {0}
throws_nothing (Err (Exit.Stopped c)) = Unit {0}
throws_nothing (Err (Exit.Throwing v)) = ⊥
throws_nothing (Err (Exit.Thrown v)) = Unit {0}
throws_nothing (Err Exit.Quit) = Unit {0}
throws_nothing (Err Exit.Closed) = Unit {0}
throws_nothing (Err Exit.NoMemory) = Unit {0}

module _ {S : Type 0} {step : Step S} where
  pub leads_on : {s m z : S} {t u v : Play} → Leads step s t u m → Leads step m u v z → Leads step s t v z
  leads_on here r = r
  leads_on (called c l) r = called c (leads_on l r)

  pub ending_leads : {s z : S} {t u : Play} (k : End → State → Play) → Leads step s t u z → Leads step s (ending t k) (ending u k) z
  ending_leads k here = here
  ending_leads k (called c l) = called c (ending_leads k l)

  pub went_on : {A : Type 0} {s m z : S} {t u : Play} {r : Result A Exit} {k : A → Play} {st : State} → Leads step s t u m → Went step m u r k st z → Went step s t r k st z
  went_on {r = Ok v} l w = record { by = leads_on l w.by }
  went_on {r = Err (Exit.Stopped c)} l w = record { by = leads_on l w.by }
  went_on {r = Err (Exit.Throwing v)} l w = record { by = leads_on l w.by }
  went_on {r = Err (Exit.Thrown v)} l w = record { by = leads_on l w.by }
  went_on {r = Err Exit.Quit} l w = record { by = leads_on l w.by }
  went_on {r = Err Exit.Closed} l w = record { by = leads_on l w.by }
  went_on {r = Err Exit.NoMemory} l w = record { by = (w.by.0, leads_on l w.by.1) }

  -- what is over did not need the rest
  pub went_out : {A B : Type 0} {s z : S} {t : Play} {h : Exit} {k : A → Play} {j : B → Play} {st : State} → Went step s t (Err h) k st z → Went step s t (Err h) j st z
  went_out {h = Exit.Stopped c} w = record { by = w.by }
  went_out {h = Exit.Throwing v} w = record { by = w.by }
  went_out {h = Exit.Thrown v} w = record { by = w.by }
  went_out {h = Exit.Quit} w = record { by = w.by }
  went_out {h = Exit.Closed} w = record { by = w.by }
  went_out {h = Exit.NoMemory} w = record { by = w.by }

  -- whatever the end, it came from t to somewhere
  pub went_somewhere : {A : Type 0} {s z : S} {t : Play} {r : Result A Exit} {k : A → Play} {st : State} → Went step s t r k st z → (u : Play) × Leads step s t u z
  went_somewhere {r = Ok v} w = (_, w.by)
  went_somewhere {r = Err (Exit.Stopped c)} w = (_, w.by)
  went_somewhere {r = Err (Exit.Throwing v)} w = (_, w.by)
  went_somewhere {r = Err (Exit.Thrown v)} w = (_, w.by)
  went_somewhere {r = Err Exit.Quit} w = (_, w.by)
  went_somewhere {r = Err Exit.Closed} w = (_, w.by)
  went_somewhere {r = Err Exit.NoMemory} w = w.by

  -- with want of memory nothing is said of the state after
  pub went_lost : {A : Type 0} {s z : S} {t u : Play} {k : A → Play} {st : State} → Leads step s t u z → Went step s t (Err Exit.NoMemory) k st z
  went_lost {u = u} l = record { by = (u, l) }

  pub went_after : {s z : S} {t : Play} {r : Result Tree Exit} {st : State} (k : Tree → State → Play) → Went step s t r (λ v. Over (Value v) st) st z
      → Went step s (after t k) r (λ v. k v st) st z
  went_after {r = Ok v} k w = record { by = ending_leads (on_value k) w.by }
  went_after {r = Err (Exit.Stopped c)} k w = record { by = ending_leads (on_value k) w.by }
  went_after {r = Err (Exit.Throwing v)} k w = record { by = ending_leads (on_value k) w.by }
  went_after {r = Err (Exit.Thrown v)} k w = record { by = ending_leads (on_value k) w.by }
  went_after {r = Err Exit.Quit} k w = record { by = ending_leads (on_value k) w.by }
  went_after {r = Err Exit.Closed} k w = record { by = ending_leads (on_value k) w.by }
  went_after {r = Err Exit.NoMemory} k w = record { by = (ending w.by.0 (on_value k), ending_leads (on_value k) w.by.1) }

  -- what is thrown is the value of a Catch
  pub went_caught : {s z : S} {t : Play} {r : Result Tree Exit} {st : State} (k : Tree → State → Play) → Went step s t r (λ v. Over (Value v) st) st z
      → Went step s (ending t (catching k)) (caught r) (λ v. k v st) st z
  went_caught {r = Ok v} k w = record { by = ending_leads (catching k) w.by }
  went_caught {r = Err (Exit.Stopped c)} k w = record { by = ending_leads (catching k) w.by }
  went_caught {r = Err (Exit.Throwing v)} k w = record { by = ending_leads (catching k) w.by }
  went_caught {r = Err (Exit.Thrown v)} k w = record { by = ending_leads (catching k) w.by }
  went_caught {r = Err Exit.Quit} k w = record { by = ending_leads (catching k) w.by }
  went_caught {r = Err Exit.Closed} k w = record { by = ending_leads (catching k) w.by }
  went_caught {r = Err Exit.NoMemory} k w = record { by = (ending w.by.0 (catching k), ending_leads (catching k) w.by.1) }

  -- the end of a pass that throws nothing itself
  went_passed : {s z : S} {t : Play} {r : Result Tree Exit} {st : State} (set : Setting) (m : ℕ) (on : Tree → State → Play) (e : Tree)
      → throws_nothing r → Went step s t r (λ v. Over (Value v) st) st z → Went step s (ending t (passed set m on e)) r (λ v. judged set m on e v st) st z
  went_passed {r = Ok v} set m on e silent w = record { by = ending_leads (passed set m on e) w.by }
  went_passed {r = Err (Exit.Stopped c)} set m on e silent w = record { by = ending_leads (passed set m on e) w.by }
  went_passed {r = Err (Exit.Throwing v)} set m on e silent w = absurd silent
  went_passed {r = Err (Exit.Thrown v)} set m on e silent w = record { by = ending_leads (passed set m on e) w.by }
  went_passed {r = Err Exit.Quit} set m on e silent w = record { by = ending_leads (passed set m on e) w.by }
  went_passed {r = Err Exit.Closed} set m on e silent w = record { by = ending_leads (passed set m on e) w.by }
  went_passed {r = Err Exit.NoMemory} set m on e silent w = record { by = (ending w.by.0 (passed set m on e), ending_leads (passed set m on e) w.by.1) }

  -- locals are put back however it ends
  pub went_locals : {s z : S} {t : Play} {r : Result Tree Exit} {st : State} (set : Setting) (old : Definitions) (ls : List Local) (k : Tree → State → Play)
      → Went step s t r (λ v. Over (Value v) st) st z
      → Went step s (ending t (leaving_locals set.names old ls k)) r (λ v. k v (without_locals set.names old ls st)) (without_locals set.names old ls st) z
  went_locals {r = Ok v} set old ls k w = record { by = ending_leads (leaving_locals set.names old ls k) w.by }
  went_locals {r = Err (Exit.Stopped c)} set old ls k w = record { by = ending_leads (leaving_locals set.names old ls k) w.by }
  went_locals {r = Err (Exit.Throwing v)} set old ls k w = record { by = ending_leads (leaving_locals set.names old ls k) w.by }
  went_locals {r = Err (Exit.Thrown v)} set old ls k w = record { by = ending_leads (leaving_locals set.names old ls k) w.by }
  went_locals {r = Err Exit.Quit} set old ls k w = record { by = ending_leads (leaving_locals set.names old ls k) w.by }
  went_locals {r = Err Exit.Closed} set old ls k w = record { by = ending_leads (leaving_locals set.names old ls k) w.by }
  went_locals {r = Err Exit.NoMemory} set old ls k w = record { by = (_, ending_leads (leaving_locals set.names old ls k) w.by.1) }

  -- an expression that is too large stops it
  pub went_large : {A : Type 0} (o : Option Stop) (k : State → Play) (h : Halt) {j : A → Play} {s : S} {st : State} → FitsBy o (Err h) → Went step s (unless_stopped o st k) (Err (exit_of h)) j st s
  went_large None k h f = absurd f
  went_large (Some c) k h f = rw f (record { by = here })

  -- ---- calls

  pub called_value : {c : Call} {v : Tree} {d : Definitions} {s z : S} {st : State} → step s st.definitions c (Replied v) d z → Called step c s st (Ok v) (with_definitions d st) z
  called_value h = record { went = λ k. record { by = called h here } }

  pub called_stop : {c : Call} {cause : Stop} {d : Definitions} {s z : S} {st : State} →
      step s st.definitions c (Halted cause) d z → Called step c s st (Err (Exit.Stopped cause)) (with_definitions d st) z
  called_stop h = record { went = λ k. record { by = called h here } }

  pub called_closed : {c : Call} {d : Definitions} {s z : S} {st : State} → step s st.definitions c Shut d z → Called step c s st (Err Exit.Closed) (with_definitions d st) z
  called_closed h = record { went = λ k. record { by = called h here } }

  pub called_memory : {c : Call} (d : Definitions) {s z : S} {st st' : State} → step s st.definitions c Lacking d z → Called step c s st (Err Exit.NoMemory) st' z
  called_memory d h = record { went = λ k. record { by = (_, called h here) } }

-- ---- what the pure words say

pub fits_none : (o : Option Stop) {u : Unit {0}} → FitsBy o (Ok u) → o ≡ None
fits_none None f = refl
fits_none (Some c) f = absurd f

pub fits_some : (o : Option Stop) {h : Halt} → FitsBy o (Err h) → (c : Stop) × (o ≡ Some c) × (h ≡ Halt.Stopped c)
fits_some None f = absurd f
fits_some (Some c) f = (c, refl, f)

-- what follows a changing pass, and what follows a pass
abbrev again : Setting → ℕ → ℕ → Tree → State → Play
again set n zero v t = Over (Stopped Stop.Iteration) t
again set n (suc m) v t = passes set (eval_at set n) m v t

abbrev judging : Setting → ℕ → ℕ → Tree → Tree → State → Play
judging set n m e v t = judged set m (again set n m) e v t

-- what a section is, once it was entered
abbrev Inside : Setting → ℕ → Tree → (Tree → State → Play) → State → Play
Inside set n e k t = ending (eval_at set n e t) (leaving k)

-- what a section is, as one is open or not
enters_at : (o : Option (List Sym)) (locks : List Sym) (s : State) (a b c : State → Play) → o ≡ None → a s ≡ sectioned o locks s a b c
enters_at None locks s a b c e = refl
enters_at (Some held) locks s a b c e = absurd (Prim.cc e)

inner_at : (o : Option (List Sym)) (locks held : List Sym) (s : State) (a b c : State → Play) → o ≡ Some held → by_locks (all_among locks held) s b c ≡ sectioned o locks s a b c
inner_at o locks held s a b c e = ap (λ p. sectioned p locks s a b c) (sym e)

section_is : (set : Setting) (n : ℕ) (locks : List Sym) (e : Tree) (k : Tree → Prog) (st : State) → st.open_section ≡ None →
    calling (Enter locks) st (λ _ t. Inside set n e (λ v u. run set (eval_at set n) (k v) u) (opened (Some locks) t)) ≡ run set (eval_at set n) (Section locks e k) st
section_is set n locks e k st none =
    enters_at st.open_section locks st (λ t. calling (Enter locks) t (λ _ u. ending (eval_at set n e (opened (Some locks) u)) (leaving (λ v w. run set (eval_at set n) (k v) w))))
    (λ t. after (eval_at set n e t) (λ v u. run set (eval_at set n) (k v) u)) (λ t. run set (eval_at set n) (k (name set.names Builtin.Failed)) t) none

inner_is : (set : Setting) (n : ℕ) (locks held : List Sym) (e : Tree) (k : Tree → Prog) (st : State) → st.open_section ≡ Some held →
    by_locks (all_among locks held) st (λ t. after (eval_at set n e t) (λ v u. run set (eval_at set n) (k v) u)) (λ t. run set (eval_at set n) (k (name set.names Builtin.Failed)) t)
    ≡ run set (eval_at set n) (Section locks e k) st
inner_is set n locks held e k st is =
    inner_at st.open_section locks held st (λ t. calling (Enter locks) t (λ _ u. ending (eval_at set n e (opened (Some locks) u)) (leaving (λ v w. run set (eval_at set n) (k v) w))))
    (λ t. after (eval_at set n e t) (λ v u. run set (eval_at set n) (k v) u)) (λ t. run set (eval_at set n) (k (name set.names Builtin.Failed)) t) is

-- Quit, Closed and want of memory make no further call
abbrev pub makes_no_call : Exit → Type 0
makes_no_call (Exit.Stopped c) = ⊥
makes_no_call (Exit.Throwing v) = Unit {0}
makes_no_call (Exit.Thrown v) = ⊥
makes_no_call Exit.Quit = Unit {0}
makes_no_call Exit.Closed = Unit {0}
makes_no_call Exit.NoMemory = Unit {0}

-- a value, a stop and a throw make the call Leave
abbrev pub makes_leave : Result Tree Exit → Type 0
makes_leave (Ok v) = Unit {0}
makes_leave (Err (Exit.Stopped c)) = Unit {0}
makes_leave (Err (Exit.Throwing v)) = ⊥
makes_leave (Err (Exit.Thrown v)) = Unit {0}
makes_leave (Err Exit.Quit) = ⊥
makes_leave (Err Exit.Closed) = ⊥
makes_leave (Err Exit.NoMemory) = ⊥

module _ {S : Type 0} {step : Step S} where
  from_leads : {s z : S} {t u v : Play} → t ≡ u → Leads step s t v z → Leads step s u v z
  from_leads {s = s} {z = z} {v = v} e l = subst (λ x. Leads step s x v z) e l

  from_went : {A : Type 0} {s z : S} {t u : Play} {r : Result A Exit} {k : A → Play} {st : State} → t ≡ u → Went step s t r k st z → Went step s u r k st z
  from_went {s = s} {z = z} {r = r} {k = k} {st = st} e w = subst (λ x. Went step s x r k st z) e w

  inside_value : {set : Setting} {n : ℕ} {e v w : Tree} (k : Tree → State → Play) {s m z : S} {st st' st'' : State} →
      Evaluated step set n e s st (Ok v) st' m → Called step Leave m st' (Ok w) st'' z → Leads step s (Inside set n e k st) (k v (opened None st'')) z
  inside_value {v = v} k a l = leads_on (ending_leads (leaving k) a.went.by) (l.went (λ _ t. k v (opened None t))).by

  inside_stop : {set : Setting} {n : ℕ} {e w : Tree} {c : Stop} (k : Tree → State → Play) {s m z : S} {st st' st'' : State} →
      Evaluated step set n e s st (Err (Exit.Stopped c)) st' m → Called step Leave m st' (Ok w) st'' z →
      Leads step s (Inside set n e k st) (Over (Stopped c) (opened None st'')) z
  inside_stop {c = c} k a l = leads_on (ending_leads (leaving k) a.went.by) (l.went (λ _ t. Over (Stopped c) (opened None t))).by

  inside_thrown : {set : Setting} {n : ℕ} {e v w : Tree} (k : Tree → State → Play) {s m z : S} {st st' st'' : State} →
      Evaluated step set n e s st (Err (Exit.Thrown v)) st' m → Called step Leave m st' (Ok w) st'' z →
      Leads step s (Inside set n e k st) (Over (Thrown v) (opened None st'')) z
  inside_thrown {v = v} k a l = leads_on (ending_leads (leaving k) a.went.by) (l.went (λ _ t. Over (Thrown v) (opened None t))).by

  inside_out : {A : Type 0} {set : Setting} {n : ℕ} {e : Tree} {h : Exit} (k : Tree → State → Play) {j : A → Play} {s z : S} {st st' : State} →
      makes_no_call h → Evaluated step set n e s st (Err h) st' z → Went step s (Inside set n e k st) (Err h) j st' z
  inside_out {h = Exit.Stopped c} k silent a = absurd silent
  inside_out {h = Exit.Throwing v} k silent a = record { by = ending_leads (leaving k) a.went.by }
  inside_out {h = Exit.Thrown v} k silent a = absurd silent
  inside_out {h = Exit.Quit} k silent a = record { by = ending_leads (leaving k) a.went.by }
  inside_out {h = Exit.Closed} k silent a = record { by = ending_leads (leaving k) a.went.by }
  inside_out {h = Exit.NoMemory} k silent a = record { by = (_, ending_leads (leaving k) a.went.by.1) }

  inside_kept : {A : Type 0} {set : Setting} {n : ℕ} {e : Tree} {r : Result Tree Exit} {h : Exit} (k : Tree → State → Play) {j : A → Play} {s m z : S} {st st' st'' : State} →
      makes_leave r → Evaluated step set n e s st r st' m → Called step Leave m st' (Err h) st'' z → Went step s (Inside set n e k st) (Err h) j st'' z
  inside_kept {r = Ok v} k leaves a l = went_on (ending_leads (leaving k) a.went.by) (went_out (l.went (λ _ t. k v (opened None t))))
  inside_kept {r = Err (Exit.Stopped c)} k leaves a l = went_on (ending_leads (leaving k) a.went.by) (went_out (l.went (λ _ t. Over (Stopped c) (opened None t))))
  inside_kept {r = Err (Exit.Throwing v)} k leaves a l = absurd leaves
  inside_kept {r = Err (Exit.Thrown v)} k leaves a l = went_on (ending_leads (leaving k) a.went.by) (went_out (l.went (λ _ t. Over (Thrown v) (opened None t))))
  inside_kept {r = Err Exit.Quit} k leaves a l = absurd leaves
  inside_kept {r = Err Exit.Closed} k leaves a l = absurd leaves
  inside_kept {r = Err Exit.NoMemory} k leaves a l = absurd leaves

-- Rules for programs.
module _ {S : Type 0} {step : Step S} {set : Setting} {n : ℕ} where
  -- ---- one after the other

  pub reached_here : {p : Prog} {s : S} {st : State} → Reached step set n p s st p st s
  reached_here = record { on = here }

  pub reached_on : {p q o : Prog} {s m z : S} {st st' st'' : State} → Reached step set n p s st q st' m → Reached step set n q m st' o st'' z → Reached step set n p s st o st'' z
  reached_on a b = record { on = leads_on a.on b.on }

  pub reached_played : {p q : Prog} {s m z : S} {st st' st'' : State} {r : Result Tree Exit} →
      Reached step set n p s st q st' m → Played step set n q m st' r st'' z → Played step set n p s st r st'' z
  reached_played a b = record { went = went_on a.on b.went }

  pub led_here : {A : Type 0} {p : (A → Prog) → Prog} {s : S} {st : State} → Led step set n p s st p st s
  led_here = record { on = λ k. reached_here }

  pub led_on : {A : Type 0} {p q o : (A → Prog) → Prog} {s m z : S} {st st' st'' : State} → Led step set n p s st q st' m → Led step set n q m st' o st'' z → Led step set n p s st o st'' z
  led_on a b = record { on = λ k. reached_on (a.on k) (b.on k) }

  pub led_ran : {A : Type 0} {p q : (A → Prog) → Prog} {s m z : S} {st st' st'' : State} {r : Result A Exit} →
      Led step set n p s st q st' m → Ran step set n q m st' r st'' z → Ran step set n p s st r st'' z
  led_ran a b = record { went = λ k. went_on (a.on k).on (b.went k) }

  -- a part, and then what stands after it
  pub reached_part : {A : Type 0} {p : (A → Prog) → Prog} {v : A} (k : A → Prog) {s z : S} {st st' : State} → Ran step set n p s st (Ok v) st' z → Reached step set n (p k) s st (k v) st' z
  reached_part k a = record { on = (a.went k).by }

  pub played_part_out : {A : Type 0} {p : (A → Prog) → Prog} (k : A → Prog) {h : Exit} {s z : S} {st st' : State} → Ran step set n p s st (Err h) st' z → Played step set n (p k) s st (Err h) st' z
  played_part_out k a = record { went = went_out (a.went k) }

  pub led_then : {A B : Type 0} {p : (A → Prog) → Prog} {v : A} {q : A → (B → Prog) → Prog} {s z : S} {st st' : State} →
      Ran step set n p s st (Ok v) st' z → Led step set n (λ k. p (λ x. q x k)) s st (q v) st' z
  led_then {q = q} a = record { on = λ k. reached_part (λ x. q x k) a }

  pub ran_then_out : {A B : Type 0} {p : (A → Prog) → Prog} {q : A → (B → Prog) → Prog} {s z : S} {st st' : State} {h : Exit} →
      Ran step set n p s st (Err h) st' z → Ran step set n (λ k. p (λ x. q x k)) s st (Err h) st' z
  ran_then_out {q = q} a = record { went = λ k. went_out (a.went (λ x. q x k)) }

  -- a part that reaches its value, whatever stands after it
  pub ran_reached : {A : Type 0} {p : (A → Prog) → Prog} {v : A} {s z : S} {st st' : State} → ((k : A → Prog) → Reached step set n (p k) s st (k v) st' z) → Ran step set n p s st (Ok v) st' z
  ran_reached f = record { went = λ k. record { by = (f k).on } }

  -- an error is passed on
  pub ran_err : {A : Type 0} {p : (A → Prog) → Prog} {h : Exit} {r : Result A Exit} {s z : S} {st st' : State} →
      IsErrAnd r (λ x. x ≡ h) → Ran step set n p s st (Err h) st' z → Ran step set n p s st r st' z
  ran_err {r = Ok v} e a = absurd e
  ran_err {r = Err x} e a = rw e a

  pub played_err : {p : Prog} {h : Exit} {r : Result Tree Exit} {s z : S} {st st' : State} → IsErrAnd r (λ x. x ≡ h) → Played step set n p s st (Err h) st' z → Played step set n p s st r st' z
  played_err {r = Ok v} e a = absurd e
  played_err {r = Err x} e a = rw e a

  -- want of memory
  pub ran_memory : {A : Type 0} {p : (A → Prog) → Prog} {s : S} {st st' : State} → Ran step set n p s st (Err Exit.NoMemory) st' s
  ran_memory = record { went = λ k. went_lost here }

  pub played_memory : {p : Prog} {s : S} {st st' : State} → Played step set n p s st (Err Exit.NoMemory) st' s
  played_memory = record { went = went_lost here }

  pub ran_lost : {A : Type 0} {p : (A → Prog) → Prog} {s : S} {st st' : State} {r : Result A Exit} → IsErrAnd r (λ h. h ≡ Exit.NoMemory) → Ran step set n p s st r st' s
  ran_lost e = ran_err e ran_memory

  pub played_lost : {p : Prog} {s : S} {st st' : State} {r : Result Tree Exit} → IsErrAnd r (λ h. h ≡ Exit.NoMemory) → Played step set n p s st r st' s
  played_lost e = played_err e played_memory

  -- ---- ends

  pub played_done : {v : Tree} {s : S} {st : State} → Played step set n (Done v) s st (Ok v) st s
  played_done = record { went = record { by = here } }

  pub played_stop : {c : Stop} {s : S} {st : State} → Played step set n (Stops c) s st (Err (Exit.Stopped c)) st s
  played_stop = record { went = record { by = here } }

  pub played_leaves : {s : S} {st : State} → Played step set n Quits s st (Err Exit.Quit) st s
  played_leaves = record { went = record { by = here } }

  pub played_throws : {v : Tree} {s : S} {st : State} → Played step set n (Throws v) s st (Err (Exit.Throwing v)) st s
  played_throws = record { went = record { by = here } }

  pub played_gives : {p : Prog} {r : Result Tree Exit} {s : S} {st : State} → Gives p r → Played step set n p s st r st s
  played_gives {r = Ok v} g = rw g.by played_done
  played_gives {r = Err (Exit.Stopped c)} g = rw g.by played_stop
  played_gives {r = Err (Exit.Throwing v)} g = rw g.by played_throws
  played_gives {r = Err (Exit.Thrown v)} g = absurd g.by
  played_gives {r = Err Exit.Quit} g = rw g.by played_leaves
  played_gives {r = Err Exit.Closed} g = absurd g.by
  played_gives {r = Err Exit.NoMemory} g = played_memory

  pub ran_value : {A : Type 0} {v : A} {s : S} {st : State} → Ran step set n (λ k. k v) s st (Ok v) st s
  ran_value = record { went = λ k. record { by = here } }

  pub ran_stop : {A : Type 0} {c : Stop} {s : S} {st : State} → Ran {A = A} step set n (λ k. Stops c) s st (Err (Exit.Stopped c)) st s
  ran_stop = record { went = λ k. record { by = here } }

  pub ran_leaves : {A : Type 0} {s : S} {st : State} → Ran {A = A} step set n (λ k. Quits) s st (Err Exit.Quit) st s
  ran_leaves = record { went = λ k. record { by = here } }

  -- ---- an expression is evaluated one deeper

  pub reached_ask : {e v : Tree} {k : Tree → Prog} {s z : S} {st st' : State} → Evaluated step set n e s st (Ok v) st' z → Reached step set n (Ask e k) s st (k v) st' z
  reached_ask {k = k} a = record { on = (went_after (λ x y. run set (eval_at set n) (k x) y) a.went).by }

  pub played_ask_out : {e : Tree} {k : Tree → Prog} {h : Exit} {s z : S} {st st' : State} → Evaluated step set n e s st (Err h) st' z → Played step set n (Ask e k) s st (Err h) st' z
  played_ask_out {k = k} a = record { went = went_out (went_after (λ x y. run set (eval_at set n) (k x) y) a.went) }

  pub led_ask : {A : Type 0} {e v : Tree} {q : Tree → (A → Prog) → Prog} {s z : S} {st st' : State} →
      Evaluated step set n e s st (Ok v) st' z → Led step set n (λ k. Ask e (λ x. q x k)) s st (q v) st' z
  led_ask {q = q} a = record { on = λ k. reached_ask {k = λ x. q x k} a }

  pub ran_ask_out : {A : Type 0} {e : Tree} {q : Tree → (A → Prog) → Prog} {h : Exit} {s z : S} {st st' : State} →
      Evaluated step set n e s st (Err h) st' z → Ran step set n (λ k. Ask e (λ x. q x k)) s st (Err h) st' z
  ran_ask_out {q = q} a = record { went = λ k. went_out (went_after (λ x y. run set (eval_at set n) (q x k) y) a.went) }

  pub ran_ask : {e : Tree} {r : Result Tree Exit} {s z : S} {st st' : State} → Evaluated step set n e s st r st' z → Ran step set n (Ask e) s st r st' z
  ran_ask a = record { went = λ k. went_after (λ x y. run set (eval_at set n) (k x) y) a.went }

  -- as the last thing of a closed program
  pub played_ask : {e : Tree} {r : Result Tree Exit} {s z : S} {st st' : State} → Evaluated step set n e s st r st' z → Played step set n (Ask e Done) s st r st' z
  played_ask a = record { went = went_after (λ v t. Over (Value v) t) a.went }

  -- what it throws is its value
  pub ran_catch : {e : Tree} {r : Result Tree Exit} {s z : S} {st st' : State} → Evaluated step set n e s st r st' z → Ran step set n (Catches e) s st (caught r) st' z
  ran_catch a = record { went = λ k. went_caught (λ x y. run set (eval_at set n) (k x) y) a.went }

  -- ---- the same with locals

  pub reached_within : {ls : List Local} {e v : Tree} {k : Tree → Prog} {s z : S} {st st' : State} → Evaluated step set n e s (with_locals set.names ls st) (Ok v) st' z →
      Reached step set n (Within ls e k) s st (k v) (without_locals set.names st.definitions ls st') z
  reached_within {ls = ls} {k = k} {st = st} a = record { on = (went_locals set st.definitions ls (λ x y. run set (eval_at set n) (k x) y) a.went).by }

  pub played_within_out : {ls : List Local} {e : Tree} {k : Tree → Prog} {h : Exit} {s z : S} {st st' : State} → Evaluated step set n e s (with_locals set.names ls st) (Err h) st' z →
      Played step set n (Within ls e k) s st (Err h) (without_locals set.names st.definitions ls st') z
  played_within_out {ls = ls} {k = k} {st = st} a = record { went = went_out (went_locals set st.definitions ls (λ x y. run set (eval_at set n) (k x) y) a.went) }

  pub ran_within : {ls : List Local} {e : Tree} {r : Result Tree Exit} {s z : S} {st st' : State} → Evaluated step set n e s (with_locals set.names ls st) r st' z →
      Ran step set n (Within ls e) s st r (without_locals set.names st.definitions ls st') z
  ran_within {ls = ls} {st = st} a = record { went = λ k. went_locals set st.definitions ls (λ x y. run set (eval_at set n) (k x) y) a.went }

  pub played_within : {ls : List Local} {e : Tree} {r : Result Tree Exit} {s z : S} {st st' : State} → Evaluated step set n e s (with_locals set.names ls st) r st' z →
      Played step set n (Within ls e Done) s st r (without_locals set.names st.definitions ls st') z
  played_within {ls = ls} {st = st} a = record { went = went_locals set st.definitions ls (λ v t. Over (Value v) t) a.went }

  -- ---- sections, where none is open: the call Enter, the body, the call Leave

  pub reached_section : {locks : List Sym} {e v x y : Tree} {k : Tree → Prog} {s a b z : S} {st st1 st2 st3 : State} → st.open_section ≡ None →
      Called step (Enter locks) s st (Ok x) st1 a → Evaluated step set n e a (opened (Some locks) st1) (Ok v) st2 b → Called step Leave b st2 (Ok y) st3 z →
      Reached step set n (Section locks e k) s st (k v) (opened None st3) z
  reached_section {locks = locks} {e = e} {k = k} {st = st} none enter body leave =
      let go : Tree → State → Play = λ v u. run set (eval_at set n) (k v) u in
      record { on = from_leads (section_is set n locks e k st none) (leads_on (enter.went (λ _ t. Inside set n e go (opened (Some locks) t))).by (inside_value go body leave)) }

  pub led_section : {A : Type 0} {locks : List Sym} {e v x y : Tree} {q : Tree → (A → Prog) → Prog} {s a b z : S} {st st1 st2 st3 : State} → st.open_section ≡ None →
      Called step (Enter locks) s st (Ok x) st1 a → Evaluated step set n e a (opened (Some locks) st1) (Ok v) st2 b → Called step Leave b st2 (Ok y) st3 z →
      Led step set n (λ k. Section locks e (λ w. q w k)) s st (q v) (opened None st3) z
  led_section {q = q} none enter body leave = record { on = λ k. reached_section {k = λ w. q w k} none enter body leave }

  -- the body stopped
  pub played_section_stop : {locks : List Sym} {e x y : Tree} {c : Stop} {k : Tree → Prog} {s a b z : S} {st st1 st2 st3 : State} → st.open_section ≡ None →
      Called step (Enter locks) s st (Ok x) st1 a → Evaluated step set n e a (opened (Some locks) st1) (Err (Exit.Stopped c)) st2 b → Called step Leave b st2 (Ok y) st3 z →
      Played step set n (Section locks e k) s st (Err (Exit.Stopped c)) (opened None st3) z
  played_section_stop {locks = locks} {e = e} {k = k} {st = st} none enter body leave =
      let go : Tree → State → Play = λ v u. run set (eval_at set n) (k v) u in
      record { went = from_went (section_is set n locks e k st none) (record { by = leads_on (enter.went (λ _ t. Inside set n e go (opened (Some locks) t))).by (inside_stop go body leave) }) }

  -- it threw
  pub played_section_thrown : {locks : List Sym} {e v x y : Tree} {k : Tree → Prog} {s a b z : S} {st st1 st2 st3 : State} → st.open_section ≡ None →
      Called step (Enter locks) s st (Ok x) st1 a → Evaluated step set n e a (opened (Some locks) st1) (Err (Exit.Thrown v)) st2 b → Called step Leave b st2 (Ok y) st3 z →
      Played step set n (Section locks e k) s st (Err (Exit.Thrown v)) (opened None st3) z
  played_section_thrown {locks = locks} {e = e} {k = k} {st = st} none enter body leave =
      let go : Tree → State → Play = λ v u. run set (eval_at set n) (k v) u in
      record { went = from_went (section_is set n locks e k st none) (record { by = leads_on (enter.went (λ _ t. Inside set n e go (opened (Some locks) t))).by (inside_thrown go body leave) }) }

  -- it was not entered
  pub played_section_closed : {locks : List Sym} {e : Tree} {h : Exit} {k : Tree → Prog} {s z : S} {st st1 : State} → st.open_section ≡ None →
      Called step (Enter locks) s st (Err h) st1 z → Played step set n (Section locks e k) s st (Err h) st1 z
  played_section_closed {locks = locks} {e = e} {k = k} {st = st} none enter =
      let go : Tree → State → Play = λ v u. run set (eval_at set n) (k v) u in
      record { went = from_went (section_is set n locks e k st none) (went_out (enter.went (λ _ t. Inside set n e go (opened (Some locks) t)))) }

  -- the body ended with Quit, Closed or want of memory
  pub played_section_out : {locks : List Sym} {e x : Tree} {h : Exit} {k : Tree → Prog} {s a z : S} {st st1 st2 : State} → st.open_section ≡ None →
      Called step (Enter locks) s st (Ok x) st1 a → makes_no_call h → Evaluated step set n e a (opened (Some locks) st1) (Err h) st2 z →
      Played step set n (Section locks e k) s st (Err h) st2 z
  played_section_out {locks = locks} {e = e} {k = k} {st = st} none enter silent body =
      let go : Tree → State → Play = λ v u. run set (eval_at set n) (k v) u in
      record { went = from_went (section_is set n locks e k st none) (went_on (enter.went (λ _ t. Inside set n e go (opened (Some locks) t))).by (inside_out go silent body)) }

  -- Leave gave no value
  pub played_section_kept : {locks : List Sym} {e x : Tree} {r : Result Tree Exit} {h : Exit} {k : Tree → Prog} {s a b z : S} {st st1 st2 st3 : State} → st.open_section ≡ None →
      Called step (Enter locks) s st (Ok x) st1 a → makes_leave r → Evaluated step set n e a (opened (Some locks) st1) r st2 b → Called step Leave b st2 (Err h) st3 z →
      Played step set n (Section locks e k) s st (Err h) st3 z
  played_section_kept {locks = locks} {e = e} {k = k} {st = st} none enter leaves body leave =
      let go : Tree → State → Play = λ v u. run set (eval_at set n) (k v) u in
      record { went = from_went (section_is set n locks e k st none) (went_on (enter.went (λ _ t. Inside set n e go (opened (Some locks) t))).by (inside_kept go leaves body leave)) }

  -- ---- inside a section that is open: no call

  pub reached_inner : {locks held : List Sym} {e v : Tree} {k : Tree → Prog} {s z : S} {st st' : State} → st.open_section ≡ Some held → all_among locks held ≡ true →
      Evaluated step set n e s st (Ok v) st' z → Reached step set n (Section locks e k) s st (k v) st' z
  reached_inner {locks = locks} {held = held} {e = e} {k = k} {st = st} is all a =
      record { on = from_leads (inner_is set n locks held e k st is) (rw all (went_after (λ x y. run set (eval_at set n) (k x) y) a.went).by) }

  pub played_inner_out : {locks held : List Sym} {e : Tree} {h : Exit} {k : Tree → Prog} {s z : S} {st st' : State} → st.open_section ≡ Some held → all_among locks held ≡ true →
      Evaluated step set n e s st (Err h) st' z → Played step set n (Section locks e k) s st (Err h) st' z
  played_inner_out {locks = locks} {held = held} {e = e} {k = k} {st = st} is all a =
      record { went = from_went (inner_is set n locks held e k st is) (rw all (went_out (went_after (λ x y. run set (eval_at set n) (k x) y) a.went))) }

  pub reached_refused : {locks held : List Sym} {e : Tree} {k : Tree → Prog} {s : S} {st : State} → st.open_section ≡ Some held → all_among locks held ≡ false →
      Reached step set n (Section locks e k) s st (k (name set.names Builtin.Failed)) st s
  reached_refused {locks = locks} {held = held} {e = e} {k = k} {st = st} is some = record { on = from_leads (inner_is set n locks held e k st is) (rw some here) }

  -- ---- what is read and written; mode and kernel

  pub reached_open : {k : Option (List Sym) → Prog} {s : S} {st : State} → Reached step set n (Open k) s st (k st.open_section) st s
  reached_open = record { on = here }

  pub reached_look : {symbol : Sym} {k : Seen → Prog} {s : S} {st : State} → Reached step set n (Look symbol k) s st (k (seen set.names st.definitions symbol)) st s
  reached_look = record { on = here }

  pub reached_put : {symbol : Sym} {new : Definition} {p : Prog} {s : S} {st : State} →
      Reached step set n (Put symbol new p) s st p (with_definitions (written set.names st.definitions symbol new) st) s
  reached_put = record { on = here }

  pub reached_moded : {k : Mode → ℕ → Prog} {s : S} {st : State} → Reached step set n (Moded k) s st (k set.mode set.kernel) (now_used st) s
  reached_moded = record { on = here }

  -- ---- calls

  pub reached_outer : {c : Request} {v : Tree} {k : Tree → Prog} {s z : S} {st st' : State} → Called step (Sends c) s st (Ok v) st' z → Reached step set n (Outer c k) s st (k v) st' z
  reached_outer {k = k} a = record { on = (a.went (λ x y. run set (eval_at set n) (k x) y)).by }

  pub ran_outer_out : {A : Type 0} {c : Request} {h : Exit} {q : Tree → (A → Prog) → Prog} {s z : S} {st st' : State} →
      Called step (Sends c) s st (Err h) st' z → Ran step set n (λ k. Outer c (λ v. q v k)) s st (Err h) st' z
  ran_outer_out {q = q} a = record { went = λ k. went_out (a.went (λ x y. run set (eval_at set n) (q x k) y)) }

  pub played_outer_out : {c : Request} {h : Exit} {k : Tree → Prog} {s z : S} {st st' : State} → Called step (Sends c) s st (Err h) st' z → Played step set n (Outer c k) s st (Err h) st' z
  played_outer_out {k = k} a = record { went = went_out (a.went (λ x y. run set (eval_at set n) (k x) y)) }

  pub ran_outer : {c : Request} {r : Result Tree Exit} {s z : S} {st st' : State} → Called step (Sends c) s st r st' z → Ran step set n (Outer c) s st r st' z
  ran_outer a = record { went = λ k. a.went (λ x y. run set (eval_at set n) (k x) y) }

  pub played_outer : {c : Request} {r : Result Tree Exit} {s z : S} {st st' : State} → Called step (Sends c) s st r st' z → Played step set n (Outer c Done) s st r st' z
  played_outer a = record { went = a.went (λ v t. Over (Value v) t) }

  -- ---- steps

  pub reached_turn : {p : Prog} {u : Unit {0}} {m : ℕ} {s : S} {st : State} → Counted true set.limits.steps st.steps (Ok u) m → Reached step set n (Turn p) s st p (record st { steps = m }) s
  reached_turn {st = st} c = record { on = rw (lt-ltb st.steps set.limits.steps c.by.0, c.by.1) here }

  pub played_turn_out : {p : Prog} {h : Halt} {m : ℕ} {s : S} {st : State} → Counted true set.limits.steps st.steps (Err h) m →
      Played step set n (Turn p) s st (Err (exit_of h)) (record st { steps = m }) s
  played_turn_out {st = st} c = record { went = rw (c.by.0, c.by.2, le-ltb st.steps set.limits.steps c.by.1) (record { by = here }) }

  pub led_turn : {A : Type 0} {p : (A → Prog) → Prog} {u : Unit {0}} {m : ℕ} {s : S} {st : State} → Counted true set.limits.steps st.steps (Ok u) m →
      Led step set n (λ k. Turn (p k)) s st p (record st { steps = m }) s
  led_turn c = record { on = λ k. reached_turn c }

  pub ran_turn_out : {A : Type 0} {p : (A → Prog) → Prog} {h : Halt} {m : ℕ} {s : S} {st : State} → Counted true set.limits.steps st.steps (Err h) m →
      Ran step set n (λ k. Turn (p k)) s st (Err (exit_of h)) (record st { steps = m }) s
  ran_turn_out {p = p} c = record { went = λ k. went_out (played_turn_out {p = p k} c).went }

  -- ---- expressions that count as results

  pub reached_check : {e : Tree} {p : Prog} {u : Unit {0}} {s : S} {st : State} → Fits set.limits e (Ok u) → Reached step set n (Check e p) s st p st s
  reached_check {e = e} f = record { on = rw (fits_none (too_large set.limits e) f.by) here }

  pub played_check_out : {e : Tree} {p : Prog} {h : Halt} {s : S} {st : State} → Fits set.limits e (Err h) → Played step set n (Check e p) s st (Err (exit_of h)) st s
  played_check_out {e = e} f = record { went = went_large (too_large set.limits e) _ _ f.by }

  pub led_check : {A : Type 0} {e : Tree} {p : (A → Prog) → Prog} {u : Unit {0}} {s : S} {st : State} → Fits set.limits e (Ok u) → Led step set n (λ k. Check e (p k)) s st p st s
  led_check f = record { on = λ k. reached_check f }

  pub ran_check_out : {A : Type 0} {e : Tree} {p : (A → Prog) → Prog} {h : Halt} {s : S} {st : State} → Fits set.limits e (Err h) → Ran step set n (λ k. Check e (p k)) s st (Err (exit_of h)) st s
  ran_check_out {e = e} f = record { went = λ k. went_large (too_large set.limits e) _ _ f.by }

  -- ---- module numbers

  pub reached_fresh : {k : ℕ → Prog} {m : ℕ} {d : Definitions} {s : S} {st : State} → Numbered st.definitions (Ok m) d → Reached step set n (Fresh k) s st (k m) (with_definitions d st) s
  reached_fresh {st = st} t = record { on = rw (t.by.1, t.by.2, ne_eqb st.definitions.module_number last_number t.by.0) here }

  pub played_fresh_out : {k : ℕ → Prog} {h : Halt} {d : Definitions} {s : S} {st : State} → Numbered st.definitions (Err h) d →
      Played step set n (Fresh k) s st (Err (exit_of h)) (with_definitions d st) s
  played_fresh_out {st = st} t = record { went = rw (t.by.0, t.by.2, eq-eqb st.definitions.module_number last_number t.by.1) (record { by = here }) }

  -- ---- the fixed point

  pub passed_here : {m : ℕ} {e : Tree} {s : S} {st : State} → Passed step set n m e s st m e st s
  passed_here = record { on = here }

  pub passed_on : {a b c : ℕ} {e f g : Tree} {s m z : S} {st st' st'' : State} → Passed step set n a e s st b f st' m → Passed step set n b f m st' c g st'' z → Passed step set n a e s st c g st'' z
  passed_on x y = record { on = leads_on x.on y.on }

  pub passed_settled : {a b : ℕ} {e f : Tree} {r : Result Tree Exit} {s m z : S} {st st' st'' : State} →
      Passed step set n a e s st b f st' m → Settled step set n b f m st' r st'' z → Settled step set n a e s st r st'' z
  passed_settled x y = record { went = went_on x.on y.went }

  pass_leads : (m : ℕ) (e : Tree) {v : Tree} {s z : S} {st st' : State} → Played step set n (pass set.names e) s st (Ok v) st' z →
      Leads step s (passes set (eval_at set n) m e st) (judging set n m e v st') z
  pass_leads zero e a = (went_passed set zero (again set n zero) e tt a.went).by
  pass_leads (suc m) e a = (went_passed set (suc m) (again set n (suc m)) e tt a.went).by

  -- the pass gave no value, and threw none itself
  pub settled_pass_out : (m : ℕ) (e : Tree) {h : Exit} {s z : S} {st st' : State} → throws_nothing {A = Tree} (Err h) → Played step set n (pass set.names e) s st (Err h) st' z → Settled step set n m e s st (Err h) st' z
  settled_pass_out zero e silent a = record { went = went_out (went_passed set zero (again set n zero) e silent a.went) }
  settled_pass_out (suc m) e silent a = record { went = went_out (went_passed set (suc m) (again set n (suc m)) e silent a.went) }

  throw_leads : (m : ℕ) (e : Tree) {v : Tree} {s z : S} {st st' : State} → Played step set n (pass set.names e) s st (Err (Exit.Throwing v)) st' z →
      Leads step s (passes set (eval_at set n) m e st) (changed set m (λ w t. Over (Thrown w) t) v st') z
  throw_leads zero e a = ending_leads (passed set zero (again set n zero) e) a.went.by
  throw_leads (suc m) e a = ending_leads (passed set (suc m) (again set n (suc m)) e) a.went.by

  -- it threw, which counts as a changing pass: none is left
  pub settled_throw_worn : (m : ℕ) (e : Tree) {v : Tree} {s z : S} {st st' : State} → m ≡ 0 → Played step set n (pass set.names e) s st (Err (Exit.Throwing v)) st' z →
      Settled step set n m e s st (Err (Exit.Stopped Stop.Iteration)) st' z
  settled_throw_worn zero e none a = record { went = record { by = throw_leads zero e a } }
  settled_throw_worn (suc m) e none a = absurd (omega arith)

  -- no step is left
  pub settled_throw_out : (m : ℕ) (e : Tree) {v : Tree} {i : ℕ} {h : Halt} {s z : S} {st st' : State} → 0 < m → Played step set n (pass set.names e) s st (Err (Exit.Throwing v)) st' z →
      Counted true set.limits.steps st'.steps (Err h) i → Settled step set n m e s st (Err (exit_of h)) (record st' { steps = i }) z
  settled_throw_out zero e some a c = absurd (omega arith)
  settled_throw_out (suc m) e {st' = st'} some a c =
      record { went = went_on (throw_leads (suc m) e a) (rw (c.by.0, c.by.2, le-ltb st'.steps set.limits.steps c.by.1) (record { by = here })) }

  -- it passes outwards
  pub settled_thrown : (m : ℕ) (e : Tree) {v : Tree} {i : ℕ} {u : Unit {0}} {s z : S} {st st' : State} → 0 < m → Played step set n (pass set.names e) s st (Err (Exit.Throwing v)) st' z →
      Counted true set.limits.steps st'.steps (Ok u) i → Settled step set n m e s st (Err (Exit.Thrown v)) (record st' { steps = i }) z
  settled_thrown zero e some a c = absurd (omega arith)
  settled_thrown (suc m) e {st' = st'} some a c =
      record { went = record { by = leads_on (throw_leads (suc m) e a) (rw (c.by.1, lt-ltb st'.steps set.limits.steps c.by.0) here) } }

  -- its value is too large
  pub settled_large : (m : ℕ) (e : Tree) {v : Tree} {h : Halt} {s z : S} {st st' : State} → Played step set n (pass set.names e) s st (Ok v) st' z → Fits set.limits v (Err h) →
      Settled step set n m e s st (Err (exit_of h)) st' z
  settled_large m e {v = v} a f = record { went = went_on (pass_leads m e a) (went_large (too_large set.limits v) _ _ f.by) }

  -- its value is the expression itself
  pub settled_same : (m : ℕ) (e : Tree) {v : Tree} {u : Unit {0}} {s z : S} {st st' : State} → Played step set n (pass set.names e) s st (Ok v) st' z → Fits set.limits v (Ok u) →
      same v e ≡ true → Settled step set n m e s st (Ok v) st' z
  settled_same m e {v = v} a f is = record { went = record { by = leads_on (pass_leads m e a) (rw (fits_none (too_large set.limits v) f.by, is) here) } }

  -- no changing pass is left
  pub settled_worn : (m : ℕ) (e : Tree) {v : Tree} {u : Unit {0}} {s z : S} {st st' : State} → m ≡ 0 → Played step set n (pass set.names e) s st (Ok v) st' z → Fits set.limits v (Ok u) →
      same v e ≡ false → Settled step set n m e s st (Err (Exit.Stopped Stop.Iteration)) st' z
  settled_worn zero e {v = v} none a f is = record { went = record { by = leads_on (pass_leads zero e a) (rw (fits_none (too_large set.limits v) f.by, is) here) } }
  settled_worn (suc m) e none a f is = absurd (omega arith)

  -- no step is left
  pub settled_again_out : (m : ℕ) (e : Tree) {v : Tree} {i : ℕ} {h : Halt} {u : Unit {0}} {s z : S} {st st' : State} → 0 < m → Played step set n (pass set.names e) s st (Ok v) st' z →
      Fits set.limits v (Ok u) → same v e ≡ false → Counted true set.limits.steps st'.steps (Err h) i → Settled step set n m e s st (Err (exit_of h)) (record st' { steps = i }) z
  settled_again_out zero e some a f is c = absurd (omega arith)
  settled_again_out (suc m) e {v = v} {st' = st'} some a f is c =
      record {
        went = went_on (pass_leads (suc m) e a)
            (rw (fits_none (too_large set.limits v) f.by, is, c.by.0, c.by.2, le-ltb st'.steps set.limits.steps c.by.1) (record { by = here }));
      }

  -- the next pass
  pub passed_again : (m : ℕ) (e : Tree) {v : Tree} {i : ℕ} {u w : Unit {0}} {s z : S} {st st' : State} → 0 < m → Played step set n (pass set.names e) s st (Ok v) st' z →
      Fits set.limits v (Ok u) → same v e ≡ false → Counted true set.limits.steps st'.steps (Ok w) i → Passed step set n m e s st (m - 1) v (record st' { steps = i }) z
  passed_again zero e some a f is c = absurd (omega arith)
  passed_again (suc m) e {v = v} {st' = st'} some a f is c =
      record { on = leads_on (pass_leads (suc m) e a) (rw (fits_none (too_large set.limits v) f.by, is, c.by.1, lt-ltb st'.steps set.limits.steps c.by.0, sub-one) here) }

-- no nested evaluation is left
pub evaluated_out : {S : Type 0} {step : Step S} {set : Setting} {e : Tree} {s : S} {st : State} → Evaluated step set 0 e s st (Err (Exit.Stopped Stop.Recursion)) st s
evaluated_out = record { went = record { by = here } }

-- a settled expression is evaluated
pub evaluated_deep : {S : Type 0} {step : Step S} {set : Setting} {e : Tree} {s z : S} {st st' : State} {r : Result Tree Exit} (m : ℕ) → 0 < m →
    Settled step set (m - 1) set.limits.iteration e s st r st' z → Evaluated step set m e s st r st' z
evaluated_deep zero h a = absurd (omega arith)
evaluated_deep {step = step} {set = set} {e = e} {s = s} {z = z} {st = st} {st' = st'} {r = r} (suc m) h a =
    let b : Settled step set m set.limits.iteration e s st r st' z = rw (sub-one) at a in
    record { went = b.went }

pub ruleset running = (played_ask, played_within, played_outer, reached_here, reached_ask, reached_within, reached_open, reached_look, reached_put, reached_moded, reached_outer, reached_turn, reached_check, reached_fresh, led_here, led_ask, led_then, led_turn, led_check, ran_value, ran_stop, ran_leaves, ran_memory, ran_lost, ran_ask_out, ran_then_out, ran_turn_out, ran_check_out, ran_outer, ran_outer_out, played_done, played_stop, played_leaves, played_gives, played_memory, played_lost, played_ask_out, played_within_out, played_turn_out, played_check_out, played_outer_out, played_fresh_out)
