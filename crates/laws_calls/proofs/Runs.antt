-- A pass whose program's calls may come makes evaluations whose calls may come, and which end where a section is open exactly where one was.
use Rattle.std.proofs.Common.{◌≡◌, refl, sym, ap, subst, ◌∙◌, ℕ, zero, suc, Bool, true, false, T, List, Option, Some, None, is_some, true≢false}
use Rattle.std.specs.Prelude.{not}
use Rattle.expr_tree.specs.declared.sym.Sym.{Sym}
use Rattle.expr_tree.specs.declared.limits.Stop.{Stop}
use Rattle.expr_tree.specs.Tree.{Tree}
use Rattle.expr_tree.specs.Order.{same}
use Rattle.semantics.specs.Definitions.{Definitions}
use Rattle.semantics.specs.Program.{Prog, Mode, Call, Request, Sends, Enter, Leave}
use Rattle.semantics.specs.Pass.{pass}
use Rattle.semantics.specs.Play.{Setting, State, End, Value, Stopped, Throwing, Thrown, Quit, Closed, Starved, Reply, Replied, Halted, Shut, Lacking, Play, Over, Calls, Evaluator, ending, on_value, catching, without_locals, calling, by_reply, unless_stopped, stepped, settled, if_number_left, all_among, by_locks, sectioned, leaving, opened, run, changed, judged, passed, passes, eval_at, with_definitions}
use Rattle.semantics.specs.Opened.{opens}
use Rattle.laws_calls.specs.Calls.{is_item, may_come, unstopped, NoneOpen, Fits, ended, called}
use Rattle.laws_calls.specs.Ends.{answered, may_end, EndsIn, at_end, at_call}
use Rattle.laws_calls.proofs.Programs.{Point, Fit, done, stop, quits, throws, ask, catches, within, section, asks_open, look, put, fresh, turn, check, outer, moded, shown}

-- whether a section is open in a state
abbrev pub open_in : State → Bool
open_in s = is_some s.open_section

abbrev pub point : Setting → Bool → Point
point set a = record { names = set.names; mode = set.mode; inside = a }

-- what was replied so far: no Leave by a stop, and each call by a value or a stop
pub record Told : Type 0 where
  pub unstopped : Bool
  pub answered : Bool

abbrev pub told : Call → Reply → Told → Told
told c r so_far = record { unstopped = unstopped c r so_far.unstopped; answered = answered r so_far.answered }

-- how something ends after these replies, where a section is open or not
abbrev Ending : Type 1
Ending = Told → End → Bool → Type 0

-- a stop leaves a section open that was open, and one of its own where Leave was answered by a stop
abbrev pub StoppedAt : Bool → Told → Bool → Type 0
StoppedAt a so_far now = (so_far.unstopped ≡ true → now ≡ a) × (a ≡ true → now ≡ a)

-- how a program ends that began where a section was open or not
abbrev pub RunEndIn : Mode → Bool → Ending
RunEndIn mode a so_far (Value v) now = now ≡ a
RunEndIn mode a so_far (Stopped c) now = StoppedAt a so_far now
RunEndIn mode a so_far (Throwing v) now = now ≡ a
RunEndIn mode a so_far (Thrown v) now = now ≡ a
RunEndIn mode a so_far Quit now = T (is_item mode)
RunEndIn mode a so_far Closed now = T (not so_far.answered)
RunEndIn mode a so_far Starved now = T (not so_far.answered)

-- and an evaluation, whose passes alone end with `Throwing`
abbrev pub EvalEndIn : Mode → Bool → Ending
EvalEndIn mode a so_far (Value v) now = now ≡ a
EvalEndIn mode a so_far (Stopped c) now = StoppedAt a so_far now
EvalEndIn mode a so_far (Throwing v) now = ⊥
EvalEndIn mode a so_far (Thrown v) now = now ≡ a
EvalEndIn mode a so_far Quit now = T (is_item mode)
EvalEndIn mode a so_far Closed now = T (not so_far.answered)
EvalEndIn mode a so_far Starved now = T (not so_far.answered)

pub data Goes (set : Setting) (E : Ending) : Told → Bool → Play → Type 0 where
  over : {so_far : Told} {now : Bool} {o : End} {s : State} → open_in s ≡ now → E so_far o now → Goes set E so_far now (Over o s)
  needs : {so_far : Told} {now : Bool} {c : Call} {s : State} {k : Reply → Definitions → Play} → open_in s ≡ now → T (may_come set.names set.mode now c)
      → ((r : Reply) (d : Definitions) → Goes set E (told c r so_far) (opens c r now) (k r d)) → Goes set E so_far now (Calls c s k)

stopped_so : (a : Bool) (so_far : Told) (now : Bool) → now ≡ a → StoppedAt a so_far now
stopped_so a so_far now is = (λ e. is, λ e. is)

module _ (set : Setting) where
  abbrev RunEnd : Bool → Ending
  RunEnd = RunEndIn set.mode

  abbrev EvalEnd : Bool → Ending
  EvalEnd = EvalEndIn set.mode

  -- what goes on where a section is open as it was at the start
  abbrev Carries : Ending → Bool → (Tree → State → Play) → Type 0
  Carries E a k = (v : Tree) (s : State) → open_in s ≡ a → (so_far : Told) → Goes set E so_far (open_in s) (k v s)

  abbrev Goes_on : Ending → Bool → (State → Play) → Type 0
  Goes_on E a k = (s : State) → open_in s ≡ a → (so_far : Told) → Goes set E so_far (open_in s) (k s)

  abbrev Joins : Ending → Ending → (End → State → Play) → Type 0
  Joins E F k = (o : End) (s : State) (so_far : Told) → E so_far o (open_in s) → Goes set F so_far (open_in s) (k o s)

  ending-goes : {E F : Ending} {so_far : Told} {now : Bool} {p : Play} {k : End → State → Play} → Joins E F k → Goes set E so_far now p → Goes set F so_far now (ending p k)
  ending-goes {E = E} {F = F} {so_far = so_far} {k = k} next (over {o = o} {s = s} e h) =
      subst (λ x. Goes set F so_far x (k o s)) e (next o s so_far (subst (λ x. E so_far o x) (sym e) h))
  ending-goes next (needs e may f) = needs e may (λ r d. ending-goes next (f r d))

  on_value-goes : (a : Bool) (k : Tree → State → Play) → Carries (RunEnd a) a k → Joins (EvalEnd a) (RunEnd a) (on_value k)
  on_value-goes a k next (Value v) s so_far h = next v s h so_far
  on_value-goes a k next (Stopped c) s so_far h = over refl h
  on_value-goes a k next (Throwing v) s so_far h = absurd h
  on_value-goes a k next (Thrown v) s so_far h = over refl h
  on_value-goes a k next Quit s so_far h = over refl h
  on_value-goes a k next Closed s so_far h = over refl h
  on_value-goes a k next Starved s so_far h = over refl h

  catching-goes : (a : Bool) (k : Tree → State → Play) → Carries (RunEnd a) a k → Joins (EvalEnd a) (RunEnd a) (catching k)
  catching-goes a k next (Value v) s so_far h = next v s h so_far
  catching-goes a k next (Stopped c) s so_far h = over refl h
  catching-goes a k next (Throwing v) s so_far h = absurd h
  catching-goes a k next (Thrown v) s so_far h = next v s h so_far
  catching-goes a k next Quit s so_far h = over refl h
  catching-goes a k next Closed s so_far h = over refl h
  catching-goes a k next Starved s so_far h = over refl h

  by_reply-goes : (a : Bool) (c : Request) (k : Tree → State → Play) → Carries (RunEnd a) a k → (r : Reply) (s : State) → open_in s ≡ a → (so_far : Told)
      → Goes set (RunEnd a) (told (Sends c) r so_far) (open_in s) (by_reply r s k)
  by_reply-goes a c k next (Replied v) s is so_far = next v s is (told (Sends c) (Replied v) so_far)
  by_reply-goes a c k next (Halted x) s is so_far = over refl (stopped_so a (told (Sends c) (Halted x) so_far) (open_in s) is)
  by_reply-goes a c k next Shut s is so_far = over refl tt
  by_reply-goes a c k next Lacking s is so_far = over refl tt

  sends-goes : (a : Bool) (c : Request) (k : Tree → State → Play) → T (may_come set.names set.mode a (Sends c)) → Carries (RunEnd a) a k → Goes_on (RunEnd a) a (λ s. calling (Sends c) s k)
  sends-goes a c k may next s is so_far =
      needs refl (subst (λ x. T (may_come set.names set.mode x (Sends c))) (sym is) may) (λ r d. by_reply-goes a c k next r (with_definitions d s) is so_far)

  unless_stopped-goes : {E : Ending} (a : Bool) (o : Option Stop) (k : State → Play)
      → ((c : Stop) (so_far : Told) (now : Bool) → now ≡ a → E so_far (Stopped c) now) → Goes_on E a k → Goes_on E a (λ s. unless_stopped o s k)
  unless_stopped-goes a None k stops next s is so_far = next s is so_far
  unless_stopped-goes a (Some c) k stops next s is so_far = over refl (stops c so_far (open_in s) is)

  stepped-goes : {E : Ending} (a b : Bool) (k : State → Play)
      → ((c : Stop) (so_far : Told) (now : Bool) → now ≡ a → E so_far (Stopped c) now) → Goes_on E a k → Goes_on E a (λ s. stepped b s k)
  stepped-goes a true k stops next s is so_far = next _ is so_far
  stepped-goes a false k stops next s is so_far = over refl (stops _ so_far (open_in s) is)

  if_number_left-goes : (a b : Bool) (k : ℕ → State → Play) → ((n : ℕ) → Goes_on (RunEnd a) a (k n)) → Goes_on (RunEnd a) a (λ s. if_number_left b s k)
  if_number_left-goes a true k next s is so_far = over refl (stopped_so a so_far (open_in s) is)
  if_number_left-goes a false k next s is so_far = next _ _ is so_far

  -- ---- sections

  -- Leave closes the section
  leaving-goes : (k : Tree → State → Play) → T (may_come set.names set.mode true Leave) → Carries (RunEnd false) false k → Joins (EvalEnd true) (RunEnd false) (leaving k)
  leaving-goes k may next (Value v) s so_far h = needs refl (subst (λ x. T (may_come set.names set.mode x Leave)) (sym h) may) go
    where
      go : (r : Reply) (d : Definitions) → Goes set (RunEnd false) (told Leave r so_far) (opens Leave r (open_in s)) (by_reply r (with_definitions d s) (λ _ t. k v (opened None t)))
      go (Replied w) d = next v (opened None (with_definitions d s)) refl (told Leave (Replied w) so_far)
      go (Halted c) d = over refl (λ e. absurd (true≢false (sym e)), λ e. absurd (true≢false (sym e)))
      go Shut d = over refl tt
      go Lacking d = over refl tt
  leaving-goes k may next (Stopped c) s so_far h = needs refl (subst (λ x. T (may_come set.names set.mode x Leave)) (sym (h.1 refl)) may) go
    where
      go : (r : Reply) (d : Definitions) → Goes set (RunEnd false) (told Leave r so_far) (opens Leave r (open_in s)) (by_reply r (with_definitions d s) (λ _ t. Over (Stopped c) (opened None t)))
      go (Replied w) d = over refl (stopped_so false (told Leave (Replied w) so_far) false refl)
      go (Halted x) d = over refl (λ e. absurd (true≢false (sym e)), λ e. absurd (true≢false (sym e)))
      go Shut d = over refl tt
      go Lacking d = over refl tt
  leaving-goes k may next (Throwing v) s so_far h = absurd h
  leaving-goes k may next (Thrown v) s so_far h = needs refl (subst (λ x. T (may_come set.names set.mode x Leave)) (sym h) may) go
    where
      go : (r : Reply) (d : Definitions) → Goes set (RunEnd false) (told Leave r so_far) (opens Leave r (open_in s)) (by_reply r (with_definitions d s) (λ _ t. Over (Thrown v) (opened None t)))
      go (Replied w) d = over refl refl
      go (Halted x) d = over refl (λ e. absurd (true≢false (sym e)), λ e. absurd (true≢false (sym e)))
      go Shut d = over refl tt
      go Lacking d = over refl tt
  leaving-goes k may next Quit s so_far h = over refl h
  leaving-goes k may next Closed s so_far h = over refl h
  leaving-goes k may next Starved s so_far h = over refl h

  -- Enter, where none is open
  enter-goes : (locks : List Sym) (k : State → Play) (s : State) (so_far : Told) → open_in s ≡ false → T (may_come set.names set.mode false (Enter locks))
      → ((t : State) (replied : Told) → Goes set (RunEnd false) replied true (k (opened (Some locks) t))) → Goes set (RunEnd false) so_far (open_in s) (calling (Enter locks) s (λ v t. k (opened (Some locks) t)))
  enter-goes locks k s so_far is may next = needs refl (subst (λ x. T (may_come set.names set.mode x (Enter locks))) (sym is) may) go
    where
      go : (r : Reply) (d : Definitions) → Goes set (RunEnd false) (told (Enter locks) r so_far) (opens (Enter locks) r (open_in s)) (by_reply r (with_definitions d s) (λ v t. k (opened (Some locks) t)))
      go (Replied w) d = next (with_definitions d s) (told (Enter locks) (Replied w) so_far)
      go (Halted c) d = over refl (stopped_so false (told (Enter locks) (Halted c) so_far) (open_in s) is)
      go Shut d = over refl tt
      go Lacking d = over refl tt

  sectioned-goes : (a : Bool) (so_far : Told) (o : Option (List Sym)) (locks : List Sym) (s : State) (x y z : State → Play) → (o ≡ None → Goes set (RunEnd a) so_far (open_in s) (x s))
      → Goes set (RunEnd a) so_far (open_in s) (y s) → Goes set (RunEnd a) so_far (open_in s) (z s) → Goes set (RunEnd a) so_far (open_in s) (sectioned o locks s x y z)
  sectioned-goes a so_far None locks s x y z one two three = one refl
  sectioned-goes a so_far (Some held) locks s x y z one two three = go (all_among locks held)
    where
      go : (chosen : Bool) → Goes set (RunEnd a) so_far (open_in s) (by_locks chosen s y z)
      go true = two
      go false = three

  -- ---- programs

  abbrev pub Steady : Evaluator → Type 0
  Steady ev = (a : Bool) → Carries (EvalEnd a) a ev

  section-goes : (a : Bool) (locks : List Sym) (e : Tree) (ev : Evaluator) (k : Tree → State → Play) → a ≡ false → Steady ev → T (may_come set.names set.mode false (Enter locks))
      → T (may_come set.names set.mode true Leave) → Carries (RunEnd a) a k → (s : State) → open_in s ≡ a → (so_far : Told)
      → Goes set (RunEnd a) so_far (open_in s) (calling (Enter locks) s (λ v u. ending (ev e (opened (Some locks) u)) (leaving k)))
  section-goes true locks e ev k outside one enter leave next s is so_far = absurd (true≢false outside)
  section-goes false locks e ev k outside one enter leave next s is so_far =
      enter-goes locks (λ u. ending (ev e u) (leaving k)) s so_far is enter (λ t replied. ending-goes (leaving-goes k leave next) (one true e (opened (Some locks) t) refl replied))

  pub run-goes : (ev : Evaluator) → Steady ev → (a : Bool) {p : Prog} → Fit (point set a) p → (s : State) → open_in s ≡ a → (so_far : Told) → Goes set (RunEnd a) so_far (open_in s) (run set ev p s)
  run-goes ev one a done s is so_far = over refl is
  run-goes ev one a stop s is so_far = over refl (stopped_so a so_far (open_in s) is)
  run-goes ev one a (quits may) s is so_far = over refl may
  run-goes ev one a throws s is so_far = over refl is
  run-goes ev one a (ask {e = e} next) s is so_far = ending-goes (on_value-goes a _ (λ v t. run-goes ev one a (next v) t)) (one a e s is so_far)
  run-goes ev one a (catches {e = e} next) s is so_far = ending-goes (catching-goes a _ (λ v t. run-goes ev one a (next v) t)) (one a e s is so_far)
  run-goes ev one a (within {ls = ls} {e = e} {k = k} next) s is so_far =
      ending-goes (λ o t sure h. on_value-goes a (λ v u. run set ev (k v) u) (λ v u. run-goes ev one a (next v) u) o (without_locals set.names s.definitions ls t) sure h) (one a e _ is so_far)
  run-goes ev one a (section {locks = locks} {e = e} {k = k} enter leave next) s is so_far =
      sectioned-goes a so_far s.open_section locks s _ _ _
      (λ none. section-goes a locks e ev (λ v w. run set ev (k v) w) (sym is ∙ ap is_some none) one enter leave (λ v w. run-goes ev one a (next v) w) s is so_far)
      (ending-goes (on_value-goes a _ (λ v t. run-goes ev one a (next v) t)) (one a e s is so_far)) (run-goes ev one a (next _) s is so_far)
  run-goes ev one a (asks_open next) s is so_far = run-goes ev one a (next s.open_section is) s is so_far
  run-goes ev one a (look next) s is so_far = run-goes ev one a (next _) s is so_far
  run-goes ev one a (put next) s is so_far = run-goes ev one a next _ is so_far
  run-goes ev one a (fresh next) s is so_far = if_number_left-goes a _ _ (λ n t. run-goes ev one a (next n) t) s is so_far
  run-goes ev one a (turn next) s is so_far = stepped-goes a _ _ (λ c sure now so. stopped_so a sure now so) (λ t. run-goes ev one a next t) s is so_far
  run-goes ev one a (check next) s is so_far = unless_stopped-goes a _ _ (λ c sure now so. stopped_so a sure now so) (λ t. run-goes ev one a next t) s is so_far
  run-goes ev one a (outer {c = c} may next) s is so_far = sends-goes a c _ may (λ v t. run-goes ev one a (next v) t) s is so_far
  run-goes ev one a (moded next) s is so_far = run-goes ev one a (next set.kernel) _ is so_far
  run-goes ev one a (shown next) s is so_far = run-goes ev one a (next set.shown) s is so_far

  -- ---- evaluations

  changed-goes : (a : Bool) (n : ℕ) (k : Evaluator) → Carries (EvalEnd a) a k → Carries (EvalEnd a) a (changed set n k)
  changed-goes a zero k next v s is so_far = over refl (stopped_so a so_far (open_in s) is)
  changed-goes a (suc n) k next v s is so_far = stepped-goes a _ _ (λ c sure now so. stopped_so a sure now so) (λ t. next v t) s is so_far

  settled-goes : (a b : Bool) (n : ℕ) (k : Evaluator) → Carries (EvalEnd a) a k → Carries (EvalEnd a) a (settled b set n k)
  settled-goes a true n k next v s is so_far = over refl is
  settled-goes a false n k next v s is so_far = changed-goes a n k next v s is so_far

  judged-goes : (a : Bool) (n : ℕ) (k : Evaluator) → Carries (EvalEnd a) a k → (e : Tree) → Carries (EvalEnd a) a (judged set n k e)
  judged-goes a n k next e v s is so_far =
      unless_stopped-goes a _ _ (λ c sure now so. stopped_so a sure now so) (λ t. settled-goes a (same v e) n k next v t) s is so_far

  passed-goes : (a : Bool) (n : ℕ) (k : Evaluator) → Carries (EvalEnd a) a k → (e : Tree) → Joins (RunEnd a) (EvalEnd a) (passed set n k e)
  passed-goes a n k next e (Value v) s so_far h = judged-goes a n k next e v s h so_far
  passed-goes a n k next e (Throwing v) s so_far h = changed-goes a n _ (λ w t is sure. over refl is) v s h so_far
  passed-goes a n k next e (Thrown v) s so_far h = over refl h
  passed-goes a n k next e (Stopped c) s so_far h = over refl h
  passed-goes a n k next e Quit s so_far h = over refl h
  passed-goes a n k next e Closed s so_far h = over refl h
  passed-goes a n k next e Starved s so_far h = over refl h

  -- where the program of each pass fits
  module _ (fit : (a : Bool) (e : Tree) → Fit (point set a) (pass set.names e)) where
    passes-goes : (ev : Evaluator) → Steady ev → (n : ℕ) → Steady (passes set ev n)
    passes-goes ev one zero a e s is so_far =
        ending-goes (passed-goes a zero _ (λ v t so sure. over refl (stopped_so a sure (open_in t) so)) e) (run-goes ev one a (fit a e) s is so_far)
    passes-goes ev one (suc n) a e s is so_far = ending-goes (passed-goes a (suc n) _ (λ v t. passes-goes ev one n a v t) e) (run-goes ev one a (fit a e) s is so_far)

    pub eval_at-goes : (n : ℕ) → Steady (eval_at set n)
    eval_at-goes zero a e s is so_far = over refl (stopped_so a so_far (open_in s) is)
    eval_at-goes (suc n) a e s is so_far = passes-goes _ (eval_at-goes n) set.limits.iteration a e s is so_far

  -- ---- whole evaluations

  none_open : (o : End) (so_far : Told) (now : Bool) → EvalEnd false so_far o now → so_far.unstopped ≡ true → NoneOpen o now
  none_open (Value v) so_far now h sure = h
  none_open (Stopped c) so_far now h sure = h.0 sure
  none_open (Throwing v) so_far now h sure = absurd h
  none_open (Thrown v) so_far now h sure = h
  none_open Quit so_far now h sure = tt
  none_open Closed so_far now h sure = tt
  none_open Starved so_far now h sure = tt

  pub fits : {so_far : Told} {now : Bool} {p : Play} → Goes set (EvalEnd false) so_far now p → Fits set.names set.mode so_far.unstopped now p
  fits (over {o = o} e h) = ended e (none_open o _ _ h)
  fits (needs e may f) = called e may (λ r d. fits (f r d))

  may_end_so : (o : End) (so_far : Told) (now : Bool) → EvalEnd false so_far o now → T (may_end set.mode so_far.answered o)
  may_end_so (Value v) so_far now h = tt
  may_end_so (Stopped c) so_far now h = tt
  may_end_so (Throwing v) so_far now h = h
  may_end_so (Thrown v) so_far now h = tt
  may_end_so Quit so_far now h = h
  may_end_so Closed so_far now h = h
  may_end_so Starved so_far now h = h

  pub ends_in : {so_far : Told} {now : Bool} {p : Play} → Goes set (EvalEnd false) so_far now p → EndsIn set.mode so_far.answered p
  ends_in (over {o = o} e h) = at_end (may_end_so o _ _ h)
  ends_in (needs e may f) = at_call (λ r d. ends_in (f r d))
