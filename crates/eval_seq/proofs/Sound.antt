-- Every evaluation ends as open as it began, but for Quit and what a call ends; calls that are answered by Closed or find no memory end it;
-- and what a pass throws itself is judged by its evaluation.
use Rattle.std.proofs.Common.{◌≡◌, refl, sym, ap, subst, ◌∙◌, ℕ, zero, suc, Bool, true, false, T, not, List, Option, Some, None, is_some, true≢false}
use Rattle.expr_tree.specs.declared.sym.Sym.{Sym}
use Rattle.expr_tree.specs.Tree.{Tree}
use Rattle.expr_tree.specs.Order.{same}
use Rattle.semantics.specs.Definitions.{Definitions}
use Rattle.semantics.specs.Program.{Prog, Done, Stops, Quits, Throws, Ask, Catches, Within, Section, Open, Look, Put, Fresh, Turn, Check, Outer, Moded, Shown, Request, Call, Sends, Enter, Leave}
use Rattle.expr_tree.specs.declared.limits.Stop.{Stop}
use Rattle.semantics.specs.Pass.{pass}
use Rattle.semantics.specs.Play.{Setting, State, End, Value, Stopped, Throwing, Thrown, Quit, Closed, Starved, Reply, Replied, Halted, Shut, Lacking, Play, Over, Calls, Evaluator, ending, on_value, catching, without_locals, leaving_locals, calling, by_reply, unless_stopped, stepped, settled, if_number_left, all_among, by_locks, sectioned, leaving, opened, run, changed, judged, passed, passes, eval_at, with_definitions}
use Rattle.semantics.specs.Opened.{opens, may_call}
use Rattle.eval_seq.specs.Outward.{may_reply}

abbrev pub open_in : State → Bool
open_in s = is_some s.open_section

-- a value, a stop and a throw leave it as open as it was
abbrev pub Same : Bool → End → Bool → Type 0
Same a (Value v) now = now ≡ a
Same a (Stopped c) now = now ≡ a
Same a (Throwing v) now = now ≡ a
Same a (Thrown v) now = now ≡ a
Same a Quit now = Unit {0}
Same a Closed now = Unit {0}
Same a Starved now = Unit {0}

-- a whole evaluation judges what it throws
abbrev pub Proper : Bool → End → Type 0
Proper w (Value v) = Unit {0}
Proper w (Stopped c) = Unit {0}
Proper w (Throwing v) = T (not w)
Proper w (Thrown v) = Unit {0}
Proper w Quit = Unit {0}
Proper w Closed = Unit {0}
Proper w Starved = Unit {0}

-- it has ended with a call
abbrev pub IsLost : Play → Type 0
IsLost (Over (Value v) s) = ⊥
IsLost (Over (Stopped c) s) = ⊥
IsLost (Over (Throwing v) s) = ⊥
IsLost (Over (Thrown v) s) = ⊥
IsLost (Over Quit s) = ⊥
IsLost (Over Closed s) = Unit {0}
IsLost (Over Starved s) = Unit {0}
IsLost (Calls c s k) = ⊥

pub data Sound (whole inside : Bool) : Bool → Play → Type 0 where
  over : {now : Bool} {o : End} {s : State} → is_some s.open_section ≡ now → Same inside o now → Proper whole o → Sound whole inside now (Over o s)
  calls : {now : Bool} {c : Call} {s : State} {k : Reply → Definitions → Play} → is_some s.open_section ≡ now → T (may_call c now)
      → ((d : Definitions) → IsLost (k Shut d)) → ((d : Definitions) → IsLost (k Lacking d))
      → ((r : Reply) (d : Definitions) → may_reply c r ≡ true → Sound whole inside (opens c r now) (k r d)) → Sound whole inside now (Calls c s k)

-- a play tells whether a section is open
pub sound_same : {w x a b m n : Bool} {t : Play} → Sound w a m t → Sound x b n t → m ≡ n
sound_same (over e f g) (over h i j) = sym e ∙ h
sound_same (calls e f g h i) (calls j l m n o) = sym e ∙ j

abbrev Carries : Bool → Bool → (Tree → State → Play) → Type 0
Carries w a k = (v : Tree) (s : State) → open_in s ≡ a → Sound w a (open_in s) (k v s)

as_it_was : (a : Bool) (o : End) (now : Bool) → now ≡ a → Same a o now
as_it_was a (Value v) now e = e
as_it_was a (Stopped c) now e = e
as_it_was a (Throwing v) now e = e
as_it_was a (Thrown v) now e = e
as_it_was a Quit now e = tt
as_it_was a Closed now e = tt
as_it_was a Starved now e = tt

stop : (w a : Bool) (c : Stop) (s : State) → open_in s ≡ a → Sound w a (open_in s) (Over (Stopped c) s)
stop w a c s e = over refl e tt

lost_on : (p : Play) (k : End → State → Play) → ((s : State) → IsLost (k Closed s)) → ((s : State) → IsLost (k Starved s)) → IsLost p → IsLost (ending p k)
lost_on (Over (Value v) s) k shut lack h = absurd h
lost_on (Over (Stopped c) s) k shut lack h = absurd h
lost_on (Over (Throwing v) s) k shut lack h = absurd h
lost_on (Over (Thrown v) s) k shut lack h = absurd h
lost_on (Over Quit s) k shut lack h = absurd h
lost_on (Over Closed s) k shut lack h = shut s
lost_on (Over Starved s) k shut lack h = lack s
lost_on (Calls c s f) k shut lack h = absurd h

ending-sound : {w x a b now : Bool} {p : Play} (k : End → State → Play) → ((s : State) → IsLost (k Closed s)) → ((s : State) → IsLost (k Starved s))
    → ((o : End) (s : State) → Same b o (open_in s) → Proper x o → Sound w a (open_in s) (k o s)) → Sound x b now p → Sound w a now (ending p k)
ending-sound {w = w} {x = x} {a = a} {b = b} k shut lack next (over {o = o} {s = s} e h g) = subst (λ now. Sound w a now (k o s)) e (next o s (subst (λ now. Same b o now) (sym e) h) g)
ending-sound k shut lack next (calls {k = f} e may one two on) =
    calls e may (λ d. lost_on (f Shut d) k shut lack (one d)) (λ d. lost_on (f Lacking d) k shut lack (two d)) (λ r d fits. ending-sound k shut lack next (on r d fits))

-- of an evaluation one deeper, which throws nothing itself
on_value-sound : (w a b : Bool) → b ≡ a → (k : Tree → State → Play) → Carries w a k → (o : End) (s : State) → Same b o (open_in s) → Proper true o → Sound w a (open_in s) (on_value k o s)
on_value-sound w a b is k next (Value v) s h g = next v s (h ∙ is)
on_value-sound w a b is k next (Stopped c) s h g = over refl (h ∙ is) tt
on_value-sound w a b is k next (Throwing v) s h g = absurd g
on_value-sound w a b is k next (Thrown v) s h g = over refl (h ∙ is) tt
on_value-sound w a b is k next Quit s h g = over refl tt tt
on_value-sound w a b is k next Closed s h g = over refl tt tt
on_value-sound w a b is k next Starved s h g = over refl tt tt

catching-sound : (w a b : Bool) → b ≡ a → (k : Tree → State → Play) → Carries w a k → (o : End) (s : State) → Same b o (open_in s) → Proper true o → Sound w a (open_in s) (catching k o s)
catching-sound w a b is k next (Value v) s h g = next v s (h ∙ is)
catching-sound w a b is k next (Stopped c) s h g = over refl (h ∙ is) tt
catching-sound w a b is k next (Throwing v) s h g = absurd g
catching-sound w a b is k next (Thrown v) s h g = next v s (h ∙ is)
catching-sound w a b is k next Quit s h g = over refl tt tt
catching-sound w a b is k next Closed s h g = over refl tt tt
catching-sound w a b is k next Starved s h g = over refl tt tt

by_reply-sound : (w a : Bool) (k : Tree → State → Play) → Carries w a k → (r : Reply) (s : State) → open_in s ≡ a → Sound w a (open_in s) (by_reply r s k)
by_reply-sound w a k next (Replied v) s e = next v s e
by_reply-sound w a k next (Halted c) s e = over refl e tt
by_reply-sound w a k next Shut s e = over refl tt tt
by_reply-sound w a k next Lacking s e = over refl tt tt

sends-sound : (w a : Bool) (c : Request) (s : State) (k : Tree → State → Play) → Carries w a k → open_in s ≡ a → Sound w a (open_in s) (calling (Sends c) s k)
sends-sound w a c s k next e = calls refl tt (λ d. tt) (λ d. tt) (λ r d fits. by_reply-sound w a k next r (with_definitions d s) e)

unless_stopped-sound : (w a : Bool) (o : Option Stop) (s : State) (k : State → Play) → open_in s ≡ a → ((t : State) → open_in t ≡ a → Sound w a (open_in t) (k t)) → Sound w a (open_in s) (unless_stopped o s k)
unless_stopped-sound w a None s k e next = next s e
unless_stopped-sound w a (Some c) s k e next = stop w a c s e

stepped-sound : (w a b : Bool) (s : State) (k : State → Play) → open_in s ≡ a → ((t : State) → open_in t ≡ a → Sound w a (open_in t) (k t)) → Sound w a (open_in s) (stepped b s k)
stepped-sound w a true s k e next = next _ e
stepped-sound w a false s k e next = stop w a _ s e

if_number_left-sound : (w a b : Bool) (s : State) (k : ℕ → State → Play) → open_in s ≡ a → ((n : ℕ) (t : State) → open_in t ≡ a → Sound w a (open_in t) (k n t)) → Sound w a (open_in s) (if_number_left b s k)
if_number_left-sound w a true s k e next = stop w a _ s e
if_number_left-sound w a false s k e next = next _ _ e

-- ---- sections

leaving-sound : (w a : Bool) → false ≡ a → (k : Tree → State → Play) → Carries w a k → (o : End) (s : State) → Same true o (open_in s) → Proper true o → Sound w a (open_in s) (leaving k o s)
leaving-sound w a outside k next (Value v) s h g = calls refl (subst T (sym h) tt) (λ d. tt) (λ d. tt) go
  where
    go : (r : Reply) (d : Definitions) → may_reply Leave r ≡ true → Sound w a (opens Leave r (open_in s)) (by_reply r (with_definitions d s) (λ _ t. k v (opened None t)))
    go (Replied x) d fits = next v _ outside
    go (Halted c) d fits = absurd (true≢false (sym fits))
    go Shut d fits = over refl tt tt
    go Lacking d fits = over refl tt tt
leaving-sound w a outside k next (Stopped c) s h g = calls refl (subst T (sym h) tt) (λ d. tt) (λ d. tt) go
  where
    go : (r : Reply) (d : Definitions) → may_reply Leave r ≡ true → Sound w a (opens Leave r (open_in s)) (by_reply r (with_definitions d s) (λ _ t. Over (Stopped c) (opened None t)))
    go (Replied x) d fits = over refl outside tt
    go (Halted x) d fits = absurd (true≢false (sym fits))
    go Shut d fits = over refl tt tt
    go Lacking d fits = over refl tt tt
leaving-sound w a outside k next (Throwing v) s h g = absurd g
leaving-sound w a outside k next (Thrown v) s h g = calls refl (subst T (sym h) tt) (λ d. tt) (λ d. tt) go
  where
    go : (r : Reply) (d : Definitions) → may_reply Leave r ≡ true → Sound w a (opens Leave r (open_in s)) (by_reply r (with_definitions d s) (λ _ t. Over (Thrown v) (opened None t)))
    go (Replied x) d fits = over refl outside tt
    go (Halted x) d fits = absurd (true≢false (sym fits))
    go Shut d fits = over refl tt tt
    go Lacking d fits = over refl tt tt
leaving-sound w a outside k next Quit s h g = over refl tt tt
leaving-sound w a outside k next Closed s h g = over refl tt tt
leaving-sound w a outside k next Starved s h g = over refl tt tt

enter-sound : (w a : Bool) (locks : List Sym) (s : State) (k : State → Play) → s.open_section ≡ None
    → ((t : State) → Sound w a true (k (opened (Some locks) t))) → Sound w a (open_in s) (calling (Enter locks) s (λ _ t. k (opened (Some locks) t)))
enter-sound w a locks s k none next = calls refl (subst (λ o. T (not (is_some o))) (sym none) tt) (λ d. tt) (λ d. tt) go
  where
    go : (r : Reply) (d : Definitions) → may_reply (Enter locks) r ≡ true → Sound w a (opens (Enter locks) r (open_in s)) (by_reply r (with_definitions d s) (λ _ t. k (opened (Some locks) t)))
    go (Replied v) d fits = next (with_definitions d s)
    go (Halted c) d fits = absurd (true≢false (sym fits))
    go Shut d fits = over refl tt tt
    go Lacking d fits = over refl tt tt

sectioned-sound : (w a : Bool) (o : Option (List Sym)) (locks : List Sym) (s : State) (x y z : State → Play) → s.open_section ≡ o
    → (s.open_section ≡ None → Sound w a (open_in s) (x s)) → Sound w a (open_in s) (y s) → Sound w a (open_in s) (z s) → Sound w a (open_in s) (sectioned o locks s x y z)
sectioned-sound w a None locks s x y z is one two three = one is
sectioned-sound w a (Some held) locks s x y z is one two three = go (all_among locks held)
  where
    go : (chosen : Bool) → Sound w a (open_in s) (by_locks chosen s y z)
    go true = two
    go false = three

-- ---- programs

abbrev pub IsSound : Evaluator → Type 0
IsSound ev = (e : Tree) (s : State) → Sound true (open_in s) (open_in s) (ev e s)

pub run-sound : (set : Setting) (ev : Evaluator) → IsSound ev → (p : Prog) (s : State) (a : Bool) → open_in s ≡ a → Sound false a (open_in s) (run set ev p s)
run-sound set ev one (Done e) s a is = over refl is tt
run-sound set ev one (Stops c) s a is = over refl is tt
run-sound set ev one Quits s a is = over refl tt tt
run-sound set ev one (Throws v) s a is = over refl is tt
run-sound set ev one (Ask e k) s a is = ending-sound (on_value (λ v t. run set ev (k v) t)) (λ t. tt) (λ t. tt) (on_value-sound false a (open_in s) is (λ v t. run set ev (k v) t) (λ v t. run-sound set ev one (k v) t a)) (one e s)
run-sound set ev one (Catches e k) s a is = ending-sound (catching (λ v t. run set ev (k v) t)) (λ t. tt) (λ t. tt) (catching-sound false a (open_in s) is (λ v t. run set ev (k v) t) (λ v t. run-sound set ev one (k v) t a)) (one e s)
run-sound set ev one (Within ls e k) s a is =
    ending-sound {b = open_in s} (leaving_locals set.names s.definitions ls (λ v t. run set ev (k v) t)) (λ t. tt) (λ t. tt)
    (λ o t h g. on_value-sound false a (open_in s) is (λ v u. run set ev (k v) u) (λ v u. run-sound set ev one (k v) u a) o (without_locals set.names s.definitions ls t) h g) (one e _)
run-sound set ev one (Section locks e k) s a is =
    sectioned-sound false a s.open_section locks s _ _ _ refl
    (λ none. enter-sound false a locks s (λ u. ending (ev e u) (leaving (λ v w. run set ev (k v) w))) none (λ t.
    ending-sound {b = true} (leaving (λ v w. run set ev (k v) w)) (λ u. tt) (λ u. tt) (leaving-sound false a (sym (ap is_some none) ∙ is) (λ v w. run set ev (k v) w) (λ v u. run-sound set ev one (k v) u a)) (one e (opened (Some locks) t))))
    (ending-sound (on_value (λ v t. run set ev (k v) t)) (λ t. tt) (λ t. tt) (on_value-sound false a (open_in s) is (λ v t. run set ev (k v) t) (λ v t. run-sound set ev one (k v) t a)) (one e s))
    (run-sound set ev one (k _) s a is)
run-sound set ev one (Open k) s a is = run-sound set ev one (k s.open_section) s a is
run-sound set ev one (Look symbol k) s a is = run-sound set ev one (k _) s a is
run-sound set ev one (Put symbol new p) s a is = run-sound set ev one p _ a is
run-sound set ev one (Fresh k) s a is = if_number_left-sound false a _ s _ is (λ n t. run-sound set ev one (k n) t a)
run-sound set ev one (Turn p) s a is = stepped-sound false a _ s _ is (λ t. run-sound set ev one p t a)
run-sound set ev one (Check e p) s a is = unless_stopped-sound false a _ s _ is (λ t. run-sound set ev one p t a)
run-sound set ev one (Outer c k) s a is = sends-sound false a c s _ (λ v t. run-sound set ev one (k v) t a) is
run-sound set ev one (Moded k) s a is = run-sound set ev one (k set.mode set.kernel) _ a is
run-sound set ev one (Shown k) s a is = run-sound set ev one (k set.shown) s a is

changed-sound : (set : Setting) (a : Bool) (n : ℕ) (k : Evaluator) → Carries true a k → Carries true a (changed set n k)
changed-sound set a zero k next v s is = over refl is tt
changed-sound set a (suc n) k next v s is = stepped-sound true a _ s _ is (λ t. next v t)

settled-sound : (set : Setting) (a b : Bool) (n : ℕ) (k : Evaluator) → Carries true a k → Carries true a (settled b set n k)
settled-sound set a true n k next v s is = over refl is tt
settled-sound set a false n k next v s is = changed-sound set a n k next v s is

judged-sound : (set : Setting) (a : Bool) (n : ℕ) (k : Evaluator) → Carries true a k → (e : Tree) → Carries true a (judged set n k e)
judged-sound set a n k next e v s is = unless_stopped-sound true a _ s _ is (λ t. settled-sound set a (same v e) n k next v t)

passed-sound : (set : Setting) (a : Bool) (n : ℕ) (k : Evaluator) → Carries true a k → (e : Tree) (o : End) (s : State) → Same a o (open_in s) → Proper false o → Sound true a (open_in s) (passed set n k e o s)
passed-sound set a n k next e (Value v) s h g = judged-sound set a n k next e v s h
passed-sound set a n k next e (Throwing v) s h g = changed-sound set a n _ (λ w t is. over refl is tt) v s h
passed-sound set a n k next e (Thrown v) s h g = over refl h tt
passed-sound set a n k next e (Stopped c) s h g = over refl h tt
passed-sound set a n k next e Quit s h g = over refl tt tt
passed-sound set a n k next e Closed s h g = over refl tt tt
passed-sound set a n k next e Starved s h g = over refl tt tt

pub passes-sound : (set : Setting) (ev : Evaluator) → IsSound ev → (a : Bool) (n : ℕ) → Carries true a (passes set ev n)
passes-sound set ev one a zero e s is =
    ending-sound (passed set zero (λ v t. Over (Stopped Stop.Iteration) t) e) (λ t. tt) (λ t. tt) (passed-sound set a zero _ (λ v t h. over refl h tt) e) (run-sound set ev one (pass set.names e) s a is)
passes-sound set ev one a (suc n) e s is =
    ending-sound (passed set (suc n) (λ v t. passes set ev n v t) e) (λ t. tt) (λ t. tt) (passed-sound set a (suc n) _ (λ v t. passes-sound set ev one a n v t) e) (run-sound set ev one (pass set.names e) s a is)

pub eval_at-sound : (set : Setting) (n : ℕ) → IsSound (eval_at set n)
eval_at-sound set zero e s = over refl refl tt
eval_at-sound set (suc n) e s = passes-sound set _ (eval_at-sound set n) (open_in s) set.limits.iteration e s refl
