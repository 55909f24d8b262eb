-- Looser limits change no evaluation that ended with a value, with a throw or at Quit.
use Rattle.std.proofs.Common.{◌≡◌, refl, sym, subst, ℕ, zero, suc, ◌≤◌, Bool, true, false, T, ltb, List, [], ◌∷◌, Option, Some, None, is_none, arith, le_trans, lt_of_lt_of_le, le_of_suc-le-suc, not-suc-le-zero, ltb-true, ltb-false, lt-ltb, le-ltb}
use Rattle.expr_tree.specs.declared.sym.Sym.{Sym}
use Rattle.expr_tree.specs.Tree.{Tree, size, depth}
use Rattle.expr_tree.specs.Order.{same}
use Rattle.semantics.specs.Definitions.{Definitions}
use Rattle.semantics.specs.Program.{Prog, Done, Stops, Quits, Throws, Ask, Catches, Within, Section, Open, Look, Put, Fresh, Turn, Check, Outer, Moded, Shown, Call}
use Rattle.expr_tree.specs.declared.limits.Stop.{Stop}
use Rattle.semantics.specs.Pass.{pass}
use Rattle.expr_tree.specs.declared.limits.Limits.{Limits}
use Rattle.semantics.specs.Play.{Setting, State, End, Value, Stopped, Throwing, Thrown, Quit, Closed, Starved, Reply, Replied, Halted, Shut, Lacking, Play, Over, Calls, Evaluator, ending, on_value, catching, first_cause, too_large, with_step, calling, by_reply, unless_stopped, stepped, settled, if_number_left, leaving, all_among, by_locks, sectioned, opened, run, changed, judged, passed, passes, eval_at, begun}
use Rattle.semantics.specs.Eval.{Event, if_matched, over, eval, same_call}
use Rattle.laws_language.specs.Laws.{Looser, LooserKeeps, is_final, is_finished, with_limits}

zero-not-suc : {n : ℕ} → zero ≡ suc n → ⊥
zero-not-suc e = Prim.grind arith

-- no replies lead to a value, a throw or Quit
data Unfinished : Play → Type 0 where
  ended : {o : End} {s : State} → ¬ (T (is_final o)) → Unfinished (Over o s)
  called : {c : Call} {s : State} {k : Reply → Definitions → Play} → ((r : Reply) (d : Definitions) → Unfinished (k r d)) → Unfinished (Calls c s k)

-- the second is the first, as long as the first can finish
data Keeps : Play → Play → Type 0 where
  ends : {o : End} {s : State} → Keeps (Over o s) (Over o s)
  needs : {c : Call} {s : State} {k l : Reply → Definitions → Play} → ((r : Reply) (d : Definitions) → Keeps (k r d) (l r d)) → Keeps (Calls c s k) (Calls c s l)
  unfinished : {p q : Play} → Unfinished p → Keeps p q

abbrev Continues : (Tree → State → Play) → (Tree → State → Play) → Type 0
Continues k l = (v : Tree) (t : State) → Keeps (k v t) (l v t)

abbrev EndsContinue : (End → State → Play) → (End → State → Play) → Type 0
EndsContinue k l = (o : End) (t : State) → Keeps (k o t) (l o t)

-- what is not final does not become final
abbrev Stays : (End → State → Play) → Type 0
Stays k = (o : End) (t : State) → ¬ (T (is_final o)) → Unfinished (k o t)

ending-unfinished : {p : Play} {k : End → State → Play} → Stays k → Unfinished p → Unfinished (ending p k)
ending-unfinished stays (ended h) = stays _ _ h
ending-unfinished stays (called next) = called (λ r d. ending-unfinished stays (next r d))

ending-keeps : {p q : Play} {k l : End → State → Play} → Stays k → EndsContinue k l → Keeps p q → Keeps (ending p k) (ending q l)
ending-keeps stays next ends = next _ _
ending-keeps stays next (needs f) = needs (λ r d. ending-keeps stays next (f r d))
ending-keeps stays next (unfinished u) = unfinished (ending-unfinished stays u)

on_value-stays : (k : Tree → State → Play) → Stays (on_value k)
on_value-stays k (Value v) s h = absurd (h tt)
on_value-stays k (Stopped c) s h = ended h
on_value-stays k (Throwing v) s h = absurd (h tt)
on_value-stays k (Thrown v) s h = absurd (h tt)
on_value-stays k Quit s h = ended h
on_value-stays k Closed s h = ended h
on_value-stays k Starved s h = ended h

on_value-keeps : {k l : Tree → State → Play} → Continues k l → EndsContinue (on_value k) (on_value l)
on_value-keeps next (Value v) s = next v s
on_value-keeps next (Stopped c) s = ends
on_value-keeps next (Throwing v) s = ends
on_value-keeps next (Thrown v) s = ends
on_value-keeps next Quit s = ends
on_value-keeps next Closed s = ends
on_value-keeps next Starved s = ends

catching-stays : (k : Tree → State → Play) → Stays (catching k)
catching-stays k (Value v) s h = absurd (h tt)
catching-stays k (Stopped c) s h = ended h
catching-stays k (Throwing v) s h = absurd (h tt)
catching-stays k (Thrown v) s h = absurd (h tt)
catching-stays k Quit s h = ended h
catching-stays k Closed s h = ended h
catching-stays k Starved s h = ended h

catching-keeps : {k l : Tree → State → Play} → Continues k l → EndsContinue (catching k) (catching l)
catching-keeps next (Value v) s = next v s
catching-keeps next (Stopped c) s = ends
catching-keeps next (Throwing v) s = ends
catching-keeps next (Thrown v) s = next v s
catching-keeps next Quit s = ends
catching-keeps next Closed s = ends
catching-keeps next Starved s = ends

by_reply-keeps : {k l : Tree → State → Play} → Continues k l → (r : Reply) (s : State) → Keeps (by_reply r s k) (by_reply r s l)
by_reply-keeps next (Replied v) s = next v s
by_reply-keeps next (Halted c) s = ends
by_reply-keeps next Shut s = ends
by_reply-keeps next Lacking s = ends

calling-keeps : (c : Call) (s : State) {k l : Tree → State → Play} → Continues k l → Keeps (calling c s k) (calling c s l)
calling-keeps c s next = needs (λ r d. by_reply-keeps next r _)

-- a stop stays one after the call Leave
leave-unfinished : (cause : Stop) (r : Reply) (s : State) → Unfinished (by_reply r s (λ _ t. Over (Stopped cause) (opened None t)))
leave-unfinished cause (Replied v) s = ended (λ h. h)
leave-unfinished cause (Halted c) s = ended (λ h. h)
leave-unfinished cause Shut s = ended (λ h. h)
leave-unfinished cause Lacking s = ended (λ h. h)

leaving-stays : (k : Tree → State → Play) → Stays (leaving k)
leaving-stays k (Value v) s h = absurd (h tt)
leaving-stays k (Stopped c) s h = called (λ r d. leave-unfinished c r _)
leaving-stays k (Throwing v) s h = absurd (h tt)
leaving-stays k (Thrown v) s h = absurd (h tt)
leaving-stays k Quit s h = absurd (h tt)
leaving-stays k Closed s h = ended h
leaving-stays k Starved s h = ended h

leaving-keeps : {k l : Tree → State → Play} → Continues k l → EndsContinue (leaving k) (leaving l)
leaving-keeps next (Value v) s = calling-keeps _ s (λ _ t. next v (opened None t))
leaving-keeps next (Stopped c) s = calling-keeps _ s (λ _ t. ends)
leaving-keeps next (Throwing v) s = ends
leaving-keeps next (Thrown v) s = calling-keeps _ s (λ _ t. ends)
leaving-keeps next Quit s = ends
leaving-keeps next Closed s = ends
leaving-keeps next Starved s = ends

-- a limit that leaves room leaves room where it is greater
room-left : (a b c : ℕ) → b ≤ c → ltb a b ≡ true → ltb a c ≡ true
room-left a b c cons e = lt-ltb a c (lt_of_lt_of_le (ltb-true a b e) cons)

within : (a b c : ℕ) → a ≤ b → ltb a c ≡ false → ltb b c ≡ false
within a b c cons e = le-ltb b c (le_trans (ltb-false a c e) cons)

stepped-keeps : (b c : Bool) → (b ≡ true → c ≡ true) → (s : State) {k l : State → Play} → ((t : State) → Keeps (k t) (l t)) → Keeps (stepped b s k) (stepped c s l)
stepped-keeps true c cons s next = rw (cons refl) (next _)
stepped-keeps false c cons s next = unfinished (ended (λ h. h))

with_step-keeps : (l m : Limits) → Looser l m → (s : State) {j k : State → Play} → ((t : State) → Keeps (j t) (k t)) → Keeps (with_step l s j) (with_step m s k)
with_step-keeps l m cons s next = stepped-keeps (ltb s.steps l.steps) (ltb s.steps m.steps) (room-left s.steps l.steps m.steps cons.steps) s next

-- an expression within the limits is within looser ones
still_fits : (a b c d : Bool) → (a ≡ false → c ≡ false) → (b ≡ false → d ≡ false) → first_cause a b ≡ None → first_cause c d ≡ None
still_fits true b c d size_more depth_more e = absurd (subst (λ o. T (is_none o)) (sym e) tt)
still_fits false true c d size_more depth_more e = absurd (subst (λ o. T (is_none o)) (sym e) tt)
still_fits false false c d size_more depth_more e = rw (size_more refl, depth_more refl) refl

unless_stopped-keeps : (a b : Option Stop) → (a ≡ None → b ≡ None) → (s : State) {k l : State → Play} → ((t : State) → Keeps (k t) (l t)) → Keeps (unless_stopped a s k) (unless_stopped b s l)
unless_stopped-keeps None b cons s next = rw (cons refl) (next s)
unless_stopped-keeps (Some cause) b cons s next = unfinished (ended (λ h. h))

fits-keeps : (l m : Limits) → Looser l m → (e : Tree) → too_large l e ≡ None → too_large m e ≡ None
fits-keeps l m cons e =
    still_fits (ltb l.size (size e)) (ltb l.depth (depth e)) (ltb m.size (size e)) (ltb m.depth (depth e))
    (within l.size m.size (size e) cons.size) (within l.depth m.depth (depth e) cons.depth)

if_number_left-keeps : (b : Bool) (s : State) {k l : ℕ → State → Play} → ((n : ℕ) (t : State) → Keeps (k n t) (l n t)) → Keeps (if_number_left b s k) (if_number_left b s l)
if_number_left-keeps true s next = ends
if_number_left-keeps false s next = next _ _

sectioned-keeps : (o : Option (List Sym)) (locks : List Sym) (s : State) (a b c a' b' c' : State → Play) → ((t : State) → Keeps (a t) (a' t))
    → ((t : State) → Keeps (b t) (b' t)) → ((t : State) → Keeps (c t) (c' t)) → Keeps (sectioned o locks s a b c) (sectioned o locks s a' b' c')
sectioned-keeps None locks s a b c a' b' c' one two three = one s
sectioned-keeps (Some held) locks s a b c a' b' c' one two three = go (all_among locks held)
  where
    go : (chosen : Bool) → Keeps (by_locks chosen s b c) (by_locks chosen s b' c')
    go true = two s
    go false = three s

module _ (set : Setting) (m : Limits) (cons : Looser set.limits m) where
  run-keeps : (ev ew : Evaluator) → Continues ev ew → (p : Prog) (s : State) → Keeps (run set ev p s) (run (with_limits set m) ew p s)
  run-keeps ev ew one (Done e) s = ends
  run-keeps ev ew one (Stops c) s = ends
  run-keeps ev ew one Quits s = ends
  run-keeps ev ew one (Throws v) s = ends
  run-keeps ev ew one (Ask e k) s = ending-keeps (on_value-stays _) (on_value-keeps (λ v t. run-keeps ev ew one (k v) t)) (one e s)
  run-keeps ev ew one (Catches e k) s = ending-keeps (catching-stays _) (catching-keeps (λ v t. run-keeps ev ew one (k v) t)) (one e s)
  run-keeps ev ew one (Within ls e k) s =
      ending-keeps (λ o t h. on_value-stays _ o _ h) (λ o t. on_value-keeps (λ v u. run-keeps ev ew one (k v) u) o _) (one e _)
  run-keeps ev ew one (Section locks e k) s =
      sectioned-keeps s.open_section locks s _ _ _ _ _ _
      (λ t. calling-keeps _ t (λ _ u. ending-keeps (leaving-stays (λ v w. run set ev (k v) w)) (leaving-keeps (λ v w. run-keeps ev ew one (k v) w)) (one e (opened (Some locks) u))))
      (λ t. ending-keeps (on_value-stays _) (on_value-keeps (λ v u. run-keeps ev ew one (k v) u)) (one e t)) (λ t. run-keeps ev ew one (k _) t)
  run-keeps ev ew one (Open k) s = run-keeps ev ew one (k s.open_section) s
  run-keeps ev ew one (Look symbol k) s = run-keeps ev ew one (k _) s
  run-keeps ev ew one (Put symbol new p) s = run-keeps ev ew one p _
  run-keeps ev ew one (Fresh k) s = if_number_left-keeps _ s (λ n t. run-keeps ev ew one (k n) t)
  run-keeps ev ew one (Turn p) s = with_step-keeps set.limits m cons s (λ t. run-keeps ev ew one p t)
  run-keeps ev ew one (Check e p) s = unless_stopped-keeps _ _ (fits-keeps set.limits m cons e) s (λ t. run-keeps ev ew one p t)
  run-keeps ev ew one (Outer c k) s = calling-keeps _ s (λ v t. run-keeps ev ew one (k v) t)
  run-keeps ev ew one (Moded k) s = run-keeps ev ew one (k set.mode set.kernel) _
  run-keeps ev ew one (Shown k) s = run-keeps ev ew one (k set.shown) s

  -- one pass and what follows it; the changing passes that are left may be more
  changed-keeps : (a b : ℕ) → a ≤ b → (j k : Evaluator) → ((c d : ℕ) → a ≡ suc c → b ≡ suc d → Continues j k) → Continues (changed set a j) (changed (with_limits set m) b k)
  changed-keeps zero b le j k next v s = unfinished (ended (λ h. h))
  changed-keeps (suc a) zero le j k next v s = absurd (not-suc-le-zero le)
  changed-keeps (suc a) (suc b) le j k next v s = with_step-keeps set.limits m cons s (λ t. next a b refl refl v t)

  settled-keeps : (again : Bool) (a b : ℕ) → a ≤ b → (j k : Evaluator) → ((c d : ℕ) → a ≡ suc c → b ≡ suc d → Continues j k)
      → Continues (settled again set a j) (settled again (with_limits set m) b k)
  settled-keeps true a b le j k next v s = ends
  settled-keeps false a b le j k next v s = changed-keeps a b le j k next v s

  judged-keeps : (a b : ℕ) → a ≤ b → (j k : Evaluator) → ((c d : ℕ) → a ≡ suc c → b ≡ suc d → Continues j k) → (e : Tree)
      → Continues (judged set a j e) (judged (with_limits set m) b k e)
  judged-keeps a b le j k next e v s = unless_stopped-keeps _ _ (fits-keeps set.limits m cons v) s (λ t. settled-keeps (same v e) a b le j k next v t)

  passed-stays : (n : ℕ) (k : Evaluator) (e : Tree) → Stays (passed set n k e)
  passed-stays n k e (Value v) s h = absurd (h tt)
  passed-stays n k e (Stopped c) s h = ended h
  passed-stays n k e (Throwing v) s h = absurd (h tt)
  passed-stays n k e (Thrown v) s h = absurd (h tt)
  passed-stays n k e Quit s h = absurd (h tt)
  passed-stays n k e Closed s h = ended h
  passed-stays n k e Starved s h = ended h

  passed-keeps : (a b : ℕ) → a ≤ b → (j k : Evaluator) → ((c d : ℕ) → a ≡ suc c → b ≡ suc d → Continues j k) → (e : Tree)
      → EndsContinue (passed set a j e) (passed (with_limits set m) b k e)
  passed-keeps a b le j k next e (Value v) s = judged-keeps a b le j k next e v s
  passed-keeps a b le j k next e (Stopped c) s = ends
  passed-keeps a b le j k next e (Throwing v) s = changed-keeps a b le _ _ (λ c d _ _ w t. ends) v s
  passed-keeps a b le j k next e (Thrown v) s = ends
  passed-keeps a b le j k next e Quit s = ends
  passed-keeps a b le j k next e Closed s = ends
  passed-keeps a b le j k next e Starved s = ends

  passes-keeps : (ev ew : Evaluator) → Continues ev ew → (a b : ℕ) → a ≤ b → Continues (passes set ev a) (passes (with_limits set m) ew b)
  passes-keeps ev ew one zero zero le e s =
      ending-keeps (passed-stays zero _ e) (passed-keeps zero zero le _ _ (λ c d is _. absurd (zero-not-suc is)) e) (run-keeps ev ew one (pass set.names e) s)
  passes-keeps ev ew one zero (suc b) le e s =
      ending-keeps (passed-stays zero _ e) (passed-keeps zero (suc b) le _ _ (λ c d is _. absurd (zero-not-suc is)) e) (run-keeps ev ew one (pass set.names e) s)
  passes-keeps ev ew one (suc a) zero le e s = absurd (not-suc-le-zero le)
  passes-keeps ev ew one (suc a) (suc b) le e s =
      ending-keeps (passed-stays (suc a) _ e)
      (passed-keeps (suc a) (suc b) le _ _ (λ c d _ _ v t. passes-keeps ev ew one a b (le_of_suc-le-suc le) v t) e) (run-keeps ev ew one (pass set.names e) s)

  eval_at-keeps : (a b : ℕ) → a ≤ b → Continues (eval_at set a) (eval_at (with_limits set m) b)
  eval_at-keeps zero b le e s = unfinished (ended (λ h. h))
  eval_at-keeps (suc a) zero le e s = absurd (not-suc-le-zero le)
  eval_at-keeps (suc a) (suc b) le e s =
      passes-keeps _ _ (eval_at-keeps a b (le_of_suc-le-suc le)) set.limits.iteration m.iteration cons.iteration e s

-- along a list
unfinished_over : {p : Play} → Unfinished p → (events : List Event) → ¬ (T (is_finished (over p events).outcome))
unfinished_over (ended h) events g = h g
unfinished_over (called next) [] h = h
unfinished_over (called {c = c} {s = s} {k = k} next) (a ∷ rest) h = go (same_call a.call c) (unfinished_over (next a.reply a.after) rest) h
  where
    go : (b : Bool) → ¬ (T (is_finished (over (k a.reply a.after) rest).outcome)) → ¬ (T (is_finished (if_matched b s a rest (over (k a.reply a.after) rest)).outcome))
    go true never g = never g
    go false never g = g

kept_over : {p q : Play} → Keeps p q → (events : List Event) → T (is_finished (over p events).outcome) → over q events ≡ over p events
kept_over ends events h = refl
kept_over (needs f) [] h = refl
kept_over (needs {c = c} {s = s} {k = k} {l = l} f) (a ∷ rest) h = go (same_call a.call c) (kept_over (f a.reply a.after) rest) h
  where
    go : (b : Bool) → (T (is_finished (over (k a.reply a.after) rest).outcome) → over (l a.reply a.after) rest ≡ over (k a.reply a.after) rest)
        → T (is_finished (if_matched b s a rest (over (k a.reply a.after) rest)).outcome)
        → if_matched b s a rest (over (l a.reply a.after) rest) ≡ if_matched b s a rest (over (k a.reply a.after) rest)
    go true kept g = kept g
    go false kept g = refl
kept_over (unfinished u) events h = absurd (unfinished_over u events h)

pub looser_keeps : LooserKeeps
unfolding eval
looser_keeps set m cons d e events = kept_over (eval_at-keeps set m cons set.limits.recursion m.recursion cons.recursion e (begun d)) events
