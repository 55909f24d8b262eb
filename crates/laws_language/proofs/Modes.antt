-- Where `used` is false at the end, mode and kernel number do not matter.
use Rattle.std.proofs.Common.{◌≡◌, refl, sym, ◌∙◌, ℕ, zero, suc, Bool, true, false, List, [], ◌∷◌, Option, Some, None, true≢false}
use Rattle.expr_tree.specs.declared.sym.Sym.{Sym}
use Rattle.expr_tree.specs.Tree.{Tree}
use Rattle.expr_tree.specs.Order.{same}
use Rattle.semantics.specs.Definitions.{Definitions}
use Rattle.semantics.specs.Program.{Prog, Done, Stops, Quits, Throws, Ask, Catches, Within, Section, Open, Look, Put, Fresh, Turn, Check, Outer, Moded, Shown, Call, Mode}
use Rattle.expr_tree.specs.declared.limits.Stop.{Stop}
use Rattle.semantics.specs.Pass.{pass}
use Rattle.semantics.specs.Play.{Setting, State, End, Value, Stopped, Throwing, Thrown, Quit, Closed, Starved, Reply, Replied, Halted, Shut, Lacking, Play, Over, Calls, Evaluator, ending, on_value, catching, calling, by_reply, unless_stopped, stepped, settled, if_number_left, leaving, all_among, by_locks, sectioned, opened, run, changed, judged, passed, passes, eval_at, begun}
use Rattle.semantics.specs.Eval.{Event, if_matched, over, same_call, eval}
use Rattle.laws_language.specs.Laws.{ModeIndependent, in_mode}

-- `used` is true at every call and at every end
pub data Used : Play → Type 0 where
  ended : {o : End} {s : State} → s.used ≡ true → Used (Over o s)
  called : {c : Call} {s : State} {k : Reply → Definitions → Play} → s.used ≡ true → ((r : Reply) (d : Definitions) → Used (k r d)) → Used (Calls c s k)

-- once `used` is true it stays so
abbrev pub Sticky : (Tree → State → Play) → Type 0
Sticky k = (v : Tree) (s : State) → s.used ≡ true → Used (k v s)

abbrev pub StickyEnd : (End → State → Play) → Type 0
StickyEnd k = (o : End) (s : State) → s.used ≡ true → Used (k o s)

pub ending-sticks : {p : Play} {k : End → State → Play} → StickyEnd k → Used p → Used (ending p k)
ending-sticks sticky (ended h) = sticky _ _ h
ending-sticks sticky (called h next) = called h (λ r d. ending-sticks sticky (next r d))

pub on_value-sticks : {k : Tree → State → Play} → Sticky k → StickyEnd (on_value k)
on_value-sticks sticky (Value v) s h = sticky v s h
on_value-sticks sticky (Stopped c) s h = ended h
on_value-sticks sticky (Throwing v) s h = ended h
on_value-sticks sticky (Thrown v) s h = ended h
on_value-sticks sticky Quit s h = ended h
on_value-sticks sticky Closed s h = ended h
on_value-sticks sticky Starved s h = ended h

pub catching-sticks : {k : Tree → State → Play} → Sticky k → StickyEnd (catching k)
catching-sticks sticky (Value v) s h = sticky v s h
catching-sticks sticky (Stopped c) s h = ended h
catching-sticks sticky (Throwing v) s h = ended h
catching-sticks sticky (Thrown v) s h = sticky v s h
catching-sticks sticky Quit s h = ended h
catching-sticks sticky Closed s h = ended h
catching-sticks sticky Starved s h = ended h

pub by_reply-sticks : {k : Tree → State → Play} → Sticky k → (r : Reply) (s : State) → s.used ≡ true → Used (by_reply r s k)
by_reply-sticks sticky (Replied v) s h = sticky v s h
by_reply-sticks sticky (Halted c) s h = ended h
by_reply-sticks sticky Shut s h = ended h
by_reply-sticks sticky Lacking s h = ended h

pub calling-sticks : (c : Call) (s : State) {k : Tree → State → Play} → Sticky k → s.used ≡ true → Used (calling c s k)
calling-sticks c s sticky h = called h (λ r d. by_reply-sticks sticky r (record s { definitions = d }) h)

pub leaving-sticks : {k : Tree → State → Play} → Sticky k → StickyEnd (leaving k)
leaving-sticks sticky (Value v) s h = calling-sticks _ s (λ _ t g. sticky v (opened None t) g) h
leaving-sticks sticky (Stopped c) s h = calling-sticks _ s (λ _ t g. ended g) h
leaving-sticks sticky (Throwing v) s h = ended h
leaving-sticks sticky (Thrown v) s h = calling-sticks _ s (λ _ t g. ended g) h
leaving-sticks sticky Quit s h = ended h
leaving-sticks sticky Closed s h = ended h
leaving-sticks sticky Starved s h = ended h

pub unless_stopped-sticks : (a : Option Stop) (s : State) {k : State → Play} → ((t : State) → t.used ≡ true → Used (k t)) → s.used ≡ true → Used (unless_stopped a s k)
unless_stopped-sticks None s sticky h = sticky s h
unless_stopped-sticks (Some c) s sticky h = ended h

pub stepped-sticks : (b : Bool) (s : State) {k : State → Play} → ((t : State) → t.used ≡ true → Used (k t)) → s.used ≡ true → Used (stepped b s k)
stepped-sticks true s sticky h = sticky _ h
stepped-sticks false s sticky h = ended h

pub if_number_left-sticks : (b : Bool) (s : State) {k : ℕ → State → Play} → ((n : ℕ) (t : State) → t.used ≡ true → Used (k n t)) → s.used ≡ true → Used (if_number_left b s k)
if_number_left-sticks true s sticky h = ended h
if_number_left-sticks false s sticky h = sticky _ _ h

pub sectioned-sticks : (o : Option (List Sym)) (locks : List Sym) (s : State) (a b c : State → Play) → ((t : State) → t.used ≡ true → Used (a t))
    → ((t : State) → t.used ≡ true → Used (b t)) → ((t : State) → t.used ≡ true → Used (c t)) → s.used ≡ true → Used (sectioned o locks s a b c)
sectioned-sticks None locks s a b c one two three h = one s h
sectioned-sticks (Some held) locks s a b c one two three h = go (all_among locks held)
  where
    go : (chosen : Bool) → Used (by_locks chosen s b c)
    go true = two s h
    go false = three s h

pub run-sticks : (set : Setting) (ev : Evaluator) → Sticky ev → (p : Prog) (s : State) → s.used ≡ true → Used (run set ev p s)
run-sticks set ev one (Done e) s h = ended h
run-sticks set ev one (Stops c) s h = ended h
run-sticks set ev one Quits s h = ended h
run-sticks set ev one (Throws v) s h = ended h
run-sticks set ev one (Ask e k) s h = ending-sticks (on_value-sticks (λ v t. run-sticks set ev one (k v) t)) (one e s h)
run-sticks set ev one (Catches e k) s h = ending-sticks (catching-sticks (λ v t. run-sticks set ev one (k v) t)) (one e s h)
run-sticks set ev one (Within ls e k) s h =
    ending-sticks (λ o t g. on_value-sticks (λ v u. run-sticks set ev one (k v) u) o _ g) (one e _ h)
run-sticks set ev one (Section locks e k) s h =
    sectioned-sticks s.open_section locks s _ _ _
    (λ t. calling-sticks _ t (λ _ u g. ending-sticks (leaving-sticks (λ v w. run-sticks set ev one (k v) w)) (one e (opened (Some locks) u) g)))
    (λ t g. ending-sticks (on_value-sticks (λ v u. run-sticks set ev one (k v) u)) (one e t g)) (λ t. run-sticks set ev one (k _) t) h
run-sticks set ev one (Open k) s h = run-sticks set ev one (k s.open_section) s h
run-sticks set ev one (Look symbol k) s h = run-sticks set ev one (k _) s h
run-sticks set ev one (Put symbol new p) s h = run-sticks set ev one p _ h
run-sticks set ev one (Fresh k) s h = if_number_left-sticks _ s (λ n t. run-sticks set ev one (k n) t) h
run-sticks set ev one (Turn p) s h = stepped-sticks _ s (λ t. run-sticks set ev one p t) h
run-sticks set ev one (Check e p) s h = unless_stopped-sticks _ s (λ t. run-sticks set ev one p t) h
run-sticks set ev one (Outer c k) s h = calling-sticks _ s (λ v t. run-sticks set ev one (k v) t) h
run-sticks set ev one (Moded k) s h = run-sticks set ev one (k set.mode set.kernel) _ refl
run-sticks set ev one (Shown k) s h = run-sticks set ev one (k set.shown) s h

pub changed-sticks : (set : Setting) (n : ℕ) (k : Evaluator) → Sticky k → Sticky (changed set n k)
changed-sticks set zero k sticky v s h = ended h
changed-sticks set (suc n) k sticky v s h = stepped-sticks _ s (λ t. sticky v t) h

pub settled-sticks : (b : Bool) (set : Setting) (n : ℕ) (k : Evaluator) → Sticky k → Sticky (settled b set n k)
settled-sticks true set n k sticky v s h = ended h
settled-sticks false set n k sticky v s h = changed-sticks set n k sticky v s h

pub judged-sticks : (set : Setting) (n : ℕ) (k : Evaluator) → Sticky k → (e : Tree) → Sticky (judged set n k e)
judged-sticks set n k sticky e v s h = unless_stopped-sticks _ s (λ t. settled-sticks (same v e) set n k sticky v t) h

pub passed-sticks : (set : Setting) (n : ℕ) (k : Evaluator) → Sticky k → (e : Tree) → StickyEnd (passed set n k e)
passed-sticks set n k sticky e (Value v) s h = judged-sticks set n k sticky e v s h
passed-sticks set n k sticky e (Stopped c) s h = ended h
passed-sticks set n k sticky e (Throwing v) s h = changed-sticks set n _ (λ w t g. ended g) v s h
passed-sticks set n k sticky e (Thrown v) s h = ended h
passed-sticks set n k sticky e Quit s h = ended h
passed-sticks set n k sticky e Closed s h = ended h
passed-sticks set n k sticky e Starved s h = ended h

pub passes-sticks : (set : Setting) (ev : Evaluator) → Sticky ev → (n : ℕ) → Sticky (passes set ev n)
passes-sticks set ev one zero e s h = ending-sticks (passed-sticks set zero _ (λ w u g. ended g) e) (run-sticks set ev one (pass set.names e) s h)
passes-sticks set ev one (suc n) e s h = ending-sticks (passed-sticks set (suc n) _ (λ w u. passes-sticks set ev one n w u) e) (run-sticks set ev one (pass set.names e) s h)

pub eval_at-sticks : (set : Setting) (n : ℕ) → Sticky (eval_at set n)
eval_at-sticks set zero e s h = ended h
eval_at-sticks set (suc n) e s h = passes-sticks set _ (eval_at-sticks set n) set.limits.iteration e s h

-- two plays that are the same, until `used` is true in the first
data Alike : Play → Play → Type 0 where
  ends : {o : End} {s : State} → Alike (Over o s) (Over o s)
  needs : {c : Call} {s : State} {k l : Reply → Definitions → Play} → ((r : Reply) (d : Definitions) → Alike (k r d) (l r d)) → Alike (Calls c s k) (Calls c s l)
  used : {p q : Play} → Used p → Alike p q

abbrev AllAlike : (Tree → State → Play) → (Tree → State → Play) → Type 0
AllAlike k l = (v : Tree) (t : State) → Alike (k v t) (l v t)

abbrev EndsAlike : (End → State → Play) → (End → State → Play) → Type 0
EndsAlike k l = (o : End) (t : State) → Alike (k o t) (l o t)

ending-alike : {p q : Play} {k l : End → State → Play} → StickyEnd k → EndsAlike k l → Alike p q → Alike (ending p k) (ending q l)
ending-alike sticky next ends = next _ _
ending-alike sticky next (needs f) = needs (λ r d. ending-alike sticky next (f r d))
ending-alike sticky next (used u) = used (ending-sticks sticky u)

on_value-alike : {k l : Tree → State → Play} → AllAlike k l → EndsAlike (on_value k) (on_value l)
on_value-alike next (Value v) s = next v s
on_value-alike next (Stopped c) s = ends
on_value-alike next (Throwing v) s = ends
on_value-alike next (Thrown v) s = ends
on_value-alike next Quit s = ends
on_value-alike next Closed s = ends
on_value-alike next Starved s = ends

catching-alike : {k l : Tree → State → Play} → AllAlike k l → EndsAlike (catching k) (catching l)
catching-alike next (Value v) s = next v s
catching-alike next (Stopped c) s = ends
catching-alike next (Throwing v) s = ends
catching-alike next (Thrown v) s = next v s
catching-alike next Quit s = ends
catching-alike next Closed s = ends
catching-alike next Starved s = ends

by_reply-alike : {k l : Tree → State → Play} → AllAlike k l → (r : Reply) (s : State) → Alike (by_reply r s k) (by_reply r s l)
by_reply-alike next (Replied v) s = next v s
by_reply-alike next (Halted c) s = ends
by_reply-alike next Shut s = ends
by_reply-alike next Lacking s = ends

calling-alike : (c : Call) (s : State) {k l : Tree → State → Play} → AllAlike k l → Alike (calling c s k) (calling c s l)
calling-alike c s next = needs (λ r d. by_reply-alike next r _)

leaving-alike : {k l : Tree → State → Play} → AllAlike k l → EndsAlike (leaving k) (leaving l)
leaving-alike next (Value v) s = calling-alike _ s (λ _ t. next v (opened None t))
leaving-alike next (Stopped c) s = calling-alike _ s (λ _ t. ends)
leaving-alike next (Throwing v) s = ends
leaving-alike next (Thrown v) s = calling-alike _ s (λ _ t. ends)
leaving-alike next Quit s = ends
leaving-alike next Closed s = ends
leaving-alike next Starved s = ends

unless_stopped-alike : (a : Option Stop) (s : State) {k l : State → Play} → ((t : State) → Alike (k t) (l t)) → Alike (unless_stopped a s k) (unless_stopped a s l)
unless_stopped-alike None s next = next s
unless_stopped-alike (Some c) s next = ends

stepped-alike : (b : Bool) (s : State) {k l : State → Play} → ((t : State) → Alike (k t) (l t)) → Alike (stepped b s k) (stepped b s l)
stepped-alike true s next = next _
stepped-alike false s next = ends

if_number_left-alike : (b : Bool) (s : State) {k l : ℕ → State → Play} → ((n : ℕ) (t : State) → Alike (k n t) (l n t)) → Alike (if_number_left b s k) (if_number_left b s l)
if_number_left-alike true s next = ends
if_number_left-alike false s next = next _ _

sectioned-alike : (o : Option (List Sym)) (locks : List Sym) (s : State) (a b c a' b' c' : State → Play) → ((t : State) → Alike (a t) (a' t))
    → ((t : State) → Alike (b t) (b' t)) → ((t : State) → Alike (c t) (c' t)) → Alike (sectioned o locks s a b c) (sectioned o locks s a' b' c')
sectioned-alike None locks s a b c a' b' c' one two three = one s
sectioned-alike (Some held) locks s a b c a' b' c' one two three = go (all_among locks held)
  where
    go : (chosen : Bool) → Alike (by_locks chosen s b c) (by_locks chosen s b' c')
    go true = two s
    go false = three s

module _ (set : Setting) (mode : Mode) (kernel : ℕ) where
  run-alike : (ev ew : Evaluator) → Sticky ev → AllAlike ev ew → (p : Prog) (s : State) → Alike (run set ev p s) (run (in_mode set mode kernel) ew p s)
  run-alike ev ew sticky one (Done e) s = ends
  run-alike ev ew sticky one (Stops c) s = ends
  run-alike ev ew sticky one Quits s = ends
  run-alike ev ew sticky one (Throws v) s = ends
  run-alike ev ew sticky one (Ask e k) s =
      ending-alike (on_value-sticks (λ v t. run-sticks set ev sticky (k v) t)) (on_value-alike (λ v t. run-alike ev ew sticky one (k v) t)) (one e s)
  run-alike ev ew sticky one (Catches e k) s =
      ending-alike (catching-sticks (λ v t. run-sticks set ev sticky (k v) t)) (catching-alike (λ v t. run-alike ev ew sticky one (k v) t)) (one e s)
  run-alike ev ew sticky one (Within ls e k) s =
      ending-alike (λ o t g. on_value-sticks (λ v u. run-sticks set ev sticky (k v) u) o _ g) (λ o t. on_value-alike (λ v u. run-alike ev ew sticky one (k v) u) o _) (one e _)
  run-alike ev ew sticky one (Section locks e k) s =
      sectioned-alike s.open_section locks s _ _ _ _ _ _
      (λ t. calling-alike _ t (λ _ u.
      ending-alike (leaving-sticks (λ v w. run-sticks set ev sticky (k v) w)) (leaving-alike (λ v w. run-alike ev ew sticky one (k v) w)) (one e (opened (Some locks) u))))
      (λ t. ending-alike (on_value-sticks (λ v u. run-sticks set ev sticky (k v) u)) (on_value-alike (λ v u. run-alike ev ew sticky one (k v) u)) (one e t))
      (λ t. run-alike ev ew sticky one (k _) t)
  run-alike ev ew sticky one (Open k) s = run-alike ev ew sticky one (k s.open_section) s
  run-alike ev ew sticky one (Look symbol k) s = run-alike ev ew sticky one (k _) s
  run-alike ev ew sticky one (Put symbol new p) s = run-alike ev ew sticky one p _
  run-alike ev ew sticky one (Fresh k) s = if_number_left-alike _ s (λ n t. run-alike ev ew sticky one (k n) t)
  run-alike ev ew sticky one (Turn p) s = stepped-alike _ s (λ t. run-alike ev ew sticky one p t)
  run-alike ev ew sticky one (Check e p) s = unless_stopped-alike _ s (λ t. run-alike ev ew sticky one p t)
  run-alike ev ew sticky one (Outer c k) s = calling-alike _ s (λ v t. run-alike ev ew sticky one (k v) t)
  run-alike ev ew sticky one (Moded k) s = used (run-sticks set ev sticky (k set.mode set.kernel) _ refl)
  run-alike ev ew sticky one (Shown k) s = run-alike ev ew sticky one (k set.shown) s

  changed-alike : (n : ℕ) (j k : Evaluator) → AllAlike j k → AllAlike (changed set n j) (changed (in_mode set mode kernel) n k)
  changed-alike zero j k next v s = ends
  changed-alike (suc n) j k next v s = stepped-alike _ s (λ t. next v t)

  settled-alike : (b : Bool) (n : ℕ) (j k : Evaluator) → AllAlike j k → AllAlike (settled b set n j) (settled b (in_mode set mode kernel) n k)
  settled-alike true n j k next v s = ends
  settled-alike false n j k next v s = changed-alike n j k next v s

  judged-alike : (n : ℕ) (j k : Evaluator) → AllAlike j k → (e : Tree) → AllAlike (judged set n j e) (judged (in_mode set mode kernel) n k e)
  judged-alike n j k next e v s = unless_stopped-alike _ s (λ t. settled-alike (same v e) n j k next v t)

  passed-alike : (n : ℕ) (j k : Evaluator) → AllAlike j k → (e : Tree) → EndsAlike (passed set n j e) (passed (in_mode set mode kernel) n k e)
  passed-alike n j k next e (Value v) s = judged-alike n j k next e v s
  passed-alike n j k next e (Stopped c) s = ends
  passed-alike n j k next e (Throwing v) s = changed-alike n _ _ (λ w t. ends) v s
  passed-alike n j k next e (Thrown v) s = ends
  passed-alike n j k next e Quit s = ends
  passed-alike n j k next e Closed s = ends
  passed-alike n j k next e Starved s = ends

  passes-alike : (ev ew : Evaluator) → Sticky ev → AllAlike ev ew → (n : ℕ) → AllAlike (passes set ev n) (passes (in_mode set mode kernel) ew n)
  passes-alike ev ew sticky one zero e s =
      ending-alike (passed-sticks set zero _ (λ w u g. ended g) e) (passed-alike zero _ _ (λ w u. ends) e) (run-alike ev ew sticky one (pass set.names e) s)
  passes-alike ev ew sticky one (suc n) e s =
      ending-alike (passed-sticks set (suc n) _ (λ w u. passes-sticks set ev sticky n w u) e)
      (passed-alike (suc n) _ _ (λ w u. passes-alike ev ew sticky one n w u) e) (run-alike ev ew sticky one (pass set.names e) s)

  eval_at-alike : (n : ℕ) → AllAlike (eval_at set n) (eval_at (in_mode set mode kernel) n)
  eval_at-alike zero e s = ends
  eval_at-alike (suc n) e s = passes-alike _ _ (eval_at-sticks set n) (eval_at-alike n) set.limits.iteration e s

-- along a list
used_over : {p : Play} → Used p → (events : List Event) → (over p events).used ≡ true
used_over (ended h) events = h
used_over (called h next) [] = h
used_over (called {c = c} {s = s} {k = k} h next) (a ∷ rest) = go (same_call a.call c) (used_over (next a.reply a.after) rest)
  where
    go : (b : Bool) → (over (k a.reply a.after) rest).used ≡ true → (if_matched b s a rest (over (k a.reply a.after) rest)).used ≡ true
    go true later = later
    go false later = h

same_over : {p q : Play} → Alike p q → (events : List Event) → (over p events).used ≡ false → over q events ≡ over p events
same_over ends events h = refl
same_over (needs f) [] h = refl
same_over (needs {c = c} {s = s} {k = k} {l = l} f) (a ∷ rest) h = go (same_call a.call c) (same_over (f a.reply a.after) rest) h
  where
    go : (b : Bool) → ((over (k a.reply a.after) rest).used ≡ false → over (l a.reply a.after) rest ≡ over (k a.reply a.after) rest)
        → (if_matched b s a rest (over (k a.reply a.after) rest)).used ≡ false
        → if_matched b s a rest (over (l a.reply a.after) rest) ≡ if_matched b s a rest (over (k a.reply a.after) rest)
    go true later g = later g
    go false later g = refl
same_over (used u) events h = absurd (true≢false (sym (used_over u events) ∙ h))

pub mode_independent : ModeIndependent
unfolding eval
mode_independent set mode kernel d e events = same_over (eval_at-alike set mode kernel set.limits.recursion e (begun d)) events
