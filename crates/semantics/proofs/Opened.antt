-- Every evaluation makes Enter where no section is open, and Leave where one is.
use Rattle.std.proofs.Common.{◌≡◌, refl, sym, ap, subst, ◌∙◌, ℕ, zero, suc, Bool, true, false, T, not, List, Option, Some, None, is_some, true≢false}
use Rattle.expr_tree.specs.declared.sym.Sym.{Sym}
use Rattle.expr_tree.specs.Tree.{Tree}
use Rattle.expr_tree.specs.Order.{same}
use Rattle.semantics.specs.Definitions.{Definitions}
use Rattle.semantics.specs.Program.{Prog, Done, Stops, Quits, Throws, Ask, Catches, Within, Section, Open, Look, Put, Fresh, Turn, Check, Outer, Moded, Shown, Request, Sends, Enter, Leave}
use Rattle.expr_tree.specs.declared.limits.Stop.{Stop}
use Rattle.semantics.specs.Pass.{pass}
use Rattle.semantics.specs.Play.{Setting, State, End, Value, Stopped, Throwing, Thrown, Quit, Closed, Starved, Reply, Replied, Halted, Shut, Lacking, Play, Over, Evaluator, ending, on_value, catching, without_locals, calling, by_reply, unless_stopped, stepped, settled, if_number_left, all_among, by_locks, sectioned, leaving, opened, run, changed, judged, passed, passes, eval_at, begun, with_definitions}
use Rattle.semantics.specs.Opened.{opens, Still, Orderly, ended, called, SectionsInOrder}

-- whether a section is open in a state
abbrev pub open_in : State → Bool
open_in s = is_some s.open_section

-- what began inside a section is at a state inside it
abbrev pub Kept : Bool → State → Type 0
Kept a s = a ≡ true → open_in s ≡ true

abbrev Carries : Bool → (Tree → State → Play) → Type 0
Carries a k = (v : Tree) (s : State) → Kept a s → Orderly a (open_in s) (k v s)

still : (a : Bool) (o : End) (now : Bool) → (a ≡ true → now ≡ true) → Still a o now
still false o now kept = tt
still true (Value v) now kept = kept refl
still true (Stopped c) now kept = kept refl
still true (Throwing v) now kept = kept refl
still true (Thrown v) now kept = kept refl
still true Quit now kept = tt
still true Closed now kept = tt
still true Starved now kept = tt

over : (a : Bool) (o : End) (s : State) → Kept a s → Orderly a (open_in s) (Over o s)
over a o s kept = ended refl (still a o (open_in s) kept)

-- what is still inside b is still inside a, which lies in b
still_in : (a b : Bool) (o : End) (now : Bool) → (a ≡ true → b ≡ true) → Still b o now → Still a o now
still_in false b o now cons h = tt
still_in true b o now cons h = subst (λ x. Still x o now) (cons refl) h

ending-orderly : {a b now : Bool} {p : Play} {k : End → State → Play} → ((o : End) (s : State) → Still b o (open_in s) → Orderly a (open_in s) (k o s)) → Orderly b now p → Orderly a now (ending p k)
ending-orderly {a = a} {b = b} {k = k} next (ended {o = o} {s = s} e h) = subst (λ x. Orderly a x (k o s)) e (next o s (subst (λ x. Still b o x) (sym e) h))
ending-orderly next (called e may f) = called e may (λ r d. ending-orderly next (f r d))

on_value-orderly : (a b : Bool) → (a ≡ true → b ≡ true) → (k : Tree → State → Play) → Carries a k → (o : End) (s : State) → Still b o (open_in s) → Orderly a (open_in s) (on_value k o s)
on_value-orderly a b cons k next (Value v) s h = next v s (λ e. subst (λ x. Still x (Value v) (open_in s)) (cons e) h)
on_value-orderly a b cons k next (Stopped c) s h = ended refl (still_in a b (Stopped c) (open_in s) cons h)
on_value-orderly a b cons k next (Throwing v) s h = ended refl (still_in a b (Throwing v) (open_in s) cons h)
on_value-orderly a b cons k next (Thrown v) s h = ended refl (still_in a b (Thrown v) (open_in s) cons h)
on_value-orderly a b cons k next Quit s h = ended refl (still_in a b Quit (open_in s) cons h)
on_value-orderly a b cons k next Closed s h = ended refl (still_in a b Closed (open_in s) cons h)
on_value-orderly a b cons k next Starved s h = ended refl (still_in a b Starved (open_in s) cons h)

catching-orderly : (a b : Bool) → (a ≡ true → b ≡ true) → (k : Tree → State → Play) → Carries a k → (o : End) (s : State) → Still b o (open_in s) → Orderly a (open_in s) (catching k o s)
catching-orderly a b cons k next (Value v) s h = next v s (λ e. subst (λ x. Still x (Value v) (open_in s)) (cons e) h)
catching-orderly a b cons k next (Stopped c) s h = ended refl (still_in a b (Stopped c) (open_in s) cons h)
catching-orderly a b cons k next (Throwing v) s h = ended refl (still_in a b (Throwing v) (open_in s) cons h)
catching-orderly a b cons k next (Thrown v) s h = next v s (λ e. subst (λ x. Still x (Thrown v) (open_in s)) (cons e) h)
catching-orderly a b cons k next Quit s h = ended refl (still_in a b Quit (open_in s) cons h)
catching-orderly a b cons k next Closed s h = ended refl (still_in a b Closed (open_in s) cons h)
catching-orderly a b cons k next Starved s h = ended refl (still_in a b Starved (open_in s) cons h)

by_reply-orderly : (a : Bool) (k : Tree → State → Play) → Carries a k → (r : Reply) (s : State) → Kept a s → Orderly a (open_in s) (by_reply r s k)
by_reply-orderly a k next (Replied v) s kept = next v s kept
by_reply-orderly a k next (Halted c) s kept = over a _ s kept
by_reply-orderly a k next Shut s kept = over a _ s kept
by_reply-orderly a k next Lacking s kept = over a _ s kept

sends-orderly : (a : Bool) (c : Request) (s : State) (k : Tree → State → Play) → Carries a k → Kept a s → Orderly a (open_in s) (calling (Sends c) s k)
sends-orderly a c s k next kept = called refl tt (λ r d. by_reply-orderly a k next r (with_definitions d s) kept)

unless_stopped-orderly : (a : Bool) (o : Option Stop) (s : State) (k : State → Play) → Kept a s → ((t : State) → Kept a t → Orderly a (open_in t) (k t)) → Orderly a (open_in s) (unless_stopped o s k)
unless_stopped-orderly a None s k kept next = next s kept
unless_stopped-orderly a (Some c) s k kept next = over a _ s kept

stepped-orderly : (a b : Bool) (s : State) (k : State → Play) → Kept a s → ((t : State) → Kept a t → Orderly a (open_in t) (k t)) → Orderly a (open_in s) (stepped b s k)
stepped-orderly a true s k kept next = next _ kept
stepped-orderly a false s k kept next = over a _ s kept

if_number_left-orderly : (a b : Bool) (s : State) (k : ℕ → State → Play) → Kept a s → ((n : ℕ) (t : State) → Kept a t → Orderly a (open_in t) (k n t)) → Orderly a (open_in s) (if_number_left b s k)
if_number_left-orderly a true s k kept next = over a _ s kept
if_number_left-orderly a false s k kept next = next _ _ kept

-- ---- sections

-- Leave closes the section, and what stands around began inside none
leaving-orderly : (a : Bool) → ¬ (a ≡ true) → (k : Tree → State → Play) → Carries a k → (o : End) (s : State) → Still true o (open_in s) → Orderly a (open_in s) (leaving k o s)
leaving-orderly a outside k next (Value v) s h = called refl (subst T (sym h) tt) go
  where
    go : (r : Reply) (d : Definitions) → Orderly a (opens Leave r (open_in s)) (by_reply r (with_definitions d s) (λ _ t. k v (opened None t)))
    go (Replied w) d = next v _ (λ e. absurd (outside e))
    go (Halted c) d = over a _ (with_definitions d s) (λ e. absurd (outside e))
    go Shut d = over a _ (with_definitions d s) (λ e. absurd (outside e))
    go Lacking d = over a _ (with_definitions d s) (λ e. absurd (outside e))
leaving-orderly a outside k next (Stopped c) s h = called refl (subst T (sym h) tt) go
  where
    go : (r : Reply) (d : Definitions) → Orderly a (opens Leave r (open_in s)) (by_reply r (with_definitions d s) (λ _ t. Over (Stopped c) (opened None t)))
    go (Replied w) d = over a _ (opened None (with_definitions d s)) (λ e. absurd (outside e))
    go (Halted x) d = over a _ (with_definitions d s) (λ e. absurd (outside e))
    go Shut d = over a _ (with_definitions d s) (λ e. absurd (outside e))
    go Lacking d = over a _ (with_definitions d s) (λ e. absurd (outside e))
leaving-orderly a outside k next (Throwing v) s h = over a _ s (λ e. absurd (outside e))
leaving-orderly a outside k next (Thrown v) s h = called refl (subst T (sym h) tt) go
  where
    go : (r : Reply) (d : Definitions) → Orderly a (opens Leave r (open_in s)) (by_reply r (with_definitions d s) (λ _ t. Over (Thrown v) (opened None t)))
    go (Replied w) d = over a _ (opened None (with_definitions d s)) (λ e. absurd (outside e))
    go (Halted x) d = over a _ (with_definitions d s) (λ e. absurd (outside e))
    go Shut d = over a _ (with_definitions d s) (λ e. absurd (outside e))
    go Lacking d = over a _ (with_definitions d s) (λ e. absurd (outside e))
leaving-orderly a outside k next Quit s h = over a _ s (λ e. absurd (outside e))
leaving-orderly a outside k next Closed s h = over a _ s (λ e. absurd (outside e))
leaving-orderly a outside k next Starved s h = over a _ s (λ e. absurd (outside e))

-- Enter, where none is open
enter-orderly : (a : Bool) (locks : List Sym) (s : State) (k : Tree → State → Play) → s.open_section ≡ None → Kept a s
    → ((v : Tree) (t : State) → Orderly a true (k v (opened (Some locks) t))) → Orderly a (open_in s) (calling (Enter locks) s (λ v t. k v (opened (Some locks) t)))
enter-orderly a locks s k none kept next = called refl (subst (λ o. T (not (is_some o))) (sym none) tt) go
  where
    go : (r : Reply) (d : Definitions) → Orderly a (opens (Enter locks) r (open_in s)) (by_reply r (with_definitions d s) (λ v t. k v (opened (Some locks) t)))
    go (Replied w) d = next w (with_definitions d s)
    go (Halted c) d = over a _ (with_definitions d s) kept
    go Shut d = over a _ (with_definitions d s) kept
    go Lacking d = over a _ (with_definitions d s) kept

sectioned-orderly : (a : Bool) (o : Option (List Sym)) (locks : List Sym) (s : State) (x y z : State → Play) → s.open_section ≡ o
    → (s.open_section ≡ None → Orderly a (open_in s) (x s)) → Orderly a (open_in s) (y s) → Orderly a (open_in s) (z s) → Orderly a (open_in s) (sectioned o locks s x y z)
sectioned-orderly a None locks s x y z is one two three = one is
sectioned-orderly a (Some held) locks s x y z is one two three = go (all_among locks held)
  where
    go : (chosen : Bool) → Orderly a (open_in s) (by_locks chosen s y z)
    go true = two
    go false = three

-- ---- programs

abbrev pub InOrder : Evaluator → Type 0
InOrder ev = (e : Tree) (s : State) → Orderly (open_in s) (open_in s) (ev e s)

pub run-orderly : (set : Setting) (ev : Evaluator) → InOrder ev → (p : Prog) (s : State) (a : Bool) → Kept a s → Orderly a (open_in s) (run set ev p s)
run-orderly set ev one (Done e) s a kept = over a _ s kept
run-orderly set ev one (Stops c) s a kept = over a _ s kept
run-orderly set ev one Quits s a kept = over a _ s kept
run-orderly set ev one (Throws v) s a kept = over a _ s kept
run-orderly set ev one (Ask e k) s a kept = ending-orderly (on_value-orderly a (open_in s) kept _ (λ v t. run-orderly set ev one (k v) t a)) (one e s)
run-orderly set ev one (Catches e k) s a kept = ending-orderly (catching-orderly a (open_in s) kept _ (λ v t. run-orderly set ev one (k v) t a)) (one e s)
run-orderly set ev one (Within ls e k) s a kept =
    ending-orderly {b = open_in s} (λ o t h. on_value-orderly a (open_in s) kept (λ v u. run set ev (k v) u) (λ v u. run-orderly set ev one (k v) u a) o (without_locals set.names s.definitions ls t) h) (one e _)
run-orderly set ev one (Section locks e k) s a kept =
    sectioned-orderly a s.open_section locks s _ _ _ refl
    (λ none. enter-orderly a locks s (λ _ u. ending (ev e u) (leaving (λ v w. run set ev (k v) w))) none kept (λ v t.
    ending-orderly {b = true} (leaving-orderly a (λ e. true≢false (sym (kept e) ∙ ap is_some none)) _ (λ v u. run-orderly set ev one (k v) u a)) (one e (opened (Some locks) t))))
    (ending-orderly (on_value-orderly a (open_in s) kept _ (λ v t. run-orderly set ev one (k v) t a)) (one e s))
    (run-orderly set ev one (k _) s a kept)
run-orderly set ev one (Open k) s a kept = run-orderly set ev one (k s.open_section) s a kept
run-orderly set ev one (Look symbol k) s a kept = run-orderly set ev one (k _) s a kept
run-orderly set ev one (Put symbol new p) s a kept = run-orderly set ev one p _ a kept
run-orderly set ev one (Fresh k) s a kept = if_number_left-orderly a _ s _ kept (λ n t. run-orderly set ev one (k n) t a)
run-orderly set ev one (Turn p) s a kept = stepped-orderly a _ s _ kept (λ t. run-orderly set ev one p t a)
run-orderly set ev one (Check e p) s a kept = unless_stopped-orderly a _ s _ kept (λ t. run-orderly set ev one p t a)
run-orderly set ev one (Outer c k) s a kept = sends-orderly a c s _ (λ v t. run-orderly set ev one (k v) t a) kept
run-orderly set ev one (Moded k) s a kept = run-orderly set ev one (k set.mode set.kernel) _ a kept
run-orderly set ev one (Shown k) s a kept = run-orderly set ev one (k set.shown) s a kept

changed-orderly : (set : Setting) (a : Bool) (n : ℕ) (k : Evaluator) → Carries a k → Carries a (changed set n k)
changed-orderly set a zero k next v s kept = over a _ s kept
changed-orderly set a (suc n) k next v s kept = stepped-orderly a _ s _ kept (λ t. next v t)

settled-orderly : (set : Setting) (a b : Bool) (n : ℕ) (k : Evaluator) → Carries a k → Carries a (settled b set n k)
settled-orderly set a true n k next v s kept = over a _ s kept
settled-orderly set a false n k next v s kept = changed-orderly set a n k next v s kept

judged-orderly : (set : Setting) (a : Bool) (n : ℕ) (k : Evaluator) → Carries a k → (e : Tree) → Carries a (judged set n k e)
judged-orderly set a n k next e v s kept = unless_stopped-orderly a _ s _ kept (λ t. settled-orderly set a (same v e) n k next v t)

passed-orderly : (set : Setting) (a : Bool) (n : ℕ) (k : Evaluator) → Carries a k → (e : Tree) (o : End) (s : State) → Still a o (open_in s) → Orderly a (open_in s) (passed set n k e o s)
passed-orderly set a n k next e (Value v) s h = judged-orderly set a n k next e v s (λ e. subst (λ x. Still x (Value v) (open_in s)) e h)
passed-orderly set a n k next e (Throwing v) s h = changed-orderly set a n _ (λ w t. over a _ t) v s (λ e. subst (λ x. Still x (Throwing v) (open_in s)) e h)
passed-orderly set a n k next e (Thrown v) s h = ended refl h
passed-orderly set a n k next e (Stopped c) s h = ended refl h
passed-orderly set a n k next e Quit s h = ended refl h
passed-orderly set a n k next e Closed s h = ended refl h
passed-orderly set a n k next e Starved s h = ended refl h

passes-orderly : (set : Setting) (ev : Evaluator) → InOrder ev → (a : Bool) (n : ℕ) → Carries a (passes set ev n)
passes-orderly set ev one a zero e s kept = ending-orderly (passed-orderly set a zero _ (λ v t. over a _ t) e) (run-orderly set ev one (pass set.names e) s a kept)
passes-orderly set ev one a (suc n) e s kept = ending-orderly (passed-orderly set a (suc n) _ (λ v t. passes-orderly set ev one a n v t) e) (run-orderly set ev one (pass set.names e) s a kept)

pub eval_at-orderly : (set : Setting) (n : ℕ) → InOrder (eval_at set n)
eval_at-orderly set zero e s = over (open_in s) _ s (λ h. h)
eval_at-orderly set (suc n) e s = passes-orderly set _ (eval_at-orderly set n) (open_in s) set.limits.iteration e s (λ h. h)

pub sections_in_order : SectionsInOrder
sections_in_order set d e = eval_at-orderly set set.limits.recursion e (begun d)
