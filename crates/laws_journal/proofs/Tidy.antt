-- Along replies that are values, an evaluation enters a section only outside one, leaves one only inside, and ends as it began, but at Quit.
use Rattle.std.proofs.Common.{◌≡◌, refl, sym, ap, subst, ◌∙◌, ℕ, zero, suc, Bool, true, false, T, not, List, Option, Some, None, is_some}
use Rattle.expr_tree.specs.declared.sym.Sym.{Sym}
use Rattle.expr_tree.specs.declared.limits.Stop.{Stop}
use Rattle.expr_tree.specs.Tree.{Tree}
use Rattle.expr_tree.specs.Order.{same}
use Rattle.semantics.specs.Definitions.{Definitions}
use Rattle.semantics.specs.Program.{Prog, Done, Stops, Quits, Throws, Ask, Catches, Within, Section, Open, Look, Put, Fresh, Turn, Check, Outer, Moded, Shown, Call, Request, Sends}
use Rattle.semantics.specs.Pass.{pass}
use Rattle.semantics.specs.Play.{Setting, State, End, Value, Stopped, Throwing, Thrown, Quit, Closed, Starved, Reply, Replied, Play, Over, Calls, Evaluator, ending, on_value, catching, without_locals, calling, unless_stopped, stepped, settled, if_number_left, all_among, by_locks, sectioned, leaving, opened, run, changed, judged, passed, passes, eval_at, begun, whole, with_definitions}
use Rattle.semantics.specs.Opened.{opens, may_call}

abbrev pub open_in : State → Bool
open_in s = is_some s.open_section

-- a value, a stop and a throw are inside a section exactly where the evaluation began inside one; only a pass ends with a throw of its own
abbrev pub AsBegun : Bool → Bool → End → Bool → Type 0
AsBegun t a (Value v) now = now ≡ a
AsBegun t a (Stopped c) now = now ≡ a
AsBegun t a (Throwing v) now = T t × (now ≡ a)
AsBegun t a (Thrown v) now = now ≡ a
AsBegun t a Quit now = Unit {0}
AsBegun t a Closed now = Unit {0}
AsBegun t a Starved now = Unit {0}

pub data Tidy (t a : Bool) : Bool → Play → Type 0 where
  ended : {now : Bool} {o : End} {s : State} → open_in s ≡ now → AsBegun t a o now → Tidy t a now (Over o s)
  called : {now : Bool} {c : Call} {s : State} {k : Reply → Definitions → Play} → open_in s ≡ now → T (may_call c now)
      → ((v : Tree) (d : Definitions) → Tidy t a (opens c (Replied v) now) (k (Replied v) d)) → Tidy t a now (Calls c s k)

abbrev Carries : Bool → Bool → (Tree → State → Play) → Type 0
Carries t a k = (v : Tree) (s : State) → open_in s ≡ a → Tidy t a (open_in s) (k v s)

-- not a throw of a pass's own
abbrev NotOwn : End → Type 0
NotOwn (Throwing v) = ⊥
NotOwn _ = Unit {0}

as_begun : (t a : Bool) (o : End) (now : Bool) → NotOwn o → now ≡ a → AsBegun t a o now
as_begun t a (Value v) now n h = h
as_begun t a (Stopped c) now n h = h
as_begun t a (Throwing v) now n h = absurd n
as_begun t a (Thrown v) now n h = h
as_begun t a Quit now n h = tt
as_begun t a Closed now n h = tt
as_begun t a Starved now n h = tt

over : {t : Bool} (a : Bool) (o : End) (s : State) → NotOwn o → open_in s ≡ a → Tidy t a (open_in s) (Over o s)
over {t = t} a o s n kept = ended refl (as_begun t a o (open_in s) n kept)

ending-tidy : {t u a b now : Bool} {p : Play} {k : End → State → Play} → ((o : End) (s : State) → AsBegun u b o (open_in s) → Tidy t a (open_in s) (k o s)) → Tidy u b now p → Tidy t a now (ending p k)
ending-tidy {t = t} {u = u} {a = a} {b = b} {k = k} next (ended {o = o} {s = s} e h) = subst (λ x. Tidy t a x (k o s)) e (next o s (subst (λ x. AsBegun u b o x) (sym e) h))
ending-tidy next (called e may f) = called e may (λ v d. ending-tidy next (f v d))

on_value-tidy : {t : Bool} (a : Bool) (k : Tree → State → Play) → Carries t a k → (o : End) (s : State) → AsBegun false a o (open_in s) → Tidy t a (open_in s) (on_value k o s)
on_value-tidy a k next (Value v) s h = next v s h
on_value-tidy a k next (Stopped c) s h = ended refl h
on_value-tidy a k next (Throwing v) s h = absurd h.0
on_value-tidy a k next (Thrown v) s h = ended refl h
on_value-tidy a k next Quit s h = ended refl tt
on_value-tidy a k next Closed s h = ended refl tt
on_value-tidy a k next Starved s h = ended refl tt

catching-tidy : {t : Bool} (a : Bool) (k : Tree → State → Play) → Carries t a k → (o : End) (s : State) → AsBegun false a o (open_in s) → Tidy t a (open_in s) (catching k o s)
catching-tidy a k next (Value v) s h = next v s h
catching-tidy a k next (Stopped c) s h = ended refl h
catching-tidy a k next (Throwing v) s h = absurd h.0
catching-tidy a k next (Thrown v) s h = next v s h
catching-tidy a k next Quit s h = ended refl tt
catching-tidy a k next Closed s h = ended refl tt
catching-tidy a k next Starved s h = ended refl tt

sends-tidy : {t : Bool} (a : Bool) (c : Request) (s : State) (k : Tree → State → Play) → Carries t a k → open_in s ≡ a → Tidy t a (open_in s) (calling (Sends c) s k)
sends-tidy a c s k next kept = called refl tt (λ v d. next v (with_definitions d s) kept)

unless_stopped-tidy : {t : Bool} (a : Bool) (o : Option Stop) (s : State) (k : State → Play) → open_in s ≡ a → ((u : State) → open_in u ≡ a → Tidy t a (open_in u) (k u)) → Tidy t a (open_in s) (unless_stopped o s k)
unless_stopped-tidy a None s k kept next = next s kept
unless_stopped-tidy a (Some c) s k kept next = over a _ s tt kept

stepped-tidy : {t : Bool} (a b : Bool) (s : State) (k : State → Play) → open_in s ≡ a → ((u : State) → open_in u ≡ a → Tidy t a (open_in u) (k u)) → Tidy t a (open_in s) (stepped b s k)
stepped-tidy a true s k kept next = next _ kept
stepped-tidy a false s k kept next = over a _ s tt kept

if_number_left-tidy : {t : Bool} (a b : Bool) (s : State) (k : ℕ → State → Play) → open_in s ≡ a → ((n : ℕ) (u : State) → open_in u ≡ a → Tidy t a (open_in u) (k n u)) → Tidy t a (open_in s) (if_number_left b s k)
if_number_left-tidy a true s k kept next = over a _ s tt kept
if_number_left-tidy a false s k kept next = next _ _ kept

-- ---- sections

-- Leave closes the section, and what stands around began inside none
leaving-tidy : {t : Bool} (a : Bool) → a ≡ false → (k : Tree → State → Play) → Carries t a k → (o : End) (s : State) → AsBegun false true o (open_in s) → Tidy t a (open_in s) (leaving k o s)
leaving-tidy a outside k next (Value v) s h = called refl (subst T (sym h) tt) (λ w d. next v (opened None (with_definitions d s)) (sym outside))
leaving-tidy a outside k next (Stopped c) s h = called refl (subst T (sym h) tt) (λ w d. over a _ (opened None (with_definitions d s)) tt (sym outside))
leaving-tidy a outside k next (Throwing v) s h = absurd h.0
leaving-tidy a outside k next (Thrown v) s h = called refl (subst T (sym h) tt) (λ w d. over a _ (opened None (with_definitions d s)) tt (sym outside))
leaving-tidy a outside k next Quit s h = ended refl tt
leaving-tidy a outside k next Closed s h = ended refl tt
leaving-tidy a outside k next Starved s h = ended refl tt

sectioned-tidy : {t : Bool} (a : Bool) (o : Option (List Sym)) (locks : List Sym) (s : State) (x y z : State → Play) → s.open_section ≡ o
    → (s.open_section ≡ None → Tidy t a (open_in s) (x s)) → Tidy t a (open_in s) (y s) → Tidy t a (open_in s) (z s) → Tidy t a (open_in s) (sectioned o locks s x y z)
sectioned-tidy a None locks s x y z is one two three = one is
sectioned-tidy {t = t} a (Some held) locks s x y z is one two three = go (all_among locks held)
  where
    go : (chosen : Bool) → Tidy t a (open_in s) (by_locks chosen s y z)
    go true = two
    go false = three

-- ---- programs

abbrev AllTidy : Evaluator → Type 0
AllTidy ev = (e : Tree) (s : State) → Tidy false (open_in s) (open_in s) (ev e s)

-- the part is evaluated in a state that is inside a section as this one is
part-tidy : (ev : Evaluator) → AllTidy ev → (e : Tree) (s : State) (a : Bool) → open_in s ≡ a → Tidy false a (open_in s) (ev e s)
part-tidy ev one e s a kept = subst (λ x. Tidy false x (open_in s) (ev e s)) kept (one e s)

run-tidy : (set : Setting) (ev : Evaluator) → AllTidy ev → (p : Prog) (s : State) (a : Bool) → open_in s ≡ a → Tidy true a (open_in s) (run set ev p s)
run-tidy set ev one (Done e) s a kept = over a _ s tt kept
run-tidy set ev one (Stops c) s a kept = over a _ s tt kept
run-tidy set ev one Quits s a kept = over a _ s tt kept
run-tidy set ev one (Throws v) s a kept = ended refl (tt, kept)
run-tidy set ev one (Ask e k) s a kept = ending-tidy (on_value-tidy a _ (λ v t. run-tidy set ev one (k v) t a)) (part-tidy ev one e s a kept)
run-tidy set ev one (Catches e k) s a kept = ending-tidy (catching-tidy a _ (λ v t. run-tidy set ev one (k v) t a)) (part-tidy ev one e s a kept)
run-tidy set ev one (Within ls e k) s a kept =
    ending-tidy {b = a} (λ o t h. on_value-tidy a (λ v u. run set ev (k v) u) (λ v u. run-tidy set ev one (k v) u a) o (without_locals set.names s.definitions ls t) h) (part-tidy ev one e _ a kept)
run-tidy set ev one (Section locks e k) s a kept =
    sectioned-tidy a s.open_section locks s _ _ _ refl
    (λ none. called refl (subst (λ o. T (not (is_some o))) (sym none) tt) (λ v d.
    ending-tidy {b = true} (leaving-tidy a (sym kept ∙ ap is_some none) _ (λ w u. run-tidy set ev one (k w) u a)) (one e (opened (Some locks) (with_definitions d s)))))
    (ending-tidy (on_value-tidy a _ (λ v t. run-tidy set ev one (k v) t a)) (part-tidy ev one e s a kept))
    (run-tidy set ev one (k _) s a kept)
run-tidy set ev one (Open k) s a kept = run-tidy set ev one (k s.open_section) s a kept
run-tidy set ev one (Look symbol k) s a kept = run-tidy set ev one (k _) s a kept
run-tidy set ev one (Put symbol new p) s a kept = run-tidy set ev one p _ a kept
run-tidy set ev one (Fresh k) s a kept = if_number_left-tidy a _ s _ kept (λ n t. run-tidy set ev one (k n) t a)
run-tidy set ev one (Turn p) s a kept = stepped-tidy a _ s _ kept (λ t. run-tidy set ev one p t a)
run-tidy set ev one (Check e p) s a kept = unless_stopped-tidy a _ s _ kept (λ t. run-tidy set ev one p t a)
run-tidy set ev one (Outer c k) s a kept = sends-tidy a c s _ (λ v t. run-tidy set ev one (k v) t a) kept
run-tidy set ev one (Moded k) s a kept = run-tidy set ev one (k set.mode set.kernel) _ a kept
run-tidy set ev one (Shown k) s a kept = run-tidy set ev one (k set.shown) s a kept

changed-tidy : (set : Setting) (a : Bool) (n : ℕ) (k : Evaluator) → Carries false a k → Carries false a (changed set n k)
changed-tidy set a zero k next v s kept = over a _ s tt kept
changed-tidy set a (suc n) k next v s kept = stepped-tidy a _ s _ kept (λ t. next v t)

settled-tidy : (set : Setting) (a b : Bool) (n : ℕ) (k : Evaluator) → Carries false a k → Carries false a (settled b set n k)
settled-tidy set a true n k next v s kept = over a _ s tt kept
settled-tidy set a false n k next v s kept = changed-tidy set a n k next v s kept

judged-tidy : (set : Setting) (a : Bool) (n : ℕ) (k : Evaluator) → Carries false a k → (e : Tree) → Carries false a (judged set n k e)
judged-tidy set a n k next e v s kept = unless_stopped-tidy a _ s _ kept (λ t. settled-tidy set a (same v e) n k next v t)

passed-tidy : (set : Setting) (a : Bool) (n : ℕ) (k : Evaluator) → Carries false a k → (e : Tree) (o : End) (s : State) → AsBegun true a o (open_in s) → Tidy false a (open_in s) (passed set n k e o s)
passed-tidy set a n k next e (Value v) s h = judged-tidy set a n k next e v s h
passed-tidy set a n k next e (Throwing v) s h = changed-tidy set a n _ (λ w t. over a _ t tt) v s h.1
passed-tidy set a n k next e (Stopped c) s h = ended refl h
passed-tidy set a n k next e (Thrown v) s h = ended refl h
passed-tidy set a n k next e Quit s h = ended refl h
passed-tidy set a n k next e Closed s h = ended refl h
passed-tidy set a n k next e Starved s h = ended refl h

passes-tidy : (set : Setting) (ev : Evaluator) → AllTidy ev → (a : Bool) (n : ℕ) → Carries false a (passes set ev n)
passes-tidy set ev one a zero e s kept = ending-tidy (passed-tidy set a zero _ (λ v t. over a _ t tt) e) (run-tidy set ev one (pass set.names e) s a kept)
passes-tidy set ev one a (suc n) e s kept = ending-tidy (passed-tidy set a (suc n) _ (λ v t. passes-tidy set ev one a n v t) e) (run-tidy set ev one (pass set.names e) s a kept)

eval_at-tidy : (set : Setting) (n : ℕ) → AllTidy (eval_at set n)
eval_at-tidy set zero e s = over (open_in s) _ s tt refl
eval_at-tidy set (suc n) e s = passes-tidy set _ (eval_at-tidy set n) (open_in s) set.limits.iteration e s refl

pub whole-tidy : (set : Setting) (d : Definitions) (e : Tree) → Tidy false false false (whole set d e)
whole-tidy set d e = eval_at-tidy set set.limits.recursion e (begun d)
