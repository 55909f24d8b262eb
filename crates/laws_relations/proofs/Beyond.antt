-- States whose module number has passed a bound: each evaluation from there ends beyond it, or needs a call.
use Rattle.std.proofs.Common.{◌≡◌, refl, sym, subst, ℕ, zero, suc, ◌≤◌, arith, Bool, true, false, ltb, List, [], ◌∷◌, Option, Some, None, ltb-true}
use Rattle.expr_tree.specs.declared.sym.Sym.{Sym}
use Rattle.expr_tree.specs.declared.limits.Stop.{Stop}
use Rattle.expr_tree.specs.Tree.{Tree}
use Rattle.expr_tree.specs.Order.{same}
use Rattle.semantics.specs.Names.{Names}
use Rattle.semantics.specs.Definitions.{Definitions}
use Rattle.semantics.specs.Program.{Prog, Done, Stops, Quits, Throws, Ask, Catches, Within, Section, Open, Look, Put, Fresh, Turn, Check, Outer, Moded, Shown, Call, Local}
use Rattle.semantics.specs.Pass.{pass}
use Rattle.semantics.specs.Play.{Setting, State, End, Value, Stopped, Throwing, Thrown, Quit, Closed, Starved, Reply, Play, Over, Calls, Evaluator, ending, on_value, catching, unless_stopped, stepped, settled, if_number_left, leaving, without_locals, all_among, by_locks, sectioned, run, changed, judged, passed, passes, eval_at, put_locals, put_back}

-- n numbers are taken, in no more than m steps
abbrev pub Past : ℕ → ℕ → State → Type 0
Past n m s = (n ≤ s.definitions.module_number) × (s.steps ≤ m)

pub data Beyond (n m : ℕ) : Play → Type 0 where
  over : {o : End} {s : State} → Past n m s → Beyond n m (Over o s)
  calls : {c : Call} {s : State} {k : Reply → Definitions → Play} → Beyond n m (Calls c s k)

module _ (n m : ℕ) where
  abbrev pub Far : (Tree → State → Play) → Type 0
  Far k = (v : Tree) (s : State) → Past n m s → Beyond n m (k v s)

  abbrev pub FarEnd : (End → State → Play) → Type 0
  FarEnd k = (o : End) (s : State) → Past n m s → Beyond n m (k o s)

  pub ending-far : {p : Play} {k : End → State → Play} → FarEnd k → Beyond n m p → Beyond n m (ending p k)
  ending-far far (over h) = far _ _ h
  ending-far far calls = calls

  pub on_value-far : {k : Tree → State → Play} → Far k → FarEnd (on_value k)
  on_value-far far (Value v) s h = far v s h
  on_value-far far (Stopped c) s h = over h
  on_value-far far (Throwing v) s h = over h
  on_value-far far (Thrown v) s h = over h
  on_value-far far Quit s h = over h
  on_value-far far Closed s h = over h
  on_value-far far Starved s h = over h

  pub catching-far : {k : Tree → State → Play} → Far k → FarEnd (catching k)
  catching-far far (Value v) s h = far v s h
  catching-far far (Stopped c) s h = over h
  catching-far far (Throwing v) s h = over h
  catching-far far (Thrown v) s h = far v s h
  catching-far far Quit s h = over h
  catching-far far Closed s h = over h
  catching-far far Starved s h = over h

  leaving-far : (k : Tree → State → Play) → FarEnd (leaving k)
  leaving-far k (Value v) s h = calls
  leaving-far k (Stopped c) s h = calls
  leaving-far k (Throwing v) s h = over h
  leaving-far k (Thrown v) s h = calls
  leaving-far k Quit s h = over h
  leaving-far k Closed s h = over h
  leaving-far k Starved s h = over h

  pub put_number : (names : Names) (ls : List Local) (d : Definitions) → (put_locals names ls d).module_number ≡ d.module_number
  put_number names [] d = refl
  put_number names (l ∷ ls) d = put_number names ls _

  pub back_number : (names : Names) (old : Definitions) (ls : List Local) (d : Definitions) → (put_back names old ls d).module_number ≡ d.module_number
  back_number names old [] d = refl
  back_number names old (l ∷ ls) d = back_number names old ls _

  pub back-past : (names : Names) (old : Definitions) (ls : List Local) (s : State) → Past n m s → Past n m (without_locals names old ls s)
  back-past names old ls s h = (subst (λ i. n ≤ i) (sym (back_number names old ls s.definitions)) h.0, h.1)

  pub unless_stopped-far : (a : Option Stop) (s : State) {k : State → Play} → ((t : State) → Past n m t → Beyond n m (k t)) → Past n m s → Beyond n m (unless_stopped a s k)
  unless_stopped-far None s far h = far s h
  unless_stopped-far (Some c) s far h = over h

  by_locks-far : (b : Bool) (s : State) (j k : State → Play) → Beyond n m (j s) → Beyond n m (k s) → Beyond n m (by_locks b s j k)
  by_locks-far true s j k one two = one
  by_locks-far false s j k one two = two

  sectioned-far : (o : Option (List Sym)) (locks : List Sym) (s : State) (i j k : State → Play) → Beyond n m (i s) → Beyond n m (j s) → Beyond n m (k s) → Beyond n m (sectioned o locks s i j k)
  sectioned-far None locks s i j k one two three = one
  sectioned-far (Some held) locks s i j k one two three = by_locks-far (all_among locks held) s j k two three

  module _ (set : Setting) (within_limit : set.limits.steps ≡ m) where
    stepped-far : (b : Bool) (s : State) {k : State → Play} → ltb s.steps set.limits.steps ≡ b → ((t : State) → Past n m t → Beyond n m (k t)) → Past n m s → Beyond n m (stepped b s k)
    stepped-far true s e far h = far _ (h.0, omega (arith, ltb-true s.steps set.limits.steps e, within_limit))
    stepped-far false s e far h = over h

    number_left-far : (b : Bool) (s : State) {k : ℕ → State → Play} → ((i : ℕ) (t : State) → Past n m t → Beyond n m (k i t)) → Past n m s → Beyond n m (if_number_left b s k)
    number_left-far true s far h = over h
    number_left-far false s far h = far _ _ (omega (arith, h.0), h.1)

    pub run-far : (ev : Evaluator) → Far ev → (p : Prog) (s : State) → Past n m s → Beyond n m (run set ev p s)
    run-far ev one (Done e) s h = over h
    run-far ev one (Stops c) s h = over h
    run-far ev one Quits s h = over h
    run-far ev one (Throws v) s h = over h
    run-far ev one (Ask e k) s h = ending-far (on_value-far (λ v t. run-far ev one (k v) t)) (one e s h)
    run-far ev one (Catches e k) s h = ending-far (catching-far (λ v t. run-far ev one (k v) t)) (one e s h)
    run-far ev one (Within ls e k) s h =
        ending-far (λ o t g. on_value-far (λ v u. run-far ev one (k v) u) o _ (back-past set.names s.definitions ls t g))
        (one e _ (subst (λ i. n ≤ i) (sym (put_number set.names ls s.definitions)) h.0, h.1))
    run-far ev one (Section locks e k) s h =
        sectioned-far s.open_section locks s _ _ _ calls (ending-far (on_value-far (λ v u. run-far ev one (k v) u)) (one e s h)) (run-far ev one (k _) s h)
    run-far ev one (Open k) s h = run-far ev one (k s.open_section) s h
    run-far ev one (Look symbol k) s h = run-far ev one (k _) s h
    run-far ev one (Put symbol new p) s h = run-far ev one p _ h
    run-far ev one (Fresh k) s h = number_left-far _ s (λ i t. run-far ev one (k i) t) h
    run-far ev one (Turn p) s h = stepped-far (ltb s.steps set.limits.steps) s refl (λ t. run-far ev one p t) h
    run-far ev one (Check e p) s h = unless_stopped-far _ s (λ t. run-far ev one p t) h
    run-far ev one (Outer c k) s h = calls
    run-far ev one (Moded k) s h = run-far ev one (k set.mode set.kernel) _ h
    run-far ev one (Shown k) s h = run-far ev one (k set.shown) s h

    changed-far : (i : ℕ) (k : Evaluator) → Far k → Far (changed set i k)
    changed-far zero k far v s h = over h
    changed-far (suc i) k far v s h = stepped-far (ltb s.steps set.limits.steps) s refl (λ t. far v t) h

    settled-far : (b : Bool) (i : ℕ) (k : Evaluator) → Far k → Far (settled b set i k)
    settled-far true i k far v s h = over h
    settled-far false i k far v s h = changed-far i k far v s h

    judged-far : (i : ℕ) (k : Evaluator) → Far k → (e : Tree) → Far (judged set i k e)
    judged-far i k far e v s h = unless_stopped-far _ s (λ t. settled-far (same v e) i k far v t) h

    pub passed-far : (i : ℕ) (k : Evaluator) → Far k → (e : Tree) → FarEnd (passed set i k e)
    passed-far i k far e (Value v) s h = judged-far i k far e v s h
    passed-far i k far e (Stopped c) s h = over h
    passed-far i k far e (Throwing v) s h = changed-far i _ (λ w t g. over g) v s h
    passed-far i k far e (Thrown v) s h = over h
    passed-far i k far e Quit s h = over h
    passed-far i k far e Closed s h = over h
    passed-far i k far e Starved s h = over h

    pub passes-far : (ev : Evaluator) → Far ev → (i : ℕ) → Far (passes set ev i)
    passes-far ev one zero e s h = ending-far (passed-far zero _ (λ w u g. over g) e) (run-far ev one (pass set.names e) s h)
    passes-far ev one (suc i) e s h = ending-far (passed-far (suc i) _ (λ w u. passes-far ev one i w u) e) (run-far ev one (pass set.names e) s h)

    pub eval_at-far : (i : ℕ) → Far (eval_at set i)
    eval_at-far zero e s h = over h
    eval_at-far (suc i) e s h = passes-far _ (eval_at-far i) set.limits.iteration e s h
