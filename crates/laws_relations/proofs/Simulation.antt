-- Two evaluations of related expressions from related states go alike: one induction, for what an instance owes, the record `Related`.
-- The induction is for evaluations that end with `used` false: there a program owes nothing for what it does in a mode, for its calls or its
-- sections. Programs are told beyond that all the same, where an instance asks for it (`Outward`).
-- And it is for evaluations whose module number stays below a bound: from there on the second may run out of numbers.
use Rattle.std.proofs.Common.{◌≡◌, refl, ap, subst, ℕ, zero, suc, ◌+◌, Bool, true, false, ltb, List, Option, Some, None}
use Rattle.std.specs.Prelude.{◌==◌}
use Rattle.expr_tree.specs.declared.sym.Sym.{Sym}
use Rattle.expr_tree.specs.declared.limits.Stop.{Stop}
use Rattle.expr_tree.specs.Tree.{Tree}
use Rattle.expr_tree.specs.Order.{same}
use Rattle.semantics.specs.Definitions.{Definition}
use Rattle.semantics.specs.Program.{Prog, Done, Stops, Quits, Throws, Ask, Catches, Within, Section, Open, Look, Put, Fresh, Turn, Check, Outer, Moded, Shown, Local, Mode, Request, Seen}
use Rattle.semantics.specs.Pass.{pass}
use Rattle.semantics.specs.Play.{Setting, State, End, Value, Stopped, Throwing, Thrown, Quit, Play, Over, Evaluator, ending, on_value, catching, leaving_locals, too_large, with_step, with_locals, without_locals, unless_stopped, stepped, settled, if_number_left, now_used, run, changed, judged, passed, passes, eval_at, seen, written, with_definitions, last_number, after_number}
use Rattle.laws_language.proofs.Modes.{Used, ended, Sticky, StickyEnd, ending-sticks, on_value-sticks, catching-sticks, run-sticks, passed-sticks, passes-sticks, eval_at-sticks}
use Rattle.laws_relations.proofs.Beyond.{Past, Beyond, Far, FarEnd, back-past, ending-far, on_value-far, catching-far, run-far, passed-far, passes-far, eval_at-far}
use Rattle.laws_relations.proofs.Kin.{Kin, LikeTree, LikeTrees, LikeSymbols, LikeLocals, LikeDefined, ShowsAlike, LikeRequest}

module _ (K : Kin) where
  open K use {States, Symbols, Numbers, bound, most_steps}

  -- two programs that do the same on related expressions
  pub data Both : Prog → Prog → Type 0 where
    done : {e f : Tree} → LikeTree K e f → Both (Done e) (Done f)
    stop : {c : Stop} → Both (Stops c) (Stops c)
    leaves : Both Quits Quits
    throws : {v x : Tree} → LikeTree K v x → Both (Throws v) (Throws x)
    ask : {e f : Tree} {k l : Tree → Prog} → LikeTree K e f → ((v x : Tree) → LikeTree K v x → Both (k v) (l x)) → Both (Ask e k) (Ask f l)
    catches : {e f : Tree} {k l : Tree → Prog} → LikeTree K e f → ((v x : Tree) → LikeTree K v x → Both (k v) (l x)) → Both (Catches e k) (Catches f l)
    within : {ls ms : List Local} {e f : Tree} {k l : Tree → Prog} → LikeLocals K ls ms → LikeTree K e f → ((v x : Tree) → LikeTree K v x → Both (k v) (l x)) → Both (Within ls e k) (Within ms f l)
    look : {s t : Sym} {k l : Seen → Prog} → Symbols s t → ((x y : Seen) → LikeDefined K x.definition y.definition → x.shared ≡ y.shared → Both (k x) (l y)) → Both (Look s k) (Look t l)
    put : {s t : Sym} {d c : Definition} {p q : Prog} → Symbols s t → LikeDefined K d c → Both p q → Both (Put s d p) (Put t c q)
    fresh : {k l : ℕ → Prog} → ((m n : ℕ) → Numbers m n → Both (k m) (l n)) → Both (Fresh k) (Fresh l)
    turn : {p q : Prog} → Both p q → Both (Turn p) (Turn q)
    check : {e f : Tree} {p q : Prog} → LikeTree K e f → Both p q → Both (Check e p) (Check f q)
    moded : {k l : Mode → ℕ → Prog} → (K.Outward → (mode : Mode) (kernel : ℕ) → Both (k mode kernel) (l mode kernel)) → Both (Moded k) (Moded l)
    section : {ls ms : List Sym} {e f : Tree} {k l : Tree → Prog} → K.Outward → LikeSymbols K ls ms → LikeTree K e f → ((v x : Tree) → LikeTree K v x → Both (k v) (l x))
        → Both (Section ls e k) (Section ms f l)
    asks_open : {k l : Option (List Sym) → Prog} → K.Outward → ((o : Option (List Sym)) → Both (k o) (l o)) → Both (Open k) (Open l)
    outer : {c d : Request} {k l : Tree → Prog} → K.Outward → LikeRequest K c d → ((v x : Tree) → LikeTree K v x → Both (k v) (l x)) → Both (Outer c k) (Outer d l)
    shown : {k l : (Tree → List ℕ) → Prog} → K.Outward → ((texts : Tree → List ℕ) → ShowsAlike K texts → Both (k texts) (l texts)) → Both (Shown k) (Shown l)

  -- what goes on with related values
  abbrev pub Next : (Tree → Prog) → (Tree → Prog) → Type 0
  Next k l = (v x : Tree) → LikeTree K v x → Both (k v) (l x)

  abbrev pub NextList : (List Tree → Prog) → (List Tree → Prog) → Type 0
  NextList k l = (vs xs : List Tree) → LikeTrees K vs xs → Both (k vs) (l xs)

  pub data Ends : End → End → Type 0 where
    value : {v x : Tree} → LikeTree K v x → Ends (Value v) (Value x)
    stopped : {c : Stop} → Ends (Stopped c) (Stopped c)
    throwing : {v x : Tree} → LikeTree K v x → Ends (Throwing v) (Throwing x)
    thrown : {v x : Tree} → LikeTree K v x → Ends (Thrown v) (Thrown x)
    quit : Ends Quit Quit

  -- both or none has taken the last number, or the first is past the bound
  pub data Numbered (s t : State) : Type 0 where
    evenly : (s.definitions.module_number == last_number) ≡ (t.definitions.module_number == last_number) → Numbered s t
    past : Past bound most_steps s → Numbered s t

  -- the second ends as the first, unless in the first `used` is true or the number passed the bound
  pub data Quietly : Play → Play → Type 0 where
    quiet : {o p : End} {s t : State} → Ends o p → States s t → Quietly (Over o s) (Over p t)
    used : {p q : Play} → Used p → Quietly p q
    beyond : {p q : Play} → Beyond bound most_steps p → Quietly p q

  abbrev pub Follow : Evaluator → Evaluator → Type 0
  Follow ev ew = (e f : Tree) (s t : State) → LikeTree K e f → States s t → Quietly (ev e s) (ew f t)

  -- what the relations owe
  pub record Related (set : Setting) : Type 0 where
    pub sizes : (e f : Tree) → LikeTree K e f → too_large set.limits e ≡ too_large set.limits f
    pub sames : (e f v x : Tree) → LikeTree K e f → LikeTree K v x → same v e ≡ same x f
    pub steps : (s t : State) → States s t → s.steps ≡ t.steps
    pub limited : set.limits.steps ≡ most_steps
    pub quietly : K.Outward → ⊥
    pub step : (s t : State) → States s t → ltb s.steps set.limits.steps ≡ true → States (record s { steps = s.steps + 1 }) (record t { steps = t.steps + 1 })
    pub looks : (s t : State) (a b : Sym) → States s t → Symbols a b
        → LikeDefined K (seen set.names s.definitions a).definition (seen set.names t.definitions b).definition × ((seen set.names s.definitions a).shared ≡ (seen set.names t.definitions b).shared)
    pub puts : (s t : State) (a b : Sym) (d c : Definition) → States s t → Symbols a b → LikeDefined K d c
        → States (with_definitions (written set.names s.definitions a d) s) (with_definitions (written set.names t.definitions b c) t)
    pub locals : (s t : State) (ls ms : List Local) → States s t → LikeLocals K ls ms → States (with_locals set.names ls s) (with_locals set.names ms t)
    pub backs : (s t s' t' : State) (ls ms : List Local) → States s t → States s' t' → LikeLocals K ls ms
        → States (without_locals set.names s.definitions ls s') (without_locals set.names t.definitions ms t')
    pub numbers_last : (s t : State) → States s t → Numbered s t
    pub takes : (s t : State) → States s t
        → Numbers (s.definitions.module_number) (t.definitions.module_number) × States (with_definitions (after_number s.definitions) s) (with_definitions (after_number t.definitions) t)
    pub passed : (e f : Tree) → LikeTree K e f → Both (pass set.names e) (pass set.names f)

  module _ (set : Setting) (R : Related set) where
    -- related continuations
    abbrev Onward : (Tree → State → Play) → (Tree → State → Play) → Type 0
    Onward j k = (v x : Tree) (s t : State) → LikeTree K v x → States s t → Quietly (j v s) (k x t)

    abbrev OnwardEnd : (End → State → Play) → (End → State → Play) → Type 0
    OnwardEnd j k = (o p : End) (s t : State) → Ends o p → States s t → Quietly (j o s) (k p t)

    abbrev OnwardState : (State → Play) → (State → Play) → Type 0
    OnwardState j k = (s t : State) → States s t → Quietly (j s) (k t)

    ending-alike : {p q : Play} (j k : End → State → Play) → StickyEnd j → FarEnd bound most_steps j → OnwardEnd j k → Quietly p q → Quietly (ending p j) (ending q k)
    ending-alike j k sticky far next (quiet ends states) = next _ _ _ _ ends states
    ending-alike j k sticky far next (used h) = used (ending-sticks sticky h)
    ending-alike j k sticky far next (beyond h) = beyond (ending-far bound most_steps far h)

    on_value-alike : (j k : Tree → State → Play) → Onward j k → OnwardEnd (on_value j) (on_value k)
    on_value-alike j k next _ _ s t (value one) states = next _ _ s t one states
    on_value-alike j k next _ _ s t stopped states = quiet stopped states
    on_value-alike j k next _ _ s t (throwing one) states = quiet (throwing one) states
    on_value-alike j k next _ _ s t (thrown one) states = quiet (thrown one) states
    on_value-alike j k next _ _ s t quit states = quiet quit states

    catching-alike : (j k : Tree → State → Play) → Onward j k → OnwardEnd (catching j) (catching k)
    catching-alike j k next _ _ s t (value one) states = next _ _ s t one states
    catching-alike j k next _ _ s t stopped states = quiet stopped states
    catching-alike j k next _ _ s t (throwing one) states = quiet (throwing one) states
    catching-alike j k next _ _ s t (thrown one) states = next _ _ s t one states
    catching-alike j k next _ _ s t quit states = quiet quit states

    stepped-alike : (b c : Bool) (s t : State) (j k : State → Play) → ltb s.steps set.limits.steps ≡ b → b ≡ c → States s t → OnwardState j k → Quietly (stepped b s j) (stepped c t k)
    stepped-alike true true s t j k left e states next = next _ _ (R.step s t states left)
    stepped-alike true false s t j k left e states next = absurd (Prim.cc e)
    stepped-alike false true s t j k left e states next = absurd (Prim.cc e)
    stepped-alike false false s t j k left e states next = quiet stopped states

    unless-alike : (a b : Option Stop) (s t : State) (j k : State → Play) → a ≡ b → States s t → OnwardState j k → Quietly (unless_stopped a s j) (unless_stopped b t k)
    unless-alike a b s t j k e states next = subst (λ o. Quietly (unless_stopped a s j) (unless_stopped o t k)) e (go a)
      where
        go : (o : Option Stop) → Quietly (unless_stopped o s j) (unless_stopped o t k)
        go None = next s t states
        go (Some c) = quiet stopped states

    with_step-alike : (s t : State) (j k : State → Play) → States s t → OnwardState j k → Quietly (with_step set.limits s j) (with_step set.limits t k)
    with_step-alike s t j k states next =
        stepped-alike (ltb s.steps set.limits.steps) (ltb t.steps set.limits.steps) s t j k refl (ap (λ n. ltb n set.limits.steps) (R.steps s t states)) states next

    abbrev OnwardNumber : (ℕ → State → Play) → (ℕ → State → Play) → Type 0
    OnwardNumber j k = (m n : ℕ) → Numbers m n → (s t : State) → States s t → Quietly (j m s) (k n t)

    numbered-alike : (b c : Bool) (s t : State) (j k : ℕ → State → Play) → b ≡ c → States s t → OnwardNumber j k → Quietly (if_number_left b s j) (if_number_left c t k)
    numbered-alike true true s t j k e states next = quiet stopped states
    numbered-alike true false s t j k e states next = absurd (Prim.cc e)
    numbered-alike false true s t j k e states next = absurd (Prim.cc e)
    numbered-alike false false s t j k e states next = next _ _ (R.takes s t states).0 _ _ (R.takes s t states).1

    fresh-alike : (ev ew : Evaluator) → Far bound most_steps ev → (k l : ℕ → Prog) (s t : State) → Numbered s t → States s t
        → OnwardNumber (λ m s'. run set ev (k m) s') (λ n t'. run set ew (l n) t') → Quietly (run set ev (Fresh k) s) (run set ew (Fresh l) t)
    fresh-alike ev ew far k l s t (evenly e) states next = numbered-alike _ _ s t (λ m s'. run set ev (k m) s') (λ n t'. run set ew (l n) t') e states next
    fresh-alike ev ew far k l s t (past h) states next = beyond (run-far bound most_steps set R.limited ev far (Fresh k) s h)

    -- related programs from related states end alike
    run-alike : (ev ew : Evaluator) → Sticky ev → Far bound most_steps ev → Follow ev ew → {p q : Prog} → Both p q → (s t : State) → States s t → Quietly (run set ev p s) (run set ew q t)
    run-alike ev ew sticky far follow (done one) s t states = quiet (value one) states
    run-alike ev ew sticky far follow stop s t states = quiet stopped states
    run-alike ev ew sticky far follow leaves s t states = quiet quit states
    run-alike ev ew sticky far follow (throws one) s t states = quiet (throwing one) states
    run-alike ev ew sticky far follow (ask {e = e} {f = f} {k = k} {l = l} one next) s t states =
        ending-alike (on_value (λ v s'. run set ev (k v) s')) (on_value (λ x t'. run set ew (l x) t')) (on_value-sticks (λ v s'. run-sticks set ev sticky (k v) s'))
        (on_value-far bound most_steps (λ v s'. run-far bound most_steps set R.limited ev far (k v) s'))
        (on_value-alike (λ v s'. run set ev (k v) s') (λ x t'. run set ew (l x) t') (λ v x s' t' same states'. run-alike ev ew sticky far follow (next v x same) s' t' states'))
        (follow e f s t one states)
    run-alike ev ew sticky far follow (catches {e = e} {f = f} {k = k} {l = l} one next) s t states =
        ending-alike (catching (λ v s'. run set ev (k v) s')) (catching (λ x t'. run set ew (l x) t')) (catching-sticks (λ v s'. run-sticks set ev sticky (k v) s'))
        (catching-far bound most_steps (λ v s'. run-far bound most_steps set R.limited ev far (k v) s'))
        (catching-alike (λ v s'. run set ev (k v) s') (λ x t'. run set ew (l x) t') (λ v x s' t' same states'. run-alike ev ew sticky far follow (next v x same) s' t' states'))
        (follow e f s t one states)
    run-alike ev ew sticky far follow (within {ls = ls} {ms = ms} {e = e} {f = f} {k = k} {l = l} locals one next) s t states =
        ending-alike (leaving_locals set.names s.definitions ls (λ v s'. run set ev (k v) s')) (leaving_locals set.names t.definitions ms (λ x t'. run set ew (l x) t'))
        (λ o s' h. on_value-sticks (λ v s2. run-sticks set ev sticky (k v) s2) o (without_locals set.names s.definitions ls s') h)
        (λ o s' h. on_value-far bound most_steps (λ v s2. run-far bound most_steps set R.limited ev far (k v) s2) o (without_locals set.names s.definitions ls s')
        (back-past bound most_steps set.names s.definitions ls s' h))
        (λ o p s' t' ends states'. on_value-alike (λ v s2. run set ev (k v) s2) (λ x t2. run set ew (l x) t2)
        (λ v x s2 t2 same states2. run-alike ev ew sticky far follow (next v x same) s2 t2 states2) o p _ _ ends (R.backs s t s' t' ls ms states states' locals))
        (follow e f _ _ one (R.locals s t ls ms states locals))
    run-alike ev ew sticky far follow (look {s = a} {t = b} one next) s t states =
        let both = R.looks s t a b states one in
        run-alike ev ew sticky far follow (next _ _ both.0 both.1) s t states
    run-alike ev ew sticky far follow (put {s = a} {t = b} {d = d} {c = c} symbols defined one) s t states =
        run-alike ev ew sticky far follow one _ _ (R.puts s t a b d c states symbols defined)
    run-alike ev ew sticky far follow (fresh {k = k} {l = l} next) s t states =
        fresh-alike ev ew far k l s t (R.numbers_last s t states) states (λ m n numbers s' t' states'. run-alike ev ew sticky far follow (next m n numbers) s' t' states')
    run-alike ev ew sticky far follow (turn {p = p} {q = q} one) s t states =
        with_step-alike s t (λ s'. run set ev p s') (λ t'. run set ew q t') states (λ s' t' states'. run-alike ev ew sticky far follow one s' t' states')
    run-alike ev ew sticky far follow (check {e = e} {f = f} {p = p} {q = q} same one) s t states =
        unless-alike _ _ s t (λ s'. run set ev p s') (λ t'. run set ew q t') (R.sizes e f same) states (λ s' t' states'. run-alike ev ew sticky far follow one s' t' states')
    run-alike ev ew sticky far follow (moded {k = k} next) s t states = used (run-sticks set ev sticky (k set.mode set.kernel) (now_used s) refl)
    run-alike ev ew sticky far follow (section outward locks one next) s t states = absurd (R.quietly outward)
    run-alike ev ew sticky far follow (asks_open outward next) s t states = absurd (R.quietly outward)
    run-alike ev ew sticky far follow (outer outward request next) s t states = absurd (R.quietly outward)
    run-alike ev ew sticky far follow (shown outward next) s t states = absurd (R.quietly outward)

    changed-alike : (n : ℕ) (j k : Tree → State → Play) → Onward j k → Onward (changed set n j) (changed set n k)
    changed-alike zero j k next v x s t one states = quiet stopped states
    changed-alike (suc n) j k next v x s t one states = with_step-alike s t (j v) (k x) states (λ s' t' states'. next v x s' t' one states')

    settled-alike : (b c : Bool) → b ≡ c → (n : ℕ) (j k : Tree → State → Play) → Onward j k → Onward (settled b set n j) (settled c set n k)
    settled-alike true true e n j k next v x s t one states = quiet (value one) states
    settled-alike true false e n j k next v x s t one states = absurd (Prim.cc e)
    settled-alike false true e n j k next v x s t one states = absurd (Prim.cc e)
    settled-alike false false e n j k next v x s t one states = changed-alike n j k next v x s t one states

    judged-alike : (n : ℕ) (j k : Tree → State → Play) → Onward j k → (e f : Tree) → LikeTree K e f → Onward (judged set n j e) (judged set n k f)
    judged-alike n j k next e f before v x s t one states =
        unless-alike _ _ s t _ _ (R.sizes v x one) states (λ s' t' states'. settled-alike _ _ (R.sames e f v x before one) n j k next v x s' t' one states')

    passed-alike : (n : ℕ) (j k : Tree → State → Play) → Onward j k → (e f : Tree) → LikeTree K e f → OnwardEnd (passed set n j e) (passed set n k f)
    passed-alike n j k next e f before _ _ s t (value one) states = judged-alike n j k next e f before _ _ s t one states
    passed-alike n j k next e f before _ _ s t stopped states = quiet stopped states
    passed-alike n j k next e f before _ _ s t (throwing one) states = changed-alike n _ _ (λ v x s' t' same states'. quiet (thrown same) states') _ _ s t one states
    passed-alike n j k next e f before _ _ s t (thrown one) states = quiet (thrown one) states
    passed-alike n j k next e f before _ _ s t quit states = quiet quit states

    passes-alike : (ev ew : Evaluator) → Sticky ev → Far bound most_steps ev → Follow ev ew → (n : ℕ) → Follow (passes set ev n) (passes set ew n)
    passes-alike ev ew sticky far follow zero e f s t one states =
        ending-alike (passed set zero (λ v s'. Over (Stopped Stop.Iteration) s') e) (passed set zero (λ v t'. Over (Stopped Stop.Iteration) t') f)
        (passed-sticks set zero _ (λ w u g. ended g) e) (passed-far bound most_steps set R.limited zero _ (λ w u g. Beyond.over g) e)
        (passed-alike zero _ _ (λ v x s' t' same states'. quiet stopped states') e f one) (run-alike ev ew sticky far follow (R.passed e f one) s t states)
    passes-alike ev ew sticky far follow (suc n) e f s t one states =
        ending-alike (passed set (suc n) (λ v s'. passes set ev n v s') e) (passed set (suc n) (λ v t'. passes set ew n v t') f)
        (passed-sticks set (suc n) _ (λ w u. passes-sticks set ev sticky n w u) e)
        (passed-far bound most_steps set R.limited (suc n) _ (λ w u. passes-far bound most_steps set R.limited ev far n w u) e)
        (passed-alike (suc n) _ _ (λ v x s' t' same states'. passes-alike ev ew sticky far follow n v x s' t' same states') e f one)
        (run-alike ev ew sticky far follow (R.passed e f one) s t states)

    -- an evaluation that ends with `used` false and its number below the bound is followed by each evaluation of a related expression from a related state
    pub eval_at-alike : (n : ℕ) → Follow (eval_at set n) (eval_at set n)
    eval_at-alike zero e f s t one states = quiet stopped states
    eval_at-alike (suc n) e f s t one states =
        passes-alike (λ a b. eval_at set n a b) (λ a b. eval_at set n a b) (eval_at-sticks set n) (eval_at-far bound most_steps set R.limited n) (eval_at-alike n) set.limits.iteration e f s t one states
