-- Each module number is paid with a step, but for one in each nested evaluation that was going on where it stopped. Where throws may be
-- caught a step pays for as many as evaluations may be nested: a throw leaves one unpaid in each evaluation that it gives up, and is a step itself.
-- Elsewhere a step pays for one.
use Rattle.std.proofs.Common.{◌≡◌, refl, sym, ap, subst, ◌∙◌, ℕ, zero, suc, ◌+◌, ◌*◌, ◌≤◌, arith, Bool, true, false, ltb, List, [], ◌∷◌, Option, Some, None, true≢false, le_refl, le_trans, ltb-true, ltb-false, lt-ltb, le-ltb}
use Rattle.std.specs.Prelude.{◌==◌}
use Rattle.std.proofs.Math.Nat.{mul-add, mul-one}
use Rattle.expr_tree.specs.declared.limits.Stop.{Stop}
use Rattle.expr_tree.specs.declared.sym.Sym.{Sym}
use Rattle.expr_tree.specs.Tree.{Tree, size}
use Rattle.expr_tree.specs.Order.{same}
use Rattle.expr_tree.proofs.Same.{tree_eq-Decides}
use Rattle.semantics.specs.Names.{Names}
use Rattle.semantics.specs.Definitions.{Definition, Definitions, Shared, stored}
use Rattle.semantics.specs.Program.{Prog, Local}
use Rattle.semantics.specs.Play.{Setting, State, End, Value, Stopped, Throwing, Thrown, Quit, Play, Over, Evaluator, ending, on_value, catching, leaving_locals, too_large, with_locals, without_locals, unless_stopped, stepped, settled, if_number_left, now_used, run, changed, judged, passed, passes, eval_at, seen, written, put_locals, put_back, with_definitions, last_number, after_number, whole, begun}
use Rattle.semantics.specs.Eval.{Event, Evaluation, if_matched, over, eval, same_call}
use Rattle.laws_language.proofs.Modes.{Used, ended, called, Sticky, ending-sticks, on_value-sticks, catching-sticks, run-sticks, passed-sticks, passes-sticks, eval_at-sticks}
use Rattle.laws_closure.proofs.Inside.{Each}
use Rattle.laws_closure.proofs.Programs.{Realm, Has, DefinedIn, LocalIn, SeenBoth, Both, done, stop, leaves, throws, ask, catches, within, look, put, edit, fresh, turn, check, moded}
use Rattle.laws_closure.proofs.Agreeing.{Unshared, Agree, written_agree, seen_both, none_seen, stays_in, locals_agree, backs_agree}
use Rattle.laws_numbers.specs.Bound.{going_on, StepsBounded, NumbersBounded}
use Rattle.laws_numbers.proofs.Calm.{Circle, from_origin, calm, all_symbols, anything, defined_anyhow}
use Rattle.laws_numbers.proofs.Thrift.{Simple, result, asking, putting, Thrifty, pass_thrifty}

abbrev pub number : State → ℕ
number s = s.definitions.module_number

put_number : (names : Names) (ls : List Local) (d : Definitions) → (put_locals names ls d).module_number ≡ d.module_number
put_number names [] d = refl
put_number names (l ∷ ls) d = put_number names ls _

back_number : (names : Names) (old : Definitions) (ls : List Local) (d : Definitions) → (put_back names old ls d).module_number ≡ d.module_number
back_number names old [] d = refl
back_number names old (l ∷ ls) d = back_number names old ls _

abbrev pub bit : Bool → ℕ
bit true = 1
bit false = 0

bit-small : (b : Bool) → bit b ≤ 1
bit-small true = omega arith
bit-small false = omega arith

abbrev pub grew : Tree → Tree → ℕ
grew e v = bit (ltb (size e) (size v))

-- growth in two parts
two_parts : (r e x : ℕ) → bit (ltb e x) + bit (ltb r e) ≤ 1 + bit (ltb r x)
two_parts r e x = go (ltb e x) (ltb r e) (ltb r x) refl refl refl
  where
    go : (a b c : Bool) → ltb e x ≡ a → ltb r e ≡ b → ltb r x ≡ c → bit a + bit b ≤ 1 + bit c
    go false false c p q w = omega arith
    go false true c p q w = omega arith
    go true false c p q w = omega arith
    go true true true p q w = omega arith
    go true true false p q w = absurd (omega (arith, ltb-true e x p, ltb-true r e q, ltb-false r x w))

not_less_itself : (n : ℕ) → ltb n n ≡ false
not_less_itself n = le-ltb n n (le_refl n)

-- a step pays for so many numbers
module _ (worth : ℕ) (set : Setting) where
  -- from s to t, where a step pays for so many numbers: g more were paid for, b are not paid
  pub record Paid (g b : ℕ) (s t : State) : Type 0 where
    pub rises : number s ≤ number t
    pub pays : number t + (worth * s.steps + g) ≤ number s + (worth * t.steps + b)
    pub within : s.steps ≤ set.limits.steps → t.steps ≤ set.limits.steps

  itself : (s : State) → Paid 0 0 s s
  itself s = record { rises = le_refl (number s); pays = omega arith; within = λ le. le }

  joined : {s t u : State} {g b g' b' : ℕ} (g'' b'' : ℕ) → Paid g b s t → Paid g' b' t u → g'' + (b + b') ≤ b'' + (g + g') → Paid g'' b'' s u
  joined {s} {t} {u} {g} {b} {g'} {b'} g'' b'' one two le =
      record { rises = le_trans one.rises two.rises; pays = omega (arith, one.pays, two.pays, le); within = λ few. two.within (one.within few) }

  less : {s t : State} {g b : ℕ} (g' b' : ℕ) → Paid g b s t → g' + b ≤ b' + g → Paid g' b' s t
  less {s} {t} {g} {b} g' b' one le = record { rises = one.rises; pays = omega (arith, one.pays, le); within = one.within }

  -- ---- what a play ensures, unless `used` is true

  -- what is held of a value or of what was thrown, and of the state there; at a stop nothing more is paid for, and a throw is a step more
  pub data Ensures (H : Tree → State → Type 0) (V : Tree → State → Type 0) (S : ℕ → State → Type 0) : Play → Type 0 where
    value : {v : Tree} {t : State} → H v t → V v t → Ensures H V S (Over (Value v) t)
    stopped : {c : Stop} {t : State} → S 0 t → Ensures H V S (Over (Stopped c) t)
    throwing : {v : Tree} {t : State} → H v t → S 0 t → Ensures H V S (Over (Throwing v) t)
    thrown : {v : Tree} {t : State} → H v t → S worth t → Ensures H V S (Over (Thrown v) t)
    quits : {t : State} → S 0 t → Ensures H V S (Over Quit t)
    used : {p : Play} → Used p → Ensures H V S p

  abbrev Maps : (ℕ → State → Type 0) → (ℕ → State → Type 0) → Type 0
  Maps S T = (g : ℕ) (t : State) → S g t → T g t

  module _ {H : Tree → State → Type 0} where
    mapped : {V W : Tree → State → Type 0} {S T : ℕ → State → Type 0} {p : Play} → ((v : Tree) (t : State) → V v t → W v t) → Maps S T → Ensures H V S p → Ensures H W T p
    mapped f g (value h v) = value h (f _ _ v)
    mapped f g (stopped s) = stopped (g 0 _ s)
    mapped f g (throwing h s) = throwing h (g 0 _ s)
    mapped f g (thrown h s) = thrown h (g worth _ s)
    mapped f g (quits s) = quits (g 0 _ s)
    mapped f g (used u) = used u

    after_ensures : {V W : Tree → State → Type 0} {S T : ℕ → State → Type 0} {p : Play} (k : Tree → State → Play) → Sticky k
        → ((v : Tree) (t : State) → H v t → V v t → Ensures H W T (k v t)) → Maps S T → Ensures H V S p → Ensures H W T (ending p (on_value k))
    after_ensures k sticky f g (value h v) = f _ _ h v
    after_ensures k sticky f g (stopped s) = stopped (g 0 _ s)
    after_ensures k sticky f g (throwing h s) = throwing h (g 0 _ s)
    after_ensures k sticky f g (thrown h s) = thrown h (g worth _ s)
    after_ensures k sticky f g (quits s) = quits (g 0 _ s)
    after_ensures k sticky f g (used u) = used (ending-sticks (on_value-sticks sticky) u)

    catching_ensures : {V W : Tree → State → Type 0} {S T : ℕ → State → Type 0} {p : Play} (k : Tree → State → Play) → Sticky k
        → ((v : Tree) (t : State) → H v t → V v t → Ensures H W T (k v t)) → ((v : Tree) (t : State) → H v t → S worth t → Ensures H W T (k v t)) → Maps S T
        → Ensures H V S p → Ensures H W T (ending p (catching k))
    catching_ensures k sticky f c g (value h v) = f _ _ h v
    catching_ensures k sticky f c g (stopped s) = stopped (g 0 _ s)
    catching_ensures k sticky f c g (throwing h s) = throwing h (g 0 _ s)
    catching_ensures k sticky f c g (thrown h s) = c _ _ h s
    catching_ensures k sticky f c g (quits s) = quits (g 0 _ s)
    catching_ensures k sticky f c g (used u) = used (ending-sticks (catching-sticks sticky) u)

    leaving_ensures : {V W : Tree → State → Type 0} {S T : ℕ → State → Type 0} {p : Play} (names : Names) (old : Definitions) (ls : List Local) (k : Tree → State → Play) → Sticky k
        → ((v : Tree) (t : State) → H v t → H v (without_locals names old ls t)) → ((v : Tree) (t : State) → H v (without_locals names old ls t) → V v t → Ensures H W T (k v (without_locals names old ls t)))
        → ((g : ℕ) (t : State) → S g t → T g (without_locals names old ls t)) → Ensures H V S p → Ensures H W T (ending p (leaving_locals names old ls k))
    leaving_ensures names old ls k sticky back f g (value h v) = f _ _ (back _ _ h) v
    leaving_ensures names old ls k sticky back f g (stopped s) = stopped (g 0 _ s)
    leaving_ensures names old ls k sticky back f g (throwing h s) = throwing (back _ _ h) (g 0 _ s)
    leaving_ensures names old ls k sticky back f g (thrown h s) = thrown (back _ _ h) (g worth _ s)
    leaving_ensures names old ls k sticky back f g (quits s) = quits (g 0 _ s)
    leaving_ensures names old ls k sticky back f g (used u) = used (ending-sticks (λ o s e. on_value-sticks sticky o (without_locals names old ls s) e) u)

  -- the same number and steps
  moved_end : {s t t' : State} {g b : ℕ} → number t' ≡ number t → t'.steps ≡ t.steps → Paid g b s t → Paid g b s t'
  moved_end {s} {t} {t'} {g} {b} e f one =
      record { rises = omega (arith, one.rises, e); pays = omega (arith, one.pays, e, ap (λ n. worth * n) f); within = λ few. omega (arith, one.within few, f) }

  moved_begin : {s s' t : State} {g b : ℕ} → number s' ≡ number s → s'.steps ≡ s.steps → Paid g b s t → Paid g b s' t
  moved_begin {s} {s'} {t} {g} {b} e f one =
      record { rises = omega (arith, one.rises, e); pays = omega (arith, one.pays, e, ap (λ n. worth * n) f); within = λ few. one.within (omega (arith, few, f)) }

  one_step : (s : State) → ltb s.steps set.limits.steps ≡ true → Paid worth 0 s (record s { steps = s.steps + 1 })
  one_step s left =
      record { rises = le_refl (number s); pays = omega (arith, mul-add worth s.steps 1, mul-one worth); within = λ few. omega (arith, ltb-true s.steps set.limits.steps left) }

  one_number : (s : State) → Paid 0 1 s (with_definitions (after_number s.definitions) s)
  one_number s = record { rises = omega arith; pays = omega arith; within = λ few. few }

  module _ (C : Circle set.names) (shared : List Shared) where
    abbrev R : Realm
    R = calm set.names C

    -- definitions of the set, from which a Module makes members of it
    pub record Keeps (d : Definitions) : Type 0 where
      pub agree : Agree R shared tt d d
      pub start : C.first ≤ d.module_number

    abbrev pub Held : Tree → State → Type 0
    Held v t = Has R tt v × Keeps t.definitions

    locals_keep : (ls : List Local) (d : Definitions) → Each (LocalIn R tt) ls → Keeps d → Keeps (put_locals set.names ls d)
    locals_keep ls d all kept =
        record { agree = locals_agree R shared tt ls d d kept.agree all; start = subst (λ n. C.first ≤ n) (sym (put_number set.names ls d)) kept.start }

    backs_keep : (old : Definitions) (ls : List Local) (d : Definitions) → Keeps old → Each (LocalIn R tt) ls → Keeps d → Keeps (put_back set.names old ls d)
    backs_keep old ls d olds all kept =
        record {
          agree = backs_agree R shared tt tt (λ x x_in. x_in) old old olds.agree ls d d kept.agree all;
          start = subst (λ n. C.first ≤ n) (sym (back_number set.names old ls d)) kept.start;
        }

    written_keep : (d : Definitions) (s : Sym) (D : Definition) → C.Member s → Keeps d → (Unshared R shared s → DefinedIn R tt D) → Keeps (written set.names d s D)
    written_keep d s D s_in kept defined =
        record {
          agree = written_agree R shared tt tt (λ x x_in. x_in) s (stays_in R shared tt s) d d D D kept.agree (λ free. (refl, defined free));
          start = kept.start;
        }

    number_keeps : (d : Definitions) → Keeps d → Keeps (after_number d)
    number_keeps d kept =
        record {
          agree = record { first = kept.agree.first; second = kept.agree.second; number = refl; same = kept.agree.same; closed = kept.agree.closed };
          start = omega (arith, kept.start);
        }

    seen_in : (d : Definitions) (s : Sym) → Keeps d → C.Member s → SeenBoth R tt (seen set.names d s) (seen set.names d s)
    seen_in d s kept s_in = seen_both R shared tt d d s kept.agree s_in

    edited : (d : Definitions) (s : Sym) (f : Definition → Definition) → Keeps d → C.Member s → ((x : Definition) → DefinedIn R tt x → DefinedIn R tt (f x)) → Keeps (written set.names d s (f (seen set.names d s).definition))
    edited d s f kept s_in keeps =
        written_keep d s (f (seen set.names d s).definition) s_in kept
        (λ free. keeps (seen set.names d s).definition ((seen_in d s kept s_in).defined (none_seen R shared tt d d s kept.agree free)))

    module _ (n : ℕ) (ev : Evaluator) (sticky : Sticky ev) (few : C.Throwing → n ≤ worth) (some : 1 ≤ worth) where
      -- an evaluation: where its value is greater, a step is to spare; where it stops, each nested one may have one number not paid
      abbrev Pays : Evaluator → ℕ → Type 0
      Pays f m = (e : Tree) (s : State) → Held e s → Ensures Held (λ v t. Paid (grew e v) 0 s t) (λ g t. Paid g m s t) (f e s)

      module _ (nested : Pays ev n) where
        abbrev Goes : State → Play → Type 0
        Goes u = Ensures Held (λ r t. Paid 0 0 u t) (λ g t. Paid g n u t)

        -- what goes on from where so much was paid
        goes_on : {g : ℕ} {u t : State} {p : Play} → Paid g 0 u t → Goes t p → Goes u p
        goes_on paid rest = mapped (λ r x more. joined 0 0 paid more (omega arith)) (λ g x more. joined g n paid more (omega arith)) rest

        calm_run : {p q : Prog} → Both R tt p q → (u : State) → Keeps u.definitions → Goes u (run set ev p u)
        calm_run (done one) u kept = value (one, kept) (itself u)
        calm_run stop u kept = stopped (less 0 n (itself u) (omega arith))
        calm_run leaves u kept = quits (less 0 n (itself u) (omega arith))
        calm_run (throws free one) u kept = throwing (one, kept) (less 0 n (itself u) (omega arith))
        calm_run (ask {e = e} {k = k} one next) u kept =
            after_ensures (λ v t. run set ev (k v) t) (λ v t. run-sticks set ev sticky (k v) t)
            (λ v t held paid. goes_on paid (calm_run (next tt (λ s s_in. s_in) v held.0) t held.1)) (λ g t paid. paid) (nested e u (one, kept))
        calm_run (catches {e = e} {k = k} free one next) u kept =
            catching_ensures (λ v t. run set ev (k v) t) (λ v t. run-sticks set ev sticky (k v) t)
            (λ v t held paid. goes_on paid (calm_run (next tt (λ s s_in. s_in) v held.0) t held.1))
            (λ v t held paid. goes_on (less 0 0 paid (omega (arith, few free))) (calm_run (next tt (λ s s_in. s_in) v held.0) t held.1))
            (λ g t paid. paid) (nested e u (one, kept))
        calm_run (within {ls = ls} {e = e} {k = k} locals one next) u kept =
            leaving_ensures set.names u.definitions ls (λ v t. run set ev (k v) t) (λ v t. run-sticks set ev sticky (k v) t)
            (λ v t held. (held.0, backs_keep u.definitions ls t.definitions kept locals held.1))
            (λ v t held paid. goes_on (inside t paid) (calm_run (next tt (λ s s_in. s_in) v held.0) (without_locals set.names u.definitions ls t) held.1))
            (λ g t paid. inside t paid) (nested e (with_locals set.names ls u) (one, locals_keep ls u.definitions locals kept))
          where
            inside : {g b : ℕ} (t : State) → Paid g b (with_locals set.names ls u) t → Paid g b u (without_locals set.names u.definitions ls t)
            inside t paid = moved_end (back_number set.names u.definitions ls t.definitions) refl (moved_begin (sym (put_number set.names ls u.definitions)) refl paid)
        calm_run (look {s = a} s_in next) u kept = calm_run (next _ _ (seen_in u.definitions a kept s_in)) u kept
        calm_run (put {s = a} {d = d} table origin defined next) u kept =
            mapped (λ r t paid. moved_begin refl refl paid) (λ g t paid. moved_begin refl refl paid)
            (calm_run (next tt (λ s s_in. s_in) (from_origin C a origin)) _ (written_keep u.definitions a d (from_origin C a origin) kept (λ free. defined)))
        calm_run (edit {s = a} {f = f} table s_in keeps next) u kept =
            mapped (λ r t paid. moved_begin refl refl paid) (λ g t paid. moved_begin refl refl paid) (calm_run next _ (edited u.definitions a f kept s_in keeps))
        calm_run (fresh nowhere next) u kept = elim nowhere [ ]
        calm_run (turn {p = p} next) u kept = step (ltb u.steps set.limits.steps) refl (calm_run next (record u { steps = u.steps + 1 }) kept)
          where
            step : (b : Bool) → ltb u.steps set.limits.steps ≡ b → Goes (record u { steps = u.steps + 1 }) (run set ev p (record u { steps = u.steps + 1 }))
                → Goes u (stepped b u (λ t. run set ev p t))
            step true left rest = goes_on (one_step u left) rest
            step false left rest = stopped (less 0 n (itself u) (omega arith))
        calm_run (check {e = e} {p = p} one next) u kept = go (too_large set.limits e) (calm_run next u kept)
          where
            go : (o : Option Stop) → Goes u (run set ev p u) → Goes u (unless_stopped o u (λ t. run set ev p t))
            go None rest = rest
            go (Some c) rest = stopped (less 0 n (itself u) (omega arith))
        calm_run (moded {k = k}) u kept = used (run-sticks set ev sticky (k set.mode set.kernel) (now_used u) refl)

        -- what follows taking a number
        simple_run : {P : Tree → Type 0} {p : Prog} → Simple set.names C P p → (u : State) → Keeps u.definitions
            → Ensures Held (λ r t. P r × Paid 0 0 u t) (λ g t. Paid g n u t) (run set ev p u)
        simple_run (result r_in one) u kept = value (r_in, kept) (one, itself u)
        simple_run (asking {e = e} {k = k} e_in next) u kept =
            after_ensures (λ v t. run set ev (k v) t) (λ v t. run-sticks set ev sticky (k v) t)
            (λ v t held paid. mapped (λ r x rest. (rest.0, joined 0 0 paid rest.1 (omega arith))) (λ g x rest. joined g n paid rest (omega arith)) (simple_run (next v held.0) t held.1))
            (λ g t paid. paid) (nested e u (e_in, kept))
        simple_run (putting {s = a} {d = d} s_in defined next) u kept =
            mapped (λ r t paid. (paid.0, moved_begin refl refl paid.1)) (λ g t paid. moved_begin refl refl paid)
            (simple_run next _ (written_keep u.definitions a d s_in kept (λ free. defined)))

        module _ (N : ℕ) (s : State) where
          abbrev smaller : Tree → ℕ
          smaller r = bit (ltb (size r) N)

          abbrev Passes : Play → Type 0
          Passes = Ensures Held (λ r t. Paid 0 (smaller r) s t) (λ g t. Paid g (suc n) s t)

          after_nested : {c : ℕ} (e v : Tree) (u t : State) → Paid c 0 s u → Paid (grew e v) 0 u t → Paid c 0 s t
          after_nested {c} e v u t so paid = joined c 0 so paid (omega arith)

          thrifty_run : {c : Bool} {p : Prog} → Thrifty set.names C N c p → (u : State) → Keeps u.definitions → Paid (bit c) 0 s u → Passes (run set ev p u)
          thrifty_run {c} (Thrifty.calmly calm_p) u kept so =
              mapped (λ r t paid. joined 0 (smaller r) so paid (omega arith)) (λ g t paid. joined g (suc n) so paid (omega arith)) (calm_run calm_p u kept)
          thrifty_run {c} (Thrifty.ask {e = e} {k = k} e_in next) u kept so =
              after_ensures (λ v t. run set ev (k v) t) (λ v t. run-sticks set ev sticky (k v) t)
              (λ v t held paid. thrifty_run (next v held.0) t held.1 (after_nested e v u t so paid)) (λ g t paid. joined g (suc n) so paid (omega arith)) (nested e u (e_in, kept))
          thrifty_run (Thrifty.item {e = e} {k = k} e_in same_size greater) u kept so =
              after_ensures (λ v t. run set ev (k v) t) (λ v t. run-sticks set ev sticky (k v) t)
              (λ v t held paid. by_growth v t (ltb (size e) (size v)) refl paid (λ le. thrifty_run (same_size v held.0 le) t held.1) (thrifty_run (greater v held.0) t held.1))
              (λ g t paid. joined g (suc n) so paid (omega arith)) (nested e u (e_in, kept))
            where
              by_growth : (v : Tree) (t : State) (b : Bool) → ltb (size e) (size v) ≡ b → Paid (grew e v) 0 u t → (size v ≤ size e → Paid 0 0 s t → Passes (run set ev (k v) t))
                  → (Paid 1 0 s t → Passes (run set ev (k v) t)) → Passes (run set ev (k v) t)
              by_growth v t true is paid stay grow = grow (joined 1 0 so (subst (λ b. Paid (bit b) 0 u t) is paid) (omega arith))
              by_growth v t false is paid stay grow = stay (ltb-false (size e) (size v) is) (after_nested e v u t so paid)
          thrifty_run (Thrifty.look {s = a} s_in next) u kept so = thrifty_run (next (seen set.names u.definitions a) (seen_in u.definitions a kept s_in)) u kept so
          thrifty_run {c} (Thrifty.turn {p = p} next) u kept so =
              step (ltb u.steps set.limits.steps) refl (λ left. thrifty_run next (record u { steps = u.steps + 1 }) kept (joined (bit c) 0 so (one_step u left) (omega arith)))
            where
              step : (b : Bool) → ltb u.steps set.limits.steps ≡ b → (ltb u.steps set.limits.steps ≡ true → Passes (run set ev p (record u { steps = u.steps + 1 })))
                  → Passes (stepped b u (λ t. run set ev p t))
              step true left rest = rest left
              step false left rest = stopped (less 0 (suc n) so (omega arith))
          thrifty_run (Thrifty.check {e = e} {p = p} next) u kept so = go (too_large set.limits e) (thrifty_run next u kept so)
            where
              go : (o : Option Stop) → Passes (run set ev p u) → Passes (unless_stopped o u (λ t. run set ev p t))
              go None rest = rest
              go (Some c) rest = stopped (less 0 (suc n) so (omega arith))
          thrifty_run (Thrifty.moded {k = k}) u kept so = used (run-sticks set ev sticky (k set.mode set.kernel) (now_used u) refl)
          thrifty_run (Thrifty.paid {k = k} next) u kept so = go (number u == last_number)
            where
              taken : State
              taken = with_definitions (after_number u.definitions) u

              go : (b : Bool) → Passes (if_number_left b u (λ m t. run set ev (k m) t))
              go true = stopped (less 0 (suc n) so (omega arith))
              go false =
                  mapped (λ r t both. joined 0 (smaller r) (joined 0 0 so (one_number u) (omega arith)) both.1 (omega arith))
                  (λ g t paid. joined g (suc n) (joined 0 0 so (one_number u) (omega arith)) paid (omega arith)) (simple_run (next (number u) kept.start) taken (number_keeps u.definitions kept))
          thrifty_run (Thrifty.small {k = k} next) u kept so = go (number u == last_number)
            where
              taken : State
              taken = with_definitions (after_number u.definitions) u

              go : (b : Bool) → Passes (if_number_left b u (λ m t. run set ev (k m) t))
              go true = stopped (less 0 (suc n) so (omega arith))
              go false =
                  mapped
                  (λ r t both. subst (λ b. Paid 0 (bit b) s t) (sym (lt-ltb (size r) N both.0)) (joined 0 1 (joined 0 1 so (one_number u) (omega arith)) both.1 (omega arith)))
                  (λ g t paid. joined g (suc n) (joined 0 1 so (one_number u) (omega arith)) paid (omega arith)) (simple_run (next (number u) kept.start) taken (number_keeps u.definitions kept))

        -- ---- passes

        abbrev Whole : Tree → State → Play → Type 0
        Whole e s = Ensures Held (λ v t. Paid (grew e v) 0 s t) (λ g t. Paid g (suc n) s t)

        changed_pays : (left : ℕ) (again : Evaluator) (e r : Tree) (s t : State) → Pays again (suc n) → Held r t → Paid 0 (bit (ltb (size r) (size e))) s t → Whole e s (changed set left again r t)
        changed_pays zero again e r s t more held one = stopped (less 0 (suc n) one (omega (arith, bit-small (ltb (size r) (size e)))))
        changed_pays (suc left) again e r s t more held one = go (ltb t.steps set.limits.steps) refl
          where
            next : State
            next = record t { steps = t.steps + 1 }

            go : (b : Bool) → ltb t.steps set.limits.steps ≡ b → Whole e s (stepped b t (again r))
            go true enough =
                mapped
                (λ v u rest. joined (grew e v) 0 (joined 1 (bit (ltb (size r) (size e))) one (one_step t enough) (omega (arith, some))) rest (omega (arith, two_parts (size r) (size e) (size v))))
                (λ g u rest. joined g (suc n) (joined 1 (bit (ltb (size r) (size e))) one (one_step t enough) (omega (arith, some))) rest (omega (arith, bit-small (ltb (size r) (size e)))))
                (more r next held)
            go false enough = stopped (less 0 (suc n) one (omega (arith, bit-small (ltb (size r) (size e)))))

        settled_pays : (b : Bool) (left : ℕ) (again : Evaluator) (e r : Tree) (s t : State) → same r e ≡ b → Pays again (suc n) → Held r t → Paid 0 (bit (ltb (size r) (size e))) s t
            → Whole e s (settled b set left again r t)
        settled_pays true left again e r s t is more held one =
            let equal : r ≡ e = (tree_eq-Decides r e).0 is in
            value held (subst (λ x. Paid (grew e x) 0 s t) (sym equal) (less (bit (ltb (size e) (size e))) 0
            (subst (λ x. Paid 0 (bit (ltb (size x) (size e))) s t) equal one) (omega (arith, ap bit (not_less_itself (size e))))))
        settled_pays false left again e r s t is more held one = changed_pays left again e r s t more held one

        judged_pays : (left : ℕ) (again : Evaluator) (e r : Tree) (s t : State) → Pays again (suc n) → Held r t → Paid 0 (bit (ltb (size r) (size e))) s t → Whole e s (judged set left again e r t)
        judged_pays left again e r s t more held one = go (too_large set.limits r) (settled_pays (same r e) left again e r s t refl more held one)
          where
            go : (o : Option Stop) → Whole e s (settled (same r e) set left again r t) → Whole e s (unless_stopped o t (λ u. settled (same r e) set left again r u))
            go None rest = rest
            go (Some c) rest = stopped (less 0 (suc n) one (omega (arith, bit-small (ltb (size r) (size e)))))

        throw_pays : (left : ℕ) (e v : Tree) (s t : State) → Held v t → Paid 0 (suc n) s t → Whole e s (changed set left (λ w u. Over (Thrown w) u) v t)
        throw_pays zero e v s t held one = stopped one
        throw_pays (suc left) e v s t held one = go (ltb t.steps set.limits.steps) refl
          where
            go : (b : Bool) → ltb t.steps set.limits.steps ≡ b → Whole e s (stepped b t (λ u. Over (Thrown v) u))
            go true enough = thrown held (joined worth (suc n) one (one_step t enough) (omega arith))
            go false enough = stopped one

        passed_pays : (left : ℕ) (again : Evaluator) (e : Tree) (s : State) {p : Play} → Sticky again → Pays again (suc n)
            → Ensures Held (λ r t. Paid 0 (bit (ltb (size r) (size e))) s t) (λ g t. Paid g (suc n) s t) p → Whole e s (ending p (passed set left again e))
        passed_pays left again e s sticks more (value {v = r} {t = t} held one) = judged_pays left again e r s t more held one
        passed_pays left again e s sticks more (stopped one) = stopped one
        passed_pays left again e s sticks more (throwing {v = v} {t = t} held one) = throw_pays left e v s t held one
        passed_pays left again e s sticks more (thrown held one) = thrown held one
        passed_pays left again e s sticks more (quits one) = quits one
        passed_pays left again e s sticks more (used h) = used (ending-sticks (passed-sticks set left again sticks e) h)

        passes_pay : (left : ℕ) → Pays (passes set ev left) (suc n)
        passes_pay zero e s held =
            passed_pays zero (λ v t. Over (Stopped Stop.Iteration) t) e s (λ v t h. ended h) (λ v u h. stopped (less 0 (suc n) (itself u) (omega arith)))
            (thrifty_run (size e) s (pass_thrifty set.names C e held.0) s held.1 (itself s))
        passes_pay (suc left) e s held =
            passed_pays (suc left) (λ v t. passes set ev left v t) e s (λ v t. passes-sticks set ev sticky left v t) (λ v u h. passes_pay left v u h)
            (thrifty_run (size e) s (pass_thrifty set.names C e held.0) s held.1 (itself s))

    pub eval_pays : (n : ℕ) → (C.Throwing → n ≤ worth) → (1 ≤ n → 1 ≤ worth) → (e : Tree) (s : State) → Held e s
        → Ensures Held (λ v t. Paid (grew e v) 0 s t) (λ g t. Paid g n s t) (eval_at set n e s)
    eval_pays zero few some e s held = stopped (itself s)
    eval_pays (suc n) few some e s held =
        passes_pay n (λ a b. eval_at set n a b) (eval_at-sticks set n) (λ free. omega (arith, few free)) (some (omega arith))
        (λ a b h. eval_pays n (λ free. omega (arith, few free)) (λ le. some (omega arith)) a b h) set.limits.iteration e s held

-- ---- along a list

pub used_over : {p : Play} → Used p → (events : List Event) → (over p events).used ≡ true
used_over (ended h) events = h
used_over (called h next) [] = h
used_over (called {c = c} {s = s} {k = k} h next) (a ∷ rest) = go (same_call a.call c) (used_over (next a.reply a.after) rest)
  where
    go : (b : Bool) → (over (k a.reply a.after) rest).used ≡ true → (if_matched b s a rest (over (k a.reply a.after) rest)).used ≡ true
    go true later = later
    go false later = h

-- a whole evaluation makes no call, unless `used` is true
pub data Alone : Play → Type 0 where
  at_end : {o : End} {t : State} → Alone (Over o t)
  with_use : {p : Play} → Used p → Alone p

-- what an evaluation from d ensures, where a step pays for so many numbers
abbrev pub Bounded : ℕ → (set : Setting) → Circle set.names → Definitions → Tree → Play → Type 0
Bounded worth set C d e =
    Ensures worth set (Held worth set C d.shared) (λ v t. Paid worth set (grew e v) 0 (begun d) t) (λ g t. Paid worth set g set.limits.recursion (begun d) t)

alone : (worth : ℕ) (set : Setting) (C : Circle set.names) (d : Definitions) (e : Tree) {p : Play} → Bounded worth set C d e p → Alone p
alone worth set C d e (value held one) = at_end
alone worth set C d e (stopped one) = at_end
alone worth set C d e (throwing held one) = at_end
alone worth set C d e (thrown held one) = at_end
alone worth set C d e (quits one) = at_end
alone worth set C d e (used h) = with_use h

abbrev pub BoundedBy : ℕ → Setting → Definitions → Evaluation → Type 0
BoundedBy worth set d r = (d.module_number ≤ r.definitions.module_number) × (r.definitions.module_number ≤ d.module_number + (worth * r.steps + going_on set.limits.recursion r.outcome))

pub bounded_over : (worth : ℕ) (set : Setting) (C : Circle set.names) (d : Definitions) (e : Tree) (p : Play) (events : List Event) → (over p events).used ≡ false → Bounded worth set C d e p
    → BoundedBy worth set d (over p events)
bounded_over worth set C d e p events free (value {v = v} {t = t} held one) = (one.rises, omega (arith, one.pays))
bounded_over worth set C d e p events free (stopped {t = t} one) = (one.rises, omega (arith, one.pays))
bounded_over worth set C d e p events free (throwing {t = t} held one) = (one.rises, omega (arith, one.pays))
bounded_over worth set C d e p events free (thrown {t = t} held one) = (one.rises, omega (arith, one.pays))
bounded_over worth set C d e p events free (quits {t = t} one) = (one.rises, omega (arith, one.pays))
bounded_over worth set C d e p events free (used h) = absurd (true≢false (sym (used_over h events) ∙ free))

within_over : (worth : ℕ) (set : Setting) (C : Circle set.names) (d : Definitions) (e : Tree) (p : Play) (events : List Event) → (over p events).used ≡ false → Bounded worth set C d e p
    → (over p events).steps ≤ set.limits.steps
within_over worth set C d e p events free (value held one) = one.within (omega arith)
within_over worth set C d e p events free (stopped one) = one.within (omega arith)
within_over worth set C d e p events free (throwing held one) = one.within (omega arith)
within_over worth set C d e p events free (thrown held one) = one.within (omega arith)
within_over worth set C d e p events free (quits one) = one.within (omega arith)
within_over worth set C d e p events free (used h) = absurd (true≢false (sym (used_over h events) ∙ free))

-- ---- with throws

all_kept : (set : Setting) (d : Definitions) → Keeps set.limits.recursion set (all_symbols set.names) d.shared d
all_kept set d =
    record {
      agree = record { first = refl; second = refl; number = refl; same = λ x x_in free. refl; closed = λ x x_in free. defined_anyhow set.names (stored set.names d x) };
      start = omega arith;
    }

pub whole_pays : (set : Setting) (d : Definitions) (e : Tree) → Bounded set.limits.recursion set (all_symbols set.names) d e (whole set d e)
whole_pays set d e =
    eval_pays set.limits.recursion set (all_symbols set.names) d.shared set.limits.recursion (λ free. le_refl set.limits.recursion) (λ le. le) e (begun d) (anything e, all_kept set d)

pub whole_alone : (set : Setting) (d : Definitions) (e : Tree) → Alone (whole set d e)
whole_alone set d e = alone set.limits.recursion set (all_symbols set.names) d e (whole_pays set d e)

pub numbers_bounded : NumbersBounded
unfolding eval
numbers_bounded set d e events free = bounded_over set.limits.recursion set (all_symbols set.names) d e (whole set d e) events free (whole_pays set d e)

pub steps_bounded : StepsBounded
unfolding eval
steps_bounded set d e events free = within_over set.limits.recursion set (all_symbols set.names) d e (whole set d e) events free (whole_pays set d e)
