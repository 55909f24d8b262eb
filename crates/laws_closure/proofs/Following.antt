-- One induction: evaluations of an expression of a set, from definitions that agree on it, end alike unless `used` becomes true. It is made
-- twice: with what Module makes in the set, and, where `Narrow` holds, without, up to the first number that is taken.
use Rattle.std.proofs.Common.{◌≤◌, arith, inl, inr, ltb-true, ◌≡◌, refl, ap, subst, ℕ, zero, suc, ◌+◌, Bool, true, false, ltb, List, Option, Some, None, true≢false, sym}
use Rattle.std.specs.Prelude.{◌==◌, ◌⊎◌, pos}
use Rattle.expr_tree.specs.declared.limits.Limits.{Limits}
use Rattle.expr_tree.specs.declared.limits.Stop.{Stop}
use Rattle.expr_tree.specs.Tree.{Tree, integer}
use Rattle.expr_tree.specs.Order.{same}
use Rattle.semantics.specs.Definitions.{Definitions, Shared}
use Rattle.semantics.specs.Program.{Prog, Mode}
use Rattle.semantics.specs.Play.{Setting, State, End, Value, Stopped, Throwing, Thrown, Quit, Closed, Starved, Play, Over, Evaluator, ending, on_value, catching, leaving_locals, too_large, with_step, with_locals, without_locals, unless_stopped, stepped, settled, if_number_left, now_used, run, changed, judged, passed, passes, eval_at, seen, with_definitions, last_number, after_number}
use Rattle.laws_language.proofs.Modes.{Used, ended, Sticky, StickyEnd, ending-sticks, on_value-sticks, catching-sticks, run-sticks, passed-sticks, passes-sticks, eval_at-sticks}
use Rattle.laws_relations.proofs.Beyond.{Beyond, Far, FarEnd, back-past, ending-far, on_value-far, catching-far, run-far, passed-far, passes-far, eval_at-far}
use Rattle.laws_closure.proofs.Programs.{Realm, Has, Both, done, stop, leaves, throws, ask, catches, within, look, put, edit, fresh, turn, check, moded, grows, same_world, later}
use Rattle.laws_closure.proofs.Passes.{pass_both}
use Rattle.laws_closure.proofs.Agreeing.{Outside, outside_written, outside_locals, outside_back, locals_number, back_number, Agree, written_agree, seen_both, locals_agree, backs_agree, stays_in, none_seen}

module _ (R : Realm) (may : (x : R.World) → R.Numbered x) (shared : List Shared) (shown : Tree → List ℕ) (mode : Mode) (kernel : ℕ) (limits : Limits) (Narrow : Type 0) (level : ℕ) (first second : Definitions) where
  open R use {names, World, Member, Table}

  abbrev pub set : Setting
  set = record { names = names; shown = shown; mode = mode; kernel = kernel; limits = limits }

  abbrev pub Started : ℕ → Type 0
  Started n = (R.first_number ≤ n) ⊎ (Narrow × (n ≡ level))

  pub record States (w : World) (s t : State) : Type 0 where
    pub definitions : Agree R shared w s.definitions t.definitions
    pub steps : s.steps ≡ t.steps
    pub used : s.used ≡ t.used
    -- numbers rise from the first, or none was taken; what is outside the set is as it was
    pub start : Started s.definitions.module_number
    pub within : s.steps ≤ limits.steps
    pub outside : Outside R shared first w s.definitions × Outside R shared second w t.definitions

  abbrev pub EndIn : World → End → Type 0
  EndIn w (Value v) = Has R w v
  EndIn w (Throwing v) = Has R w v
  EndIn w (Thrown v) = Has R w v
  EndIn w _ = Unit {0}

  -- a number is taken
  abbrev Taken : Play → Type 0
  Taken = Beyond (suc level) limits.steps

  abbrev pub Far' : (Tree → State → Play) → Type 0
  Far' = Far (suc level) limits.steps

  abbrev FarEnd' : (End → State → Play) → Type 0
  FarEnd' = FarEnd (suc level) limits.steps

  -- the second ends as the first, unless `used` is true in the first, or it took a number where none is to be taken
  pub data Follows (w : World) : Play → Play → Type 0 where
    quiet : {o : End} {s t : State} (u : World) → grows R w u → EndIn u o → States u s t → Follows w (Over o s) (Over o t)
    used : {p q : Play} → Used p → Follows w p q
    taken : {p q : Play} → Narrow → Taken p → Follows w p q

  abbrev pub Follow : Evaluator → Type 0
  Follow ev = (w : World) (e : Tree) (s t : State) → Has R w e → States w s t → Follows w (ev e s) (ev e t)

  later_ends : (w u : World) {p q : Play} → grows R w u → Follows u p q → Follows w p q
  later_ends w u g (quiet u' g' end states) = quiet u' (later R w u u' g g') end states
  later_ends w u g (used h) = used h
  later_ends w u g (taken n h) = taken n h

  abbrev Next : World → (Tree → State → Play) → (Tree → State → Play) → Type 0
  Next w j k = (u : World) → grows R w u → (v : Tree) (s t : State) → Has R u v → States u s t → Follows u (j v s) (k v t)

  abbrev NextEnd : World → (End → State → Play) → (End → State → Play) → Type 0
  NextEnd w j k = (u : World) → grows R w u → (o : End) (s t : State) → EndIn u o → States u s t → Follows u (j o s) (k o t)

  here : (w : World) (o : End) (s t : State) → EndIn w o → States w s t → Follows w (Over o s) (Over o t)
  here w o s t end states = quiet w (same_world R w) end states

  ending_follows : (w : World) {p q : Play} (j k : End → State → Play) → StickyEnd j → FarEnd' j → NextEnd w j k → Follows w p q → Follows w (ending p j) (ending q k)
  ending_follows w j k sticky far next (quiet u g end states) = later_ends w u g (next u g _ _ _ end states)
  ending_follows w j k sticky far next (used h) = used (ending-sticks sticky h)
  ending_follows w j k sticky far next (taken n h) = taken n (ending-far (suc level) limits.steps far h)

  on_value_follows : (w : World) (j k : Tree → State → Play) → Next w j k → NextEnd w (on_value j) (on_value k)
  on_value_follows w j k next u g (Value v) s t one states = next u g v s t one states
  on_value_follows w j k next u g (Stopped c) s t one states = here u (Stopped c) s t tt states
  on_value_follows w j k next u g (Throwing v) s t one states = here u (Throwing v) s t one states
  on_value_follows w j k next u g (Thrown v) s t one states = here u (Thrown v) s t one states
  on_value_follows w j k next u g Quit s t one states = here u Quit s t tt states
  on_value_follows w j k next u g Closed s t one states = here u Closed s t tt states
  on_value_follows w j k next u g Starved s t one states = here u Starved s t tt states

  catching_follows : (w : World) (j k : Tree → State → Play) → Next w j k → NextEnd w (catching j) (catching k)
  catching_follows w j k next u g (Value v) s t one states = next u g v s t one states
  catching_follows w j k next u g (Stopped c) s t one states = here u (Stopped c) s t tt states
  catching_follows w j k next u g (Throwing v) s t one states = here u (Throwing v) s t one states
  catching_follows w j k next u g (Thrown v) s t one states = next u g v s t one states
  catching_follows w j k next u g Quit s t one states = here u Quit s t tt states
  catching_follows w j k next u g Closed s t one states = here u Closed s t tt states
  catching_follows w j k next u g Starved s t one states = here u Starved s t tt states

  stepped_follows : (w : World) (b c : Bool) (s t : State) (j k : State → Play) → ltb s.steps limits.steps ≡ b → b ≡ c → States w s t
      → ((s' t' : State) → States w s' t' → Follows w (j s') (k t')) → Follows w (stepped b s j) (stepped c t k)
  stepped_follows w true true s t j k left e states next =
      next (record s { steps = s.steps + 1 }) (record t { steps = t.steps + 1 })
      (record {
        definitions = states.definitions;
        steps = ap (λ n. n + 1) states.steps;
        used = states.used;
        start = states.start;
        within = omega (arith, ltb-true s.steps limits.steps left);
        outside = states.outside;
      })
  stepped_follows w true false s t j k left e states next = absurd (true≢false e)
  stepped_follows w false true s t j k left e states next = absurd (true≢false (sym e))
  stepped_follows w false false s t j k left e states next = here w (Stopped Stop.Steps) s t tt states

  unless_follows : (w : World) (o : Option Stop) (s t : State) (j k : State → Play) → States w s t
      → ((s' t' : State) → States w s' t' → Follows w (j s') (k t')) → Follows w (unless_stopped o s j) (unless_stopped o t k)
  unless_follows w None s t j k states next = next s t states
  unless_follows w (Some c) s t j k states next = here w (Stopped c) s t tt states

  with_step_follows : (w : World) (s t : State) (j k : State → Play) → States w s t
      → ((s' t' : State) → States w s' t' → Follows w (j s') (k t')) → Follows w (with_step limits s j) (with_step limits t k)
  with_step_follows w s t j k states next =
      stepped_follows w (ltb s.steps limits.steps) (ltb t.steps limits.steps) s t j k refl (ap (λ n. ltb n limits.steps) states.steps) states next

  after_agree : (w : World) (d c : Definitions) → Agree R shared w d c → Agree R shared w (after_number d) (after_number c)
  after_agree w d c both = record { first = both.first; second = both.second; number = ap (λ n. n + 1) both.number; same = both.same; closed = both.closed }

  numbered_follows : (w : World) (b c : Bool) (s t : State) (j k : ℕ → State → Play) → b ≡ c → ((m : ℕ) → Far' (λ _ s'. j m s')) → States w s t
      → ((m : ℕ) → R.first_number ≤ m → (s' t' : State) → States w s' t' → Follows w (j m s') (k m t')) → Follows w (if_number_left b s j) (if_number_left c t k)
  numbered_follows w true true s t j k e far states next = here w (Stopped Stop.Range) s t tt states
  numbered_follows w true false s t j k e far states next = absurd (true≢false e)
  numbered_follows w false true s t j k e far states next = absurd (true≢false (sym e))
  numbered_follows w false false s t j k e far states next = go states.start
    where
      m : ℕ
      m = s.definitions.module_number

      s' : State
      s' = with_definitions (after_number s.definitions) s

      t' : State
      t' = with_definitions (after_number t.definitions) t

      go : Started m → Follows w (j m s') (k t.definitions.module_number t')
      go (inl le) =
          subst (λ n. Follows w (j m s') (k n t')) states.definitions.number
          (next m le s' t'
          (record {
            definitions = after_agree w s.definitions t.definitions states.definitions;
            steps = states.steps;
            used = states.used;
            start = inl (omega (arith, le));
            within = states.within;
            outside = states.outside;
          }))
      go (inr (narrow, same)) = taken narrow (far m (integer (pos 0)) s' (omega (arith, same), states.within))

  -- related programs from states that agree end alike
  run_follows : (ev : Evaluator) → Sticky ev → Far' ev → Follow ev → {w : World} {p q : Prog} → Both R w p q → (s t : State) → States w s t → Follows w (run set ev p s) (run set ev q t)
  run_follows ev sticky far follow {w} (done {e = e} one) s t states = here w (Value e) s t one states
  run_follows ev sticky far follow {w} (stop {c = c}) s t states = here w (Stopped c) s t tt states
  run_follows ev sticky far follow {w} leaves s t states = here w Quit s t tt states
  run_follows ev sticky far follow {w} (throws {e = e} free one) s t states = here w (Throwing e) s t one states
  run_follows ev sticky far follow {w} (ask {e = e} {k = k} {l = l} one next) s t states =
      ending_follows w (on_value (λ v s'. run set ev (k v) s')) (on_value (λ v t'. run set ev (l v) t')) (on_value-sticks (λ v s'. run-sticks set ev sticky (k v) s'))
      (on_value-far (suc level) limits.steps (λ v s'. run-far (suc level) limits.steps set refl ev far (k v) s'))
      (on_value_follows w (λ v s'. run set ev (k v) s') (λ v t'. run set ev (l v) t') (λ u g v s' t' v_in states'. run_follows ev sticky far follow (next u g v v_in) s' t' states'))
      (follow w e s t one states)
  run_follows ev sticky far follow {w} (catches {e = e} {k = k} {l = l} free one next) s t states =
      ending_follows w (catching (λ v s'. run set ev (k v) s')) (catching (λ v t'. run set ev (l v) t')) (catching-sticks (λ v s'. run-sticks set ev sticky (k v) s'))
      (catching-far (suc level) limits.steps (λ v s'. run-far (suc level) limits.steps set refl ev far (k v) s'))
      (catching_follows w (λ v s'. run set ev (k v) s') (λ v t'. run set ev (l v) t') (λ u g v s' t' v_in states'. run_follows ev sticky far follow (next u g v v_in) s' t' states'))
      (follow w e s t one states)
  run_follows ev sticky far follow {w} (within {ls = ls} {e = e} {k = k} {l = l} locals one next) s t states =
      ending_follows w (leaving_locals names s.definitions ls (λ v s'. run set ev (k v) s')) (leaving_locals names t.definitions ls (λ v t'. run set ev (l v) t'))
      (λ o s' h. on_value-sticks (λ v s2. run-sticks set ev sticky (k v) s2) o (without_locals names s.definitions ls s') h)
      (λ o s' h. on_value-far (suc level) limits.steps (λ v s2. run-far (suc level) limits.steps set refl ev far (k v) s2) o (without_locals names s.definitions ls s')
      (back-past (suc level) limits.steps names s.definitions ls s' h))
      (λ u g o s' t' end states'.
      on_value_follows w (λ v s2. run set ev (k v) s2) (λ v t2. run set ev (l v) t2) (λ u' g' v s2 t2 v_in states2. run_follows ev sticky far follow (next u' g' v v_in) s2 t2 states2)
      u g o (without_locals names s.definitions ls s') (without_locals names t.definitions ls t') end
      (record {
        definitions = backs_agree R shared w u g s.definitions t.definitions states.definitions ls s'.definitions t'.definitions states'.definitions locals;
        steps = states'.steps;
        used = states'.used;
        start = subst Started (sym (back_number R shared s.definitions ls s'.definitions)) states'.start;
        within = states'.within;
        outside = (
          outside_back R shared first w u g s.definitions ls s'.definitions locals states'.outside.0,
          outside_back R shared second w u g t.definitions ls t'.definitions locals states'.outside.1,
        );
      }))
      (follow w e (with_locals names ls s) (with_locals names ls t) one
      (record {
        definitions = locals_agree R shared w ls s.definitions t.definitions states.definitions locals;
        steps = states.steps;
        used = states.used;
        start = subst Started (sym (locals_number R shared ls s.definitions)) states.start;
        within = states.within;
        outside = (outside_locals R shared first w ls s.definitions locals states.outside.0, outside_locals R shared second w ls t.definitions locals states.outside.1);
      }))
  run_follows ev sticky far follow {w} (look {s = a} s_in next) s t states =
      run_follows ev sticky far follow (next _ _ (seen_both R shared w s.definitions t.definitions a states.definitions s_in)) s t states
  run_follows ev sticky far follow {w} (put {s = a} {d = d} table origin defined next) s t states =
      later_ends w (R.extended w a table origin) (R.kept w a table origin)
      (run_follows ev sticky far follow (next (R.extended w a table origin) (R.kept w a table origin) (R.added w a table origin)) _ _
      (record {
        definitions = written_agree R shared w (R.extended w a table origin) (R.kept w a table origin) a (R.only w a table origin) s.definitions t.definitions d d states.definitions (λ free. (refl, defined));
        steps = states.steps;
        used = states.used;
        start = states.start;
        within = states.within;
        outside = (
          outside_written R shared first w (R.extended w a table origin) (R.kept w a table origin) a (R.added w a table origin) s.definitions d states.outside.0,
          outside_written R shared second w (R.extended w a table origin) (R.kept w a table origin) a (R.added w a table origin) t.definitions d states.outside.1,
        );
      }))
  run_follows ev sticky far follow {w} (edit {s = a} {f = f} table s_in keeps next) s t states =
      let seen_alike = seen_both R shared w s.definitions t.definitions a states.definitions s_in in
      run_follows ev sticky far follow next _ _
      (record {
        definitions = written_agree R shared w w (same_world R w) a (stays_in R shared w a) s.definitions t.definitions
            (f (seen names s.definitions a).definition) (f (seen names t.definitions a).definition) states.definitions
            (λ free. (ap f (seen_alike.same (none_seen R shared w s.definitions t.definitions a states.definitions free)), keeps (seen names s.definitions a).definition (seen_alike.defined (none_seen R shared w s.definitions t.definitions a states.definitions free))));
        steps = states.steps;
        used = states.used;
        start = states.start;
        within = states.within;
        outside = (
          outside_written R shared first w w (same_world R w) a s_in s.definitions (f (seen names s.definitions a).definition) states.outside.0,
          outside_written R shared second w w (same_world R w) a s_in t.definitions (f (seen names t.definitions a).definition) states.outside.1,
        );
      })
  run_follows ev sticky far follow {w} (fresh {k = k} {l = l} numbered next) s t states =
      numbered_follows w _ _ s t (λ m s'. run set ev (k m) s') (λ m t'. run set ev (l m) t') (ap (λ n. n == last_number) states.definitions.number)
      (λ m _ s' h. run-far (suc level) limits.steps set refl ev far (k m) s' h) states
      (λ m le s' t' states'. run_follows ev sticky far follow (next m le) s' t' states')
  run_follows ev sticky far follow {w} (turn {p = p} {q = q} next) s t states =
      with_step_follows w s t (λ s'. run set ev p s') (λ t'. run set ev q t') states (λ s' t' states'. run_follows ev sticky far follow next s' t' states')
  run_follows ev sticky far follow {w} (check {e = e} {p = p} {q = q} one next) s t states =
      unless_follows w (too_large limits e) s t (λ s'. run set ev p s') (λ t'. run set ev q t') states (λ s' t' states'. run_follows ev sticky far follow next s' t' states')
  run_follows ev sticky far follow {w} (moded {k = k}) s t states = used (run-sticks set ev sticky (k mode kernel) (now_used s) refl)

  changed_follows : (w : World) (n : ℕ) (j k : Tree → State → Play) → Next w j k → (v : Tree) → Has R w v → (s t : State) → States w s t
      → Follows w (changed set n j v s) (changed set n k v t)
  changed_follows w zero j k next v one s t states = here w (Stopped Stop.Iteration) s t tt states
  changed_follows w (suc n) j k next v one s t states = with_step_follows w s t (j v) (k v) states (λ s' t' states'. next w (same_world R w) v s' t' one states')

  settled_follows : (w : World) (b : Bool) (n : ℕ) (j k : Tree → State → Play) → Next w j k → (v : Tree) → Has R w v → (s t : State) → States w s t
      → Follows w (settled b set n j v s) (settled b set n k v t)
  settled_follows w true n j k next v one s t states = here w (Value v) s t one states
  settled_follows w false n j k next v one s t states = changed_follows w n j k next v one s t states

  judged_follows : (w : World) (n : ℕ) (j k : Tree → State → Play) → Next w j k → (e v : Tree) → Has R w v → (s t : State) → States w s t
      → Follows w (judged set n j e v s) (judged set n k e v t)
  judged_follows w n j k next e v one s t states =
      unless_follows w (too_large limits v) s t _ _ states (λ s' t' states'. settled_follows w (same v e) n j k next v one s' t' states')

  passed_follows : (w : World) (n : ℕ) (j k : Tree → State → Play) → Next w j k → (e : Tree) → NextEnd w (passed set n j e) (passed set n k e)
  passed_follows w n j k next e u g (Value v) s t one states = judged_follows u n j k (λ u' g' v' s2 t2 v_in states2. next u' (later R w u u' g g') v' s2 t2 v_in states2) e v one s t states
  passed_follows w n j k next e u g (Stopped c) s t one states = here u (Stopped c) s t tt states
  passed_follows w n j k next e u g (Throwing v) s t one states = changed_follows u n _ _ (λ u' g' v' s2 t2 v_in states2. here u' (Thrown v') s2 t2 v_in states2) v one s t states
  passed_follows w n j k next e u g (Thrown v) s t one states = here u (Thrown v) s t one states
  passed_follows w n j k next e u g Quit s t one states = here u Quit s t tt states
  passed_follows w n j k next e u g Closed s t one states = here u Closed s t tt states
  passed_follows w n j k next e u g Starved s t one states = here u Starved s t tt states

  passes_follow : (ev : Evaluator) → Sticky ev → Far' ev → Follow ev → (n : ℕ) → Follow (passes set ev n)
  passes_follow ev sticky far follow zero w e s t one states =
      ending_follows w (passed set zero (λ v s'. Over (Stopped Stop.Iteration) s') e) (passed set zero (λ v t'. Over (Stopped Stop.Iteration) t') e)
      (passed-sticks set zero _ (λ w' u' g'. ended g') e) (passed-far (suc level) limits.steps set refl zero _ (λ w' u' g'. Beyond.over g') e)
      (passed_follows w zero _ _ (λ u g v s' t' v_in states'. here u (Stopped Stop.Iteration) s' t' tt states') e) (run_follows ev sticky far follow (pass_both R may w e one) s t states)
  passes_follow ev sticky far follow (suc n) w e s t one states =
      ending_follows w (passed set (suc n) (λ v s'. passes set ev n v s') e) (passed set (suc n) (λ v t'. passes set ev n v t') e)
      (passed-sticks set (suc n) _ (λ w' u'. passes-sticks set ev sticky n w' u') e)
      (passed-far (suc level) limits.steps set refl (suc n) _ (λ w' u'. passes-far (suc level) limits.steps set refl ev far n w' u') e)
      (passed_follows w (suc n) _ _ (λ u g v s' t' v_in states'. passes_follow ev sticky far follow n u v s' t' v_in states') e) (run_follows ev sticky far follow (pass_both R may w e one) s t states)

  pub eval_at_follows : (n : ℕ) → Follow (eval_at set n)
  eval_at_follows zero w e s t one states = here w (Stopped Stop.Recursion) s t tt states
  eval_at_follows (suc n) w e s t one states = passes_follow (λ a b. eval_at set n a b) (eval_at-sticks set n) (eval_at-far (suc level) limits.steps set refl n) (eval_at_follows n) limits.iteration w e s t one states
