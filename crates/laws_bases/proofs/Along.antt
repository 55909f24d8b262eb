-- The programs of passes send, write and ask for what is kept alone, so evaluations do.
use Rattle.std.proofs.Common.{◌≡◌, refl, ap, ℕ, zero, suc, ◌+◌, ◌<◌, Bool, true, false, ltb, List, Option, Some, None}
use Rattle.std.specs.Prelude.{◌==◌}
use Rattle.expr_tree.specs.declared.sym.Sym.{Sym}
use Rattle.expr_tree.specs.declared.limits.Stop.{Stop}
use Rattle.expr_tree.specs.Tree.{Tree}
use Rattle.expr_tree.specs.Order.{symbol_cmp, same, same_symbol}
use Rattle.script_text.specs.Laws.{IsKept}
use Rattle.semantics.specs.declared.builtin.Builtin.{Builtin}
use Rattle.semantics.specs.Names.{name, is_known, role_of}
use Rattle.semantics.specs.Program.{Prog, Request, Enter, Leave}
use Rattle.semantics.specs.Scoping.{renamed}
use Rattle.semantics.specs.Play.{Setting, State, End, Value, Stopped, Throwing, Thrown, Quit, Closed, Starved, Reply, Replied, Halted, Shut, Lacking, Play, Over, Evaluator, ending, on_value, catching, without_locals, with_locals, calling, by_reply, unless_stopped, stepped, settled, if_number_left, all_among, by_locks, sectioned, leaving, opened, run, changed, judged, passed, passes, eval_at, with_definitions, last_number, too_large}
use Rattle.laws_relations.proofs.Relate.{all_nil, all_cons}
use Rattle.laws_relations.proofs.Relation.{Faithful, name-like}
use Rattle.laws_relations.proofs.Kin.{Kin, LikeTrees, LikeRequest, accesses, counts, prints, forms}
use Rattle.laws_relations.proofs.Simulation.{Both, done, stop, leaves, throws, ask, catches, within, section, asks_open, look, put, fresh, turn, check, outer, moded, shown}
use Rattle.laws_relations.proofs.Passes.{pass-both}
use Rattle.laws_relations.proofs.States.{seen-like, written-like, put_locals-like, put_back-like}
use Rattle.laws_bases.specs.Kept.{AreKeptSymbols, AreKeptIn}
use Rattle.laws_bases.specs.Calls.{AreKeptValues, IsPrintOf, IsKeptRequest, IsKeptReply, IsKeptEnd, Keeps, ended, called}
use Rattle.laws_bases.proofs.Kin.{S, tree-like, definitions-like, tree-kept, symbols-kept, definitions-kept}

module _ (set : Setting) (count : ℕ) (rows : (row : Builtin) → set.names.place row < count) where
  faithful : Faithful (S count) set.names
  faithful =
      record {
        order = λ a b c d one two i. symbol_cmp (one.0 i) (two.0 i);
        equals = λ a b c d one two i. same_symbol (one.0 i) (two.0 i);
        rows = λ row a b one i. is_known set.names row (one.0 i);
        roles = λ a b one i. role_of set.names (one.0 i);
        knows = λ row. (refl, rows row);
      }

  abbrev kin : Kin
  kin =
      record {
        Symbols = S count;
        Numbers = λ m n. m ≡ n;
        States = λ s t. Unit {0};
        bound = 0;
        most_steps = 0;
        names = set.names;
        faithful = faithful;
        bases = λ s t one. ap (λ x. x.base) one.0;
        renames = λ m n same s t one. (λ i. renamed (same i) (one.0 i), one.1);
        Outward = Unit {0};
        Texts = λ t u. IsPrintOf count set.shown t;
      }

  abbrev K : Play → Type 0
  K = Keeps count set.shown

  -- what goes on from what is kept
  abbrev Carries : (Tree → State → Play) → Type 0
  Carries k = (v : Tree) (s : State) → IsKept count v → AreKeptIn count s.definitions → K (k v s)

  abbrev GoesOn : (State → Play) → Type 0
  GoesOn k = (s : State) → AreKeptIn count s.definitions → K (k s)

  abbrev Joins : (End → State → Play) → Type 0
  Joins k = (o : End) (s : State) → IsKeptEnd count o → AreKeptIn count s.definitions → K (k o s)

  ending-keeps : {p : Play} {k : End → State → Play} → Joins k → K p → K (ending p k)
  ending-keeps next (ended o d) = next _ _ o d
  ending-keeps next (called c d f) = called c d (λ r after reply left. ending-keeps next (f r after reply left))

  on_value-keeps : (k : Tree → State → Play) → Carries k → Joins (on_value k)
  on_value-keeps k next (Value v) s o d = next v s o d
  on_value-keeps k next (Stopped c) s o d = ended o d
  on_value-keeps k next (Throwing v) s o d = ended o d
  on_value-keeps k next (Thrown v) s o d = ended o d
  on_value-keeps k next Quit s o d = ended o d
  on_value-keeps k next Closed s o d = ended o d
  on_value-keeps k next Starved s o d = ended o d

  catching-keeps : (k : Tree → State → Play) → Carries k → Joins (catching k)
  catching-keeps k next (Value v) s o d = next v s o d
  catching-keeps k next (Stopped c) s o d = ended o d
  catching-keeps k next (Throwing v) s o d = ended o d
  catching-keeps k next (Thrown v) s o d = next v s o d
  catching-keeps k next Quit s o d = ended o d
  catching-keeps k next Closed s o d = ended o d
  catching-keeps k next Starved s o d = ended o d

  by_reply-keeps : (k : Tree → State → Play) → Carries k → (r : Reply) (s : State) → IsKeptReply count r → AreKeptIn count s.definitions → K (by_reply r s k)
  by_reply-keeps k next (Replied v) s r d = next v s r d
  by_reply-keeps k next (Halted c) s r d = ended tt d
  by_reply-keeps k next Shut s r d = ended tt d
  by_reply-keeps k next Lacking s r d = ended tt d

  unless_stopped-keeps : (o : Option Stop) (k : State → Play) → GoesOn k → GoesOn (λ s. unless_stopped o s k)
  unless_stopped-keeps None k next s d = next s d
  unless_stopped-keeps (Some c) k next s d = ended tt d

  stepped-keeps : (b : Bool) (k : State → Play) → GoesOn k → GoesOn (λ s. stepped b s k)
  stepped-keeps true k next s d = next _ d
  stepped-keeps false k next s d = ended tt d

  with_number : (s : State) → AreKeptIn count s.definitions → AreKeptIn count (record s.definitions { module_number = s.definitions.module_number + 1 })
  with_number s d = record { entries = d.entries; shared = d.shared; named = d.named }

  if_number_left-keeps : (b : Bool) (k : ℕ → State → Play) → ((n : ℕ) → GoesOn (k n)) → GoesOn (λ s. if_number_left b s k)
  if_number_left-keeps true k next s d = ended tt d
  if_number_left-keeps false k next s d = next _ _ (with_number s d)

  -- Leave sends nothing, and what passes outwards is what it was
  left-keeps : (k : State → Play) → GoesOn k → (s : State) → AreKeptIn count s.definitions → K (calling Leave s (λ _ t. k (opened None t)))
  left-keeps k next s d = called tt d (λ r after reply left. by_reply-keeps _ (λ v t value kept. next (opened None t) kept) r (with_definitions after s) reply left)

  leaving-keeps : (k : Tree → State → Play) → Carries k → Joins (leaving k)
  leaving-keeps k next (Value v) s o d = left-keeps (k v) (λ t kept. next v t o kept) s d
  leaving-keeps k next (Stopped c) s o d = left-keeps (λ t. Over (Stopped c) t) (λ t kept. ended tt kept) s d
  leaving-keeps k next (Throwing v) s o d = ended o d
  leaving-keeps k next (Thrown v) s o d = left-keeps (λ t. Over (Thrown v) t) (λ t kept. ended o kept) s d
  leaving-keeps k next Quit s o d = ended o d
  leaving-keeps k next Closed s o d = ended o d
  leaving-keeps k next Starved s o d = ended o d

  sectioned-keeps : (o : Option (List Sym)) (locks : List Sym) (s : State) (x y z : State → Play) → K (x s) → K (y s) → K (z s) → K (sectioned o locks s x y z)
  sectioned-keeps None locks s x y z one two three = one
  sectioned-keeps (Some held) locks s x y z one two three = go (all_among locks held)
    where
      go : (chosen : Bool) → K (by_locks chosen s y z)
      go true = two
      go false = three

  -- ---- programs

  values-kept : {es fs : List Tree} → LikeTrees kin es fs → AreKeptValues count es
  values-kept all_nil = tt
  values-kept (all_cons e es) = (tree-kept count e, values-kept es)

  request-kept : {c d : Request} → LikeRequest kin c d → IsKeptRequest count set.shown c
  request-kept (accesses e) = tree-kept count e
  request-kept counts = tt
  request-kept (prints t) = t
  request-kept (forms e) = tree-kept count e

  section-keeps : (ev : Evaluator) → Carries ev → (locks : List Sym) (e : Tree) (k : Tree → State → Play) → AreKeptSymbols count locks → IsKept count e → Carries k
      → (s : State) → AreKeptIn count s.definitions → K (k (name set.names Builtin.Failed) s)
      → K (sectioned s.open_section locks s
      (λ t. calling (Enter locks) t (λ _ u. ending (ev e (opened (Some locks) u)) (leaving k)))
      (λ t. ending (ev e t) (on_value k))
      (λ t. k (name set.names Builtin.Failed) t))
  section-keeps ev one locks e k held like next s d failed =
      sectioned-keeps s.open_section locks s _ _ _
      (called held d (λ r after reply left. by_reply-keeps _
      (λ v t value kept. ending-keeps (leaving-keeps k next) (one e (opened (Some locks) t) like kept)) r (with_definitions after s) reply left))
      (ending-keeps (on_value-keeps k next) (one e s like d)) failed

  run-keeps : (ev : Evaluator) → Carries ev → {p q : Prog} → Both kin p q → GoesOn (λ s. run set ev p s)
  run-keeps ev one (done e) s d = ended (tree-kept count e) d
  run-keeps ev one stop s d = ended tt d
  run-keeps ev one leaves s d = ended tt d
  run-keeps ev one (throws v) s d = ended (tree-kept count v) d
  run-keeps ev one (ask {e = e} like next) s d =
      ending-keeps (on_value-keeps _ (λ v t value kept. run-keeps ev one (next v v (tree-like count v value)) t kept)) (one e s (tree-kept count like) d)
  run-keeps ev one (catches {e = e} like next) s d =
      ending-keeps (catching-keeps _ (λ v t value kept. run-keeps ev one (next v v (tree-like count v value)) t kept)) (one e s (tree-kept count like) d)
  run-keeps ev one (within {ls = ls} {e = e} {k = k} locals like next) s d =
      ending-keeps (λ o t end kept. on_value-keeps (λ v u. run set ev (k v) u) (λ v u value now. run-keeps ev one (next v v (tree-like count v value)) u now) o
      (without_locals set.names s.definitions ls t) end
      (definitions-kept count (put_back-like (S count) set.names faithful locals (definitions-like count s.definitions d) (definitions-like count t.definitions kept))))
      (one e (with_locals set.names ls s) (tree-kept count like) (definitions-kept count (put_locals-like (S count) set.names faithful locals (definitions-like count s.definitions d))))
  run-keeps ev one (section {ls = ls} {e = e} {k = k} outward locks like next) s d =
      section-keeps ev one ls e (λ w u. run set ev (k w) u) (symbols-kept count locks) (tree-kept count like)
      (λ w u value kept. run-keeps ev one (next w w (tree-like count w value)) u kept) s d (run-keeps ev one (next _ _ (name-like (S count) set.names faithful Builtin.Failed)) s d)
  run-keeps ev one (asks_open outward next) s d = run-keeps ev one (next s.open_section) s d
  run-keeps ev one (look {s = symbol} like next) s d =
      let seen = seen-like (S count) set.names faithful (definitions-like count s.definitions d) (refl, like.1) in
      run-keeps ev one (next _ _ seen.0 seen.1) s d
  run-keeps ev one (put like new next) s d =
      run-keeps ev one next _ (definitions-kept count (written-like (S count) set.names faithful (definitions-like count s.definitions d) like new))
  run-keeps ev one (fresh {k = k} next) s d =
      if_number_left-keeps (s.definitions.module_number == last_number) (λ m t. run set ev (k m) t) (λ n t kept. run-keeps ev one (next n n refl) t kept) s d
  run-keeps ev one (turn {p = p} next) s d = stepped-keeps (ltb s.steps set.limits.steps) (λ t. run set ev p t) (λ t kept. run-keeps ev one next t kept) s d
  run-keeps ev one (check {e = e} {p = p} like next) s d = unless_stopped-keeps (too_large set.limits e) (λ t. run set ev p t) (λ t kept. run-keeps ev one next t kept) s d
  run-keeps ev one (outer {k = k} outward request next) s d =
      called (request-kept request) d
      (λ r after reply left. by_reply-keeps (λ v t. run set ev (k v) t) (λ v t value kept. run-keeps ev one (next v v (tree-like count v value)) t kept) r (with_definitions after s) reply left)
  run-keeps ev one (moded next) s d = run-keeps ev one (next tt set.mode set.kernel) _ d
  run-keeps ev one (shown outward next) s d = run-keeps ev one (next set.shown (λ es fs like. record { values = es; kept = values-kept like; prints = refl })) s d

  -- ---- evaluations

  changed-keeps : (n : ℕ) (k : Evaluator) → Carries k → Carries (changed set n k)
  changed-keeps zero k next v s value d = ended tt d
  changed-keeps (suc n) k next v s value d = stepped-keeps (ltb s.steps set.limits.steps) (k v) (λ t kept. next v t value kept) s d

  settled-keeps : (b : Bool) (n : ℕ) (k : Evaluator) → Carries k → Carries (settled b set n k)
  settled-keeps true n k next v s value d = ended value d
  settled-keeps false n k next v s value d = changed-keeps n k next v s value d

  judged-keeps : (n : ℕ) (k : Evaluator) → Carries k → (e : Tree) → Carries (judged set n k e)
  judged-keeps n k next e v s value d =
      unless_stopped-keeps (too_large set.limits v) (λ t. settled (same v e) set n k v t) (λ t kept. settled-keeps (same v e) n k next v t value kept) s d

  passed-keeps : (n : ℕ) (k : Evaluator) → Carries k → (e : Tree) → Joins (passed set n k e)
  passed-keeps n k next e (Value v) s o d = judged-keeps n k next e v s o d
  passed-keeps n k next e (Throwing v) s o d = changed-keeps n _ (λ w t value kept. ended value kept) v s o d
  passed-keeps n k next e (Thrown v) s o d = ended o d
  passed-keeps n k next e (Stopped c) s o d = ended o d
  passed-keeps n k next e Quit s o d = ended o d
  passed-keeps n k next e Closed s o d = ended o d
  passed-keeps n k next e Starved s o d = ended o d

  passes-keeps : (ev : Evaluator) → Carries ev → (n : ℕ) → Carries (passes set ev n)
  passes-keeps ev one zero e s value d =
      ending-keeps (passed-keeps zero _ (λ v t still kept. ended tt kept) e) (run-keeps ev one (pass-both kin e e (tree-like count e value)) s d)
  passes-keeps ev one (suc n) e s value d =
      ending-keeps (passed-keeps (suc n) _ (λ v t still kept. passes-keeps ev one n v t still kept) e) (run-keeps ev one (pass-both kin e e (tree-like count e value)) s d)

  pub eval_at-keeps : (n : ℕ) → Carries (eval_at set n)
  eval_at-keeps zero e s value d = ended tt d
  eval_at-keeps (suc n) e s value d = passes-keeps _ (eval_at-keeps n) set.limits.iteration e s value d
