-- Each call that the evaluator makes may come.
use Rattle.std.proofs.Common.{◌≡◌, refl, sym, subst, ℕ, Bool, true, false, T, List, Option, Some, None, is_some, Ok}
use Rattle.std.specs.Prelude.{pos}
use Rattle.expr_tree.specs.declared.sym.Sym.{Sym}
use Rattle.expr_tree.specs.Tree.{Tree, integer, string, symbol, normal, elements}
use Rattle.name_table.specs.Table.{NameTable}
use Rattle.semantics.specs.declared.builtin.Builtin.{Builtin}
use Rattle.semantics.specs.Names.{Names, is_name, role_of}
use Rattle.semantics.specs.Definitions.{Definitions, definition_of}
use Rattle.semantics.specs.Program.{Prog, Done, Call, Enter, Leave, Mode, Cell, Item, Service}
use Rattle.semantics.specs.Pass.{symbol_rules}
use Rattle.semantics.specs.Play.{Setting, State, Reply, Play, calling, sectioned, run, eval_at}
use Rattle.semantics.specs.Opened.{opens}
use Rattle.laws_calls.specs.Calls as calls
use Rattle.laws_calls.specs.Calls.{may_come, Fits}
use Rattle.laws_calls.proofs.Programs.{Point, Fit, done, branch, try_rules-fits}
use Rattle.laws_calls.proofs.ScopeRows.{apply_function-fits}
use Rattle.laws_calls.proofs.Passes.{symbol_rules-fits, row_or_stay-fits}
use Rattle.laws_calls.proofs.Runs.{point}
use Rattle.laws_calls.proofs.Parts.{still_unknown, run_fits}
use Rattle.builtin_names.specs.Named.{names_in}
use Rattle.evaluation_steps.specs.Leads.{Leads, here, called}
use Rattle.evaluation_steps.specs.Words.{Reached}
use Rattle.machine_steps.specs.Steps as f
use Rattle.machine_steps.specs.Steps.{headed, state_at}
use Rattle.machine_steps.specs.declared.moves.Move.{Move}
use Rattle.eval_seq.specs.declared.machine.Start.{Start}
use Rattle.eval_seq.specs.Outward.{Faces, Guarded}
use Rattle.eval_seq.specs.Driven.{driven, Begins, Comes, MayFollow, may_enter}
use Rattle.eval_seq.specs.Sequence.{head_rules, head_row}
use Rattle.eval_seq.proofs.Driving.{moved}

is_true : (b : Bool) → T b → b ≡ true
is_true true h = refl
is_true false h = absurd h

-- ---- the steps of a head

module _ (P : Point) where
  head_rules-fits : (d : Definitions) (h : Tree) (es : List Tree) (e : Tree) {p : Prog} → Fit P p → Fit P (head_rules P.names d h es e p)
  head_rules-fits d (symbol s) es e next = try_rules-fits P (definition_of P.names d s).downs e Done (λ v. done) next
  head_rules-fits d (normal h fs) es e next = branch P (is_name P.names Builtin.Function h) (apply_function-fits P (elements fs) es next) next
  head_rules-fits d (integer n) es e next = next
  head_rules-fits d (string t) es e next = next

  head_row-fits : (h : Tree) (es : List Tree) (e : Tree) {p : Prog} → Fit P p → Fit P (head_row P.names h es e p)
  head_row-fits (symbol s) es e stay = row_or_stay-fits P (role_of P.names s) s es e stay
  head_row-fits (normal h fs) es e stay = stay
  head_row-fits (integer n) es e stay = stay
  head_row-fits (string t) es e stay = stay

-- ---- what a machine asks for

enters : {names : Names} {mode : Mode} {now : Bool} (o : Option (List Sym)) (locks : List Sym) (st : State) (k : Tree → State → Play) (y z : State → Play) → o ≡ None →
    Fits names mode false now (sectioned o locks st (λ t. calling (Enter locks) t k) y z) → T (may_come names mode now (Enter locks))
enters None locks st k y z is (calls.called e may f) = may
enters (Some held) locks st k y z is h = absurd (Prim.cc is)

may_follow : (set : Setting) (n : ℕ) (m : Move) (stay : Prog) (rest : Option Tree → Prog) (st : State) → Fits set.names set.mode false (is_some st.open_section) (run set (eval_at set n) (headed m stay rest) st) →
    MayFollow set st.open_section m
may_follow set n (Move.Ask e turn) stay rest st h = tt
may_follow set n (Move.Within ls e turn) stay rest st h = tt
may_follow set n (Move.Catch e) stay rest st h = tt
may_follow set n (Move.Section locks e) stay rest st h =
    λ none. subst (λ o. may_come set.names set.mode (is_some o) (Enter locks) ≡ true) none (is_true _ (enters st.open_section locks st _ _ _ none h))
may_follow set n (Move.Call request) stay rest st (calls.called e may f) = is_true _ may
may_follow set n Move.Turn stay rest st h = tt
may_follow set n (Move.Done e) stay rest st h = tt
may_follow set n Move.Stays stay rest st h = tt
may_follow set n (Move.Throw e) stay rest st h = tt
may_follow set n Move.Quit stay rest st h = tt

may_leave : (names : Names) (mode : Mode) (locks : List Sym) → may_come names mode false (Enter locks) ≡ true → may_come names mode true Leave ≡ true
may_leave names Cell locks h = refl
may_leave names Item locks h = refl
may_leave names Service locks h = h

module _ {S : Type 0} {step : S → Definitions → Call → Reply → Definitions → S → Type 0} {ready : S → Type 0} {names : S → NameTable} {mode : S → Mode} {is_open : S → Bool} where
  leads_fit : {known : Names} {where_run : Mode} {s z : S} {t u : Play} → Leads (Guarded step ready names mode is_open) s t u z → Fits known where_run false (is_open s) t → Fits known where_run false (is_open z) u
  leads_fit here h = h
  leads_fit {known = known} {where_run = where_run} {s = s} (called {c = c} {k = k} {r = r} {d = d} g l) (calls.called e may next) =
      leads_fit l (subst (λ now. Fits known where_run false now (k r d)) (sym g.follows) (subst (λ so_far. Fits known where_run so_far (opens c r (is_open s)) (k r d)) (still_unknown c r) (next r d)))

  reached_fit : {set : Setting} {n : ℕ} {p q : Prog} {s z : S} {st st' : State} → Reached (Guarded step ready names mode is_open) set n p s st q st' z → Faces ready names mode is_open set st.open_section s →
      Faces ready names mode is_open set st'.open_section z → Fits set.names set.mode false (is_some st.open_section) (run set (eval_at set n) p st) →
      Fits set.names set.mode false (is_some st'.open_section) (run set (eval_at set n) q st')
  reached_fit {set = set} {n = n} {p = p} {q = q} {st = st} {st' = st'} a before after h =
      subst (λ now. Fits set.names set.mode false now (run set (eval_at set n) q st')) after.same_open (leads_fit a.on (subst (λ now. Fits set.names set.mode false now (run set (eval_at set n) p st)) (sym before.same_open) h))

  -- ---- beginnings

  begun_comes : {set : Setting} {n : ℕ} {p : Prog → Prog} {start : Start} {s z : S} {st st' : State} → ((rest : Prog) → Fit (point set (is_some st.open_section)) rest → Fit (point set (is_some st.open_section)) (p rest)) →
      Begins (Guarded step ready names mode is_open) set n p s st (Ok start) st' z → Faces ready names mode is_open set st.open_section s → Faces ready names mode is_open set st'.open_section z →
      Comes set n (driven set.names start) st'
  begun_comes {n = n} {st = st} fit a before after =
      record { rest = Done (integer (pos 0)); fit = reached_fit (a.by (Done (integer (pos 0)))) before after (run_fits _ n st (fit (Done (integer (pos 0))) done)) }

  pub up_comes : (o : Option Sym) (e : Tree) {set : Setting} {n : ℕ} {start : Start} {s z : S} {st st' : State} → Begins (Guarded step ready names mode is_open) set n (λ rest. symbol_rules set.names o e rest) s st (Ok start) st' z →
      Faces ready names mode is_open set st.open_section s → Faces ready names mode is_open set st'.open_section z → Comes set n (driven set.names start) st'
  up_comes o e a = begun_comes (λ rest fit. symbol_rules-fits _ o e fit) a

  pub rules_come : (d : Definitions) (h : Tree) (es : List Tree) (e : Tree) {set : Setting} {n : ℕ} {start : Start} {s z : S} {st st' : State} →
      Begins (Guarded step ready names mode is_open) set n (λ rest. head_rules set.names d h es e rest) s st (Ok start) st' z →
      Faces ready names mode is_open set st.open_section s → Faces ready names mode is_open set st'.open_section z → Comes set n (driven set.names start) st'
  rules_come d h es e a = begun_comes (λ rest fit. head_rules-fits _ d h es e fit) a

  pub row_comes : (h : Tree) (es : List Tree) (e : Tree) {set : Setting} {n : ℕ} {start : Start} {s z : S} {st st' : State} →
      Begins (Guarded step ready names mode is_open) set n (λ rest. head_row set.names h es e rest) s st (Ok start) st' z →
      Faces ready names mode is_open set st.open_section s → Faces ready names mode is_open set st'.open_section z → Comes set n (driven set.names start) st'
  row_comes h es e a = begun_comes (λ rest fit. head_row-fits _ h es e fit) a

  -- ---- a machine: l is the program at the beginning, p what is left of it before a step

  pub move_comes : {set : Setting} {n : ℕ} {l p : Prog → Prog} {rest : Prog → Option Tree → Prog} {m : Move} {d d' : Definitions} {u u' : Bool} {i : ℕ} {o : Option (List Sym)} {s z : S} {st : State} →
      Comes set n l st → ((stay : Prog) → Reached (Guarded step ready names mode is_open) set n (l stay) s st (p stay) (state_at d u i o) z) → ((stay : Prog) → f.Stepped set (p stay) stay d u (Ok m) (rest stay) d' u') →
      Faces ready names mode is_open set st.open_section s → Faces ready names mode is_open set o z → MayFollow set o m
  move_comes {set = set} {n = n} {rest = rest} {m = m} {d' = d'} {u' = u'} {i = i} {o = o} comes a b before after =
      may_follow set n m comes.rest (rest comes.rest) (state_at d' u' i o) (reached_fit (moved {rest = rest} a b comes.rest) before after comes.fit)

-- ---- calls

module _ {S : Type 0} {ready : S → Type 0} {names : S → NameTable} {mode : S → Mode} {is_open : S → Bool} where
  pub call_comes : (c : Call) {set : Setting} {o : Option (List Sym)} {s : S} → Faces ready names mode is_open set o s → may_come set.names set.mode (is_some o) c ≡ true →
      may_come (names_in (names s)) (mode s) (is_open s) c ≡ true
  call_comes c faces h = rw (faces.same_names, faces.same_mode, faces.same_open) h

  pub enter_comes : {set : Setting} {o : Option (List Sym)} {locks sent : List Sym} {s : S} → Faces ready names mode is_open set o s → o ≡ None → sent ≡ locks → may_enter set locks ≡ true →
      may_come (names_in (names s)) (mode s) (is_open s) (Enter sent) ≡ true
  enter_comes {set = set} {sent = sent} faces none same h = call_comes (Enter sent) faces (subst (λ x. may_come set.names set.mode (is_some x) (Enter sent) ≡ true) (sym none) (rw same h))

  pub leave_comes : (locks : List Sym) {set : Setting} {held : List Sym} {s : S} → Faces ready names mode is_open set (Some held) s → may_enter set locks ≡ true →
      may_come (names_in (names s)) (mode s) (is_open s) Leave ≡ true
  leave_comes locks {set = set} faces h = call_comes Leave faces (may_leave set.names set.mode locks h)
