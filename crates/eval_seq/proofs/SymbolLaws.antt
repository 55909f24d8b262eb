-- Passes over symbols, and uses of symbols that may be shared.
use Rattle.std.proofs.Common.{◌≡◌, ◌∙◌, ℕ, Bool, true, false, Option, Some, None, Result, Ok, Err, refl, subst, ap}
use Rattle.std.specs.Prelude.{pos}
use Rattle.std.specs.Result.{IsErrAnd}
use Rattle.expr_tree.specs.declared.sym.Sym.{Sym}
use Rattle.expr_tree.specs.Tree.{Tree, integer, symbol}
use Rattle.expr_tree.specs.Order.{same}
use Rattle.semantics.specs.declared.builtin.Builtin.{Builtin}
use Rattle.semantics.specs.Names.{is_known}
use Rattle.semantics.specs.Definitions.{Share, Variable, definition_of}
use Rattle.semantics.specs.Program.{Prog, Done, Look, Outer, Access, Moded, Seen, Sends, Count}
use Rattle.semantics.specs.Sections.{access_or, unless_identical}
use Rattle.semantics.specs.Pass.{symbol_pass, symbol_row, number_in, own_value, marked}
use Rattle.semantics.specs.Play.{Setting, State, run, eval_at, seen, now_used}
use Rattle.evaluation_steps.specs.declared.Exit.{Exit}
use Rattle.evaluation_steps.specs.Leads.{Step, Leads, here}
use Rattle.evaluation_steps.specs.Words.{Reached, Called}
use Rattle.evaluation_steps.proofs.Laws.{reached_moded, reached_outer, played_outer, played_outer_out, played_done, played_memory}
use Rattle.eval_seq.specs.Walks.{or_itself, PassOf, valued, ended, Stepped}
use Rattle.eval_seq.specs.Sequence.{Marks, Uses, sent_or}
use Rattle.eval_seq.proofs.Walking.{pass_on}

abbrev row_of : Sym → Bool → Bool → Prog
row_of i a b = elim a [ true ↦ Moded (λ mode kernel. Done (integer (pos (number_in mode kernel)))) | false ↦ elim b [ true ↦ Moded (λ mode kernel. Outer Count Done) | false ↦ Done (symbol i) ] ]

row_is : (set : Setting) (i : Sym) (a b : Bool) → is_known set.names Builtin.KernelID i ≡ a → is_known set.names Builtin.KernelCount i ≡ b → symbol_row set.names i ≡ row_of i a b
row_is set i a b e f = ap (λ x. row_of i x (is_known set.names Builtin.KernelCount i)) e ∙ ap (row_of i a) f

replied : (e v : Tree) (stay : Prog) {b : Bool} → same v e ≡ b → unless_identical e stay v ≡ elim b [ true ↦ stay | false ↦ Done v ]
replied e v stay is = ap (λ b. elim b as (λ _. Prog) [ true ↦ stay | false ↦ Done v ]) is

module _ {S : Type 0} {step : Step S} {set : Setting} {n : ℕ} where
  pub pass_is : {p q : Prog} {r : Result Tree Exit} {s z : S} {st st' : State} → p ≡ q → PassOf step set n q s st r st' z → PassOf step set n p s st r st' z
  pass_is e a = rw e a

  pub pass_err_or : {p : Prog} (e : Tree) {x : Exit} (r : Result (Option Tree) Exit) {s z : S} {st st' : State} → IsErrAnd r (λ y. y ≡ x) → PassOf step set n p s st (Err x) st' z → PassOf step set n p s st (or_itself e r) st' z
  pass_err_or e (Ok v) i a = absurd i
  pass_err_or e (Err y) i a = rw i a

  pub pass_lost_or : {p : Prog} (e : Tree) (r : Result (Option Tree) Exit) {s : S} {st st' : State} → IsErrAnd r (λ y. y ≡ Exit.NoMemory) → PassOf step set n p s st (or_itself e r) st' s
  pass_lost_or e r i = pass_err_or e r i (ended played_memory)

  pub marks_on : {kind : Share} {i : Sym} {b : Bool} {st st' : State} {s : S} → Marks set kind i st b st' → (e : Tree) (stay : Prog) (q : Seen → Prog) →
      Reached step set n (Look i (λ it. access_or it.shared kind e stay (marked it.shared (q it)))) s st (sent_or b e stay (q (seen set.names st.definitions i))) st' s
  marks_on {kind = kind} {i = i} {st = st} {s = s} m e stay q =
      record { on = subst (λ t. Leads step s (run set (eval_at set n) (Look i (λ it. access_or it.shared kind e stay (marked it.shared (q it)))) st) t s) (m.by (eval_at set n) e stay q) here }

  pub uses_on : {access : Tree → Prog → Prog → Prog} {b : Bool} {st st' : State} {s : S} → Uses set access st b st' → (e : Tree) (stay p : Prog) →
      Reached step set n (access e stay p) s st (sent_or b e stay p) st' s
  uses_on {access = access} {st = st} {s = s} m e stay p =
      record { on = subst (λ t. Leads step s (run set (eval_at set n) (access e stay p) st) t s) (m.by (eval_at set n) e stay p) here }

  -- ---- an access that is sent

  pub sent_identical : {e v : Tree} {s z : S} {st st' : State} → Called step (Sends (Access e)) s st (Ok v) st' z → same v e ≡ true →
      Stepped step set n (λ rest. Outer (Access e) (unless_identical e rest)) s st (Ok None) st' z
  sent_identical {e = e} {v = v} a is = record { by = λ rest. subst (λ p. Reached step set n (Outer (Access e) (unless_identical e rest)) _ _ p _ _) (replied e v rest is) (reached_outer a) }

  pub sent_value : {e v : Tree} {s z : S} {st st' : State} → Called step (Sends (Access e)) s st (Ok v) st' z → same v e ≡ false →
      Stepped step set n (λ rest. Outer (Access e) (unless_identical e rest)) s st (Ok (Some v)) st' z
  sent_value {e = e} {v = v} a is = record { by = λ rest. pass_on (reached_outer a) (pass_is (replied e v rest is) (valued played_done)) }

  pub sent_out : {e : Tree} {h : Exit} {s z : S} {st st' : State} → Called step (Sends (Access e)) s st (Err h) st' z →
      Stepped step set n (λ rest. Outer (Access e) (unless_identical e rest)) s st (Err (h)) st' z
  sent_out a = record { by = λ rest. ended (played_outer_out a) }

  pub sent_lost : {e : Tree} {s : S} {st : State} {r : Result (Option Tree) Exit} → IsErrAnd r (λ y. y ≡ Exit.NoMemory) →
      Stepped step set n (λ rest. Outer (Access e) (unless_identical e rest)) s st r st s
  sent_lost {r = Ok v} i = absurd i
  sent_lost {r = Err y} i = rw i (record { by = λ rest. ended played_memory })

  -- a symbol stays where the reply is the symbol
  pub pass_sent : {i : Sym} {st st' st'' : State} {s z : S} (r : Result (Option Tree) Exit) → Marks set Variable i st true st' →
      Stepped step set n (λ rest. Outer (Access (symbol i)) (unless_identical (symbol i) rest)) s st' r st'' z → PassOf step set n (symbol_pass set.names i) s st (or_itself (symbol i) r) st'' z
  pass_sent {i = i} (Ok None) m a = pass_on (marks_on m (symbol i) (Done (symbol i)) (own_value set.names i)) (pass_on (a.by (Done (symbol i))) (valued played_done))
  pass_sent {i = i} (Ok (Some v)) m a = pass_on (marks_on m (symbol i) (Done (symbol i)) (own_value set.names i)) (a.by (Done (symbol i)))
  pass_sent {i = i} (Err x) m a = pass_on (marks_on m (symbol i) (Done (symbol i)) (own_value set.names i)) (a.by (Done (symbol i)))

  pub pass_own_some : {i : Sym} {v : Tree} {st st' : State} {s : S} → Marks set Variable i st false st' → (definition_of set.names st.definitions i).own ≡ Some v → PassOf step set n (symbol_pass set.names i) s st (Ok v) st' s
  pass_own_some {i = i} m e =
      pass_on (marks_on m (symbol i) (Done (symbol i)) (own_value set.names i)) (pass_is (ap (λ o. elim o as (λ _. Prog) [ None ↦ symbol_row set.names i | Some x ↦ Done x ]) e) (valued played_done))

  pub pass_own_none : {i : Sym} {r : Result Tree Exit} {st st' st'' : State} {s z : S} → Marks set Variable i st false st' → (definition_of set.names st.definitions i).own ≡ None →
      PassOf step set n (symbol_row set.names i) s st' r st'' z → PassOf step set n (symbol_pass set.names i) s st r st'' z
  pass_own_none {i = i} m e a =
      pass_on (marks_on m (symbol i) (Done (symbol i)) (own_value set.names i)) (pass_is (ap (λ o. elim o as (λ _. Prog) [ None ↦ symbol_row set.names i | Some x ↦ Done x ]) e) a)

  pub row_kernel : (i : Sym) {v : Tree} {st : State} {s : S} → is_known set.names Builtin.KernelID i ≡ true → v ≡ integer (pos (number_in set.mode set.kernel)) → PassOf step set n (symbol_row set.names i) s st (Ok v) (now_used st) s
  row_kernel i e is = rw is (pass_is (row_is set i true (is_known set.names Builtin.KernelCount i) e refl) (pass_on reached_moded (valued played_done)))

  pub row_count : (i : Sym) {v : Tree} {st st' : State} {s z : S} → is_known set.names Builtin.KernelID i ≡ false → is_known set.names Builtin.KernelCount i ≡ true →
      Called step (Sends Count) s (now_used st) (Ok v) st' z → PassOf step set n (symbol_row set.names i) s st (Ok v) st' z
  row_count i e f a = pass_is (row_is set i false true e f) (pass_on reached_moded (valued (played_outer a)))

  pub row_count_out : (i : Sym) {h : Exit} {st st' : State} {s z : S} → is_known set.names Builtin.KernelID i ≡ false → is_known set.names Builtin.KernelCount i ≡ true →
      Called step (Sends Count) s (now_used st) (Err h) st' z → PassOf step set n (symbol_row set.names i) s st (Err (h)) st' z
  row_count_out i e f a = pass_is (row_is set i false true e f) (pass_on reached_moded (ended (played_outer a)))

  pub row_none : (i : Sym) {st : State} {s : S} → is_known set.names Builtin.KernelID i ≡ false → is_known set.names Builtin.KernelCount i ≡ false →
      PassOf step set n (symbol_row set.names i) s st (Ok (symbol i)) st s
  row_none i e f = pass_is (row_is set i false false e f) (valued played_done)
