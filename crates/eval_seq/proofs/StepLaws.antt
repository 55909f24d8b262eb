-- How the steps of a pass follow one another.
use Rattle.std.proofs.Common.{◌≡◌, ◌∙◌, ℕ, Bool, suc, ◌+◌, ◌<◌, length, ◌≤◌, ◌==◌, drop, get_or, drop-cons, arith, true, false, List, Option, Some, None, Result, Ok, Err, refl, sym, subst, ap}
use Rattle.std.specs.Result.{IsErrAnd}
use Rattle.std.proofs.lemmas.Bool.{eqb-true}
use Rattle.std.proofs.lemmas.List.{drop_all}
use Rattle.expr_tree.specs.declared.sym.Sym.{Sym}
use Rattle.expr_tree.specs.Tree.{Tree, symbol, elements, trees, call}
use Rattle.expr_tree.specs.Shapes.{symbol_of}
use Rattle.semantics.specs.declared.builtin.Builtin.{Builtin}
use Rattle.semantics.specs.Names.{Names, IsNames, known, is_name, role_of}
use Rattle.semantics.specs.Rule.{Rule}
use Rattle.semantics.specs.Definitions.{Attributes, Definitions, definition_of, has}
use Rattle.semantics.specs.Program.{Prog, Done, Check, Look, Outer, Access, Seen}
use Rattle.semantics.specs.Attempt.{try_rules}
use Rattle.semantics.specs.Assemble.{flattened, threaded, sorted, check_all}
use Rattle.semantics.specs.Names.{make}
use Rattle.semantics.specs.Scoping.{apply_function}
use Rattle.semantics.specs.Sections.{unless_access, unless_identical}
use Rattle.semantics.specs.Table.{row}
use Rattle.semantics.specs.Pass.{symbol_rules, up_rules, down_rules, row_or_stay, built_in, last_steps, later_steps, left_standing, marked}
use Rattle.semantics.specs.Play.{Setting, State, run, eval_at, seen}
use Rattle.evaluation_steps.specs.Leads.{Step, Leads, here, exit_of}
use Rattle.evaluation_steps.specs.declared.Exit.{Exit}
use Rattle.evaluation_steps.specs.declared.Halt.{Halt}
use Rattle.evaluation_steps.specs.Words.{Reached, Fits}
use Rattle.evaluation_steps.proofs.Laws.{reached_here, reached_on, reached_check, played_check_out, played_done}
use Rattle.eval_seq.specs.declared.machine.Start.{Start}
use Rattle.eval_seq.specs.Walks.{or_itself, PassOf, valued, ended, Stepped}
use Rattle.eval_seq.specs.Driven.{driven, Begins, Opens, OpensFrom}
use Rattle.eval_seq.specs.Sequence.{Uses, Sees, Accesses, sent_or, IsSettled, after_values, stripped, last_of, unless_held, head_rules, head_row}
use Rattle.expr_tree.proofs.Trees.{elements-trees}
use Rattle.eval_seq.proofs.Driving.{begins_on, begins_from, begins_none, begins_opens, begins_opens_from}
use Rattle.eval_seq.proofs.Walking.{pass_on}
use Rattle.eval_seq.proofs.SymbolLaws.{pass_is, uses_on}

-- what follows flattening
abbrev later_of : Names → Tree → Attributes → List Tree → List Tree → Option (List Tree) → Prog
later_of names head a items flat (Some each) = check_all each (Done (make names Builtin.List each))
later_of names head a items flat None =
    last_steps names a (sorted a flat) (call head (sorted a flat)) (Done (left_standing names a head items (call head (sorted a flat)))) head

whole_is : (names : Names) (head : Tree) (a : Attributes) (items flat : List Tree) (whole stands : Tree) → whole ≡ call head (sorted a flat) → stands ≡ left_standing names a head items whole →
    later_of names head a items flat None ≡ last_of names a whole (Done stands)
whole_is names head a items flat whole stands w l = rw (l, w, elements-trees (sorted a flat)) refl

settled_is : (names : Names) (head : Tree) (a : Attributes) (items : List Tree) → IsSettled names head a items → after_values names (head, a, items) ≡ Check (call head items) (later_steps names head a items)
settled_is names head a items z = ap (λ xs. Check (call head xs) (later_steps names head a xs)) z.no_sequence

flat_is : (names : Names) (head : Tree) (a : Attributes) (items : List Tree) → IsSettled names head a items → flattened head a (stripped names a items) ≡ items
flat_is names head a items z = ap (λ xs. flattened head a xs) z.no_wrapper ∙ z.is_flat

pub settled_threads : (names : Names) (head : Tree) (a : Attributes) {items es : List Tree} {o p : Option (List Tree)} → es ≡ items → o ≡ threaded names head a es → o ≡ p → threaded names head a items ≡ p
settled_threads names head a e t is = sym (t ∙ ap (λ xs. threaded names head a xs) e) ∙ is

module _ {S : Type 0} {step : Step S} {set : Setting} {n : ℕ} where
  pub stepped_here : {s : S} {st : State} → Stepped step set n (λ rest. rest) s st (Ok None) st s
  stepped_here = record { by = λ rest. reached_here }

  pub stepped_on : {p q : Prog → Prog} {r : Result (Option Tree) Exit} {s m z : S} {st st' st'' : State} → ((rest : Prog) → Reached step set n (p rest) s st (q rest) st' m) →
      Stepped step set n q m st' r st'' z → Stepped step set n p s st r st'' z
  stepped_on {r = Ok None} l a = record { by = λ rest. reached_on (l rest) (a.by rest) }
  stepped_on {r = Ok (Some v)} l a = record { by = λ rest. pass_on (l rest) (a.by rest) }
  stepped_on {r = Err x} l a = record { by = λ rest. pass_on (l rest) (a.by rest) }

  reached_is : {p q : Prog} {s : S} {st : State} → p ≡ q → Reached step set n p s st q st s
  reached_is e = rw e reached_here

  pub stepped_is : {p q : Prog → Prog} {r : Result (Option Tree) Exit} {s z : S} {st st' : State} → ((rest : Prog) → p rest ≡ q rest) → Stepped step set n q s st r st' z → Stepped step set n p s st r st' z
  stepped_is e a = stepped_on (λ rest. reached_is (e rest)) a

  -- where a step gives no result, the next follows
  pub stepped_then : {p q : Prog → Prog} {r : Result (Option Tree) Exit} {s m z : S} {st st' st'' : State} → Stepped step set n p s st (Ok None) st' m →
      Stepped step set n q m st' r st'' z → Stepped step set n (λ rest. p (q rest)) s st r st'' z
  stepped_then {q = q} a b = stepped_on (λ rest. a.by (q rest)) b

  pub stepped_then_out : {p q : Prog → Prog} {x : Exit} {s z : S} {st st' : State} → Stepped step set n p s st (Err x) st' z → Stepped step set n (λ rest. p (q rest)) s st (Err x) st' z
  stepped_then_out {q = q} a = record { by = λ rest. a.by (q rest) }

  pub stepped_err : {p : Prog → Prog} {x : Exit} {r : Result (Option Tree) Exit} {s z : S} {st st' : State} → IsErrAnd r (λ y. y ≡ x) → Stepped step set n p s st (Err x) st' z → Stepped step set n p s st r st' z
  stepped_err {r = Ok v} i a = absurd i
  stepped_err {r = Err y} i a = rw i a

  stepped_then_value : {p q : Prog → Prog} {v : Tree} {s z : S} {st st' : State} → Stepped step set n p s st (Ok (Some v)) st' z → Stepped step set n (λ rest. p (q rest)) s st (Ok (Some v)) st' z
  stepped_then_value {q = q} a = record { by = λ rest. a.by (q rest) }

  -- ---- the row of a head

  pub built_none : (i : Sym) (items : List Tree) (e : Tree) {s : S} {st : State} → role_of set.names i ≡ None → Begins step set n (λ rest. built_in set.names i items e rest) s st (Ok (Start.Given None)) st s
  built_none i items e is = begins_none (λ rest. ap (λ o. row_or_stay set.names o i items e rest) is)

  pub built_on : (i : Sym) (items : List Tree) (e : Tree) {b : Builtin} {r : Result Start Exit} {s : S} {st st' : State} → role_of set.names i ≡ Some b →
      Uses set (λ x stay p. unless_access set.names (symbol i) items x stay p) st false st' → Opens set (λ rest. row set.names b rest items) r →
      Begins step set n (λ rest. built_in set.names i items e rest) s st r st' s
  built_on i items e {b = b} is u a =
      begins_from (λ rest. reached_on (reached_is (ap (λ o. row_or_stay set.names o i items e rest) is)) (uses_on u e rest (row set.names b rest items))) (begins_opens a)

  pub built_from : (i : Sym) (items : List Tree) (e : Tree) {b : Builtin} {r : Result Start Exit} {s : S} {st st' st'' : State} → role_of set.names i ≡ Some b →
      Uses set (λ x stay p. unless_access set.names (symbol i) items x stay p) st false st' → OpensFrom set (λ rest. row set.names b rest items) st' r st'' →
      Begins step set n (λ rest. built_in set.names i items e rest) s st r st'' s
  built_from i items e {b = b} is u a =
      begins_from (λ rest. reached_on (reached_is (ap (λ o. row_or_stay set.names o i items e rest) is)) (uses_on u e rest (row set.names b rest items))) (begins_opens_from a)

  pub built_sent : (i : Sym) (items : List Tree) (e : Tree) {b : Builtin} {s : S} {st st' : State} → role_of set.names i ≡ Some b →
      Uses set (λ x stay p. unless_access set.names (symbol i) items x stay p) st true st' → (rest : Prog) → Reached step set n (built_in set.names i items e rest) s st (Outer (Access e) (unless_identical e rest)) st' s
  built_sent i items e {b = b} is u rest = reached_on (reached_is (ap (λ o. row_or_stay set.names o i items e rest) is)) (uses_on u e rest (row set.names b rest items))

  -- ---- down rules

  pub head_rules_begin : (d : Definitions) (i : Sym) (items : List Tree) (e : Tree) (rules : List Rule) {r : Result Start Exit} {s : S} {st : State} → rules ≡ (definition_of set.names d i).downs →
      Opens set (λ rest. try_rules set.names rules e Done rest) r → Begins step set n (λ rest. head_rules set.names d (symbol i) items e rest) s st r st s
  head_rules_begin d i items e rules is a = begins_from (λ rest. reached_is (ap (λ rs. try_rules set.names rs e Done rest) (sym is))) (begins_opens a)

  pub head_function : (d : Definitions) (h : Tree) (fs : List Tree) (items : List Tree) (e : Tree) {r : Result Start Exit} {s : S} {st : State} → is_name set.names Builtin.Function h ≡ true →
      Opens set (λ rest. apply_function set.names rest fs items) r → Begins step set n (λ rest. head_rules set.names d (call h fs) items e rest) s st r st s
  head_function d h fs items e is a =
      begins_from
      (λ rest. reached_is (ap (λ b. elim b as (λ _. Prog) [ true ↦ apply_function set.names rest (elements (trees fs)) items | false ↦ rest ]) is ∙ ap (λ xs. apply_function set.names rest xs items) (elements-trees fs)))
      (begins_opens a)

  pub head_other : (d : Definitions) (h : Tree) (fs : List Tree) (items : List Tree) (e : Tree) {s : S} {st : State} → is_name set.names Builtin.Function h ≡ false →
      Begins step set n (λ rest. head_rules set.names d (call h fs) items e rest) s st (Ok (Start.Given None)) st s
  head_other d h fs items e is = begins_none (λ rest. ap (λ b. elim b as (λ _. Prog) [ true ↦ apply_function set.names rest (elements (trees fs)) items | false ↦ rest ]) is)

  accesses_on : {h : Tree} {b : Bool} {s : S} {st st' : State} → Accesses set h st b st' → (items : List Tree) (e : Tree) (rest : Prog) →
      Reached step set n (down_rules set.names h items e rest) s st (sent_or b e rest (head_rules set.names st.definitions h items e (head_row set.names h items e rest))) st' s
  accesses_on {h = h} {s = s} {st = st} m items e rest =
      record { on = subst (λ t. Leads step s (run set (eval_at set n) (down_rules set.names h items e rest) st) t s) (m.by (eval_at set n) items e rest) here }

  -- by definitions that are the same
  pub begins_by : (h : Tree) (items : List Tree) (e : Tree) {d d' : Definitions} {r : Result Start Exit} {s z : S} {st st' : State} → d ≡ d' →
      Begins step set n (λ rest. head_rules set.names d h items e rest) s st r st' z → Begins step set n (λ rest. head_rules set.names d' h items e rest) s st r st' z
  begins_by h items e {r = r} {s = s} {z = z} {st = st} {st' = st'} same a = subst (λ x. Begins step set n (λ rest. head_rules set.names x h items e rest) s st r st' z) same a

  pub down_sent : (h : Tree) (items : List Tree) (e : Tree) {r : Result (Option Tree) Exit} {s z : S} {st st' st'' : State} → Accesses set h st true st' →
      Stepped step set n (λ rest. Outer (Access e) (unless_identical e rest)) s st' r st'' z → Stepped step set n (λ rest. down_rules set.names h items e rest) s st r st'' z
  down_sent h items e m a = stepped_on (λ rest. accesses_on m items e rest) a

  pub down_value : (h : Tree) (items : List Tree) (e : Tree) {start : Start} {v : Tree} {s m z : S} {st st0 st' st'' : State} → Accesses set h st false st0 →
      Begins step set n (λ rest. head_rules set.names st.definitions h items e rest) s st0 (Ok start) st' m →
      Stepped step set n (driven set.names start) m st' (Ok (Some v)) st'' z → Stepped step set n (λ rest. down_rules set.names h items e rest) s st (Ok (Some v)) st'' z
  down_value h items e m a b = stepped_on (λ rest. accesses_on m items e rest) (stepped_then_value {q = λ rest. head_row set.names h items e rest} (begins_on a b))

  pub down_out : (h : Tree) (items : List Tree) (e : Tree) {x : Exit} {s z : S} {st st0 st' : State} → Accesses set h st false st0 →
      Stepped step set n (λ rest. head_rules set.names st.definitions h items e rest) s st0 (Err x) st' z → Stepped step set n (λ rest. down_rules set.names h items e rest) s st (Err x) st' z
  down_out h items e m a = stepped_on (λ rest. accesses_on m items e rest) (stepped_then_out {q = λ rest. head_row set.names h items e rest} a)

  pub down_on : (h : Tree) (items : List Tree) (e : Tree) {start : Start} {r : Result (Option Tree) Exit} {s m o z : S} {st st0 st1 st2 st3 : State} → Accesses set h st false st0 →
      Begins step set n (λ rest. head_rules set.names st.definitions h items e rest) s st0 (Ok start) st1 m →
      Stepped step set n (driven set.names start) m st1 (Ok None) st2 o → Stepped step set n (λ rest. head_row set.names h items e rest) o st2 r st3 z →
      Stepped step set n (λ rest. down_rules set.names h items e rest) s st r st3 z
  down_on h items e m a b c = stepped_on (λ rest. accesses_on m items e rest) (stepped_then {q = λ rest. head_row set.names h items e rest} (begins_on a b) c)

  -- ---- up rules

  sees_on : {i : Sym} {st st' : State} {s : S} → Sees set i st st' → (q : Seen → Prog) → Reached step set n (Look i (λ it. marked it.shared (q it))) s st (q (seen set.names st.definitions i)) st' s
  sees_on {i = i} {st = st} {s = s} m q =
      record { on = subst (λ t. Leads step s (run set (eval_at set n) (Look i (λ it. marked it.shared (q it))) st) t s) (m.by (eval_at set n) q) here }

  pub up_rules_begin : (i : Sym) (e : Tree) (rules : List Rule) {r : Result Start Exit} {s : S} {st st' : State} → Sees set i st st' → rules ≡ (definition_of set.names st.definitions i).ups →
      Opens set (λ rest. try_rules set.names rules e Done rest) r → Begins step set n (λ rest. symbol_rules set.names (Some i) e rest) s st r st' s
  up_rules_begin i e rules m is a =
      begins_from
      (λ rest. reached_on (sees_on m (λ it. try_rules set.names it.definition.ups e Done rest)) (reached_is (ap (λ rs. try_rules set.names rs e Done rest) (sym is))))
      (begins_opens a)

  pub element_none : (x : Tree) (e : Tree) {s : S} {st : State} → symbol_of x ≡ None → Stepped step set n (λ rest. symbol_rules set.names (symbol_of x) e rest) s st (Ok None) st s
  element_none x e is = stepped_is (λ rest. ap (λ o. symbol_rules set.names o e rest) is) stepped_here

  pub element_some : (x : Tree) (e : Tree) {i : Sym} {r : Result (Option Tree) Exit} {s z : S} {st st' : State} → symbol_of x ≡ Some i → Stepped step set n (λ rest. symbol_rules set.names (Some i) e rest) s st r st' z →
      Stepped step set n (λ rest. symbol_rules set.names (symbol_of x) e rest) s st r st' z
  element_some x e is a = stepped_is (λ rest. ap (λ o. symbol_rules set.names o e rest) is) a

  -- the next element
  pub ups_next : (items : List Tree) (i : ℕ) (x : Tree) (e : Tree) {s : S} {st : State} → i < length items → x ≡ get_or items i x → (rest : Prog) →
      Reached step set n (up_rules set.names (drop i items) e rest) s st (symbol_rules set.names (symbol_of x) e (up_rules set.names (drop (i + 1) items) e rest)) st s
  ups_next items i x e within is rest =
      let one : i + 1 ≡ suc i = omega arith in
      rw (one, drop-cons items i x within, sym is) reached_here

  pub ups_out : (items : List Tree) (i : ℕ) (x : Tree) (e : Tree) {y : Exit} {s m z : S} {st st' st'' : State} → i < length items → x ≡ get_or items i x →
      ((rest : Prog) → Reached step set n (up_rules set.names items e rest) s st (up_rules set.names (drop i items) e rest) st' m) →
      Stepped step set n (λ rest. symbol_rules set.names (symbol_of x) e rest) m st' (Err y) st'' z → Stepped step set n (λ rest. up_rules set.names items e rest) s st (Err y) st'' z
  ups_out items i x e within is l a = record { by = λ rest. pass_on (reached_on (l rest) (ups_next items i x e within is rest)) (a.by (up_rules set.names (drop (i + 1) items) e rest)) }

  pub ups_value : (items : List Tree) (i : ℕ) (x : Tree) (e : Tree) {v : Tree} {s m z : S} {st st' st'' : State} → i < length items → x ≡ get_or items i x →
      ((rest : Prog) → Reached step set n (up_rules set.names items e rest) s st (up_rules set.names (drop i items) e rest) st' m) →
      Stepped step set n (λ rest. symbol_rules set.names (symbol_of x) e rest) m st' (Ok (Some v)) st'' z → Stepped step set n (λ rest. up_rules set.names items e rest) s st (Ok (Some v)) st'' z
  ups_value items i x e within is l a = record { by = λ rest. pass_on (reached_on (l rest) (ups_next items i x e within is rest)) (a.by (up_rules set.names (drop (i + 1) items) e rest)) }

  pub ups_on : (items : List Tree) (i : ℕ) (x : Tree) (e : Tree) {s m z : S} {st st' st'' : State} → i < length items → x ≡ get_or items i x →
      ((rest : Prog) → Reached step set n (up_rules set.names items e rest) s st (up_rules set.names (drop i items) e rest) st' m) →
      Stepped step set n (λ rest. symbol_rules set.names (symbol_of x) e rest) m st' (Ok None) st'' z → (rest : Prog) → Reached step set n (up_rules set.names items e rest) s st (up_rules set.names (drop (i + 1) items) e rest) st'' z
  ups_on items i x e within is l a rest = reached_on (l rest) (reached_on (ups_next items i x e within is rest) (a.by (up_rules set.names (drop (i + 1) items) e rest)))

  pub ups_done : (items : List Tree) (i : ℕ) (e : Tree) {s z : S} {st st' : State} → length items ≤ i →
      ((rest : Prog) → Reached step set n (up_rules set.names items e rest) s st (up_rules set.names (drop i items) e rest) st' z) → Stepped step set n (λ rest. up_rules set.names items e rest) s st (Ok None) st' z
  ups_done items i e {s = s} {z = z} {st = st} {st' = st'} past l =
      record { by = λ rest. subst (λ xs. Reached step set n (up_rules set.names items e rest) s st (up_rules set.names xs e rest) st' z) (drop_all i items past) (l rest) }

  pub ups_held : (a : Attributes) (items : List Tree) (e : Tree) {s : S} {st : State} → has Builtin.HoldAllComplete a ≡ true → Stepped step set n (λ rest. unless_held set.names a items e rest) s st (Ok None) st s
  ups_held a items e is = stepped_is (λ rest. ap (λ b. elim b as (λ _. Prog) [ true ↦ rest | false ↦ up_rules set.names items e rest ]) is) stepped_here

  pub ups_free : (a : Attributes) (items : List Tree) (e : Tree) {r : Result (Option Tree) Exit} {s z : S} {st st' : State} → has Builtin.HoldAllComplete a ≡ false →
      Stepped step set n (λ rest. up_rules set.names items e rest) s st r st' z → Stepped step set n (λ rest. unless_held set.names a items e rest) s st r st' z
  ups_free a items e is b = stepped_is (λ rest. ap (λ x. elim x as (λ _. Prog) [ true ↦ rest | false ↦ up_rules set.names items e rest ]) is) b

  -- ---- what stands, and threading

  pub finish_value : {p : Prog → Prog} (rest : Prog) {v : Tree} {s z : S} {st st' : State} → Stepped step set n p s st (Ok (Some v)) st' z → PassOf step set n (p rest) s st (Ok v) st' z
  finish_value rest a = a.by rest

  pub finish_out : {p : Prog → Prog} (rest : Prog) {x : Exit} (r : Result Tree Exit) {s z : S} {st st' : State} → IsErrAnd r (λ q. q ≡ x) → Stepped step set n p s st (Err x) st' z → PassOf step set n (p rest) s st r st' z
  finish_out rest (Ok v) i a = absurd i
  finish_out rest (Err y) i a = rw i (a.by rest)

  pub finish_stays : {p : Prog → Prog} {v w : Tree} {s z : S} {st st' : State} → v ≡ w → Stepped step set n p s st (Ok None) st' z → PassOf step set n (p (Done w)) s st (Ok v) st' z
  finish_stays {w = w} e a = rw e (pass_on (a.by (Done w)) (valued played_done))

  pub later_listed : (head : Tree) (a : Attributes) (items each : List Tree) {r : Result Tree Exit} {s z : S} {st st' : State} → threaded set.names head a (flattened head a (stripped set.names a items)) ≡ Some each →
      PassOf step set n (check_all each (Done (make set.names Builtin.List each))) s st r st' z → PassOf step set n (later_steps set.names head a items) s st r st' z
  later_listed head a items each is b = pass_is (ap (λ o. later_of set.names head a items (flattened head a (stripped set.names a items)) o) is) b

  pub later_whole : (head : Tree) (a : Attributes) (items : List Tree) (whole stands : Tree) {r : Result Tree Exit} {s z : S} {st st' : State} → threaded set.names head a (flattened head a (stripped set.names a items)) ≡ None →
      whole ≡ call head (sorted a (flattened head a (stripped set.names a items))) → stands ≡ left_standing set.names a head items whole →
      PassOf step set n (last_of set.names a whole (Done stands)) s st r st' z → PassOf step set n (later_steps set.names head a items) s st r st' z
  later_whole head a items whole stands is w l b =
      pass_is (ap (λ o. later_of set.names head a items (flattened head a (stripped set.names a items)) o) is ∙ whole_is set.names head a items (flattened head a (stripped set.names a items)) whole stands w l) b

  -- the steps of a call: `unless_held`, and what follows
  pub call_value : (a : Attributes) (h : Tree) (es : List Tree) (w : Tree) {v : Tree} {s z : S} {st st' : State} → Stepped step set n (λ rest. unless_held set.names a es w rest) s st (Ok (Some v)) st' z →
      Stepped step set n (λ rest. last_steps set.names a es w rest h) s st (Ok (Some v)) st' z
  call_value a h es w u = stepped_then_value {q = λ rest. down_rules set.names h es w rest} u

  pub call_out : (a : Attributes) (h : Tree) (es : List Tree) (w : Tree) {x : Exit} {s z : S} {st st' : State} → Stepped step set n (λ rest. unless_held set.names a es w rest) s st (Err x) st' z →
      Stepped step set n (λ rest. last_steps set.names a es w rest h) s st (Err x) st' z
  call_out a h es w u = stepped_then_out {q = λ rest. down_rules set.names h es w rest} u

  pub call_on : (a : Attributes) (h : Tree) (es : List Tree) (w : Tree) {r : Result (Option Tree) Exit} {s m z : S} {st st' st'' : State} → Stepped step set n (λ rest. unless_held set.names a es w rest) s st (Ok None) st' m →
      Stepped step set n (λ rest. down_rules set.names h es w rest) m st' r st'' z → Stepped step set n (λ rest. last_steps set.names a es w rest h) s st r st'' z
  call_on a h es w u d = stepped_then {q = λ rest. down_rules set.names h es w rest} u d

  pub stepped_last : (a : Attributes) (h : Tree) (es : List Tree) (hd : Tree) (w : Tree) {r : Result (Option Tree) Exit} {s z : S} {st st' : State} → w ≡ call h es → hd ≡ h →
      Stepped step set n (λ rest. last_steps set.names a es w rest hd) s st r st' z → Stepped step set n (λ rest. last_of set.names a w rest) s st r st' z
  stepped_last a h es hd w e f b =
      stepped_is (λ rest. ap (λ x. last_of set.names a x rest) e
      ∙ (ap (λ ys. last_steps set.names a ys (call h es) rest h) (elements-trees es)
      ∙ (ap (λ k. last_steps set.names a es (call h es) rest k) (sym f) ∙ ap (λ x. last_steps set.names a es x rest hd) (sym e)))) b

  -- ---- where nothing changes

  pub finish_or : {p : Prog → Prog} (w : Tree) (r : Result (Option Tree) Exit) {s z : S} {st st' : State} → Stepped step set n p s st r st' z → PassOf step set n (p (Done w)) s st (or_itself w r) st' z
  finish_or w (Ok None) a = finish_stays refl a
  finish_or w (Ok (Some v)) a = a.by (Done w)
  finish_or w (Err x) a = a.by (Done w)

  pub settled_out : (head : Tree) (a : Attributes) (items : List Tree) (whole : Tree) {x : Halt} {s : S} {st : State} → IsSettled set.names head a items → whole ≡ call head items → Fits set.limits whole (Err x) →
      PassOf step set n (after_values set.names (head, a, items)) s st (Err (exit_of x)) st s
  settled_out head a items whole z w f = pass_is (settled_is set.names head a items z) (ended (played_check_out (rw w at f)))

  pub settled_listed : (head : Tree) (a : Attributes) (items : List Tree) (whole : Tree) (each : List Tree) {u : Unit {0}} {r : Result Tree Exit} {s z : S} {st st' : State} → IsSettled set.names head a items → whole ≡ call head items →
      Fits set.limits whole (Ok u) → threaded set.names head a items ≡ Some each → PassOf step set n (check_all each (Done (make set.names Builtin.List each))) s st r st' z →
      PassOf step set n (after_values set.names (head, a, items)) s st r st' z
  settled_listed head a items whole each z w f is b =
      let threads = ap (λ xs. threaded set.names head a xs) (flat_is set.names head a items z) ∙ is in
      pass_is (settled_is set.names head a items z) (pass_on (reached_check (rw w at f)) (later_listed head a items each threads b))

  pub settled_on : (head : Tree) (a : Attributes) (items : List Tree) (whole : Tree) {u : Unit {0}} (r : Result (Option Tree) Exit) {s z : S} {st st' : State} → IsSettled set.names head a items → whole ≡ call head items →
      Fits set.limits whole (Ok u) → threaded set.names head a items ≡ None → Stepped step set n (λ rest. last_steps set.names a items whole rest head) s st r st' z →
      PassOf step set n (after_values set.names (head, a, items)) s st (or_itself whole r) st' z
  settled_on head a items whole r z w f is b =
      let threads = ap (λ xs. threaded set.names head a xs) (flat_is set.names head a items z) ∙ is in
      let assembled = w ∙ ap (λ xs. call head xs) (sym (ap (λ xs. sorted a xs) (flat_is set.names head a items z) ∙ z.in_order)) in
      let last = finish_or {p = λ rest. last_of set.names a whole rest} whole r (stepped_last a head items head whole w refl b) in
      pass_is (settled_is set.names head a items z) (pass_on (reached_check (rw w at f)) (later_whole head a items whole whole threads assembled (sym (z.stands whole)) last))

-- ---- the call of a row

row_named : (names : Names) → IsNames names → (i : Sym) (b : Builtin) → role_of names i ≡ Some b → i ≡ known names b
row_named names agree i b e = go (i.number == 0) refl e
  where
    go : (z : Bool) → (i.number == 0) ≡ z → elim z as (λ _. Option Builtin) [ true ↦ names.role i.base | false ↦ None ] ≡ Some b → i ≡ known names b
    go true n q =
        let base : i.base ≡ names.place b = sym (agree.only i.base b q) in
        let number : i.number ≡ 0 = eqb-true i.number 0 n in
        λ j. record { base = base j; number = number j }
    go false n q = absurd (Prim.cc q)

pub call_is_made : {names : Names} {i : Sym} {b : Builtin} (items : List Tree) {e : Tree} → IsNames names → role_of names i ≡ Some b → e ≡ call (symbol i) items → e ≡ make names b items
call_is_made {names = names} {i = i} {b = b} items agree is e = e ∙ ap (λ x. call (symbol x) items) (row_named names agree i b is)
