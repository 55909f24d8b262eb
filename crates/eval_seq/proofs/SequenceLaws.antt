-- How head and elements are evaluated, and the fixed point.
use Rattle.std.proofs.Common.{◌≡◌, ◌∙◌, ℕ, suc, ◌+◌, ◌<◌, ◌≤◌, length, drop, take, get_or, drop-cons, arith, Bool, true, false, List, [], ◌∷◌, ◌++◌, Option, Some, None, Result, Ok, Err, refl, sym, subst, ap}
use Rattle.std.proofs.lemmas.List.{drop_all, take_all, take_more}
use Rattle.std.proofs.lemmas.Bool.{ltb-false}
use Rattle.std.proofs.Math.Dec.{ltb}
use Rattle.std.specs.Prelude.{unwrap_or}
use Rattle.std.specs.Result.{IsErrAnd}
use Rattle.expr_tree.specs.Tree.{Tree, integer, string, symbol, normal, call, size, depth}
use Rattle.expr_tree.specs.declared.limits.Limits.{Limits}
use Rattle.expr_tree.specs.Order.{same}
use Rattle.expr_tree.proofs.Same.{tree_eq-true, tree_eq-refl}
use Rattle.expr_tree.proofs.Trees.{elements-trees}
use Rattle.expr_tree.specs.declared.limits.Stop.{Stop}
use Rattle.semantics.specs.Names.{Names}
use Rattle.semantics.specs.Definitions.{Attributes}
use Rattle.semantics.specs.Program.{Prog, Ask}
use Rattle.semantics.specs.Assemble.{attributes_of, is_asked, holds_first, holds_rest, ask_rest, ask_items, first_steps, spliced}
use Rattle.semantics.specs.Pass.{pass, later_steps}
use Rattle.semantics.specs.Play.{Setting, State, first_cause}
use Rattle.builtin_names.specs.Attributes.{attributes_in}
use Rattle.evaluation_steps.specs.declared.Exit.{Exit}
use Rattle.evaluation_steps.specs.declared.Halt.{Halt}
use Rattle.evaluation_steps.specs.Leads.{Step, exit_of}
use Rattle.evaluation_steps.specs.Words.{Evaluated, Settled, Played, Reached, Ran, Led, Counted, FitsBy, Fits}
use Rattle.evaluation_steps.specs.Stopping.{AreBounded}
use Rattle.evaluation_steps.specs.Passed.{Passed}
use Rattle.evaluation_steps.proofs.Laws.{went_on, went_lost, settled_throw_worn, settled_throw_out, settled_thrown, played_check_out, reached_check, reached_here, reached_on, reached_look, reached_part, led_here, led_on, led_then, led_ask, ran_value, settled_same, settled_large, settled_worn, settled_again_out, passed_again}
use Rattle.eval_seq.specs.Ends.{thrown_by}
use Rattle.eval_seq.specs.Walks.{or_itself, Judged, PassOf, valued, ended}
use Rattle.eval_seq.specs.declared.values.Values.{Values}
use Rattle.eval_seq.specs.Sequence.{attributes_seen, one_asked, asking, evaluated, values_in, values_of, after_values, Turned, IsWithin}
use Rattle.eval_seq.proofs.SymbolLaws.{pass_is}
use Rattle.eval_seq.proofs.Walking.{runs_led, runs_ask, runs_ask_out, runs_then_out, runs_memory, evaluates_err, pass_on, pass_part_out, settles_pass_out}

rest_is : (names : Names) (a : Attributes) (es done : List Tree) (k : List Tree → Prog) → ask_rest names a es done k ≡ asking names a (holds_rest a) es done k
rest_is names a [] done k = refl
rest_is names a (e ∷ es) done k = refl

abbrev after_attributes : Names → List Tree → Tree → Attributes → (Tree × Attributes × List Tree → Prog) → Prog
after_attributes names items head a k = ask_items names a items (λ values. k (head, a, values))

abbrev after_head : Names → List Tree → Tree → (Tree × Attributes × List Tree → Prog) → Prog
after_head names items head k = attributes_of head (λ a. after_attributes names items head a k)

-- what is thrown, or another end, as the end of an evaluation
abbrev JudgedTo : {S : Type 0} → Step S → Setting → ℕ → ℕ → Tree → S → State → Result Tree Exit → State → S → Type 0
JudgedTo step set n m e s st (Ok v) st' z = Judged step set n m e s st (Err (Exit.Thrown v)) st' z
JudgedTo step set n m e s st (Err x) st' z = Judged step set n m e s st (Err x) st' z

module _ {S : Type 0} {step : Step S} {set : Setting} {n : ℕ} where
  -- ---- an element

  one_is : (b : Bool) (e : Tree) {r : Result Tree Exit} {s z : S} {st st' : State} → Ran step set n (λ k. elim b as (λ _. Prog) [ true ↦ Ask e k | false ↦ k e ]) s st r st' z →
      (c : Bool) → c ≡ b → Ran step set n (λ k. elim c as (λ _. Prog) [ true ↦ Ask e k | false ↦ k e ]) s st r st' z
  one_is b e {r = r} {s = s} {z = z} {st = st} {st' = st'} a c is = subst (λ x. Ran step set n (λ k. elim x as (λ _. Prog) [ true ↦ Ask e k | false ↦ k e ]) s st r st' z) (sym is) a

  pub runs_held : (a : Attributes) (held : Bool) (e : Tree) {v : Tree} {s : S} {st : State} → is_asked set.names a held e ≡ false → v ≡ e → Ran step set n (one_asked set.names a held e) s st (Ok v) st s
  runs_held a held e is same = rw same (one_is false e ran_value (is_asked set.names a held e) is)

  pub runs_asked : (a : Attributes) (held : Bool) (e : Tree) {r : Result Tree Exit} {s z : S} {st st' : State} → is_asked set.names a held e ≡ true → Evaluated step set n e s st r st' z → Ran step set n (one_asked set.names a held e) s st r st' z
  runs_asked a held e is b = one_is true e (runs_ask b) (is_asked set.names a held e) is

  -- ---- elements

  reached_is : {p q : Prog} {s : S} {st : State} → p ≡ q → Reached step set n p s st q st s
  reached_is e = rw e reached_here

  pub led_asking : (a : Attributes) (items : List Tree) {s : S} {st : State} → Led step set n (ask_items set.names a items) s st (asking set.names a (holds_first a) items []) st s
  led_asking a [] = led_here
  led_asking a (e ∷ es) = led_here

  led_step : (a : Attributes) (held : Bool) (e : Tree) (es done : List Tree) {v : Tree} {s z : S} {st st' : State} → Ran step set n (one_asked set.names a held e) s st (Ok v) st' z →
      Led step set n (asking set.names a held (e ∷ es) done) s st (asking set.names a (holds_rest a) es (done ++ v ∷ [])) st' z
  led_step a held e es done {v = v} b = record { on = λ k. reached_on (reached_part (λ x. ask_rest set.names a es (done ++ x ∷ []) k) b) (reached_is (rest_is set.names a es (done ++ v ∷ []) k)) }

  step_out : (a : Attributes) (held : Bool) (e : Tree) (es done : List Tree) {x : Exit} {s z : S} {st st' : State} → Ran step set n (one_asked set.names a held e) s st (Err x) st' z →
      Ran step set n (asking set.names a held (e ∷ es) done) s st (Err x) st' z
  step_out a held e es done b = runs_then_out {q = λ v k. ask_rest set.names a es (done ++ v ∷ []) k} b

  pub led_item : (a : Attributes) (held : Bool) (items : List Tree) (i : ℕ) (e : Tree) (done : List Tree) {v : Tree} {s z : S} {st st' : State} → i < length items → e ≡ get_or items i e →
      Ran step set n (one_asked set.names a held e) s st (Ok v) st' z →
      Led step set n (asking set.names a held (drop i items) done) s st (asking set.names a (holds_rest a) (drop (i + 1) items) (done ++ v ∷ [])) st' z
  led_item a held items i e done within is b =
      let one : i + 1 ≡ suc i = omega arith in
      rw (one, drop-cons items i e within, sym is) (led_step a held e (drop (suc i) items) done b)

  pub item_out : (a : Attributes) (held : Bool) (items : List Tree) (i : ℕ) (e : Tree) (done : List Tree) {x : Exit} {s z : S} {st st' : State} → i < length items → e ≡ get_or items i e →
      Ran step set n (one_asked set.names a held e) s st (Err x) st' z → Ran step set n (asking set.names a held (drop i items) done) s st (Err x) st' z
  item_out a held items i e done within is b = rw (drop-cons items i e within, sym is) (step_out a held e (drop (suc i) items) done b)

  -- want of memory once the value of an element stands
  pub item_lost : (a : Attributes) (held : Bool) (items : List Tree) (i : ℕ) (e : Tree) (done : List Tree) {v : Tree} {s z : S} {st st' last : State} → i < length items → e ≡ get_or items i e →
      Ran step set n (one_asked set.names a held e) s st (Ok v) st' z → Ran step set n (asking set.names a held (drop i items) done) s st (Err Exit.NoMemory) last z
  item_lost a held items i e done within is b = runs_led (led_item a held items i e done within is b) runs_memory

  -- the values so far, with the next one
  pub led_next : (a : Attributes) (held : Bool) (items : List Tree) (i : ℕ) (e : Tree) (values next : Option (List Tree)) (value : Option Tree) {s z : S} {st st' : State} → i < length items → e ≡ get_or items i e →
      unwrap_or next (take i items ++ e ∷ []) ≡ unwrap_or values (take i items) ++ unwrap_or value e ∷ [] → Ran step set n (one_asked set.names a held e) s st (Ok (unwrap_or value e)) st' z →
      Led step set n (asking set.names a held (drop i items) (unwrap_or values (take i items))) s st (asking set.names a (holds_rest a) (drop (i + 1) items) (unwrap_or next (take (i + 1) items))) st' z
  led_next a held items i e values next value {s = s} {z = z} {st = st} {st' = st'} within is joined b =
      let more : take (i + 1) items ≡ take i items ++ e ∷ [] = take_more items i e within ∙ ap (λ x. take i items ++ x ∷ []) (sym is) in
      let t : unwrap_or next (take (i + 1) items) ≡ unwrap_or values (take i items) ++ unwrap_or value e ∷ [] = ap (λ xs. unwrap_or next xs) more ∙ joined in
      subst (λ xs. Led step set n (asking set.names a held (drop i items) (unwrap_or values (take i items))) s st (asking set.names a (holds_rest a) (drop (i + 1) items) xs) st' z) (sym t)
      (led_item a held items i e (unwrap_or values (take i items)) within is b)

  pub items_done : (a : Attributes) (held : Bool) (items : List Tree) (i : ℕ) (values : Option (List Tree)) {s : S} {st : State} → length items ≤ i →
      Ran step set n (asking set.names a held (drop i items) (unwrap_or values (take i items))) s st (Ok (unwrap_or values items)) st s
  items_done a held items i values past = rw (drop_all i items past, take_all i items past) ran_value

  -- ---- head and elements

  attributes_on : (items : List Tree) (head : Tree) {a : Attributes} {s : S} {st : State} → a ≡ attributes_seen set.names st.definitions head → Led step set n (after_head set.names items head) s st (after_attributes set.names items head a) st s
  attributes_on items (integer m) is = rw is led_here
  attributes_on items (string t) is = rw is led_here
  attributes_on items (symbol i) is = rw is (record { on = λ k. reached_look })
  attributes_on items (normal h es) is = rw is led_here

  pub head_out : (h : Tree) (items : List Tree) {x : Exit} {s z : S} {st st' : State} → Evaluated step set n h s st (Err x) st' z → Ran step set n (evaluated set.names h items) s st (Err x) st' z
  head_out h items b = runs_ask_out {q = λ v k. after_head set.names items v k} b

  head_on : (h : Tree) (items : List Tree) {head : Tree} {a : Attributes} {s z : S} {st st' : State} → Evaluated step set n h s st (Ok head) st' z → a ≡ attributes_seen set.names st'.definitions head →
      Led step set n (evaluated set.names h items) s st (after_attributes set.names items head a) st' z
  head_on h items {head = head} b is = led_on (led_ask {q = λ v k. after_head set.names items v k} b) (attributes_on items head is)

  pub items_out : (h : Tree) (items : List Tree) {head : Tree} {a : Attributes} {x : Exit} {s m z : S} {st st' st'' : State} → Evaluated step set n h s st (Ok head) st' m → a ≡ attributes_seen set.names st'.definitions head →
      Ran step set n (ask_items set.names a items) m st' (Err x) st'' z → Ran step set n (evaluated set.names h items) s st (Err x) st'' z
  items_out h items {head = head} {a = a} b is c = runs_led (head_on h items b is) (runs_then_out {q = λ values k. k (head, a, values)} c)

  pub values_done : (h : Tree) (items : List Tree) {head : Tree} {a : Attributes} {values : List Tree} {s m z : S} {st st' st'' : State} → Evaluated step set n h s st (Ok head) st' m → a ≡ attributes_seen set.names st'.definitions head →
      Ran step set n (ask_items set.names a items) m st' (Ok values) st'' z → Ran step set n (evaluated set.names h items) s st (Ok (head, a, values)) st'' z
  values_done h items {head = head} {a = a} b is c =
      runs_led (led_on (head_on h items b is) (led_then {q = λ vs k. k (head, a, vs)} c)) ran_value

  pub values_err : (h : Tree) (items : List Tree) {p : (Tree × Attributes × List Tree → Prog) → Prog} {x : Exit} (r : Result Values Exit) {s z : S} {st st' : State} → IsErrAnd r (λ y. y ≡ x) →
      Ran step set n p s st (Err x) st' z → Ran step set n p s st (values_of h items r) st' z
  values_err h items (Ok v) i a = absurd i
  values_err h items (Err y) i a = rw i a

  -- ---- splicing, and what follows

  pub splice_out : (head : Tree) (a : Attributes) (values : List Tree) {x : Halt} {es : List Tree} {s : S} {st : State} → es ≡ spliced set.names a values → Fits set.limits (call head es) (Err x) →
      PassOf step set n (after_values set.names (head, a, values)) s st (Err (exit_of x)) st s
  splice_out head a values e f = ended (played_check_out (rw e at f))

  pub splice_on : (head : Tree) (a : Attributes) (values : List Tree) {es : List Tree} {u : Unit {0}} {r : Result Tree Exit} {s z : S} {st st' : State} → es ≡ spliced set.names a values → Fits set.limits (call head es) (Ok u) →
      PassOf step set n (later_steps set.names head a es) s st r st' z → PassOf step set n (after_values set.names (head, a, values)) s st r st' z
  splice_on head a values e f b = pass_on (reached_check (rw e at f)) (rw e at b)

  -- new ones, or copies of the old ones
  pub changed_is : (h : Tree) (items : List Tree) (v : Values) {head : Tree} {values : List Tree} {r : Result Tree Exit} {s z : S} {st st' : State} → head ≡ unwrap_or v.head h → values ≡ unwrap_or v.items items →
      PassOf step set n (after_values set.names (head, attributes_in v.attrs, values)) s st r st' z → PassOf step set n (after_values set.names (values_in h items v)) s st r st' z
  changed_is h items v {head = head} {values = values} {r = r} {s = s} {z = z} {st = st} {st' = st'} e f a =
      let b = subst (λ x. PassOf step set n (after_values set.names (x, attributes_in v.attrs, values)) s st r st' z) e a in
      subst (λ xs. PassOf step set n (after_values set.names (unwrap_or v.head h, attributes_in v.attrs, xs)) s st r st' z) f b

  -- ---- a pass over a normal expression

  at_items : (h : Tree) {items es : List Tree} {r : Result Tree Exit} {s z : S} {st st' : State} → es ≡ items → PassOf step set n (first_steps set.names h es (later_steps set.names)) s st r st' z →
      PassOf step set n (first_steps set.names h items (later_steps set.names)) s st r st' z
  at_items h {r = r} {s = s} {z = z} {st = st} {st' = st'} is a = subst (λ xs. PassOf step set n (first_steps set.names h xs (later_steps set.names)) s st r st' z) is a

  pub normal_out : (h : Tree) {items es : List Tree} {x : Exit} {s z : S} {st st' : State} → es ≡ items → Ran step set n (evaluated set.names h es) s st (Err x) st' z →
      PassOf step set n (first_steps set.names h items (later_steps set.names)) s st (Err x) st' z
  normal_out h is a = at_items h is (pass_part_out (λ t. after_values set.names t) a)

  pub normal_on : (h : Tree) {items es : List Tree} (v : Values) {r : Result Tree Exit} {s m z : S} {st st' st'' : State} → es ≡ items → Ran step set n (evaluated set.names h es) s st (Ok (values_in h es v)) st' m →
      PassOf step set n (after_values set.names (values_in h es v)) m st' r st'' z → PassOf step set n (first_steps set.names h items (later_steps set.names)) s st r st'' z
  normal_on h v is b c = at_items h is (pass_on (reached_part (λ t. after_values set.names t) b) c)

  -- head and elements are as they were
  pub normal_settled : (h : Tree) {items es : List Tree} (v : Values) {a : Attributes} {r : Result Tree Exit} {s m z : S} {st st' st'' : State} → es ≡ items → Ran step set n (evaluated set.names h es) s st (Ok (values_in h es v)) st' m →
      values_in h es v ≡ (h, a, es) → PassOf step set n (after_values set.names (h, a, items)) m st' r st'' z → PassOf step set n (first_steps set.names h items (later_steps set.names)) s st r st'' z
  normal_settled h v {a = a} {r = r} {m = m} {z = z} {st' = st'} {st'' = st''} is b same c =
      let here = subst (λ xs. PassOf step set n (after_values set.names (h, a, xs)) m st' r st'' z) (sym is) c in
      normal_on h v is b (subst (λ t. PassOf step set n (after_values set.names t) m st' r st'' z) (sym same) here)

  pub pass_normal : (e h head : Tree) (items : List Tree) {r : Result Tree Exit} {s z : S} {st st' : State} → e ≡ call h items → head ≡ h → PassOf step set n (first_steps set.names head items (later_steps set.names)) s st r st' z →
      PassOf step set n (pass set.names e) s st r st' z
  pass_normal e h head items is f a =
      pass_is (ap (pass set.names) is ∙ (ap (λ xs. first_steps set.names h xs (later_steps set.names)) (elements-trees items) ∙ ap (λ k. first_steps set.names k items (later_steps set.names)) (sym f))) a

  -- ---- one pass and its value, or what it throws itself

  thrown_played : {p : Prog} {v : Tree} {s z : S} {st st' : State} → PassOf step set n p s st (Err (Exit.Throwing v)) st' z → Played step set n p s st (Err (Exit.Throwing v)) st' z
  thrown_played (ended a) = a

  pub judged_value : (m : ℕ) (e : Tree) (r : Result (Option Tree) Exit) {o : Option Tree} {s z : S} {st st' : State} → r ≡ Ok o → PassOf step set n (pass set.names e) s st (or_itself e r) st' z →
      Judged step set n m e s st (Ok (unwrap_or o e)) st' z
  judged_value m e r {s = s} {z = z} {st = st} {st' = st'} is a = record { by = subst (λ x. PassOf step set n (pass set.names e) s st (or_itself e x) st' z) is a }

  pub judged_worn : (m : ℕ) (e : Tree) (x : Exit) {v : Tree} {s z : S} {st st' : State} → m ≡ 0 → thrown_by x ≡ Ok v → PassOf step set n (pass set.names e) s st (Err x) st' z →
      Judged step set n m e s st (Err (Exit.Stopped Stop.Iteration)) st' z
  judged_worn m e (Exit.Throwing v) none is a = record { by = settled_throw_worn m e none (thrown_played a) }
  judged_worn m e (Exit.Stopped c) none is a = absurd (Prim.cc is)
  judged_worn m e (Exit.Thrown v) none is a = absurd (Prim.cc is)
  judged_worn m e Exit.Quit none is a = absurd (Prim.cc is)
  judged_worn m e Exit.Closed none is a = absurd (Prim.cc is)
  judged_worn m e Exit.NoMemory none is a = absurd (Prim.cc is)

  pub judged_throw_out : (m : ℕ) (e : Tree) (x : Exit) {v : Tree} {i : ℕ} {h : Halt} {s z : S} {st st' : State} → 0 < m → thrown_by x ≡ Ok v → PassOf step set n (pass set.names e) s st (Err x) st' z →
      Counted true set.limits.steps st'.steps (Err h) i → Judged step set n m e s st (Err (exit_of h)) (record st' { steps = i }) z
  judged_throw_out m e (Exit.Throwing v) some is a c = record { by = settled_throw_out m e some (thrown_played a) c }
  judged_throw_out m e (Exit.Stopped x) some is a c = absurd (Prim.cc is)
  judged_throw_out m e (Exit.Thrown v) some is a c = absurd (Prim.cc is)
  judged_throw_out m e Exit.Quit some is a c = absurd (Prim.cc is)
  judged_throw_out m e Exit.Closed some is a c = absurd (Prim.cc is)
  judged_throw_out m e Exit.NoMemory some is a c = absurd (Prim.cc is)

  pub judged_thrown : (m : ℕ) (e : Tree) (x : Exit) {v : Tree} {i : ℕ} {u : Unit {0}} {s z : S} {st st' : State} → 0 < m → thrown_by x ≡ Ok v → PassOf step set n (pass set.names e) s st (Err x) st' z →
      Counted true set.limits.steps st'.steps (Ok u) i → Judged step set n m e s st (Err (Exit.Thrown v)) (record st' { steps = i }) z
  judged_thrown m e (Exit.Throwing w) {i = i} {s = s} {z = z} {st = st} {st' = st'} some is a c =
      subst (λ o. JudgedTo step set n m e s st o (record st' { steps = i }) z) is (record { by = settled_thrown m e some (thrown_played a) c })
  judged_thrown m e (Exit.Stopped x) some is a c = absurd (Prim.cc is)
  judged_thrown m e (Exit.Thrown v) some is a c = absurd (Prim.cc is)
  judged_thrown m e Exit.Quit some is a c = absurd (Prim.cc is)
  judged_thrown m e Exit.Closed some is a c = absurd (Prim.cc is)
  judged_thrown m e Exit.NoMemory some is a c = absurd (Prim.cc is)

  pub judged_out : (m : ℕ) (e : Tree) (x : Exit) {y : Exit} {s z : S} {st st' : State} → thrown_by x ≡ Err y → PassOf step set n (pass set.names e) s st (Err x) st' z → Judged step set n m e s st (Err y) st' z
  judged_out m e (Exit.Throwing v) is a = absurd (Prim.cc is)
  judged_out m e (Exit.Stopped c) {s = s} {z = z} {st = st} {st' = st'} is a = subst (λ o. JudgedTo step set n m e s st o st' z) is (record { by = settles_pass_out m e tt a })
  judged_out m e (Exit.Thrown v) {s = s} {z = z} {st = st} {st' = st'} is a = subst (λ o. JudgedTo step set n m e s st o st' z) is (record { by = settles_pass_out m e tt a })
  judged_out m e Exit.Quit {s = s} {z = z} {st = st} {st' = st'} is a = subst (λ o. JudgedTo step set n m e s st o st' z) is (record { by = settles_pass_out m e tt a })
  judged_out m e Exit.Closed {s = s} {z = z} {st = st} {st' = st'} is a = subst (λ o. JudgedTo step set n m e s st o st' z) is (record { by = settles_pass_out m e tt a })
  judged_out m e Exit.NoMemory {s = s} {z = z} {st = st} {st' = st'} is a = subst (λ o. JudgedTo step set n m e s st o st' z) is (record { by = settles_pass_out m e tt a })

  pub judged_err : (m : ℕ) (e : Tree) {x : Exit} (r : Result (Option Tree) Exit) {s z : S} {st st' : State} → IsErrAnd r (λ y. y ≡ x) → Judged step set n m e s st (Err x) st' z → Judged step set n m e s st (or_itself e r) st' z
  judged_err m e (Ok v) i a = absurd i
  judged_err m e (Err y) i a = rw i a

  played_of : {p : Prog} {v : Tree} {s z : S} {st st' : State} → PassOf step set n p s st (Ok v) st' z → Played step set n p s st (Ok v) st' z
  played_of (valued a) = a

  pub turn_itself : (m : ℕ) (e : Tree) {u : Unit {0}} {s z : S} {st st' : State} → PassOf step set n (pass set.names e) s st (Ok e) st' z → Fits set.limits e (Ok u) → Turned step set n m e s st (Ok None) st' z
  turn_itself m e a f = record { by = settled_same m e (played_of a) f (tree_eq-refl e) }

  pub turn_same : (m : ℕ) (e : Tree) {v : Tree} {u : Unit {0}} {s z : S} {st st' : State} → PassOf step set n (pass set.names e) s st (Ok v) st' z → Fits set.limits v (Ok u) → same v e ≡ true → Turned step set n m e s st (Ok None) st' z
  turn_same m e {v = v} {s = s} {z = z} {st = st} {st' = st'} a f is =
      record { by = subst (λ x. Settled step set n m e s st (Ok x) st' z) (tree_eq-true v e is) (settled_same m e (played_of a) f is) }

  pub turn_out : (m : ℕ) (e : Tree) {x : Exit} {s z : S} {st st' : State} → Settled step set n m e s st (Err x) st' z → Turned step set n m e s st (Err x) st' z
  turn_out m e a = record { by = a }

  pub turn_err : (m : ℕ) (e : Tree) {x : Exit} {r : Result (Option Tree) Exit} {s z : S} {st st' : State} → IsErrAnd r (λ y. y ≡ x) → Settled step set n m e s st (Err x) st' z → Turned step set n m e s st r st' z
  turn_err m e {r = Ok v} i a = absurd i
  turn_err m e {r = Err y} i a = rw i (turn_out m e a)

  pub turn_large : (m : ℕ) (e : Tree) {v : Tree} {h : Halt} {s z : S} {st st' : State} → PassOf step set n (pass set.names e) s st (Ok v) st' z → Fits set.limits v (Err h) → Settled step set n m e s st (Err (exit_of h)) st' z
  turn_large m e a f = (settled_large m e (played_of a) f)

  pub turn_worn : (m : ℕ) (e : Tree) {v : Tree} {u : Unit {0}} {s z : S} {st st' : State} → m ≡ 0 → PassOf step set n (pass set.names e) s st (Ok v) st' z → Fits set.limits v (Ok u) → same v e ≡ false →
      Settled step set n m e s st (Err (Exit.Stopped Stop.Iteration)) st' z
  turn_worn m e none a f is = (settled_worn m e none (played_of a) f is)

  pub turn_again_out : (m : ℕ) (e : Tree) {v : Tree} {i : ℕ} {h : Halt} {u : Unit {0}} {s z : S} {st st' : State} → 0 < m → PassOf step set n (pass set.names e) s st (Ok v) st' z → Fits set.limits v (Ok u) → same v e ≡ false →
      Counted true set.limits.steps st'.steps (Err h) i → Settled step set n m e s st (Err (exit_of h)) (record st' { steps = i }) z
  turn_again_out m e some a f is c = (settled_again_out m e some (played_of a) f is c)

  pub turn_again : (m : ℕ) (e : Tree) {v : Tree} {i : ℕ} {u w : Unit {0}} {s z : S} {st st' : State} → 0 < m → PassOf step set n (pass set.names e) s st (Ok v) st' z → Fits set.limits v (Ok u) → same v e ≡ false →
      Counted true set.limits.steps st'.steps (Ok w) i → Turned step set n m e s st (Ok (Some v)) (record st' { steps = i }) z
  turn_again m e some a f is c = record { by = (some, (passed_again m e some (played_of a) f is c, (_, (played_of a, refl)))) }

  pub passed_settles : {a b : ℕ} {e f : Tree} {r : Result Tree Exit} {s m z : S} {st st' st'' : State} → Passed step set n a e s st b f st' m → Settled step set n b f m st' r st'' z → Settled step set n a e s st r st'' z
  passed_settles x y = record { went = went_on x.on y.went }

  pub settles_err_or : (e : Tree) (r : Result (Option Tree) Exit) {m : ℕ} {f : Tree} {x : Exit} {s z : S} {st st' : State} → IsErrAnd r (λ y. y ≡ x) → Settled step set n m f s st (Err x) st' z → Settled step set n m f s st (or_itself e r) st' z
  settles_err_or e (Ok v) i a = absurd i
  settles_err_or e (Err y) i a = rw i a

  -- want of memory once the value stands
  pub evaluates_lost : {e v : Tree} {s z : S} {st st' st'' : State} {r : Result Tree Exit} → IsErrAnd r (λ y. y ≡ Exit.NoMemory) → Evaluated step set n e s st (Ok v) st' z → Evaluated step set n e s st r st'' z
  evaluates_lost i a = evaluates_err i (record { went = went_lost a.went.by })

fit_cases : (large deep : Bool) {u : Unit {0}} → FitsBy (first_cause large deep) (Ok u) → (large ≡ false) × (deep ≡ false)
fit_cases true deep h = absurd h
fit_cases false true h = absurd h
fit_cases false false h = (refl, refl)

pub within_of : {limits : Limits} {h : Tree} {items : List Tree} {u : Unit {0}} → AreBounded limits → Fits limits (call h items) (Ok u) → IsWithin h items
within_of {limits = limits} {h = h} {items = items} b f =
    let x = fit_cases (ltb limits.size (size (call h items))) (ltb limits.depth (depth (call h items))) f.by in
    let small : size (call h items) ≤ limits.size = ltb-false limits.size (size (call h items)) x.0 in
    let shallow : depth (call h items) ≤ limits.depth = ltb-false limits.depth (depth (call h items)) x.1 in
    record { small = omega (arith, small, b.size_is); shallow = omega (arith, shallow, b.depth_is) }
