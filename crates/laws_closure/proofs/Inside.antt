-- Expressions whose symbols are all members of a set, and what keeps to it: lists, the steps of a pass, putting in place.
use Rattle.std.proofs.Common.{◌≡◌, refl, sym, ℕ, zero, suc, Bool, true, false, cond, List, [], ◌∷◌, ◌++◌, map, reverse, take, drop, replicate, Option, Some, None, true≢false}
use mathlib.Core.List.{reverse_aux}
use Rattle.std.specs.Prelude.{if◌then◌else◌}
use Rattle.std.specs.Ordering.{is_le}
use Rattle.expr_tree.specs.declared.sym.Sym.{Sym}
use Rattle.expr_tree.specs.Tree.{Tree, integer, string, symbol, normal, Trees, nil, cons, elements, trees, call}
use Rattle.expr_tree.specs.Order.{tree_cmp, same_symbol}
use Rattle.semantics.specs.declared.builtin.Builtin.{Builtin}
use Rattle.laws_closure.specs.Throws.{may_throw}
use Rattle.semantics.specs.Names.{Names, known, name, is_known, is_name, is_call, items_of, head_of, make}
use Rattle.semantics.specs.Steps.{splice, unwrapped, strip, is_call_of, flatten_item, flatten_items, flatten, put_in, ordered, first_or, rest_of, heads_of, tails_of, threads, thread, first_length, all_of_length}
use Rattle.expr_tree.specs.Shapes.{symbol_of}
use Rattle.expr_tree.specs.Substitution.{Binding, value_of, bound_in, without, among, value_or_symbol, put_in_items}
use Rattle.semantics.specs.InPlace.{binders, as_one, put_in_place}

-- the same property of both branches
pub both : {B : Type 0} (Q : B → Type 0) (b : Bool) {m n : B} → Q m → Q n → Q (elim b [ true ↦ m | false ↦ n ])
both Q true one other = one
both Q false one other = other

-- with what the branch tells
pub chosen : {B : Type 0} (Q : B → Type 0) (b : Bool) {m n : B} → (b ≡ true → Q m) → Q n → Q (elim b [ true ↦ m | false ↦ n ])
chosen Q true one other = one refl
chosen Q false one other = other

pub either : {B : Type 0} (Q : B → Type 0) (b : Bool) {m n : B} → Q m → Q n → Q (if b then m else n)
either Q true one other = one
either Q false one other = other

abbrev pub Each : {A : Type 0} → (A → Type 0) → List A → Type 0
Each P [] = Unit {0}
Each P (x ∷ xs) = P x × Each P xs

abbrev pub Opt : {A : Type 0} → (A → Type 0) → Option A → Type 0
Opt P None = Unit {0}
Opt P (Some x) = P x

pub perhaps : {A B : Type 0} (P : A → Type 0) (Q : B → Type 0) (o : Option A) {m : B} {k : A → B} → Opt P o → Q m → ((a : A) → P a → Q (k a)) → Q (elim o [ None ↦ m | Some a ↦ k a ])
perhaps P Q None p here there = here
perhaps P Q (Some a) p here there = there a p

pub appended : {A : Type 0} (P : A → Type 0) (xs ys : List A) → Each P xs → Each P ys → Each P (xs ++ ys)
appended P [] ys one two = two
appended P (x ∷ xs) ys one two = (one.0, appended P xs ys one.1 two)

pub mapped : {A B : Type 0} (P : A → Type 0) (Q : B → Type 0) (f : A → B) → ((a : A) → P a → Q (f a)) → (xs : List A) → Each P xs → Each Q (map f xs)
mapped P Q f each [] all = tt
mapped P Q f each (x ∷ xs) all = (each x all.0, mapped P Q f each xs all.1)

pub reversed_onto : {A : Type 0} (P : A → Type 0) (xs ys : List A) → Each P xs → Each P ys → Each P (reverse_aux xs ys)
reversed_onto P [] ys one two = two
reversed_onto P (x ∷ xs) ys one two = reversed_onto P xs (x ∷ ys) one.1 (one.0, two)

pub reversed : {A : Type 0} (P : A → Type 0) (xs : List A) → Each P xs → Each P (reverse xs)
reversed P xs all = reversed_onto P xs [] all tt

pub taken : {A : Type 0} (P : A → Type 0) (n : ℕ) (xs : List A) → Each P xs → Each P (take n xs)
taken P zero xs all = tt
taken P (suc n) [] all = tt
taken P (suc n) (x ∷ xs) all = (all.0, taken P n xs all.1)

pub dropped : {A : Type 0} (P : A → Type 0) (n : ℕ) (xs : List A) → Each P xs → Each P (drop n xs)
dropped P zero xs all = all
dropped P (suc n) [] all = tt
dropped P (suc n) (x ∷ xs) all = dropped P n xs all.1

pub replicated : {A : Type 0} (P : A → Type 0) (n : ℕ) (x : A) → P x → Each P (replicate n x)
replicated P zero x one = tt
replicated P (suc n) x one = (one, replicated P n x one)

module _ (C : Sym → Type 0) where
  abbrev mutual
    pub In : Tree → Type 0
    In (integer n) = Unit {0}
    In (string t) = Unit {0}
    In (symbol s) = C s
    In (normal h es) = In h × Ins es

    pub Ins : Trees → Type 0
    Ins nil = Unit {0}
    Ins (cons e es) = In e × Ins es

  abbrev pub AllIn : List Tree → Type 0
  AllIn = Each In

  pub listed : (es : Trees) → Ins es → AllIn (elements es)
  listed nil all = tt
  listed (cons e es) all = (all.0, listed es all.1)

  pub packed : (es : List Tree) → AllIn es → Ins (trees es)
  packed [] all = tt
  packed (e ∷ es) all = (all.0, packed es all.1)

  pub called : (h : Tree) (es : List Tree) → In h → AllIn es → In (call h es)
  called h es one all = (one, packed es all)

  pub items : (e : Tree) → In e → AllIn (items_of e)
  items (integer n) one = tt
  items (string t) one = tt
  items (symbol s) one = tt
  items (normal h es) one = listed es one.1

  pub head : (e : Tree) → In e → Opt In (head_of e)
  head (integer n) one = tt
  head (string t) one = tt
  head (symbol s) one = tt
  head (normal h es) one = one.0

  pub symbol_in : (e : Tree) → In e → Opt C (symbol_of e)
  symbol_in (integer n) one = tt
  symbol_in (string t) one = tt
  symbol_in (symbol s) one = one
  symbol_in (normal h es) one = symbol_in h one.0

  -- ---- the steps

  pub spliced : (names : Names) (es : List Tree) → AllIn es → AllIn (splice names es)
  spliced names [] all = tt
  spliced names (e ∷ es) all = appended In (cond (is_call names Builtin.Sequence e) (items_of e) (e ∷ [])) (splice names es) (go (is_call names Builtin.Sequence e)) (spliced names es all.1)
    where
      go : (b : Bool) → AllIn (cond b (items_of e) (e ∷ []))
      go true = items e all.0
      go false = (all.0, tt)

  pub unwrapped_in : (names : Names) (e : Tree) → In e → Opt In (unwrapped names e)
  unwrapped_in names (normal h (cons e nil)) one = both (Opt In) (is_call names Builtin.Unevaluated (normal h nil)) one.1.0 tt
  unwrapped_in names _ one = tt

  pub stripped : (names : Names) (es : List Tree) → AllIn es → AllIn (strip names es)
  stripped names [] all = tt
  stripped names (e ∷ es) all = perhaps In AllIn (unwrapped names e) (unwrapped_in names e all.0) (all.0, stripped names es all.1) (λ x one. (one, stripped names es all.1))

  mutual
    pub flattened_item : (s : Sym) (e : Tree) → In e → AllIn (flatten_item s e)
    flattened_item s (integer n) one = (one, tt)
    flattened_item s (string t) one = (one, tt)
    flattened_item s (symbol t) one = (one, tt)
    flattened_item s (normal h es) one = both AllIn (is_call_of s (normal h nil)) (flattened_items s es one.1) (one, tt)

    pub flattened_items : (s : Sym) (es : Trees) → Ins es → AllIn (flatten_items s es)
    flattened_items s nil all = tt
    flattened_items s (cons e es) all = appended In (flatten_item s e) (flatten_items s es) (flattened_item s e all.0) (flattened_items s es all.1)

  pub flattened : (s : Sym) (es : List Tree) → AllIn es → AllIn (flatten s es)
  flattened s es all = flattened_items s (trees es) (packed es all)

  pub put_in_list : (e : Tree) (es : List Tree) → In e → AllIn es → AllIn (put_in e es)
  put_in_list e [] one all = (one, tt)
  put_in_list e (f ∷ fs) one all = go (is_le (tree_cmp e f)) (put_in_list e fs one all.1)
    where
      go : (b : Bool) → AllIn (put_in e fs) → AllIn (cond b (e ∷ f ∷ fs) (f ∷ put_in e fs))
      go true rest = (one, all)
      go false rest = (all.0, rest)

  pub in_order : (es : List Tree) → AllIn es → AllIn (ordered es)
  in_order [] all = tt
  in_order (e ∷ es) all = put_in_list e (ordered es) all.0 (in_order es all.1)

  -- ---- what needs the table

  -- a set that holds the table wherever one of its members is a name of it
  module _ (names : Names) (Table : Type 0) (knows : Table → (r : Builtin) → may_throw r ≡ false → C (known names r)) (tabled : (r : Builtin) (s : Sym) → C s → is_known names r s ≡ true → Table) where
    pub named : Table → (r : Builtin) → may_throw r ≡ false → In (name names r)
    named t r calm = knows t r calm

    pub made : Table → (r : Builtin) → may_throw r ≡ false → (es : List Tree) → AllIn es → In (make names r es)
    made t r calm es all = (knows t r calm, packed es all)

    pub call_tabled : (r : Builtin) (e : Tree) → In e → is_call names r e ≡ true → Table
    call_tabled r (integer n) one is = absurd (true≢false (sym is))
    call_tabled r (string t) one is = absurd (true≢false (sym is))
    call_tabled r (symbol s) one is = absurd (true≢false (sym is))
    call_tabled r (normal (integer n) es) one is = absurd (true≢false (sym is))
    call_tabled r (normal (string t) es) one is = absurd (true≢false (sym is))
    call_tabled r (normal (symbol s) es) one is = tabled r s one.0 is
    call_tabled r (normal (normal h fs) es) one is = absurd (true≢false (sym is))

    pub name_tabled : (r : Builtin) (e : Tree) → In e → is_name names r e ≡ true → Table
    name_tabled r (integer n) one is = absurd (true≢false (sym is))
    name_tabled r (string t) one is = absurd (true≢false (sym is))
    name_tabled r (symbol s) one is = tabled r s one is
    name_tabled r (normal h es) one is = absurd (true≢false (sym is))

    first_in : (e : Tree) (es : List Tree) → In e → AllIn es → In (first_or e es)
    first_in e [] one all = one
    first_in e (f ∷ fs) one all = all.0

    rest_in : (es : List Tree) → AllIn es → AllIn (rest_of es)
    rest_in [] all = tt
    rest_in (e ∷ es) all = all.1

    heads_in : (es : List Tree) → AllIn es → AllIn (heads_of names es)
    heads_in [] all = tt
    heads_in (e ∷ es) all =
        both AllIn (is_call names Builtin.List e) (first_in e (items_of e) all.0 (items e all.0), heads_in es all.1) (all.0, heads_in es all.1)

    tails_in : (es : List Tree) → AllIn es → AllIn (tails_of names es)
    tails_in [] all = tt
    tails_in (e ∷ es) all =
        chosen AllIn (is_call names Builtin.List e)
        (λ is. (made (call_tabled Builtin.List e all.0 is) Builtin.List refl (rest_of (items_of e)) (rest_in (items_of e) (items e all.0)), tails_in es all.1))
        (all.0, tails_in es all.1)

    threads_in : (s : Sym) → C s → (n : ℕ) (es : List Tree) → AllIn es → AllIn (threads names s n es)
    threads_in s one zero es all = tt
    threads_in s one (suc n) es all = (called (symbol s) (heads_of names es) one (heads_in es all), threads_in s one n (tails_of names es) (tails_in es all))

    -- threading takes place where there is a List
    abbrev pub Threaded : List Tree → Type 0
    Threaded es = Table × AllIn es

    listed_table : (es : List Tree) → AllIn es → Opt (λ n. Table) (first_length names es)
    listed_table [] all = tt
    listed_table (e ∷ es) all = chosen (Opt (λ n. Table)) (is_call names Builtin.List e) (λ is. call_tabled Builtin.List e all.0 is) (listed_table es all.1)

    pub thread_in : (s : Sym) (es : List Tree) → C s → AllIn es → Opt Threaded (thread names s es)
    thread_in s es one all =
        perhaps (λ n. Table) (Opt Threaded) (first_length names es) (listed_table es all) tt
        (λ n t. both (Opt Threaded) (all_of_length names n es) (t, threads_in s one n es all) tt)

    -- ---- putting in place: what has runs stands where the table is

    abbrev pub Bound : Sym × List Tree → Type 0
    Bound b = Table × AllIn b.1

    abbrev pub AllBound : Binding → Type 0
    AllBound = Each Bound

    pub value_in : (b : Binding) (s : Sym) → AllBound b → Opt (λ run. Table × AllIn run) (value_of b s)
    value_in [] s all = tt
    value_in (c ∷ b) s all = either (Opt (λ run. Table × AllIn run)) (same_symbol c.0 s) all.0 (value_in b s all.1)

    pub one_in : Table → (run : List Tree) → AllIn run → In (as_one names run)
    one_in t [] all = made t Builtin.Sequence refl [] tt
    one_in t (e ∷ []) all = all.0
    one_in t (e ∷ f ∷ es) all = made t Builtin.Sequence refl (e ∷ f ∷ es) all

    value_or_in : (s : Sym) (o : Option (List Tree)) → C s → Opt (λ run. Table × AllIn run) o → In (value_or_symbol (known names Builtin.Sequence) s o)
    value_or_in s None one all = one
    value_or_in s (Some run) one all = one_in all.0 run all.1

    without_in : (ss : List Sym) (b : Binding) → AllBound b → AllBound (without ss b)
    without_in ss [] all = tt
    without_in ss (c ∷ b) all = either AllBound (among c.0 ss) (without_in ss b all.1) (all.0, without_in ss b all.1)

    mutual
      pub put_in_place_in : (b : Binding) (e : Tree) → AllBound b → In e → In (put_in_place names b e)
      put_in_place_in b (integer n) all one = tt
      put_in_place_in b (string t) all one = tt
      put_in_place_in b (symbol s) all one = value_or_in s (value_of b s) one (value_in b s all)
      put_in_place_in b (normal h es) all one = (
        put_in_place_in (without (bound_in (binders names) h (elements es)) b) h (without_in (bound_in (binders names) h (elements es)) b all) one.0,
        put_in_items_in (without (bound_in (binders names) h (elements es)) b) es (without_in (bound_in (binders names) h (elements es)) b all) one.1,
      )

      pub put_in_items_in : (b : Binding) (es : Trees) → AllBound b → Ins es → Ins (put_in_items (binders names) b es)
      put_in_items_in b nil all one = tt
      put_in_items_in b (cons e es) all one = (put_in_place_in b e all one.0, put_in_items_in b es all one.1)
