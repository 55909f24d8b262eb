-- What the reader keeps is what is read, cut at the limits of an expression.
use Rattle.std.proofs.Common.{◌≡◌, ◌+◌, ◌≤◌, max, Bool, true, false, ◌&&◌, cond, List, [], ◌∷◌, ◌++◌, Option, Some, None, refl, sym, ap, ap₂, ◌∙◌, arith, le-leb, leb-true, pos, negsuc}
use Rattle.std.specs.Prelude.{leb}
use Rattle.expr_tree.specs.Tree.{Tree, Trees, nil, cons, integer, string, symbol, normal, elements, trees, call, size, sizes, depth, depths}
use Rattle.expr_tree.proofs.Trees.{trees-elements}
use Rattle.semantics.specs.declared.builtin.Builtin.{Builtin}
use Rattle.semantics.specs.Names.{Names, make, name}
use Rattle.syntax.specs.Operators.{Prefix, Postfix, Gives, gives_of}
use Rattle.syntax.specs.Terminals.{Phrase, PhraseKind, Closed, NameToken, NumberToken, Open}
use Rattle.syntax.specs.Phrases.{written, chained, appended, negated_by, negated_kind, negated_number, negated_product, negated_elements, negative, minus_one, is_open_in, joined, led, trailed}
use Rattle.laws_reading.specs.Kept.{fits, cut, Kept, KeptList, keep, whole, kept_added, kept_call, negated_one, trail_row, kept_list, kept_one, kept_pair, kept_triple, kept_part, chained_one, kept_chained, kept_inverse, kept_apply, kept_join, kept_lead, kept}
use Rattle.laws_reading.proofs.Carries.{Carries}

-- ---- limits

both : (a c : Bool) → (a && c) ≡ true → (a ≡ true) × (c ≡ true)
both true true e = (refl, refl)
both true false e = cc
both false c e = cc

pub record Within (e : Tree) : Type 0 where
  pub small : size e ≤ 4000000
  pub shallow : depth e ≤ 512

pub within_of : (e : Tree) → fits e ≡ true → Within e
unfolding fits
within_of e h =
    let p = both (leb (size e) 4000000) (leb (depth e) 512) h in
    record { small = leb-true (size e) 4000000 p.0; shallow = leb-true (depth e) 512 p.1 }

pub fits_of : (e : Tree) → size e ≤ 4000000 → depth e ≤ 512 → fits e ≡ true
unfolding fits
fits_of e p q = rw (le-leb (size e) 4000000 p, le-leb (depth e) 512 q) refl

-- a part of an expression
pub record Part (a e : Tree) : Type 0 where
  pub less : size a ≤ size e
  pub lower : depth a ≤ depth e

pub part_fits : (a e : Tree) → Part a e → fits e ≡ true → fits a ≡ true
part_fits a e p h = let w = within_of e h in fits_of a (omega (arith, p.less, w.small)) (omega (arith, p.lower, w.shallow))

abbrev pub all_fit : List Tree → Bool
all_fit [] = true
all_fit (e ∷ es) = fits e && all_fit es

abbrev pub cut_list : List Tree → KeptList
cut_list es = cond (all_fit es) (Some es) None

all_small : (es : List Tree) → sizes (trees es) ≤ 4000000 → depths (trees es) ≤ 512 → all_fit es ≡ true
all_small [] p q = refl
all_small (e ∷ es) p q = rw (fits_of e (omega (arith, p)) (omega (arith, q)), all_small es (omega (arith, p)) (omega (arith, q))) refl

call_all : (h : Tree) (es : List Tree) → fits (call h es) ≡ true → all_fit es ≡ true
call_all h es g = let w = within_of (call h es) g in all_small es (omega (arith, w.small)) (omega (arith, w.shallow))

call_head : (h : Tree) (es : List Tree) → fits (call h es) ≡ true → fits h ≡ true
call_head h es g = part_fits h (call h es) (record { less = omega arith; lower = omega arith }) g

-- ---- laws of cutting

pub cut_true : (e : Tree) → fits e ≡ true → cut e ≡ Some e
unfolding cut
cut_true e h = rw h refl

cut_false : (e : Tree) → fits e ≡ false → cut e ≡ None
unfolding cut
cut_false e h = rw h refl

cond_of : (e : Tree) → cut e ≡ cond (fits e) (Some e) None
unfolding cut
cond_of e = refl

none_of : (u : Tree) (c : Bool) → fits u ≡ c → (c ≡ true → ⊥) → cut u ≡ None
none_of u true e k = absurd (k refl)
none_of u false e k = cut_false u e

law_one : {A : Type 0} (c : Bool) (x : A) (u : Tree) (k : Option A → Option Tree) → (fits u ≡ true → c ≡ true) → k (Some x) ≡ cut u → k None ≡ None →
    cut u ≡ k (cond c (Some x) None)
law_one true x u k h some none = sym some
law_one false x u k h some none = none_of u (fits u) refl (λ e. let t : false ≡ true = h e in cc) ∙ sym none

law_two : {A B : Type 0} (c d : Bool) (x : A) (y : B) (u : Tree) (k : Option A → Option B → Option Tree) → (fits u ≡ true → (c ≡ true) × (d ≡ true)) → k (Some x) (Some y) ≡ cut u →
    ((q : Option B) → k None q ≡ None) → k (Some x) None ≡ None → cut u ≡ k (cond c (Some x) None) (cond d (Some y) None)
law_two true true x y u k h some first second = sym some
law_two true false x y u k h some first second = none_of u (fits u) refl (λ e. let t : false ≡ true = (h e).1 in cc) ∙ sym second
law_two false d x y u k h some first second = none_of u (fits u) refl (λ e. let t : false ≡ true = (h e).0 in cc) ∙ sym (first (cond d (Some y) None))

law_three : (c d g : Bool) (x y z u : Tree) (k : Option Tree → Option Tree → Option Tree → Option Tree) → (fits u ≡ true → (c ≡ true) × (d ≡ true) × (g ≡ true)) → k (Some x) (Some y) (Some z) ≡ cut u →
    ((p q : Option Tree) → k None p q ≡ None) → ((q : Option Tree) → k (Some x) None q ≡ None) → k (Some x) (Some y) None ≡ None →
    cut u ≡ k (cond c (Some x) None) (cond d (Some y) None) (cond g (Some z) None)
law_three true true true x y z u k h some a b d = sym some
law_three true true false x y z u k h some a b d = none_of u (fits u) refl (λ e. let t : false ≡ true = (h e).2 in cc) ∙ sym d
law_three true false g x y z u k h some a b d = none_of u (fits u) refl (λ e. let t : false ≡ true = (h e).1 in cc) ∙ sym (b (cond g (Some z) None))
law_three false d g x y z u k h some a b f = none_of u (fits u) refl (λ e. let t : false ≡ true = (h e).0 in cc) ∙ sym (a (cond d (Some y) None) (cond g (Some z) None))

all_one_more : (xs : List Tree) (x : Tree) → all_fit (xs ++ x ∷ []) ≡ (all_fit xs && fits x)
all_one_more [] x = swap (fits x)
  where
    swap : (c : Bool) → (c && true) ≡ (true && c)
    swap true = refl
    swap false = refl
all_one_more (y ∷ xs) x = ap (λ c. fits y && c) (all_one_more xs x) ∙ regroup (fits y) (all_fit xs) (fits x)
  where
    regroup : (a c d : Bool) → (a && (c && d)) ≡ ((a && c) && d)
    regroup true c d = refl
    regroup false c d = refl

add_chosen : (c d : Bool) (xs : List Tree) (x : Tree) → cond (c && d) (Some (xs ++ x ∷ [])) None ≡ kept_added (cond c (Some xs) None) (cond d (Some x) None)
add_chosen true true xs x = refl
add_chosen true false xs x = refl
add_chosen false d xs x = refl

added_law : (xs : List Tree) (x : Tree) → cut_list (xs ++ x ∷ []) ≡ kept_added (cut_list xs) (cut x)
unfolding cut
added_law xs x = rw (all_one_more xs x) (add_chosen (all_fit xs) (fits x) xs x)

called_law : (h : Tree) (xs : List Tree) → cut (call h xs) ≡ kept_call (cut h) (cut_list xs)
called_law h xs =
    law_two (fits h) (all_fit xs) h xs (call h xs) kept_call (λ e. (call_head h xs e, call_all h xs e)) refl (λ q. refl) refl
    ∙ ap (λ o. kept_call o (cut_list xs)) (sym (cond_of h))

module _ (names : Names) where
  one_law : (form : Builtin) (x : Tree) → cut (make names form (x ∷ [])) ≡ kept_one names form (cut x)
  one_law form x =
      law_one (fits x) x (make names form (x ∷ [])) (kept_one names form)
      (part_fits x (make names form (x ∷ [])) (record { less = omega arith; lower = omega arith })) refl refl
      ∙ ap (kept_one names form) (sym (cond_of x))

  pair_law : (form : Builtin) (x y : Tree) → cut (make names form (x ∷ y ∷ [])) ≡ kept_pair names form (cut x) (cut y)
  pair_law form x y =
      law_two (fits x) (fits y) x y (make names form (x ∷ y ∷ [])) (kept_pair names form)
      (λ e. (part_fits x (make names form (x ∷ y ∷ [])) (record { less = omega arith; lower = omega arith }) e, part_fits y (make names form (x ∷ y ∷ [])) (record { less = omega arith; lower = omega arith }) e))
      refl (λ q. refl) refl
      ∙ ap₂ (kept_pair names form) (sym (cond_of x)) (sym (cond_of y))

  apply_law : (x y : Tree) → cut (call x (y ∷ [])) ≡ kept_apply (cut x) (cut y)
  apply_law x y =
      law_two (fits x) (fits y) x y (call x (y ∷ [])) (kept_apply)
      (λ e. (part_fits x (call x (y ∷ [])) (record { less = omega arith; lower = omega arith }) e, part_fits y (call x (y ∷ [])) (record { less = omega arith; lower = omega arith }) e))
      refl (λ q. refl) refl
      ∙ ap₂ (kept_apply) (sym (cond_of x)) (sym (cond_of y))

  triple_law : (form : Builtin) (x y z : Tree) → cut (make names form (x ∷ y ∷ z ∷ [])) ≡ kept_triple names form (cut x) (cut y) (cut z)
  triple_law form x y z =
      let u = make names form (x ∷ y ∷ z ∷ []) in
      law_three (fits x) (fits y) (fits z) x y z u (kept_triple names form)
      (λ e. (part_fits x u (record { less = omega arith; lower = omega arith }) e, part_fits y u (record { less = omega arith; lower = omega arith }) e, part_fits z u (record { less = omega arith; lower = omega arith }) e))
      refl (λ p q. refl) (λ q. refl) refl
      ∙ ap (λ o. kept_triple names form o (cond (fits y) (Some y) None) (cond (fits z) (Some z) None)) (sym (cond_of x))
      ∙ ap₂ (λ o p. kept_triple names form (cut x) o p) (sym (cond_of y)) (sym (cond_of z))

  list_law : (form : Builtin) (xs : List Tree) → cut (make names form xs) ≡ kept_list names form (cut_list xs)
  list_law form xs = law_one (all_fit xs) xs (make names form xs) (kept_list names form) (call_all (name names form) xs) refl refl

  part_law : (x : Tree) (xs : List Tree) → cut (make names Builtin.Part (x ∷ xs)) ≡ kept_part names (cut x) (cut_list xs)
  part_law x xs =
      law_two (fits x) (all_fit xs) x xs (make names Builtin.Part (x ∷ xs)) (kept_part names)
      (λ e. both (fits x) (all_fit xs) (call_all (name names Builtin.Part) (x ∷ xs) e)) refl (λ q. refl) refl
      ∙ ap (λ o. kept_part names o (cut_list xs)) (sym (cond_of x))

  inverse_law : (x : Tree) → cut (make names Builtin.Power (x ∷ minus_one ∷ [])) ≡ kept_inverse names (cut x)
  inverse_law x =
      let u = make names Builtin.Power (x ∷ minus_one ∷ []) in
      law_one (fits x) x u (kept_inverse names) (part_fits x u (record { less = omega arith; lower = omega arith })) refl refl
      ∙ ap (kept_inverse names) (sym (cond_of x))

  -- ---- chains

  more_sizes : (ts : Trees) (y : Tree) → (sizes (trees (elements ts ++ y ∷ [])) ≡ sizes ts + size y) × (depths (trees (elements ts ++ y ∷ [])) ≡ max (depths ts) (depth y))
  more_sizes nil y = (omega arith, omega arith)
  more_sizes (cons t ts) y = let r = more_sizes ts y in (omega (arith, r.0), omega (arith, r.1))

  appended_parts : (form : Builtin) (x y : Tree) → Part x (appended names form x y) × Part y (appended names form x y)
  appended_parts form (normal h ts) y =
      let r = more_sizes ts y in
      (record { less = omega (arith, r.0); lower = omega (arith, r.1) }, record { less = omega (arith, r.0); lower = omega (arith, r.1) })
  appended_parts form (integer n) y = (record { less = omega arith; lower = omega arith }, record { less = omega arith; lower = omega arith })
  appended_parts form (string n) y = (record { less = omega arith; lower = omega arith }, record { less = omega arith; lower = omega arith })
  appended_parts form (symbol n) y = (record { less = omega arith; lower = omega arith }, record { less = omega arith; lower = omega arith })

  chained_parts : (c : Bool) (form : Builtin) (x y : Tree) → Part x (cond c (appended names form x y) (make names form (x ∷ y ∷ []))) × Part y (cond c (appended names form x y) (make names form (x ∷ y ∷ [])))
  chained_parts true form x y = appended_parts form x y
  chained_parts false form x y = (record { less = omega arith; lower = omega arith }, record { less = omega arith; lower = omega arith })

  pub chained_law : (form : Builtin) (x : Phrase) (y : Tree) → keep (chained names form x y) ≡ kept_chained names form (keep x) (cut y)
  chained_law form x y =
      let u = (chained names form x y).expr in
      let p = chained_parts (is_open_in form x.kind) form x.expr y in
      ap (λ (o : Option Tree). record { expr = o; kind = Open form })
      (law_two (fits y) (fits x.expr) y x.expr u (chained_one names form x.kind)
      (λ e. (part_fits y u p.1 e, part_fits x.expr u p.0 e)) refl (λ q. refl) refl
      ∙ ap₂ (chained_one names form x.kind) (sym (cond_of y)) (sym (cond_of x.expr)))

  -- ---- negation

  product_of : (es : List Tree) → (sizes (trees es) ≤ sizes (trees (negated_elements names es))) × (depths (trees es) ≤ depths (trees (negated_elements names es)))
  product_of [] = (omega arith, omega arith)
  product_of (integer (pos n) ∷ es) = (omega arith, omega arith)
  product_of (integer (negsuc n) ∷ es) = (omega arith, omega arith)
  product_of (string n ∷ es) = (omega arith, omega arith)
  product_of (symbol n ∷ es) = (omega arith, omega arith)
  product_of (normal h ts ∷ es) = (omega arith, omega arith)

  product_part : (e : Tree) → Part e (negated_product names e)
  product_part (normal h ts) =
      let r = product_of (elements ts) in
      let s : trees (elements ts) ≡ ts = trees-elements ts in
      record {
        less = omega (arith, r.0, ap sizes s);
        lower = omega (arith, r.1, ap depths s);
      }
  product_part (integer n) = record { less = omega arith; lower = omega arith }
  product_part (string n) = record { less = omega arith; lower = omega arith }
  product_part (symbol n) = record { less = omega arith; lower = omega arith }

  number_part : (e : Tree) → Part e (negated_number names e)
  number_part (integer (pos n)) = record { less = omega arith; lower = omega arith }
  number_part (integer (negsuc n)) = record { less = omega arith; lower = omega arith }
  number_part (normal h ts) = record { less = omega arith; lower = omega arith }
  number_part (string n) = record { less = omega arith; lower = omega arith }
  number_part (symbol n) = record { less = omega arith; lower = omega arith }

  either_part : (c : Bool) (e : Tree) → Part e (cond c (negated_product names e) (negative names e))
  either_part true e = product_part e
  either_part false e = record { less = omega arith; lower = omega arith }

  negated_part : (kind : PhraseKind) (e : Tree) → Part e (negated_by names kind e)
  negated_part NumberToken e = number_part e
  negated_part Closed e = record { less = omega arith; lower = omega arith }
  negated_part NameToken e = record { less = omega arith; lower = omega arith }
  negated_part (Open form) e = either_part (is_open_in Builtin.Times (Open form)) e

  pub negated_law : (kind : PhraseKind) (e : Tree) → cut (negated_by names kind e) ≡ negated_one names (cut e) kind
  negated_law kind e =
      law_one (fits e) e (negated_by names kind e) (λ o. negated_one names o kind) (part_fits e (negated_by names kind e) (negated_part kind e)) refl refl
      ∙ ap (λ o. negated_one names o kind) (sym (cond_of e))

  -- ---- all constructs

  join_law : (g : Gives) (x y : Phrase) → keep (joined names g x y) ≡ kept_join names g (keep x) (keep y)
  join_law (Gives.Pair form) x y = ap whole (pair_law form x.expr y.expr)
  join_law (Gives.Chain form) x y = chained_law form x y.expr
  join_law Gives.Quotient x y = chained_law Builtin.Times x (make names Builtin.Power (y.expr ∷ minus_one ∷ [])) ∙ ap (kept_chained names Builtin.Times (keep x)) (inverse_law y.expr)
  join_law Gives.Difference x y = chained_law Builtin.Plus x (negated_by names y.kind y.expr) ∙ ap (kept_chained names Builtin.Plus (keep x)) (negated_law y.kind y.expr)
  join_law Gives.CallOfLeft x y = ap whole (apply_law x.expr y.expr)
  join_law Gives.CallOfRight x y = ap whole (apply_law y.expr x.expr)
  join_law Gives.Naming x y = ap whole (pair_law Builtin.Pattern x.expr y.expr)

  lead_law : (op : Prefix) (x : Phrase) → keep (led names op x) ≡ kept_lead names op (keep x)
  lead_law Prefix.PreIncrement x = ap whole (one_law Builtin.PreIncrement x.expr)
  lead_law Prefix.PreDecrement x = ap whole (one_law Builtin.PreDecrement x.expr)
  lead_law Prefix.Not x = ap whole (one_law Builtin.Not x.expr)
  lead_law Prefix.Negate x = ap (λ (o : Option Tree). record { expr = o; kind = negated_kind names x.kind }) (negated_law x.kind x.expr)

  trail_law : (op : Postfix) (x : Phrase) → keep (trailed names op x) ≡ whole (kept_one names (trail_row op) (cut x.expr))
  trail_law Postfix.Increment x = ap whole (one_law Builtin.Increment x.expr)
  trail_law Postfix.Decrement x = ap whole (one_law Builtin.Decrement x.expr)
  trail_law Postfix.Function x = ap whole (one_law Builtin.Function x.expr)
  trail_law Postfix.Unset x = ap whole (one_law Builtin.Unset x.expr)

  null_law : cut (name names Builtin.Null) ≡ Some (name names Builtin.Null)
  null_law = cut_true (name names Builtin.Null) (fits_of (name names Builtin.Null) (omega arith) (omega arith))

  pub cuts : Carries Phrase Tree (List Tree) Kept (Option Tree) KeptList (written names) (kept names) keep cut cut_list
  cuts = record {
    leaf = λ l. refl;
    expr = λ x. refl;
    grouped = λ x. refl;
    none = refl;
    added = added_law;
    listed = λ es. ap whole (list_law Builtin.List es);
    called = λ h es. ap whole (called_law h es);
    parted = λ e es. ap whole (part_law e es);
    joined = λ op x y. join_law (gives_of op) x y;
    accepts = λ op x. refl;
    led = lead_law;
    trailed = trail_law;
    ended = λ x. chained_law Builtin.CompoundExpression x (name names Builtin.Null) ∙ ap (kept_chained names Builtin.CompoundExpression (keep x)) null_law;
    tagged = λ form x y z. ap whole (triple_law form x.expr y.expr z.expr);
  }
