-- Each expression as it is shown, from its head and elements as they are shown.
use Rattle.std.proofs.Common.{◌≡◌, refl, sym, ap, ap₂, subst, subst₂, ◌∙◌, ℕ, ◌+◌, ◌<◌, ◌≤◌, ◌⊎◌, inl, inr, ⊎_elim, Bool, true, false, cond, List, [], ◌∷◌, ◌++◌, append-nil, true≢false, arith, ne_eqb, eqb-true, le-leb, leb-true, pos, negsuc}
use Rattle.std.specs.Prelude.{◌==◌, ◌&&◌, leb, not, codes}
use Rattle.std.specs.Fmt.{decimal}
use Rattle.expr_tree.specs.declared.sym.Sym.{Sym}
use Rattle.expr_tree.specs.Tree.{Tree, Trees, integer, string, symbol, normal, nil, cons, elements, count, depth}
use Rattle.expr_tree.proofs.Trees.{trees-elements}
use Rattle.semantics.specs.declared.builtin.Builtin.{Builtin}
use Rattle.semantics.specs.Names.{Names, make, name}
use Rattle.script_text.specs.Spelling.{Spelling, symbol_text}
use Rattle.script_text.specs.FullForm.{IsSpelled}
use Rattle.script_text.proofs.Again.{IsFound, AreFound}
use Rattle.syntax.specs.Leaves.{blank_row, blank_head}
use Rattle.syntax.specs.Shapes as s
use Rattle.syntax.specs.Phrases.{minus_one}
use Rattle.syntax.specs.Input.{Shown, at_level, together, form_level, form_text, fitted, form_of, shown_as, shape_at, unless_brackets, is_integer, is_minus_one, symbol_at_most, slot_number, product_form, blank_shape, is_blank, named_form, shown, all_shown}
use Rattle.laws_readback.specs.Showable.{IsShowable, AreShowable}
use Rattle.laws_readback.proofs.Scans.{both_true, not_true}
use Rattle.laws_readback.proofs.Blanks.{AreMarks, one, two, three, MayName, nothing, a_name, head_some}
use Rattle.laws_readback.proofs.Shaped.{Placed, shaped_row, is_proper, Heads, head_shape, pair_row, chain_row}
use Rattle.laws_readback.proofs.Named.{leaf_is}
use Rattle.laws_readback.proofs.Phrases.{Good, operand}
use Rattle.laws_readback.proofs.Atoms.{name_operand, blank_good, named_good, slot_good, slots_good}
use Rattle.laws_readback.proofs.Joined.{AllGood, no_more, one_more, chain_shown, sum_shown, product_shown, negative_shown}
use Rattle.laws_readback.proofs.Enclosed.{within, braces_good, brackets_good}
use Rattle.laws_readback.proofs.Pairs.{takes_any, takes_name, pair_good, not_good, function_good}

-- ---- which form fits

more_than_one : (a b : Tree) (es : Trees) (f : s.Form) → unless_brackets (leb 2 (count (cons a (cons b es)))) f ≡ f
more_than_one a b es f = ap (λ t. unless_brackets t f) (le-leb 2 (count es + 1 + 1) (omega arith))

not_one : (a b : Tree) (es : Trees) (f : s.Form) → unless_brackets (count (cons a (cons b es)) == 1) f ≡ s.Brackets
not_one a b es f = ap (λ t. unless_brackets t f) (ne_eqb (count es + 1 + 1) 1 (omega arith))

not_two : (a b c : Tree) (es : Trees) (f : s.Form) → unless_brackets (count (cons a (cons b (cons c es))) == 2) f ≡ s.Brackets
not_two a b c es f = ap (λ t. unless_brackets t f) (ne_eqb (count es + 1 + 1 + 1) 2 (omega arith))

is_minus : (a : Tree) → is_minus_one a ≡ true → a ≡ minus_one
is_minus (integer (negsuc n)) e = ap (λ (k : ℕ). integer (negsuc k)) (eqb-true n 0 e)
is_minus (integer (pos n)) e = absurd (true≢false (sym e))
is_minus (string t) e = absurd (true≢false (sym e))
is_minus (symbol x) e = absurd (true≢false (sym e))
is_minus (normal h es) e = absurd (true≢false (sym e))

left_low : (p : s.Pair) → s.pair_left p ≤ 27
left_low s.PatternTest = omega arith
left_low s.Power = omega arith
left_low s.Condition = omega arith
left_low s.Rule = omega arith
left_low s.RuleDelayed = omega arith
left_low s.ReplaceAll = omega arith
left_low s.ReplaceRepeated = omega arith
left_low s.Set = omega arith
left_low s.SetDelayed = omega arith
left_low s.Naming = omega arith

right_low : (p : s.Pair) → s.pair_right p ≤ 27
right_low s.PatternTest = omega arith
right_low s.Power = omega arith
right_low s.Condition = omega arith
right_low s.Rule = omega arith
right_low s.RuleDelayed = omega arith
right_low s.ReplaceAll = omega arith
right_low s.ReplaceRepeated = omega arith
right_low s.Set = omega arith
right_low s.SetDelayed = omega arith
right_low s.Naming = omega arith

-- the marks of a blank
record Marked (m : s.Mark) : Type 0 where
  k : ℕ
  marks : AreMarks (s.mark_sign m) k
  row : blank_row k ≡ shaped_row (s.Blank m)

marked : (m : s.Mark) → is_proper (s.Blank m) ≡ true → Marked m
marked s.One e = record { k = 1; marks = one; row = refl }
marked s.Two e = record { k = 2; marks = two; row = refl }
marked s.Three e = record { k = 3; marks = three; row = refl }
marked s.Hash e = absurd (true≢false (sym e))
marked s.Hashes e = absurd (true≢false (sym e))
marked s.Nothing e = absurd (true≢false (sym e))

module _ (names : Names) (agree : Placed names) (find : List ℕ → ℕ) (spelling : Spelling) where
  abbrev pub shape : Sym → s.Shape
  shape = s.shape_in names

  abbrev pub show : Tree → Shown
  show e = shown spelling shape e

  abbrev pub show_all : Trees → List Shown
  show_all es = all_shown spelling shape es

  abbrev pub GoodOf : Tree → Type 0
  GoodOf e = Good names find e (show e).level (show e).text (depth e)

  -- the expression, shown in a form
  abbrev pub InForm : Tree → Trees → ℕ → s.Form → Type 0
  InForm h es d f = Good names find (normal h es) (form_level f) (form_text f (show h) (show_all es)) d

  pub record Parts (h : Tree) (es : Trees) (d : ℕ) : Type 0 where
    pub head : GoodOf h
    pub below : depth h < d
    pub items : AllGood names find d (show_all es) (elements es)
    pub showable : AreShowable spelling es
    pub found : AreFound find spelling es

  positive : {h : Tree} {es : Trees} {d : ℕ} → Parts h es d → 0 < d
  positive p = let b = p.below in omega (arith, b)

  in_brackets : (h : Tree) (es : Trees) (d : ℕ) → Parts h es d → InForm h es d s.Brackets
  in_brackets h es d p =
      subst (λ (us : Trees). Good names find (normal h us) 25 (form_text s.Brackets (show h) (show_all es)) d) (trees-elements es)
      (brackets_good names find p.below (operand names find h 25 (show h) (depth h) (omega arith) p.head) (within names find (positive p) p.items))

  -- the elements under the symbol of a row
  of_row : {h : Tree} {es : Trees} {d level : ℕ} {t : List ℕ} (row : Builtin) → h ≡ name names row → Good names find (make names row (elements es)) level t d → Good names find (normal h es) level t d
  of_row {h} {es} {d} {level} {t} row e g =
      subst₂ (λ (x : Tree) (us : Trees). Good names find (normal x us) level t d) (sym e) (trees-elements es) g

  in_form : {h : Tree} {es : Trees} {d : ℕ} (f f' : s.Form) → f ≡ f' → InForm h es d f' → InForm h es d f
  in_form {h} {es} {d} f f' e g = subst (λ (v : s.Form). InForm h es d v) (sym e) g

  -- ---- two or more operands

  rest_of : {d : ℕ} {t : Shown} {ts : List Shown} {e : Tree} {es : List Tree} → AllGood names find d (t ∷ ts) (e ∷ es) → AllGood names find d ts es
  rest_of (one_more k g l rest) = rest

  times_form : (h : Tree) (es : Trees) (d : ℕ) → h ≡ name names Builtin.Times → Parts h es d → InForm h es d (unless_brackets (leb 2 (count es)) (product_form es))
  times_form h nil d e p = in_brackets h nil d p
  times_form h (cons a nil) d e p = in_brackets h (cons a nil) d p
  times_form h (cons a (cons b es)) d e p = in_form _ _ (more_than_one a b es (product_form (cons a (cons b es)))) (go (is_minus_one a && not (is_integer b)) refl)
    where
      go : (t : Bool) → (is_minus_one a && not (is_integer b)) ≡ t → InForm h (cons a (cons b es)) d (cond t s.Negative s.Product)
      go true q =
          let both = both_true (is_minus_one a) (not (is_integer b)) q in
          let first : minus_one ≡ a = sym (is_minus a both.0) in
          of_row {es = cons a (cons b es)} Builtin.Times e
          (subst (λ (x : Tree). Good names find (make names Builtin.Times (x ∷ b ∷ elements es)) 18 (form_text s.Negative (show h) (show_all (cons a (cons b es)))) d) first
          (negative_shown names find (not_true (is_integer b) both.1) (rest_of p.items)))
      go false q = of_row {es = cons a (cons b es)} Builtin.Times e (product_shown names find p.items)

  plus_form : (h : Tree) (es : Trees) (d : ℕ) → h ≡ name names Builtin.Plus → Parts h es d → InForm h es d (unless_brackets (leb 2 (count es)) s.Sum)
  plus_form h nil d e p = in_brackets h nil d p
  plus_form h (cons a nil) d e p = in_brackets h (cons a nil) d p
  plus_form h (cons a (cons b es)) d e p = in_form _ _ (more_than_one a b es s.Sum) (of_row {es = cons a (cons b es)} Builtin.Plus e (sum_shown names find p.items))

  chain_form : (c : s.Chain) (h : Tree) (es : Trees) (d : ℕ) → h ≡ name names (chain_row c) → Parts h es d → InForm h es d (unless_brackets (leb 2 (count es)) (s.Chained c))
  chain_form c h nil d e p = in_brackets h nil d p
  chain_form c h (cons a nil) d e p = in_brackets h (cons a nil) d p
  chain_form c h (cons a (cons b es)) d e p = in_form _ _ (more_than_one a b es (s.Chained c)) (of_row {es = cons a (cons b es)} (chain_row c) e (chain_shown names find c p.items))

  -- ---- one operand

  not_items : {d : ℕ} {t : Shown} {a : Tree} → AllGood names find d (t ∷ []) (a ∷ []) → Good names find (make names Builtin.Not (a ∷ [])) 14 (codes "!" ++ together [] 14 (t ∷ [])) d
  not_items {d} {t} {a} (one_more k g l no_more) =
      subst (λ (us : List ℕ). Good names find (make names Builtin.Not (a ∷ [])) 14 (33 ∷ us) d) (sym (append-nil (at_level 14 t))) (not_good names find l (operand names find a 14 t k (omega arith) g))

  function_items : {d : ℕ} {t : Shown} {a : Tree} → AllGood names find d (t ∷ []) (a ∷ []) → Good names find (make names Builtin.Function (a ∷ [])) 5 (together [] 6 (t ∷ []) ++ codes " &") d
  function_items {d} {t} {a} (one_more k g l no_more) =
      subst (λ (us : List ℕ). Good names find (make names Builtin.Function (a ∷ [])) 5 (us ++ codes " &") d) (sym (append-nil (at_level 6 t))) (function_good names find l (operand names find a 6 t k (omega arith) g))

  not_form : (h : Tree) (es : Trees) (d : ℕ) → h ≡ name names Builtin.Not → Parts h es d → InForm h es d (unless_brackets (count es == 1) s.Negation)
  not_form h nil d e p = in_brackets h nil d p
  not_form h (cons a nil) d e p = of_row {es = cons a nil} Builtin.Not e (not_items p.items)
  not_form h (cons a (cons b es)) d e p = in_form _ _ (not_one a b es s.Negation) (in_brackets h (cons a (cons b es)) d p)

  function_form : (h : Tree) (es : Trees) (d : ℕ) → h ≡ name names Builtin.Function → Parts h es d → InForm h es d (unless_brackets (count es == 1) s.Ampersand)
  function_form h nil d e p = in_brackets h nil d p
  function_form h (cons a nil) d e p = of_row {es = cons a nil} Builtin.Function e (function_items p.items)
  function_form h (cons a (cons b es)) d e p = in_form _ _ (not_one a b es s.Ampersand) (in_brackets h (cons a (cons b es)) d p)

  -- ---- two operands

  pair_items : {d : ℕ} {t u : Shown} {a b : Tree} (p : s.Pair) → is_proper (s.Pairs p) ≡ true → AllGood names find d (t ∷ u ∷ []) (a ∷ b ∷ [])
      → Good names find (make names (pair_row p) (a ∷ b ∷ [])) (s.pair_level p) (at_level (s.pair_left p) t ++ s.pair_sign p ++ at_level (s.pair_right p) u) d
  pair_items {t = t} {u = u} {a = a} {b = b} p e (one_more k g l (one_more k' g' l' no_more)) =
      let o = operand names find a (s.pair_left p) t k (left_low p) g in
      pair_good names find p o (takes_any names find p o.kind e) l (operand names find b (s.pair_right p) u k' (right_low p) g') l'

  pair_form : (q : s.Pair) (h : Tree) (es : Trees) (d : ℕ) → is_proper (s.Pairs q) ≡ true → h ≡ name names (pair_row q) → Parts h es d → InForm h es d (unless_brackets (count es == 2) (s.Paired q))
  pair_form q h nil d i e p = in_brackets h nil d p
  pair_form q h (cons a nil) d i e p = in_brackets h (cons a nil) d p
  pair_form q h (cons a (cons b nil)) d i e p = of_row {es = cons a (cons b nil)} (pair_row q) e (pair_items q i p.items)
  pair_form q h (cons a (cons b (cons c es))) d i e p = in_form _ _ (not_two a b c es (s.Paired q)) (in_brackets h (cons a (cons b (cons c es))) d p)

  -- ---- blanks and slots

  record BlankItems (es : Trees) : Type 0 where
    written : List ℕ
    may : MayName written
    head : blank_head names find written ≡ elements es
    text : together [] 27 (show_all es) ≡ written

  blank_items : (es : Trees) → symbol_at_most es ≡ true → AreShowable spelling es → AreFound find spelling es → BlankItems es
  blank_items nil e w f = record { written = []; may = nothing; head = refl; text = refl }
  blank_items (cons (symbol x) nil) e w f = record {
    written = symbol_text spelling x;
    may = a_name w.0.is_name;
    head = head_some names find (symbol_text spelling x) w.0.is_name ∙ ap (λ (v : Tree). v ∷ []) (leaf_is names find spelling x w.0 f.0);
    text = append-nil (symbol_text spelling x);
  }
  blank_items (cons (integer n) nil) e w f = absurd (true≢false (sym e))
  blank_items (cons (string t) nil) e w f = absurd (true≢false (sym e))
  blank_items (cons (normal h es) nil) e w f = absurd (true≢false (sym e))
  blank_items (cons a (cons b es)) e w f = absurd (true≢false (sym e))

  -- what a blank's text makes is the expression
  blank_made : {h : Tree} {es : Trees} (k : ℕ) (t : List ℕ) (m : s.Mark) → Heads names h (s.Blank m) → blank_row k ≡ shaped_row (s.Blank m) → blank_head names find t ≡ elements es
      → make names (blank_row k) (blank_head names find t) ≡ normal h es
  blank_made {h} {es} k t m hd r e =
      ap₂ (λ (row : Builtin) (us : List Tree). make names row us) r e ∙ ap₂ normal (sym hd.is) (trees-elements es)

  blank_form : (m : s.Mark) (h : Tree) (es : Trees) (d : ℕ) → Heads names h (s.Blank m) → Parts h es d → InForm h es d (unless_brackets (symbol_at_most es) (s.Marked m))
  blank_form m h es d hd p = go (symbol_at_most es) refl
    where
      go : (t : Bool) → symbol_at_most es ≡ t → InForm h es d (unless_brackets t (s.Marked m))
      go true q =
          let i = blank_items es q p.showable p.found in
          let k = marked m hd.proper in
          subst (λ (us : List ℕ). Good names find (normal h es) 27 (s.mark_sign m ++ us) d) (sym i.text)
          (blank_good names find (normal h es) d k.marks i.may (blank_made k.k i.written m hd k.row i.head) (positive p))
      go false q = in_brackets h es d p

  abbrev slot_text : s.Mark → ℕ → List ℕ
  slot_text m n = s.mark_sign m ++ (decimal n ++ [])

  slot_numbered : (m : s.Mark) (h : Tree) (n d : ℕ) → Heads names h (s.Slot m) → 0 < d → (leb 1 n && leb n 999999999) ≡ true → Good names find (normal h (cons (integer (pos n)) nil)) 27 (slot_text m n) d
  slot_numbered m h n d hd some q =
      let both = both_true (leb 1 n) (leb n 999999999) q in
      let low = leb-true 1 n both.0 in
      by_mark m hd low (leb-true n 999999999 both.1)
    where
      by_mark : (m : s.Mark) → Heads names h (s.Slot m) → 1 ≤ n → n ≤ 999999999 → Good names find (normal h (cons (integer (pos n)) nil)) 27 (slot_text m n) d
      by_mark s.Hash hd a b = of_row {es = cons (integer (pos n)) nil} Builtin.Slot hd.is (subst (λ (us : List ℕ). Good names find (make names Builtin.Slot (integer (pos n) ∷ [])) 27 (35 ∷ us) d) (sym (append-nil (decimal n))) (slot_good names find n d a b some))
      by_mark s.Hashes hd a b = of_row {es = cons (integer (pos n)) nil} Builtin.SlotSequence hd.is (subst (λ (us : List ℕ). Good names find (make names Builtin.SlotSequence (integer (pos n) ∷ [])) 27 (35 ∷ 35 ∷ us) d) (sym (append-nil (decimal n))) (slots_good names find n d a b some))
      by_mark s.One hd a b = absurd (true≢false (sym hd.proper))
      by_mark s.Two hd a b = absurd (true≢false (sym hd.proper))
      by_mark s.Three hd a b = absurd (true≢false (sym hd.proper))
      by_mark s.Nothing hd a b = absurd (true≢false (sym hd.proper))

  slot_form : (m : s.Mark) (h : Tree) (es : Trees) (d : ℕ) → Heads names h (s.Slot m) → Parts h es d → InForm h es d (unless_brackets (slot_number es) (s.Marked m))
  slot_form m h nil d hd p = in_brackets h nil d p
  slot_form m h (cons (integer (pos n)) nil) d hd p = go (leb 1 n && leb n 999999999) refl
    where
      go : (t : Bool) → (leb 1 n && leb n 999999999) ≡ t → InForm h (cons (integer (pos n)) nil) d (unless_brackets t (s.Marked m))
      go true q = slot_numbered m h n d hd (positive p) q
      go false q = in_brackets h (cons (integer (pos n)) nil) d p
  slot_form m h (cons (integer (negsuc n)) nil) d hd p = in_brackets h (cons (integer (negsuc n)) nil) d p
  slot_form m h (cons (string t) nil) d hd p = in_brackets h (cons (string t) nil) d p
  slot_form m h (cons (symbol x) nil) d hd p = in_brackets h (cons (symbol x) nil) d p
  slot_form m h (cons (normal g es) nil) d hd p = in_brackets h (cons (normal g es) nil) d p
  slot_form m h (cons a (cons b es)) d hd p = in_brackets h (cons a (cons b es)) d p

  -- ---- named patterns

  record BlankText (e : Tree) : Type 0 where
    k : ℕ
    marks : List ℕ
    are_marks : AreMarks marks k
    written : List ℕ
    may : MayName written
    value : make names (blank_row k) (blank_head names find written) ≡ e
    text : show e ≡ record { level = 27; text = marks ++ written }

  blank_text : (h : Tree) (es : Trees) → is_blank shape (normal h es) ≡ true → AreShowable spelling es → AreFound find spelling es → BlankText (normal h es)
  blank_text h es e w f =
      let both = both_true (blank_shape (shape_at shape h)) (symbol_at_most es) e in
      go (shape_at shape h) refl (head_shape names agree h) both.0 both.1
    where
      at_mark : (m : s.Mark) → shape_at shape h ≡ s.Blank m → Heads names h (s.Blank m) → symbol_at_most es ≡ true → BlankText (normal h es)
      at_mark m q hd b =
          let i = blank_items es b w f in
          let k = marked m hd.proper in
          record {
            k = k.k;
            marks = s.mark_sign m;
            are_marks = k.marks;
            written = i.written;
            may = i.may;
            value = blank_made k.k i.written m hd k.row i.head;
            text = ap (λ (sh : s.Shape). shown_as (fitted shape sh es) (show h) (show_all es)) q
                ∙ ap (λ (t : Bool). shown_as (unless_brackets t (s.Marked m)) (show h) (show_all es)) b
                ∙ ap (λ (us : List ℕ). record { level = 27; text = s.mark_sign m ++ us }) i.text;
          }

      go : (sh : s.Shape) → shape_at shape h ≡ sh → (sh ≡ s.Other) ⊎ Heads names h sh → blank_shape sh ≡ true → symbol_at_most es ≡ true → BlankText (normal h es)
      go (s.Blank m) q (inl o) b c = absurd (true≢false (ap blank_shape o))
      go (s.Blank m) q (inr hd) b c = at_mark m q hd c
      go s.List q o b c = absurd (true≢false (sym b))
      go s.Named q o b c = absurd (true≢false (sym b))
      go s.Times q o b c = absurd (true≢false (sym b))
      go s.Plus q o b c = absurd (true≢false (sym b))
      go s.Not q o b c = absurd (true≢false (sym b))
      go s.Function q o b c = absurd (true≢false (sym b))
      go s.Other q o b c = absurd (true≢false (sym b))
      go (s.Slot m) q o b c = absurd (true≢false (sym b))
      go (s.Pairs r) q o b c = absurd (true≢false (sym b))
      go (s.Chains r) q o b c = absurd (true≢false (sym b))

  blank_of : (a : Tree) → is_blank shape a ≡ true → IsShowable spelling a → IsFound find spelling a → BlankText a
  blank_of (normal h es) e w f = blank_text h es e w.1 f.1
  blank_of (integer n) e w f = absurd (true≢false (sym e))
  blank_of (string t) e w f = absurd (true≢false (sym e))
  blank_of (symbol x) e w f = absurd (true≢false (sym e))

  pattern_text : (x : Sym) (a : Tree) (d : ℕ) → BlankText a → IsSpelled spelling x → find (spelling x.base) ≡ x.base → 0 < d
      → Good names find (make names Builtin.Pattern (symbol x ∷ a ∷ [])) 27 (form_text (s.Marked s.Nothing) (show a) (show (symbol x) ∷ show a ∷ [])) d
  pattern_text x a d b w f h =
      let t = symbol_text spelling x in
      subst (λ (us : List ℕ). Good names find (make names Builtin.Pattern (symbol x ∷ a ∷ [])) 27 us d)
      (ap (λ (us : List ℕ). t ++ us) (sym (append-nil (b.marks ++ b.written))) ∙ ap (λ (v : Shown). t ++ (at_level 27 v ++ [])) (sym b.text))
      (named_good names find t (make names Builtin.Pattern (symbol x ∷ a ∷ [])) d w.is_name b.are_marks b.may
      (ap₂ (λ (u v : Tree). make names Builtin.Pattern (u ∷ v ∷ [])) (leaf_is names find spelling x w f) b.value) h)

  naming_text : {t u : Shown} {a : Tree} {d : ℕ} (x : Sym) → t ≡ show (symbol x) → IsSpelled spelling x → find (spelling x.base) ≡ x.base → AllGood names find d (t ∷ u ∷ []) (symbol x ∷ a ∷ [])
      → Good names find (make names Builtin.Pattern (symbol x ∷ a ∷ [])) 10 (at_level 27 (show (symbol x)) ++ codes ":" ++ at_level 11 u) d
  naming_text {u = u} {a = a} x q w f (one_more k g l (one_more k' g' l' no_more)) =
      let o = name_operand names find (symbol_text spelling x) x 27 1 w.is_name (leaf_is names find spelling x w f) (omega arith) (omega arith) in
      pair_good names find s.Naming o.0 (takes_name names find o.0.kind o.1) (omega (arith, l, g.some)) (operand names find a 11 u k' (omega arith) g') l'

  named_symbol : (h : Tree) (x : Sym) (a : Tree) (d : ℕ) → h ≡ name names Builtin.Pattern → Parts h (cons (symbol x) (cons a nil)) d
      → InForm h (cons (symbol x) (cons a nil)) d (cond (is_blank shape a) (s.Marked s.Nothing) (s.Paired s.Naming))
  named_symbol h x a d e p = go (is_blank shape a) refl
    where
      go : (t : Bool) → is_blank shape a ≡ t → InForm h (cons (symbol x) (cons a nil)) d (cond t (s.Marked s.Nothing) (s.Paired s.Naming))
      go false i = of_row {es = cons (symbol x) (cons a nil)} Builtin.Pattern e (naming_text x refl p.showable.0 p.found.0 p.items)
      go true i = of_row {es = cons (symbol x) (cons a nil)} Builtin.Pattern e (pattern_text x a d (blank_of a i p.showable.1.0 p.found.1.0) p.showable.0 p.found.0 (positive p))

  named_form_good : (h : Tree) (es : Trees) (d : ℕ) → h ≡ name names Builtin.Pattern → Parts h es d → InForm h es d (named_form shape es)
  named_form_good h nil d e p = in_brackets h nil d p
  named_form_good h (cons a nil) d e p = in_brackets h (cons a nil) d p
  named_form_good h (cons (symbol x) (cons a nil)) d e p = named_symbol h x a d e p
  named_form_good h (cons (integer n) (cons a nil)) d e p = in_brackets h (cons (integer n) (cons a nil)) d p
  named_form_good h (cons (string t) (cons a nil)) d e p = in_brackets h (cons (string t) (cons a nil)) d p
  named_form_good h (cons (normal g fs) (cons a nil)) d e p = in_brackets h (cons (normal g fs) (cons a nil)) d p
  named_form_good h (cons a (cons b (cons c es))) d e p = in_brackets h (cons a (cons b (cons c es))) d p

  -- ---- every expression

  shape_good : (sh : s.Shape) (h : Tree) (es : Trees) (d : ℕ) → Heads names h sh → Parts h es d → InForm h es d (fitted shape sh es)
  shape_good s.List h es d hd p = of_row Builtin.List hd.is (braces_good names find (within names find (positive p) p.items))
  shape_good s.Named h es d hd p = named_form_good h es d hd.is p
  shape_good s.Times h es d hd p = times_form h es d hd.is p
  shape_good s.Plus h es d hd p = plus_form h es d hd.is p
  shape_good s.Not h es d hd p = not_form h es d hd.is p
  shape_good s.Function h es d hd p = function_form h es d hd.is p
  shape_good s.Other h es d hd p = in_brackets h es d p
  shape_good (s.Blank m) h es d hd p = blank_form m h es d hd p
  shape_good (s.Slot m) h es d hd p = slot_form m h es d hd p
  shape_good (s.Pairs q) h es d hd p = pair_form q h es d hd.proper hd.is p
  shape_good (s.Chains c) h es d hd p = chain_form c h es d hd.is p

  pub form_good : (h : Tree) (es : Trees) (d : ℕ) → Parts h es d → InForm h es d (form_of shape h es)
  form_good h es d p =
      ⊎_elim (λ (o : shape_at shape h ≡ s.Other). in_form {h = h} {es = es} {d = d} _ _ (ap (λ (sh : s.Shape). fitted shape sh es) o) (in_brackets h es d p))
      (λ (hd : Heads names h (shape_at shape h)). shape_good (shape_at shape h) h es d hd p) (head_shape names agree h)
