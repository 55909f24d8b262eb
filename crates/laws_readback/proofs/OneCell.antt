-- An input form is one line, and a cell by itself.
use Rattle.std.proofs.Common.{◌≡◌, refl, sym, ap, subst, ◌∙◌, ℕ, suc, ◌<◌, ◌^◌, Bool, true, false, cond, map, List, [], ◌∷◌, ◌++◌, length, append-nil, true≢false, arith, eqb-true, ltb-true, pos, negsuc, ltb}
use Rattle.std.specs.Prelude.{◌==◌, ◌&&◌, codes, drop}
use Rattle.std.specs.Fmt.{decimal}
use Rattle.expr_tree.specs.declared.sym.Sym.{Sym}
use Rattle.expr_tree.specs.Tree.{Tree, Trees, integer, string, symbol, normal, nil, cons}
use Rattle.script_text.specs.Bytes.{is_digit, in_name, is_space, is_white, all, begins_name, begins_with, each_after}
use Rattle.script_text.specs.Cells.{lines, in_first, is_blank, and_line, runs, all_runs, cell_text, cells}
use Rattle.script_text.specs.Spelling.{Spelling, symbol_text}
use Rattle.script_text.specs.Full.{escaped, escaped_by, all_escaped, quoted}
use Rattle.semantics.specs.Texts.{names_of}
use Rattle.syntax.specs.Leaves.{has_feed}
use Rattle.syntax.specs.Shapes as s
use Rattle.syntax.specs.Tokens as tok
use Rattle.syntax.specs.Input.{Shown, at_level, all_at, together, term_after, terms_after, sum_text, factors, negative_text, pair_text, form_text, form_of, shown, all_shown, input}
use Rattle.script_text.specs.Spelling.{by_texts, place_in}
use Rattle.laws_readback.specs.Laws.{shown_by, InputIsOneCell}
use Rattle.laws_readback.proofs.Again.{operand_by}
use Rattle.laws_readback.proofs.Whole.{has_word}
use Rattle.laws_readback.specs.Showable.{IsShowable, AreShowable}
use Rattle.laws_readback.proofs.Pieces.{Piece, word, gap, bytes, words, AreCut}
use Rattle.laws_readback.proofs.Scans.{both_true, or_false, scan_is, scan_by}
use Rattle.laws_readback.proofs.Leaves.{numeral}
use Rattle.laws_readback.proofs.Blanks.{names_all}

abbrev Feedless : List ℕ → Type 0
Feedless t = has_feed t ≡ false

feedless_then : (t u : List ℕ) → Feedless t → Feedless u → Feedless (t ++ u)
feedless_then [] u e f = f
feedless_then (c ∷ t) u e f = go (c == 10) (feedless_then t u) e
  where
    go : (b : Bool) → (Feedless t → Feedless u → Feedless (t ++ u)) → elim b as (λ _. Bool) [ true ↦ true | false ↦ has_feed t ] ≡ false → elim b as (λ _. Bool) [ true ↦ true | false ↦ has_feed (t ++ u) ] ≡ false
    go true next e = e
    go false next e = next e f

feedless_drop : (t : List ℕ) → Feedless t → Feedless (drop 1 t)
feedless_drop [] e = e
feedless_drop (c ∷ t) e = go (c == 10) e
  where
    go : (b : Bool) → elim b as (λ _. Bool) [ true ↦ true | false ↦ has_feed t ] ≡ false → Feedless t
    go true e = absurd (true≢false e)
    go false e = e

feedless_all : (test : ℕ → Bool) (t : List ℕ) → test 10 ≡ false → all test t ≡ true → Feedless t
feedless_all test [] n a = refl
feedless_all test (c ∷ t) n a =
    let both = both_true (test c) (all test t) a in
    go (c == 10) refl both.0 (feedless_all test t n both.1)
  where
    go : (b : Bool) → (c == 10) ≡ b → test c ≡ true → Feedless t → elim b as (λ _. Bool) [ true ↦ true | false ↦ has_feed t ] ≡ false
    go true e p next = absurd (true≢false (sym p ∙ ap test (eqb-true c 10 e) ∙ n))
    go false e p next = next

feedless_if : (b : Bool) (t u : List ℕ) → Feedless t → Feedless u → Feedless (cond b t u)
feedless_if true t u e f = e
feedless_if false t u e f = f

-- ---- atoms

feedless_decimal : (n : ℕ) → n < 2 ^ 128 → Feedless (decimal n)
feedless_decimal n h = feedless_all is_digit (decimal n) refl (numeral n (omega arith)).digits

feedless_escaped : (c : ℕ) → Feedless (escaped c)
feedless_escaped c = go (c == 34) (c == 92) (c == 10) (c == 9) refl
  where
    go : (p q r t : Bool) → (c == 10) ≡ r → Feedless (escaped_by p q r t c)
    go true q r t e = refl
    go false true r t e = refl
    go false false true t e = refl
    go false false false true e = refl
    go false false false false e = ap (λ b. elim b as (λ _. Bool) [ true ↦ true | false ↦ false ]) e

feedless_all_escaped : (t : List ℕ) → Feedless (all_escaped t)
feedless_all_escaped [] = refl
feedless_all_escaped (c ∷ t) = feedless_then (escaped c) (all_escaped t) (feedless_escaped c) (feedless_all_escaped t)

feedless_quoted : (t : List ℕ) → Feedless (quoted t)
feedless_quoted t = feedless_then (all_escaped t) (34 ∷ []) (feedless_all_escaped t) refl

-- ---- forms

abbrev AllFeedless : List Shown → Type 0
AllFeedless [] = Unit {0}
AllFeedless (e ∷ es) = Feedless e.text × AllFeedless es

feedless_at : (p : ℕ) (e : Shown) → Feedless e.text → Feedless (at_level p e)
feedless_at p e f = feedless_if (ltb e.level p) (40 ∷ e.text ++ (41 ∷ [])) e.text (feedless_then e.text (41 ∷ []) f refl) f

feedless_after : (between : List ℕ) (p : ℕ) (es : List Shown) → Feedless between → AllFeedless es → Feedless (each_after between (all_at p es))
feedless_after between p [] b a = refl
feedless_after between p (e ∷ es) b a =
    feedless_then (between ++ at_level p e) (each_after between (all_at p es)) (feedless_then between (at_level p e) b (feedless_at p e a.0)) (feedless_after between p es b a.1)

feedless_together : (between : List ℕ) (p : ℕ) (es : List Shown) → Feedless between → AllFeedless es → Feedless (together between p es)
feedless_together between p [] b a = refl
feedless_together between p (e ∷ es) b a = feedless_then (at_level p e) (each_after between (all_at p es)) (feedless_at p e a.0) (feedless_after between p es b a.1)

feedless_term : (t : List ℕ) → Feedless t → Feedless (term_after t)
feedless_term t f = feedless_if (begins_with (codes "-") t) (codes " - " ++ drop 1 t) (codes " + " ++ t) (feedless_then (codes " - ") (drop 1 t) refl (feedless_drop t f)) (feedless_then (codes " + ") t refl f)

feedless_terms : (es : List Shown) → AllFeedless es → Feedless (terms_after es)
feedless_terms [] a = refl
feedless_terms (e ∷ es) a = feedless_then (term_after (at_level 18 e)) (terms_after es) (feedless_term (at_level 18 e) (feedless_at 18 e a.0)) (feedless_terms es a.1)

feedless_sum : (es : List Shown) → AllFeedless es → Feedless (sum_text es)
feedless_sum [] a = refl
feedless_sum (e ∷ es) a = feedless_then (at_level 18 e) (terms_after es) (feedless_at 18 e a.0) (feedless_terms es a.1)

feedless_factors : (es : List Shown) → AllFeedless es → Feedless (factors es)
feedless_factors [] a = refl
feedless_factors (e ∷ es) a =
    feedless_then (codes "-" ++ at_level 20 e) (each_after (codes "*") (all_at 19 es)) (feedless_then (codes "-") (at_level 20 e) refl (feedless_at 20 e a.0)) (feedless_after (codes "*") 19 es refl a.1)

feedless_negative : (es : List Shown) → AllFeedless es → Feedless (negative_text es)
feedless_negative [] a = refl
feedless_negative (e ∷ es) a = feedless_factors es a.1

feedless_pair_sign : (p : s.Pair) → Feedless (s.pair_sign p)
feedless_pair_sign s.PatternTest = refl
feedless_pair_sign s.Power = refl
feedless_pair_sign s.Condition = refl
feedless_pair_sign s.Rule = refl
feedless_pair_sign s.RuleDelayed = refl
feedless_pair_sign s.ReplaceAll = refl
feedless_pair_sign s.ReplaceRepeated = refl
feedless_pair_sign s.Set = refl
feedless_pair_sign s.SetDelayed = refl
feedless_pair_sign s.Naming = refl

feedless_pair : (p : s.Pair) (es : List Shown) → AllFeedless es → Feedless (pair_text p es)
feedless_pair p [] a = refl
feedless_pair p (d ∷ []) a = refl
feedless_pair p (d ∷ e ∷ []) a =
    feedless_then (at_level (s.pair_left p) d ++ s.pair_sign p) (at_level (s.pair_right p) e)
    (feedless_then (at_level (s.pair_left p) d) (s.pair_sign p) (feedless_at (s.pair_left p) d a.0) (feedless_pair_sign p)) (feedless_at (s.pair_right p) e a.1.0)
feedless_pair p (d ∷ e ∷ f ∷ es) a = refl

feedless_chain_sign : (c : s.Chain) → Feedless (s.chain_sign c)
feedless_chain_sign s.Equal = refl
feedless_chain_sign s.Unequal = refl
feedless_chain_sign s.Less = refl
feedless_chain_sign s.LessEqual = refl
feedless_chain_sign s.Greater = refl
feedless_chain_sign s.GreaterEqual = refl
feedless_chain_sign s.SameQ = refl
feedless_chain_sign s.UnsameQ = refl
feedless_chain_sign s.And = refl
feedless_chain_sign s.Or = refl
feedless_chain_sign s.Alternatives = refl
feedless_chain_sign s.CompoundExpression = refl

feedless_mark : (m : s.Mark) → Feedless (s.mark_sign m)
feedless_mark s.One = refl
feedless_mark s.Two = refl
feedless_mark s.Three = refl
feedless_mark s.Hash = refl
feedless_mark s.Hashes = refl
feedless_mark s.Nothing = refl

feedless_form : (f : s.Form) (h : Shown) (es : List Shown) → Feedless h.text → AllFeedless es → Feedless (form_text f h es)
feedless_form s.Braces h es d a =
    feedless_then (codes "{" ++ together (codes ", ") 2 es) (codes "}") (feedless_then (codes "{") (together (codes ", ") 2 es) refl (feedless_together (codes ", ") 2 es refl a)) refl
feedless_form s.Product h es d a = feedless_together (codes "*") 19 es refl a
feedless_form s.Negative h es d a = feedless_negative es a
feedless_form s.Sum h es d a = feedless_sum es a
feedless_form s.Negation h es d a = feedless_then (codes "!") (together [] 14 es) refl (feedless_together [] 14 es refl a)
feedless_form s.Ampersand h es d a = feedless_then (together [] 6 es) (codes " &") (feedless_together [] 6 es refl a) refl
feedless_form s.Brackets h es d a =
    feedless_then (at_level 25 h ++ codes "[" ++ together (codes ", ") 2 es) (codes "]")
    (feedless_then (at_level 25 h ++ codes "[") (together (codes ", ") 2 es) (feedless_then (at_level 25 h) (codes "[") (feedless_at 25 h d) refl) (feedless_together (codes ", ") 2 es refl a)) refl
feedless_form (s.Marked m) h es d a = feedless_then (s.mark_sign m) (together [] 27 es) (feedless_mark m) (feedless_together [] 27 es refl a)
feedless_form (s.Paired p) h es d a = feedless_pair p es a
feedless_form (s.Chained c) h es d a = feedless_together (s.chain_sign c) (s.chain_part c) es (feedless_chain_sign c) a

module _ (spelling : Spelling) (shape : Sym → s.Shape) where
  mutual
    feedless : (e : Tree) → IsShowable spelling e → Feedless (shown spelling shape e).text
    feedless (integer (pos n)) w = let h = ltb-true n (2 ^ 127) w in feedless_decimal n (omega (arith, h))
    feedless (integer (negsuc n)) w = let h = ltb-true (suc n) (2 ^ 127) w in feedless_decimal (suc n) (omega (arith, h))
    feedless (string t) w = feedless_quoted t
    feedless (symbol x) w = feedless_all in_name (symbol_text spelling x) refl (names_all (symbol_text spelling x) w.is_name)
    feedless (normal h es) w = feedless_form (form_of shape h es) (shown spelling shape h) (all_shown spelling shape es) (feedless h w.0) (all_feedless es w.1)

    all_feedless : (es : Trees) → AreShowable spelling es → AllFeedless (all_shown spelling shape es)
    all_feedless nil w = tt
    all_feedless (cons e es) w = (feedless e w.0, all_feedless es w.1)

  pub input_feedless : (e : Tree) → IsShowable spelling e → Feedless (input spelling shape e)
  input_feedless e w = feedless_at 2 (shown spelling shape e) (feedless e w)

-- ---- cells

word_solid : (c : ℕ) (cs : List ℕ) (k : tok.Kind) (n : ℕ) → tok.scan c cs ≡ tok.Takes k n → is_space c ≡ false
word_solid c cs k n e = (or_false (is_space c) (c == 10) (go (is_white c) refl)).0
  where
    go : (b : Bool) → is_white c ≡ b → b ≡ false
    go true w =
        let skips : tok.Skips 1 ≡ tok.Takes k n = sym (scan_is c cs ∙ ap (λ b. scan_by c cs b (begins_with (codes "(*") (c ∷ cs)) (is_digit c) (begins_name c) (c == 95) (c == 34) (c == 35)) w) ∙ e in
        absurd (other skips)
      where
        other : tok.Skips 1 ≡ tok.Takes k n → ⊥
        other q = cc
    go false w = refl

-- a text with a word is not blank
pieces_solid : (ps : List Piece) (rest : List ℕ) → AreCut ps rest → (words ps ≡ [] → ⊥) → is_blank (bytes ps) ≡ false
pieces_solid [] rest c n = absurd (n refl)
pieces_solid (gap ∷ ps) rest c n = pieces_solid ps rest c n
pieces_solid (word k [] ∷ ps) rest c n = absurd c.0
pieces_solid (word k (d ∷ ds) ∷ ps) rest c n = ap (λ b. b && is_blank (ds ++ bytes ps)) (word_solid d (ds ++ (bytes ps ++ rest)) k (suc (length ds)) c.0)

one_line : (t : List ℕ) → Feedless t → lines t ≡ t ∷ []
one_line [] f = refl
one_line (c ∷ t) f = go (c == 10) (one_line t) f
  where
    go : (b : Bool) → (Feedless t → lines t ≡ t ∷ []) → elim b as (λ _. Bool) [ true ↦ true | false ↦ has_feed t ] ≡ false
        → elim b as (λ _. List (List ℕ)) [ true ↦ [] ∷ lines t | false ↦ in_first c (lines t) ] ≡ (c ∷ t) ∷ []
    go true next f = absurd (true≢false f)
    go false next f = ap (in_first c) (next f)

pub one_cell : (t : List ℕ) → Feedless t → is_blank t ≡ false → cells t ≡ t ∷ []
one_cell t f b =
    ap (λ ls. map cell_text (all_runs (runs ls))) (one_line t f)
    ∙ ap (λ k. map cell_text (all_runs (and_line t k (runs [])))) b
    ∙ ap (λ (u : List ℕ). u ∷ []) (append-nil t)

pub input_is_one_cell : InputIsOneCell
input_is_one_cell texts distinct e w =
    let o = operand_by texts distinct e w in
    one_cell (shown_by texts e) (input_feedless (by_texts texts) (s.shape_in (names_of texts)) e w.showable)
    (subst (λ (t : List ℕ). is_blank t ≡ false) o.spelled (pieces_solid o.pieces [] (o.cut [] tt) (has_word (names_of texts) (place_in texts) o w.shallow)))
