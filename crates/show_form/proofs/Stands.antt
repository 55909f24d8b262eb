-- The names that stand in a full form are the texts of its symbols.
use Rattle.std.proofs.Common.{◌≡◌, ◌≢◌, refl, sym, ap, subst, ◌∙◌, ℕ, ◌+◌, ◌-◌, ◌/◌, ◌%◌, ◌^◌, ◌<◌, ◌≤◌, Bool, true, false, cond, List, [], ◌∷◌, ◌++◌, append_assoc, true≢false, arith, le-leb, lt-ltb, ne_eqb, eqb-true, ltb-true}
use Rattle.std.specs.Prelude.{◌&&◌, ◌||◌, ◌==◌, not, leb, pos, negsuc, ℤ, suc}
use Rattle.std.specs.List.{filter}
use Rattle.std.specs.Fmt.{decimal, signed_decimal}
use Rattle.std.proofs.lemmas.Bool.{lt-leb, leb-true}
use Rattle.std.proofs.lemmas.List.{append-nil}
use Rattle.std.proofs.lemmas.Fmt.{decimal_by_steps_wide}
use Rattle.expr_tree.specs.Tree.{Tree, Trees, integer, string, symbol, normal, nil, cons}
use Rattle.expr_tree.specs.Limits.{in_range}
use Rattle.script_text.specs.Bytes.{begins_name, is_digit, in_name, is_name, all}
use Rattle.script_text.specs.Cells.{in_first}
use Rattle.script_text.specs.Spelling.{Spelling, symbol_text}
use Rattle.script_text.specs.Full.{full, full_items, full_others, escaped, escaped_by, all_escaped, quoted}
use Rattle.script_text.specs.FullForm.{IsSpelled, IsWritten, AreWritten}
use Rattle.script_text.specs.FullNames.{outside, words, names_in}

-- ---- the texts of the symbols, from left to right

module _ (spelling : Spelling) where
  abbrev mutual
    pub symbol_texts : Tree → List (List ℕ)
    symbol_texts (integer n) = []
    symbol_texts (string t) = []
    symbol_texts (symbol s) = symbol_text spelling s ∷ []
    symbol_texts (normal h es) = symbol_texts h ++ all_symbol_texts es

    pub all_symbol_texts : Trees → List (List ℕ)
    all_symbol_texts nil = []
    all_symbol_texts (cons e es) = symbol_texts e ++ all_symbol_texts es

both_true : (a b : Bool) → (a && b) ≡ true → (a ≡ true) × (b ≡ true)
both_true true b e = (refl, e)
both_true false b e = absurd (true≢false (sym e))

abbrev pub apart : List ℕ → List (List ℕ)
apart t = words (outside false false t)

abbrev pub parts : List ℕ → List (List ℕ)
parts t = filter is_name (apart t)

-- ---- bytes of words

is_not_quote : (c : ℕ) → in_name c ≡ true → (c == 34) ≡ false
is_not_quote c e = go (c == 34) refl
  where
    go : (b : Bool) → (c == 34) ≡ b → b ≡ false
    go false p = refl
    go true p = absurd (true≢false (sym e ∙ ap in_name (eqb-true c 34 p)))

-- a word in front of a text that begins no word
word_apart : (w rest : List ℕ) (tl : List (List ℕ)) → all in_name w ≡ true → apart rest ≡ [] ∷ tl → apart (w ++ rest) ≡ w ∷ tl
word_apart [] rest tl a e = e
word_apart (c ∷ w) rest tl a e =
    let both = both_true (in_name c) (all in_name w) a in
    let n : in_name c ≡ true = both.0 in
    let q : (c == 34) ≡ false = is_not_quote c both.0 in
    ap (λ b. words (c ∷ outside b false (w ++ rest))) q
    ∙ ap (λ b. elim b [ true ↦ in_first c (apart (w ++ rest)) | false ↦ [] ∷ apart (w ++ rest) ]) n
    ∙ ap (in_first c) (word_apart w rest tl both.1 e)

name_parts : (w rest : List ℕ) (tl : List (List ℕ)) → is_name w ≡ true → all in_name w ≡ true → apart rest ≡ [] ∷ tl → parts (w ++ rest) ≡ w ∷ filter is_name tl
name_parts w rest tl n a e = ap (filter is_name) (word_apart w rest tl a e) ∙ ap (λ b. cond b (w ∷ filter is_name tl) (filter is_name tl)) n

other_parts : (w rest : List ℕ) (tl : List (List ℕ)) → is_name w ≡ false → all in_name w ≡ true → apart rest ≡ [] ∷ tl → parts (w ++ rest) ≡ filter is_name tl
other_parts w rest tl n a e = ap (filter is_name) (word_apart w rest tl a e) ∙ ap (λ b. cond b (w ∷ filter is_name tl) (filter is_name tl)) n

-- ---- digits

abbrev pub AreDigits : List ℕ → Type 0
AreDigits [] = Unit {0}
AreDigits (d ∷ ds) = (48 ≤ d) × (d ≤ 57) × AreDigits ds

digits_push : (ds : List ℕ) (c : ℕ) → AreDigits ds → 48 ≤ c → c ≤ 57 → AreDigits (ds ++ (c ∷ []))
digits_push [] c a p q = (p, q, tt)
digits_push (d ∷ ds) c a p q = (a.0, a.1, digits_push ds c a.2 p q)

no_begin : (d : ℕ) → 48 ≤ d → d ≤ 57 → begins_name d ≡ false
no_begin d p q =
    let e1 : leb 97 d ≡ false = lt-leb 97 d (omega arith) in
    let e2 : leb 65 d ≡ false = lt-leb 65 d (omega arith) in
    let e3 : (d == 36) ≡ false = ne_eqb d 36 (omega arith) in
    rw (e1, e2, e3) refl

digit_in_name : (d : ℕ) → 48 ≤ d → d ≤ 57 → in_name d ≡ true
digit_in_name d p q =
    let e1 : leb 48 d ≡ true = le-leb 48 d p in
    let e2 : leb d 57 ≡ true = le-leb d 57 q in
    ap (λ b. b || is_digit d) (no_begin d p q) ∙ rw (e1, e2) refl

digits_in_name : (ds : List ℕ) → AreDigits ds → all in_name ds ≡ true
digits_in_name [] a = refl
digits_in_name (d ∷ ds) a = ap (λ b. b && all in_name ds) (digit_in_name d a.0 a.1) ∙ digits_in_name ds a.2

digits_no_name : (ds : List ℕ) → AreDigits ds → is_name ds ≡ false
digits_no_name [] a = refl
digits_no_name (d ∷ ds) a = ap (λ b. b && all in_name ds) (no_begin d a.0 a.1)

decimal_digits : (n : ℕ) → n < 10 ^ 64 → AreDigits (decimal n)
decimal_digits n h =
    decimal_by_steps_wide (λ k ds. AreDigits ds)
    (λ k small. (omega arith, omega arith, tt))
    (λ k ds large front. digits_push ds (48 + k % 10) front (omega arith) (omega arith))
    n h

digits_parts : (n : ℕ) (rest : List ℕ) (tl : List (List ℕ)) → n < 10 ^ 64 → apart rest ≡ [] ∷ tl → parts (decimal n ++ rest) ≡ filter is_name tl
digits_parts n rest tl h e =
    other_parts (decimal n) rest tl (digits_no_name (decimal n) (decimal_digits n h)) (digits_in_name (decimal n) (decimal_digits n h)) e

number_parts : (n : ℤ) (rest : List ℕ) (tl : List (List ℕ)) → in_range n ≡ true → apart rest ≡ [] ∷ tl → parts (signed_decimal n ++ rest) ≡ filter is_name tl
number_parts (pos n) rest tl r e = let h : n < 2 ^ 127 = ltb-true n (2 ^ 127) r in digits_parts n rest tl (omega arith) e
number_parts (negsuc n) rest tl r e = let h : n < 2 ^ 127 = ltb-true n (2 ^ 127) r in digits_parts (suc n) rest tl (omega arith) e

-- ---- strings

abbrev pub inside : List ℕ → List (List ℕ)
inside t = filter is_name (words (outside true false t))

-- the bytes of one escape stand in no word
escaped_inside : (c : ℕ) (cs : List ℕ) → inside (escaped c ++ cs) ≡ inside cs
escaped_inside c cs = go (c == 34) (c == 92) (c == 10) (c == 9) refl refl
  where
    go : (p q r t : Bool) → (c == 34) ≡ p → (c == 92) ≡ q → inside (escaped_by p q r t c ++ cs) ≡ inside cs
    go true q r t ep eq = refl
    go false true r t ep eq = refl
    go false false true t ep eq = refl
    go false false false true ep eq = refl
    go false false false false ep eq = ap (λ b. filter is_name (words (34 ∷ outside (not b) (c == 92) cs))) ep ∙ ap (λ b. filter is_name (words (34 ∷ outside true b cs))) eq

text_inside : (t rest : List ℕ) → inside (all_escaped t ++ (34 ∷ rest)) ≡ parts rest
text_inside [] rest = refl
text_inside (c ∷ t) rest =
    ap inside (append_assoc (escaped c) (all_escaped t) (34 ∷ rest)) ∙ escaped_inside c (all_escaped t ++ (34 ∷ rest)) ∙ text_inside t rest

string_parts : (t rest : List ℕ) → parts (quoted t ++ rest) ≡ parts rest
string_parts t rest = ap (λ v. inside v) (append_assoc (all_escaped t) (34 ∷ []) rest) ∙ text_inside t rest

-- ---- expressions

named_within : (w : List ℕ) → is_name w ≡ true → all in_name w ≡ true
named_within [] n = absurd (true≢false (sym n))
named_within (c ∷ w) n =
    let both = both_true (begins_name c) (all in_name w) n in
    ap (λ b. (b || is_digit c) && all in_name w) both.0 ∙ both.1

module _ (spelling : Spelling) where
  -- the words of what stands behind an item, but for an empty one in front
  abbrev others_tail : Trees → List ℕ → List (List ℕ)
  others_tail nil rest = apart rest
  others_tail (cons f es) rest = apart (32 ∷ (full spelling f ++ full_others spelling es) ++ (93 ∷ rest))

  others_apart : (es : Trees) (rest : List ℕ) → apart (full_others spelling es ++ (93 ∷ rest)) ≡ [] ∷ others_tail es rest
  others_apart nil rest = refl
  others_apart (cons f es) rest = refl

  mutual
    full_parts : (e : Tree) → IsWritten spelling e → (rest : List ℕ) (tl : List (List ℕ)) → apart rest ≡ [] ∷ tl
        → parts (full spelling e ++ rest) ≡ symbol_texts spelling e ++ filter is_name tl
    full_parts (integer n) w rest tl e = number_parts n rest tl w e
    full_parts (string t) w rest tl e = string_parts t rest ∙ ap (filter is_name) e
    full_parts (symbol s) w rest tl e = name_parts (symbol_text spelling s) rest tl w.is_name (named_within (symbol_text spelling s) w.is_name) e
    full_parts (normal h es) w rest tl e =
        ap parts (append_assoc (full spelling h) (91 ∷ full_items spelling es ++ (93 ∷ [])) rest)
        ∙ full_parts h w.0 (91 ∷ (full_items spelling es ++ (93 ∷ [])) ++ rest) (apart ((full_items spelling es ++ (93 ∷ [])) ++ rest)) refl
        ∙ ap (λ v. symbol_texts spelling h ++ v) (ap parts (append_assoc (full_items spelling es) (93 ∷ []) rest) ∙ items_parts es w.1 rest tl e)
        ∙ sym (append_assoc (symbol_texts spelling h) (all_symbol_texts spelling es) (filter is_name tl))

    items_parts : (es : Trees) → AreWritten spelling es → (rest : List ℕ) (tl : List (List ℕ)) → apart rest ≡ [] ∷ tl
        → parts (full_items spelling es ++ (93 ∷ rest)) ≡ all_symbol_texts spelling es ++ filter is_name tl
    items_parts nil w rest tl e = ap (filter is_name) e
    items_parts (cons d es) w rest tl e =
        ap parts (append_assoc (full spelling d) (full_others spelling es) (93 ∷ rest))
        ∙ full_parts d w.0 (full_others spelling es ++ (93 ∷ rest)) (others_tail es rest) (others_apart es rest)
        ∙ ap (λ u. symbol_texts spelling d ++ u) (others_parts es w.1 rest tl e)
        ∙ sym (append_assoc (symbol_texts spelling d) (all_symbol_texts spelling es) (filter is_name tl))

    -- behind an item
    others_parts : (es : Trees) → AreWritten spelling es → (rest : List ℕ) (tl : List (List ℕ)) → apart rest ≡ [] ∷ tl
        → filter is_name (others_tail es rest) ≡ all_symbol_texts spelling es ++ filter is_name tl
    others_parts nil w rest tl e = ap (filter is_name) e
    others_parts (cons f es) w rest tl e =
        ap parts (append_assoc (full spelling f) (full_others spelling es) (93 ∷ rest))
        ∙ full_parts f w.0 (full_others spelling es ++ (93 ∷ rest)) (others_tail es rest) (others_apart es rest)
        ∙ ap (λ u. symbol_texts spelling f ++ u) (others_parts es w.1 rest tl e)
        ∙ sym (append_assoc (symbol_texts spelling f) (all_symbol_texts spelling es) (filter is_name tl))

  pub full_names_are : (e : Tree) → IsWritten spelling e → names_in (full spelling e) ≡ symbol_texts spelling e
  full_names_are e w = ap names_in (sym (append-nil (full spelling e))) ∙ full_parts e w [] [] refl ∙ append-nil (symbol_texts spelling e)
