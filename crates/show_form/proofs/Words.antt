-- The names of a text, one byte more.
use Rattle.std.proofs.Common.{◌≡◌, refl, sym, ap, ◌∙◌, ℕ, ◌<◌, ◌≤◌, Bool, true, false, cond, List, [], ◌∷◌, ◌++◌, append_assoc, length, get_or, drop, drop-cons, add-one, suc, ◌+◌, Result, Ok, Err, true≢false, arith, eqb-true}
use Rattle.std.specs.Prelude.{◌&&◌, ◌||◌, ◌==◌, not, leb, OnOk}
use Rattle.std.specs.List.{filter}
use Rattle.std.proofs.lemmas.Bool.{leb-true}
use Rattle.std.proofs.lemmas.List.{append-nil, drop_all}
use Rattle.script_text.specs.Bytes.{is_letter, begins_name, is_digit, in_name, is_name, all}
use Rattle.script_text.specs.Cells.{in_first}
use Rattle.script_text.specs.FullNames.{outside, words, names_in}
use Rattle.show_form.specs.Words.{blanked, quoted_after, escaped_after, named, with_front, names_behind}

pub outside_step : (q e : Bool) (c : ℕ) (cs : List ℕ) → outside q e (c ∷ cs) ≡ blanked q c ∷ outside (quoted_after q e c) (escaped_after q e c) cs
outside_step false e c cs = refl
outside_step true true c cs = ap (λ b. 34 ∷ outside b false cs) (go (not (c == 34)))
  where
    go : (b : Bool) → true ≡ (b || true)
    go true = refl
    go false = refl
outside_step true false c cs = ap (λ b. 34 ∷ outside b (c == 92) cs) (go (not (c == 34)))
  where
    go : (b : Bool) → b ≡ (b || false)
    go true = refl
    go false = refl

-- the text from a place on
pub outside_at : (q e : Bool) (t : List ℕ) (i c : ℕ) → i < length t → c ≡ get_or t i 0
    → outside q e (drop i t) ≡ blanked q c ∷ outside (quoted_after q e c) (escaped_after q e c) (drop (i + 1) t)
outside_at q e t i c h is =
    let d : drop i t ≡ c ∷ drop (i + 1) t = rw (drop-cons t i 0 h, add-one) (ap (λ u. u ∷ drop (suc i) t) (sym is)) in
    ap (outside q e) d ∙ outside_step q e c (drop (i + 1) t)

front_first : (w : List ℕ) (c : ℕ) (us : List (List ℕ)) → with_front (w ++ (c ∷ [])) us ≡ with_front w (in_first c us)
front_first w c [] = refl
front_first w c (u ∷ us) = ap (λ v. v ∷ us) (append_assoc w (c ∷ []) u)

no_front : (t : List ℕ) → with_front [] (words t) ≡ words t
no_front [] = refl
no_front (c ∷ cs) = go (in_name c)
  where
    first : (us : List (List ℕ)) → with_front [] (in_first c us) ≡ in_first c us
    first [] = refl
    first (u ∷ us) = refl

    go : (b : Bool) → with_front [] (elim b [ true ↦ in_first c (words cs) | false ↦ [] ∷ words cs ]) ≡ elim b [ true ↦ in_first c (words cs) | false ↦ [] ∷ words cs ]
    go true = first (words cs)
    go false = refl

pub names_start : (t : List ℕ) → names_behind [] t ≡ filter is_name (words t)
names_start t = ap (filter is_name) (no_front t)

pub word_goes_on : (w : List ℕ) (c : ℕ) (rest : List ℕ) → in_name c ≡ true → names_behind (w ++ (c ∷ [])) rest ≡ names_behind w (c ∷ rest)
word_goes_on w c rest e =
    ap (filter is_name) (front_first w c (words rest))
    ∙ ap (λ b. filter is_name (with_front w (elim b [ true ↦ in_first c (words rest) | false ↦ [] ∷ words rest ]))) (sym e)

named_first : (w : List ℕ) (us : List (List ℕ)) → named w ++ filter is_name us ≡ filter is_name (w ∷ us)
named_first w us = go (is_name w)
  where
    go : (b : Bool) → cond b (w ∷ []) [] ++ filter is_name us ≡ cond b (w ∷ filter is_name us) (filter is_name us)
    go true = refl
    go false = refl

pub word_ends : (w : List ℕ) (c : ℕ) (rest : List ℕ) → in_name c ≡ false → named w ++ names_behind [] rest ≡ names_behind w (c ∷ rest)
word_ends w c rest e =
    ap (λ v. named w ++ v) (names_start rest)
    ∙ named_first w (words rest)
    ∙ ap (λ v. filter is_name (v ∷ words rest)) (sym (append-nil w))
    ∙ ap (λ b. filter is_name (with_front w (elim b [ true ↦ in_first c (words rest) | false ↦ [] ∷ words rest ]))) (sym e)

pub names_end : (w : List ℕ) (q e : Bool) → names_behind w (outside q e []) ≡ named w
names_end w q e = ap (λ v. filter is_name (v ∷ [])) (append-nil w) ∙ sym (named_first w []) ∙ append-nil (named w)

both_true : (a b : Bool) → (a && b) ≡ true → (a ≡ true) × (b ≡ true)
both_true true b e = (refl, e)
both_true false b e = absurd (true≢false (sym e))

pub all_more : (ds : List ℕ) (c : ℕ) → all in_name ds ≡ true → in_name c ≡ true → all in_name (ds ++ (c ∷ [])) ≡ true
all_more [] c p q = rw q refl
all_more (d ∷ ds) c p q = let both = both_true (in_name d) (all in_name ds) p in rw both.0 (all_more ds c both.1 q)

either : (a b : Bool) → (a || b) ≡ true → (P : Type 0) → (a ≡ true → P) → (b ≡ true → P) → P
either true b e P f g = f refl
either false b e P f g = g e

-- every byte of a name is ASCII
pub name_is_ascii : (c : ℕ) → in_name c ≡ true → c < 128
name_is_ascii c e =
    either (begins_name c) (is_digit c) e (c < 128)
    (λ b. either (is_letter c) (c == 36) b (c < 128)
    (λ l. either (leb 97 c && leb c 122) (leb 65 c && leb c 90) l (c < 128)
    (λ x. let h = leb-true c 122 (both_true (leb 97 c) (leb c 122) x).1 in omega arith)
    (λ x. let h = leb-true c 90 (both_true (leb 65 c) (leb c 90) x).1 in omega arith))
    (λ d. let h = eqb-true c 36 d in omega arith))
    (λ d. let h = leb-true c 57 (both_true (leb 48 c) (leb c 57) d).1 in omega arith)

pub on_ok : {A E : Type 0} (r : Result A E) (P Q : Type 0) → OnOk r P → (P → Q) → OnOk r Q
on_ok (Ok x) P Q p f = f p
on_ok (Err e) P Q p f = p

-- a word ends, and the names have it
pub ended : (before after : List (List ℕ)) (w next done : List ℕ) (c : ℕ) → in_name c ≡ false → next ≡ [] → done ≡ w → after ≡ before ++ named done
    → (rest : List ℕ) → after ++ names_behind next rest ≡ before ++ names_behind w (c ∷ rest)
ended before after w next done c e n d p rest =
    ap (λ v. v ++ names_behind next rest) p
    ∙ ap (λ v. (before ++ named done) ++ names_behind v rest) n
    ∙ append_assoc before (named done) (names_behind [] rest)
    ∙ ap (λ v. before ++ (named v ++ names_behind [] rest)) d
    ∙ ap (λ v. before ++ v) (word_ends w c rest e)

-- one byte more of the text
pub byte_taken : (q e : Bool) (t : List ℕ) (i c : ℕ) (into after start : List (List ℕ)) (w v : List ℕ) → i < length t → c ≡ get_or t i 0
    → ((rest : List ℕ) → after ++ names_behind v rest ≡ into ++ names_behind w (blanked q c ∷ rest))
    → into ++ names_behind w (outside q e (drop i t)) ≡ start
    → after ++ names_behind v (outside (quoted_after q e c) (escaped_after q e c) (drop (i + 1) t)) ≡ start
byte_taken q e t i c into after start w v h is step found =
    step (outside (quoted_after q e c) (escaped_after q e c) (drop (i + 1) t)) ∙ ap (λ u. into ++ names_behind w u) (sym (outside_at q e t i c h is)) ∙ found

-- the last word
pub last_word : (q e : Bool) (t : List ℕ) (i : ℕ) (into after start : List (List ℕ)) (w : List ℕ) → length t ≤ i
    → into ++ names_behind w (outside q e (drop i t)) ≡ start → after ≡ into ++ named w → after ≡ start
last_word q e t i into after start w h found p =
    p ∙ ap (λ v. into ++ v) (sym (names_end w q e)) ∙ ap (λ v. into ++ names_behind w (outside q e v)) (sym (drop_all i t h)) ∙ found

pub longer : (a b c m n : List (List ℕ)) → b ≡ a ++ m → c ≡ b ++ n → c ≡ a ++ (m ++ n)
longer a b c m n p q = q ∙ ap (λ v. v ++ n) p ∙ append_assoc a m n
