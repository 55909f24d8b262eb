-- Lines and cells from the front of a text
use Rattle.std.proofs.Common.{◌≡◌, refl, ap, sym, ◌∙◌, ℕ, zero, suc, ◌+◌, ◌<◌, ◌≤◌, Bool, true, false, cond, not, List, [], ◌∷◌, ◌++◌, length, take, drop, arith, append_assoc, take-add, length-drop}
use Rattle.std.specs.Prelude.{◌==◌, map, nat_lt, Option, Some, None}
use Rattle.std.specs.List.{position_or_len, list_all}
use Rattle.std.proofs.lemmas.Bool.Decides.{nat_tests}
use Rattle.std.proofs.lemmas.List.{drop-drop, append-nil}
use Rattle.script_text.specs.Bytes.{all, each_after}
use Rattle.script_text.specs.Cells.{Line, Runs, lines, in_first, is_blank, and_line, runs, all_runs, cell_text, cells}

abbrev pub first_len : List ℕ → ℕ
first_len xs = position_or_len (λ c. c == 10) xs

pub all_is : (p : ℕ → Bool) (xs : List ℕ) → all p xs ≡ list_all p xs
all_is p [] = refl
all_is p (x ∷ xs) = rw (all_is p xs) refl

one_more : (n : ℕ) → 1 + n ≡ suc n
one_more n = omega arith

two_more : (n : ℕ) → suc n + 1 ≡ suc (n + 1)
two_more n = omega arith

abbrev pub other_lines : List ℕ → List Line
other_lines [] = []
other_lines (c ∷ cs) = lines cs

-- the first line and the others
pub line_first : (xs : List ℕ) → lines xs ≡ take (first_len xs) xs ∷ other_lines (drop (first_len xs) xs)
line_first [] = refl
line_first (c ∷ cs) = go (line_first cs) (c == 10)
  where
    go : lines cs ≡ take (first_len cs) cs ∷ other_lines (drop (first_len cs) cs) → (b : Bool) → elim b [ true ↦ [] ∷ lines cs | false ↦ in_first c (lines cs) ]
        ≡ take (cond (not b) (1 + first_len cs) 0) (c ∷ cs) ∷ other_lines (drop (cond (not b) (1 + first_len cs) 0) (c ∷ cs))
    go rest true = refl
    go rest false = rw (one_more (first_len cs)) (ap (in_first c) rest)

pub others_runs : (xs : List ℕ) → runs (other_lines xs) ≡ runs (lines (drop 1 xs))
others_runs [] = refl
others_runs (c ∷ cs) = refl

-- the runs of a text, by its first line and the text behind it
pub runs_first : (xs : List ℕ) → runs (lines xs) ≡ and_line (take (first_len xs) xs) (is_blank (take (first_len xs) xs)) (runs (lines (drop (first_len xs + 1) xs)))
runs_first xs =
    let n = first_len xs in
    let behind : drop 1 (drop n xs) ≡ drop (n + 1) xs = drop-drop 1 n xs in
    ap runs (line_first xs) ∙ ap (λ r. and_line (take n xs) (is_blank (take n xs)) r) (others_runs (drop n xs) ∙ ap (λ ys. runs (lines ys)) behind)

pub feed_first : (xs : List ℕ) → first_len xs < length xs → drop (first_len xs) xs ≡ 10 ∷ drop (first_len xs + 1) xs
feed_first [] h = absurd (omega (arith, h))
feed_first (c ∷ cs) h = go (feed_first cs) (c == 10) refl h
  where
    go : (first_len cs < length cs → drop (first_len cs) cs ≡ 10 ∷ drop (first_len cs + 1) cs) → (b : Bool) → (c == 10) ≡ b → cond (not b) (1 + first_len cs) 0 < length (c ∷ cs)
        → drop (cond (not b) (1 + first_len cs) 0) (c ∷ cs) ≡ 10 ∷ drop (cond (not b) (1 + first_len cs) 0 + 1) (c ∷ cs)
    go rest true is h = let same : c ≡ 10 = grind (arith, nat_tests) in ap (λ d. d ∷ cs) same
    go rest false is h = rw (one_more (first_len cs), two_more (first_len cs)) (rest (omega (arith, h)))

pub blank_skipped : (xs : List ℕ) → is_blank (take (first_len xs) xs) ≡ true → cells xs ≡ cells (drop (first_len xs + 1) xs)
blank_skipped xs blank =
    let step = runs_first xs in
    ap (λ r. map cell_text (all_runs r)) (rw blank at step)

abbrev pub cell_from : List ℕ → Runs → List (List ℕ)
cell_from front r = (front ++ each_after (10 ∷ []) r.first) ∷ map cell_text r.others

-- the lines of the first cell
pub cell_begins : (xs : List ℕ) → is_blank (take (first_len xs) xs) ≡ false
    → cells xs ≡ cell_from (take (first_len xs) xs) (runs (lines (drop (first_len xs + 1) xs)))
cell_begins xs filled =
    let step = runs_first xs in
    ap (λ r. map cell_text (all_runs r)) (rw filled at step)

pub cell_grows : (text : List ℕ) (end : ℕ) → is_blank (take (first_len (drop (end + 1) text)) (drop (end + 1) text)) ≡ false
    → drop end text ≡ 10 ∷ drop (end + 1) text
    → cell_from (take end text) (runs (lines (drop (end + 1) text)))
    ≡ cell_from (take (end + (1 + first_len (drop (end + 1) text))) text) (runs (lines (drop (end + (1 + first_len (drop (end + 1) text)) + 1) text)))
cell_grows text end filled feed =
    let t = drop (end + 1) text in
    let m = first_len t in
    let step = runs_first t in
    let r' = runs (lines (drop (m + 1) t)) in
    let grown : take (end + (1 + m)) text ≡ take end text ++ (10 ∷ take m t) = take-add end (1 + m) text ∙ ap (λ xs. take end text ++ take (1 + m) xs) feed ∙ ap (λ k. take end text ++ take k (10 ∷ t)) (one_more m) in
    let later : drop (end + (1 + m) + 1) text ≡ drop (m + 1) t = ap (λ k. drop k text) (omega arith) ∙ sym (drop-drop (m + 1) (end + 1) text) in
    let grew : runs (lines t) ≡ and_line (take m t) false r' = rw filled at step in
    let front : take end text ++ (10 ∷ take m t ++ each_after (10 ∷ []) r'.first) ≡ take (end + (1 + m)) text ++ each_after (10 ∷ []) r'.first
    = rw (grown, append_assoc) refl in
    rw (grew, later) (ap (λ f. f ∷ map cell_text r'.others) front)

pub cell_ends : (front : List ℕ) (t : List ℕ) → (runs (lines t)).first ≡ [] → cell_from front (runs (lines t)) ≡ front ∷ cells t
cell_ends front t none =
    let r = runs (lines t) in
    let first : front ++ each_after (10 ∷ []) r.first ≡ front = rw none (append-nil front) in
    let others : all_runs r ≡ r.others = rw none refl in
    rw (first, others) refl

pub blank_ends : (t : List ℕ) → is_blank (take (first_len t) t) ≡ true → (runs (lines t)).first ≡ []
blank_ends t blank = let step = runs_first t in ap (λ r. r.first) (rw blank at step)

pub first_len_le : (xs : List ℕ) → first_len xs ≤ length xs
first_len_le [] = omega arith
first_len_le (c ∷ cs) = go (first_len_le cs) (c == 10)
  where
    go : first_len cs ≤ length cs → (b : Bool) → cond (not b) (1 + first_len cs) 0 ≤ length (c ∷ cs)
    go rest true = omega arith
    go rest false = omega (arith, rest)

pub some_at : (xs : List ℕ) (r : Option ℕ) (n : ℕ) → r ≡ cond (nat_lt (first_len xs) (length xs)) (Some (first_len xs)) None → r ≡ Some n → n ≡ first_len xs
some_at xs r n found is = go (nat_lt (first_len xs) (length xs)) (sym is ∙ found)
  where
    go : (b : Bool) → Some n ≡ cond b (Some (first_len xs)) None → n ≡ first_len xs
    go true e = cc
    go false e = cc

pub none_at : (xs : List ℕ) (r : Option ℕ) → r ≡ cond (nat_lt (first_len xs) (length xs)) (Some (first_len xs)) None → r ≡ None → length xs ≡ first_len xs
none_at xs r found is = go (nat_lt (first_len xs) (length xs)) refl (sym is ∙ found)
  where
    go : (b : Bool) → nat_lt (first_len xs) (length xs) ≡ b → None ≡ cond b (Some (first_len xs)) None → length xs ≡ first_len xs
    go true at e = cc
    go false at e = let within = first_len_le xs in grind (arith, nat_tests)

pub blank_skipped_at : (xs : List ℕ) (n : ℕ) → n ≡ first_len xs → is_blank (take n xs) ≡ true → cells xs ≡ cells (drop (n + 1) xs)
blank_skipped_at xs n is blank = rw is (blank_skipped xs (rw is at blank))

pub cell_begins_at : (xs : List ℕ) (n : ℕ) → n ≡ first_len xs → is_blank (take (first_len xs) xs) ≡ false
    → cells xs ≡ cell_from (take n xs) (runs (lines (drop (n + 1) xs)))
cell_begins_at xs n is filled = rw is (cell_begins xs filled)

pub feed_first_at : (xs : List ℕ) (n : ℕ) → n ≡ first_len xs → n < length xs → drop n xs ≡ 10 ∷ drop (n + 1) xs
feed_first_at xs n is h = rw is (feed_first xs (rw is at h))

pub cell_grows_at : (text : List ℕ) (end m : ℕ) → m ≡ first_len (drop (end + 1) text) → is_blank (take m (drop (end + 1) text)) ≡ false
    → drop end text ≡ 10 ∷ drop (end + 1) text
    → cell_from (take end text) (runs (lines (drop (end + 1) text))) ≡ cell_from (take (end + (1 + m)) text) (runs (lines (drop (end + (1 + m) + 1) text)))
cell_grows_at text end m is filled feed = rw is (cell_grows text end (rw is at filled) feed)

pub cell_ends_at : (front t : List ℕ) (m : ℕ) → m ≡ first_len t → is_blank (take m t) ≡ true → cell_from front (runs (lines t)) ≡ front ∷ cells t
cell_ends_at front t m is blank = cell_ends front t (blank_ends t (rw is at blank))

-- a line that is not blank has a byte
pub filled_line : (t : List ℕ) (m : ℕ) → is_blank (take m t) ≡ false → m ≤ length t → 0 < m
filled_line t zero filled within = cc
filled_line t (suc m) filled within = omega arith

pub feed_later : (text : List ℕ) (end m : ℕ) → m ≡ first_len (drop (end + 1) text) → end + (1 + m) < length text
    → drop (end + (1 + m)) text ≡ 10 ∷ drop (end + (1 + m) + 1) text
feed_later text end m is h =
    let feed = feed_first_at (drop (end + 1) text) m is (omega (arith, length-drop {A = ℕ})) in
    let here : drop m (drop (end + 1) text) ≡ drop (end + (1 + m)) text = drop-drop m (end + 1) text ∙ ap (λ k. drop k text) (omega arith) in
    let next : drop (m + 1) (drop (end + 1) text) ≡ drop (end + (1 + m) + 1) text = drop-drop (m + 1) (end + 1) text ∙ ap (λ k. drop k text) (omega arith) in
    sym here ∙ feed ∙ ap (λ xs. 10 ∷ xs) next
