-- Names and blanks at the front of a text.
use Rattle.std.proofs.Common.{◌≡◌, refl, sym, ap, ap₂, ◌∙◌, subst, ℕ, zero, suc, ◌+◌, ◌<◌, ◌≤◌, Bool, true, false, cond, List, [], ◌∷◌, ◌++◌, length, take, drop, true≢false, arith, append_assoc, length-append, take-append-drop, length-take-le, leb-true, leb-false, eqb-true}
use Rattle.std.specs.Prelude.{◌==◌, ◌&&◌, ◌||◌, leb}
use Rattle.script_text.specs.Bytes.{begins_name, in_name, is_name, is_digit, run, all, begins_with}
use Rattle.syntax.specs.Tokens.{Kind, Scan, Takes, name_length, blank_after, name_scan}
use Rattle.laws_tokens.specs.Texts.{Part, Whole, IsPart, IsOptional, IsMarked}
use Rattle.laws_tokens.proofs.Fronts.{First, Letter, Mark, first, can_be, name_first, mark_first, longest_by, Split, split, within_run, dropped, both_true}
use Rattle.laws_tokens.proofs.Runs.{Stands, stands}

-- ---- a name, or nothing

record Name_at (xs : List ℕ) : Type 0 where
  front : List ℕ
  back : List ℕ
  whole : xs ≡ front ++ back
  name : IsOptional front
  only : all in_name front ≡ true
  long : name_length xs ≡ length front
  bound : (t u : List ℕ) → xs ≡ t ++ u → IsOptional t → length t ≤ length front

pub name_only : (c : ℕ) (cs : List ℕ) → is_name (c ∷ cs) ≡ true → all in_name (c ∷ cs) ≡ true
name_only c cs e =
    let both = both_true (begins_name c) (all in_name cs) e in
    ap₂ (λ p q. p && q) (ap (λ b. b || is_digit c) both.0) both.1

-- no name begins there
nameless : (c : ℕ) (cs : List ℕ) → begins_name c ≡ false → Name_at (c ∷ cs)
nameless c cs e = record {
  front = [];
  back = c ∷ cs;
  whole = refl;
  name = tt;
  only = refl;
  long = ap (λ b. elim b [ true ↦ suc (run in_name cs) | false ↦ zero ]) e;
  bound = none;
}
  where
    none : (t u : List ℕ) → c ∷ cs ≡ t ++ u → IsOptional t → length t ≤ 0
    none [] u w i = omega arith
    none (d ∷ t) u w i =
        let q : c ≡ d = cc in
        absurd (true≢false (sym (both_true (begins_name d) (all in_name t) i).0 ∙ ap begins_name (sym q) ∙ e))

name_at : (xs : List ℕ) → Name_at xs
name_at [] = record {
  front = [];
  back = [];
  whole = refl;
  name = tt;
  only = refl;
  long = refl;
  bound = none;
}
  where
    none : (t u : List ℕ) → [] ≡ t ++ u → IsOptional t → length t ≤ 0
    none [] u w i = omega arith
    none (d ∷ t) u w i = absurd (let h : 0 ≡ suc (length (t ++ u)) = ap length w in omega (arith, h))
name_at (c ∷ cs) = go (begins_name c) refl (split in_name cs)
  where
    tail : (d : ℕ) (t u : List ℕ) → c ∷ cs ≡ (d ∷ t) ++ u → cs ≡ t ++ u
    tail d t u w = cc

    go : (b : Bool) → begins_name c ≡ b → Split in_name cs → Name_at (c ∷ cs)
    go true e s = record {
      front = c ∷ s.front;
      back = s.back;
      whole = ap (λ (xs : List ℕ). c ∷ xs) s.whole;
      name = ap₂ (λ p q. p && q) e s.passes;
      only = name_only c s.front (ap₂ (λ p q. p && q) e s.passes);
      long = ap (λ b. elim b [ true ↦ suc (run in_name cs) | false ↦ zero ]) e ∙ ap suc s.long;
      bound = some;
    }
      where
        some : (t u : List ℕ) → c ∷ cs ≡ t ++ u → IsOptional t → length t ≤ suc (length s.front)
        some [] u w i = omega arith
        some (d ∷ t) u w i =
            let h = within_run in_name cs s t u (tail d t u w) (both_true (begins_name d) (all in_name t) i).1 in
            omega (arith, h)
    go false e s = nameless c cs e

-- ---- one to three `_`

abbrev is_mark : ℕ → Bool
is_mark c = c == 95

abbrev at_most : ℕ → ℕ
at_most n = cond (leb n 3) n 3

record Marks_at (xs : List ℕ) : Type 0 where
  front : List ℕ
  back : List ℕ
  whole : xs ≡ front ++ back
  only : all is_mark front ≡ true
  few : length front ≤ 3
  long : at_most (run is_mark xs) ≡ length front
  bound : (t u : List ℕ) → xs ≡ t ++ u → all is_mark t ≡ true → length t ≤ 3 → length t ≤ length front

all_front : (test : ℕ → Bool) (n : ℕ) (xs : List ℕ) → all test xs ≡ true → all test (take n xs) ≡ true
all_front test zero xs a = refl
all_front test (suc n) [] a = refl
all_front test (suc n) (c ∷ cs) a =
    let both = both_true (test c) (all test cs) a in
    ap₂ (λ p q. p && q) both.0 (all_front test n cs both.1)

marks_at : (xs : List ℕ) → Marks_at xs
marks_at xs = let s = split is_mark xs in go s (leb (length s.front) 3) refl
  where
    go : (s : Split is_mark xs) (b : Bool) → leb (length s.front) 3 ≡ b → Marks_at xs
    go s true e = record {
      front = s.front;
      back = s.back;
      whole = s.whole;
      only = s.passes;
      few = leb-true (length s.front) 3 e;
      long = ap at_most s.long ∙ ap (λ b. cond b (length s.front) 3) e;
      bound = λ t u w a f. within_run is_mark xs s t u w a;
    }
    go s false e =
        let more = leb-false (length s.front) 3 e in
        let long : length (take 3 s.front) ≡ 3 = length-take-le 3 s.front (omega (arith, more)) in
        record {
          front = take 3 s.front;
          back = drop 3 s.front ++ s.back;
          whole = s.whole ∙ ap (λ (ys : List ℕ). ys ++ s.back) (sym (take-append-drop 3 s.front)) ∙ append_assoc (take 3 s.front) (drop 3 s.front) s.back;
          only = all_front is_mark 3 s.front s.passes;
          few = omega (arith, long);
          long = ap at_most s.long ∙ ap (λ b. cond b (length s.front) 3) e ∙ sym long;
          bound = λ t u w a f. omega (arith, long, f);
        }

-- ---- blanks

marked_long : (before marks behind : List ℕ) → length (before ++ (marks ++ behind)) ≡ length before + length marks + length behind
marked_long before marks behind =
    let h = length-append before (marks ++ behind) in
    let k = length-append marks behind in
    omega (arith, h, k)

-- a name ends in front of a `_`
name_before : (p v a w : List ℕ) (m : ℕ) → p ++ (m ∷ v) ≡ a ++ w → is_mark m ≡ true → all in_name a ≡ true → length a ≤ length p
name_before p v [] w m e g n = omega arith
name_before [] v (x ∷ a) w m e g n =
    let q : m ≡ x = cc in
    absurd (true≢false (sym (both_true (in_name x) (all in_name a) n).0 ∙ ap in_name (sym q ∙ eqb-true m 95 g)))
name_before (y ∷ p) v (x ∷ a) w m e g n =
    let q : p ++ (m ∷ v) ≡ a ++ w = cc in
    let h = name_before p v a w m q g (both_true (in_name x) (all in_name a) n).1 in
    omega (arith, h)

pub same_rest : (p v a w : List ℕ) → p ++ v ≡ a ++ w → length p ≡ length a → v ≡ w
same_rest [] v [] w e l = e
same_rest [] v (x ∷ a) w e l = absurd (omega (arith, l))
same_rest (y ∷ p) v [] w e l = absurd (omega (arith, l))
same_rest (y ∷ p) v (x ∷ a) w e l = let q : p ++ v ≡ a ++ w = cc in same_rest p v a w q (omega (arith, l))

-- behind fewer `_` than there are stands no name
no_name_between : (t u m w : List ℕ) → t ++ u ≡ m ++ w → all is_mark m ≡ true → 0 < length m → IsOptional t → length t ≡ 0
no_name_between [] u m w e a s i = refl
no_name_between (d ∷ t) u [] w e a s i = absurd (omega (arith, s))
no_name_between (d ∷ t) u (x ∷ m) w e a s i =
    let q : d ≡ x = cc in
    let k : d ≡ 95 = q ∙ eqb-true x 95 (both_true (is_mark x) (all is_mark m) a).0 in
    absurd (true≢false (sym (both_true (begins_name d) (all in_name t) i).0 ∙ ap begins_name k))

split_at : (m t u v w : List ℕ) → t ++ v ≡ m ++ w → length t ≤ length m → (k : List ℕ) × (v ≡ k ++ w) × (length t + length k ≡ length m) × (all is_mark m ≡ true → all is_mark k ≡ true)
split_at m [] u v w e l = (m, e, omega arith, λ a. a)
split_at [] (d ∷ t) u v w e l = absurd (omega (arith, l))
split_at (x ∷ m) (d ∷ t) u v w e l =
    let q : t ++ v ≡ m ++ w = cc in
    let r = split_at m t u v w q (omega (arith, l)) in
    (r.0, r.1, (let h = r.2 in omega (arith, h)), λ a. r.3 (both_true (is_mark x) (all is_mark m) a).1)

-- what stands in front of the `_` is the name at the front
record Behind (xs : List ℕ) (n : Name_at xs) (t u : List ℕ) (i : IsMarked t) : Type 0 where
  before : length i.before ≡ length n.front
  rest : i.marks ++ (i.behind ++ u) ≡ n.back

behind : (xs : List ℕ) (n : Name_at xs) (t u : List ℕ) (i : IsMarked t) → xs ≡ t ++ u → Behind xs n t u i
behind xs n t u i w =
    let whole : xs ≡ i.before ++ (i.marks ++ (i.behind ++ u)) =
    w ∙ ap (λ (ys : List ℕ). ys ++ u) i.is ∙ append_assoc i.before (i.marks ++ i.behind) u ∙ ap (λ (ys : List ℕ). i.before ++ ys) (append_assoc i.marks i.behind u) in
    let h = n.bound i.before (i.marks ++ (i.behind ++ u)) whole i.name in
    let g = other i.marks i.only i.some (sym whole ∙ n.whole) in
    let same : length i.before ≡ length n.front = omega (arith, h, g) in
    record { before = same; rest = same_rest i.before (i.marks ++ (i.behind ++ u)) n.front n.back (sym whole ∙ n.whole) same }
  where
    other : (marks : List ℕ) → all is_mark marks ≡ true → 0 < length marks → i.before ++ (marks ++ (i.behind ++ u)) ≡ n.front ++ n.back → length n.front ≤ length i.before
    other [] a s e = absurd (omega (arith, s))
    other (m ∷ marks) a s e = name_before i.before (marks ++ (i.behind ++ u)) n.front n.back m e (both_true (is_mark m) (all is_mark marks) a).0 n.only

blank_bound : (xs : List ℕ) (n : Name_at xs) (m : Marks_at n.back) (b : Name_at m.back) (t u : List ℕ) → xs ≡ t ++ u → IsMarked t →
    length t ≤ length n.front + length m.front + length b.front
blank_bound xs n m b t u w i =
    let p = behind xs n t u i w in
    let g = m.bound i.marks (i.behind ++ u) (sym p.rest) i.only i.few in
    let k = split_at m.front i.marks u (i.behind ++ u) m.back (p.rest ∙ m.whole) g in
    let l = ap length i.is in
    let ll = marked_long i.before i.marks i.behind in
    let h = last k.0 k.1 (k.3 m.only) (let z = k.2 in z) in
    omega (arith, p.before, l, ll, h, g)
  where
    last : (k : List ℕ) → i.behind ++ u ≡ k ++ m.back → all is_mark k ≡ true → length i.marks + length k ≡ length m.front → length i.marks + length i.behind ≤ length m.front + length b.front
    last [] e a l = let h = b.bound i.behind u (sym e) i.head in omega (arith, h, l)
    last (x ∷ k) e a l = let h = no_name_between i.behind u (x ∷ k) m.back e a (omega arith) i.head in omega (arith, h, l)

name_bound : (xs : List ℕ) (n : Name_at xs) (t u : List ℕ) → xs ≡ t ++ u → is_name t ≡ true → length t ≤ length n.front
name_bound xs n [] u w i = omega arith
name_bound xs n (c ∷ t) u w i = n.bound (c ∷ t) u w i

some_mark : (xs : List ℕ) (m : Marks_at xs) → begins_with (95 ∷ []) xs ≡ true → 0 < length m.front
some_mark [] m e = absurd (true≢false (sym e))
some_mark (c ∷ cs) m e = go (c == 95) refl e
  where
    go : (b : Bool) → (c == 95) ≡ b → elim b [ true ↦ true | false ↦ false ] ≡ true → 0 < length m.front
    go true q e = let h = m.bound (c ∷ []) cs refl (ap (λ b. b && true) q) (omega arith) in omega (arith, h)
    go false q e = absurd (true≢false (sym e))

no_mark : (xs : List ℕ) (marks rest : List ℕ) → begins_with (95 ∷ []) xs ≡ false → marks ++ rest ≡ xs → all is_mark marks ≡ true → 0 < length marks → ⊥
no_mark xs [] rest n e a s = omega (arith, s)
no_mark xs (m ∷ marks) rest n e a s =
    let q = both_true (is_mark m) (all is_mark marks) a in
    let k : begins_with (95 ∷ []) (m ∷ (marks ++ rest)) ≡ true = ap (λ b. elim b [ true ↦ true | false ↦ false ]) q.0 in
    true≢false (sym k ∙ ap (begins_with (95 ∷ [])) e ∙ n)

-- ---- what stands there

letter_bound : (xs : List ℕ) (k : ℕ) → ((t u : List ℕ) → xs ≡ t ++ u → is_name t ≡ true → length t ≤ k) → ((t u : List ℕ) → xs ≡ t ++ u → IsMarked t → length t ≤ k) →
    (q : Part) (t u : List ℕ) → xs ≡ t ++ u → can_be Letter q ≡ true → IsPart q t → length t ≤ k
letter_bound xs k names blanks (Whole Kind.Name) t u w e i = names t u w i
letter_bound xs k names blanks (Whole Kind.Blank) t u w e i = blanks t u w i
letter_bound xs k names blanks _ t u w e i = absurd (true≢false (sym e))

mark_bound : (xs : List ℕ) (k : ℕ) → ((t u : List ℕ) → xs ≡ t ++ u → IsMarked t → length t ≤ k) →
    (q : Part) (t u : List ℕ) → xs ≡ t ++ u → can_be Mark q ≡ true → IsPart q t → length t ≤ k
mark_bound xs k blanks (Whole Kind.Blank) t u w e i = blanks t u w i
mark_bound xs k blanks _ t u w e i = absurd (true≢false (sym e))

abbrev FirstBound : ℕ → List ℕ → First → ℕ → Type 0
FirstBound c cs f k = (q : Part) (t u : List ℕ) → c ∷ cs ≡ t ++ u → can_be f q ≡ true → IsPart q t → length t ≤ k

blank_by : (c : ℕ) (cs : List ℕ) (f : First) → first c ≡ f → (n : Name_at (c ∷ cs)) (m : Marks_at n.back) (b : Name_at m.back) → 0 < length m.front →
    FirstBound c cs f (length n.front + length m.front + length b.front) → Stands (c ∷ cs) (blank_after (length n.front) n.back)
blank_by c cs f e n m b s bound =
    let front : List ℕ = n.front ++ (m.front ++ b.front) in
    let l : length front ≡ length n.front + length m.front + length b.front = marked_long n.front m.front b.front in
    let behind_marks : drop (at_most (run is_mark n.back)) n.back ≡ m.back = ap₂ (λ k xs. drop k xs) m.long m.whole ∙ dropped m.front m.back in
    stands (Whole Kind.Blank) front b.back
    (longest_by c cs f e (Whole Kind.Blank) front b.back
    (n.whole ∙ ap (λ (ys : List ℕ). n.front ++ ys) (m.whole ∙ ap (λ (ys : List ℕ). m.front ++ ys) b.whole ∙ sym (append_assoc m.front b.front b.back)) ∙ sym (append_assoc n.front (m.front ++ b.front) b.back))
    (record { before = n.front; marks = m.front; behind = b.front; is = refl; name = n.name; only = m.only; some = s; few = m.few; head = b.name })
    (λ q t u w g i. subst (λ k. length t ≤ k) (sym l) (bound q t u w g i)))
    (ap₂ (λ j k. Takes Kind.Blank (length n.front + j + k)) m.long (ap name_length behind_marks ∙ b.long) ∙ ap (Takes Kind.Blank) (sym l))

abbrev named_by : ℕ → List ℕ → Scan
named_by n back = elim (begins_with (95 ∷ []) back) [ true ↦ blank_after n back | false ↦ Takes Kind.Name n ]

pub name_stands : (c : ℕ) (cs : List ℕ) → begins_name c ≡ true → Stands (c ∷ cs) (name_scan (c ∷ cs))
name_stands c cs e =
    let n = name_at (c ∷ cs) in
    let back : drop (name_length (c ∷ cs)) (c ∷ cs) ≡ n.back = ap₂ (λ k xs. drop k xs) n.long n.whole ∙ dropped n.front n.back in
    subst (Stands (c ∷ cs)) (ap₂ named_by (sym n.long) (sym back)) (go n (begins_with (95 ∷ []) n.back) refl)
  where
    full : (n : Name_at (c ∷ cs)) → is_name n.front ≡ true
    full n = by n.front n.name (n.bound (c ∷ []) cs refl (ap (λ b. b && true) e))
      where
        by : (t : List ℕ) → IsOptional t → 1 ≤ length t → is_name t ≡ true
        by [] i l = absurd (omega (arith, l))
        by (d ∷ t) i l = i

    go : (n : Name_at (c ∷ cs)) (b : Bool) → begins_with (95 ∷ []) n.back ≡ b → Stands (c ∷ cs) (elim b as (λ _. Scan) [ true ↦ blank_after (length n.front) n.back | false ↦ Takes Kind.Name (length n.front) ])
    go n true g =
        let m = marks_at n.back in
        let b = name_at m.back in
        blank_by c cs Letter (name_first c e) n m b (some_mark n.back m g)
        (letter_bound (c ∷ cs) (length n.front + length m.front + length b.front)
        (λ t u w i. let h = name_bound (c ∷ cs) n t u w i in omega (arith, h)) (blank_bound (c ∷ cs) n m b))
    go n false g =
        stands (Whole Kind.Name) n.front n.back
        (longest_by c cs Letter (name_first c e) (Whole Kind.Name) n.front n.back n.whole (full n)
        (letter_bound (c ∷ cs) (length n.front) (name_bound (c ∷ cs) n)
        (λ t u w i. absurd (no_mark n.back i.marks (i.behind ++ u) g (behind (c ∷ cs) n t u i w).rest i.only i.some))))
        refl

pub mark_stands : (c : ℕ) (cs : List ℕ) → (c == 95) ≡ true → Stands (c ∷ cs) (blank_after 0 (c ∷ cs))
unfolding nameless
mark_stands c cs e = go (begins_name c) refl
  where
    go : (b : Bool) → begins_name c ≡ b → Stands (c ∷ cs) (blank_after 0 (c ∷ cs))
    go true g = absurd (true≢false (sym g ∙ ap begins_name (eqb-true c 95 e)))
    go false g =
        let n : Name_at (c ∷ cs) = nameless c cs g in
        let m = marks_at (c ∷ cs) in
        let b = name_at m.back in
        blank_by c cs Mark (mark_first c e) n m b (some_mark (c ∷ cs) m (ap (λ x. elim x [ true ↦ true | false ↦ false ]) e))
        (mark_bound (c ∷ cs) (length n.front + length m.front + length b.front) (blank_bound (c ∷ cs) n m b))
