-- Numbers, names, strings, blanks and slots: the text of each is one token, which stands for it.
use Rattle.std.proofs.Common.{◌≡◌, refl, sym, ap, ap₂, ◌∙◌, ℕ, zero, suc, ◌+◌, ◌-◌, ◌*◌, ◌/◌, ◌%◌, ◌^◌, ◌<◌, ◌≤◌, Bool, true, false, List, [], ◌∷◌, ◌++◌, length, take, drop, append_assoc, length-append, true≢false, arith, eqb-true, lt-ltb, le-leb, pos}
use Rattle.std.specs.Prelude.{◌==◌, ◌&&◌, ltb}
use Rattle.std.specs.Fmt.{decimal}
use Rattle.std.proofs.lemmas.Fmt.{decimal_by_steps_wide}
use Rattle.expr_tree.specs.Tree.{integer, string}
use Rattle.script_text.specs.Bytes.{is_digit, begins_name, in_name, is_name, run, all, begins_with, number_after}
use Rattle.script_text.specs.Full.{escaped, escaped_by, all_escaped, quoted}
use Rattle.syntax.specs.Tokens as tok
use Rattle.syntax.specs.Leaves.{unescaped, number_leaf, string_leaf}
use Rattle.laws_readback.proofs.Pieces.{IsCut}
use Rattle.laws_readback.proofs.Scans.{both_true, Ends, ender, Stops, run_all, stops_name, stops_digit, scan_digit, scan_name}

pub front_taken : (xs ys : List ℕ) → take (length xs) (xs ++ ys) ≡ xs
front_taken [] ys = refl
front_taken (x ∷ xs) ys = ap (λ (zs : List ℕ). x ∷ zs) (front_taken xs ys)

pub front_dropped : (xs ys : List ℕ) → drop (length xs) (xs ++ ys) ≡ ys
front_dropped [] ys = refl
front_dropped (x ∷ xs) ys = front_dropped xs ys

-- ---- numbers

-- digits that write the number
pub record Numeral (n : ℕ) (ds : List ℕ) : Type 0 where
  pub digits : all is_digit ds ≡ true
  pub value : number_after 0 ds ≡ n
  pub some : 0 < length ds

all_last : (ds : List ℕ) (d : ℕ) → all is_digit ds ≡ true → is_digit d ≡ true → all is_digit (ds ++ (d ∷ [])) ≡ true
all_last [] d a e = ap (λ b. b && true) e
all_last (c ∷ ds) d a e =
    let both = both_true (is_digit c) (all is_digit ds) a in
    ap₂ (λ p q. p && q) both.0 (all_last ds d both.1 e)

number_last : (n : ℕ) (ds : List ℕ) (d : ℕ) → number_after n (ds ++ (d ∷ [])) ≡ number_after n ds * 10 + (d - 48)
number_last n [] d = refl
number_last n (c ∷ ds) d = number_last (n * 10 + (c - 48)) ds d

digit_is : (d : ℕ) → d < 10 → is_digit (48 + d) ≡ true
digit_is d h = ap₂ (λ p q. p && q) (le-leb 48 (48 + d) (omega arith)) (le-leb (48 + d) 57 (omega arith))

pub numeral : (n : ℕ) → n < 10 ^ 64 → Numeral n (decimal n)
numeral n h = decimal_by_steps_wide Numeral one next n h
  where
    one : (k : ℕ) → k < 10 → Numeral k ((48 + k) ∷ [])
    one k small = record { digits = all_last [] (48 + k) refl (digit_is k small); value = omega arith; some = omega arith }

    next : (k : ℕ) (ds : List ℕ) → 10 ≤ k → Numeral (k / 10) ds → Numeral k (ds ++ ((48 + k % 10) ∷ []))
    next k ds large front = record {
      digits = all_last ds (48 + k % 10) front.digits (digit_is (k % 10) (omega arith));
      value = number_last 0 ds (48 + k % 10) ∙ (let v = front.value in omega (arith, v));
      some = let h = length-append ds ((48 + k % 10) ∷ []) in omega (arith, h);
    }

abbrev number_by : ℕ → List ℕ → tok.Scan
number_by n cs = elim (ltb (number_after 0 (take n cs)) (2 ^ 127)) [ true ↦ tok.Takes tok.Number n | false ↦ tok.Faults tok.WideNumber 0 ]

pub number_cut : (n : ℕ) (ds rest : List ℕ) → Numeral n ds → n < 2 ^ 127 → Ends rest → IsCut tok.Number ds rest
number_cut n [] rest w h e = absurd (omega (arith, w.some))
number_cut n (d ∷ ds) rest w h e =
    let both = both_true (is_digit d) (all is_digit ds) w.digits in
    let long : run is_digit ((d ∷ ds) ++ rest) ≡ length (d ∷ ds) = run_all is_digit (d ∷ ds) rest w.digits (stops_digit rest e) in
    let same : number_after 0 (take (length (d ∷ ds)) ((d ∷ ds) ++ rest)) ≡ n = ap (number_after 0) (front_taken (d ∷ ds) rest) ∙ w.value in
    let small : ltb (number_after 0 (take (length (d ∷ ds)) ((d ∷ ds) ++ rest))) (2 ^ 127) ≡ true = ap (λ m. ltb m (2 ^ 127)) same ∙ lt-ltb n (2 ^ 127) h in
    scan_digit d (ds ++ rest) both.0
    ∙ ap (λ m. number_by m ((d ∷ ds) ++ rest)) long
    ∙ ap (λ b. elim b as (λ _. tok.Scan) [ true ↦ tok.Takes tok.Number (length (d ∷ ds)) | false ↦ tok.Faults tok.WideNumber 0 ]) small

pub number_value : (n : ℕ) (ds : List ℕ) → Numeral n ds → number_leaf ds ≡ integer (pos n)
number_value n ds w = ap (λ m. integer (pos m)) w.value

-- ---- names

abbrev pub name_by : ℕ → List ℕ → tok.Scan
name_by n cs = elim (begins_with (95 ∷ []) (drop n cs)) [ true ↦ tok.blank_after n (drop n cs) | false ↦ tok.Takes tok.Name n ]

no_mark : (rest : List ℕ) → Ends rest → begins_with (95 ∷ []) rest ≡ false
no_mark [] e = refl
no_mark (c ∷ rest) e = ap (λ b. elim b [ true ↦ true | false ↦ false ]) (ender c e).no_mark

pub name_long : (t rest : List ℕ) → is_name t ≡ true → Stops in_name rest → tok.name_length (t ++ rest) ≡ length t
name_long [] rest n s = absurd (true≢false (sym n))
name_long (c ∷ cs) rest n s =
    let both = both_true (begins_name c) (all in_name cs) n in
    ap (λ b. elim b [ true ↦ suc (run in_name (cs ++ rest)) | false ↦ zero ]) both.0 ∙ ap suc (run_all in_name cs rest both.1 s)

pub name_cut : (t rest : List ℕ) → is_name t ≡ true → Ends rest → IsCut tok.Name t rest
name_cut [] rest n e = absurd (true≢false (sym n))
name_cut (c ∷ cs) rest n e =
    let both = both_true (begins_name c) (all in_name cs) n in
    scan_name c (cs ++ rest) both.0
    ∙ ap (λ m. name_by m ((c ∷ cs) ++ rest)) (name_long (c ∷ cs) rest n (stops_name rest e))
    ∙ ap (λ b. elim b as (λ _. tok.Scan) [ true ↦ tok.blank_after (length (c ∷ cs)) (drop (length (c ∷ cs)) ((c ∷ cs) ++ rest)) | false ↦ tok.Takes tok.Name (length (c ∷ cs)) ])
    (ap (begins_with (95 ∷ [])) (front_dropped (c ∷ cs) rest) ∙ no_mark rest e)

-- ---- strings

plain_end : (c n : ℕ) (cs : List ℕ) → (c == 34) ≡ false → (c == 92) ≡ false → tok.string_end false n (c ∷ cs) ≡ tok.string_end false (suc n) cs
plain_end c n cs p q =
    ap (λ b. elim b as (λ _. tok.Scan) [ true ↦ tok.Takes tok.Str (suc n) | false ↦ elim (c == 92) [ true ↦ tok.string_end true (suc n) cs | false ↦ tok.string_end false (suc n) cs ] ]) p
    ∙ ap (λ b. elim b as (λ _. tok.Scan) [ true ↦ tok.string_end true (suc n) cs | false ↦ tok.string_end false (suc n) cs ]) q

-- one byte of a string as it is written
escaped_end : (c n : ℕ) (cs : List ℕ) → tok.string_end false n (escaped c ++ cs) ≡ tok.string_end false (n + length (escaped c)) cs
escaped_end c n cs = go (c == 34) (c == 92) (c == 10) (c == 9) refl refl
  where
    go : (p q r t : Bool) → (c == 34) ≡ p → (c == 92) ≡ q → tok.string_end false n (escaped_by p q r t c ++ cs) ≡ tok.string_end false (n + length (escaped_by p q r t c)) cs
    go true q r t ep eq = ap (λ m. tok.string_end false m cs) (omega arith)
    go false true r t ep eq = ap (λ m. tok.string_end false m cs) (omega arith)
    go false false true t ep eq = ap (λ m. tok.string_end false m cs) (omega arith)
    go false false false true ep eq = ap (λ m. tok.string_end false m cs) (omega arith)
    go false false false false ep eq = plain_end c n cs ep eq ∙ ap (λ m. tok.string_end false m cs) (omega arith)

string_ends : (t : List ℕ) (n : ℕ) (rest : List ℕ) → tok.string_end false n ((all_escaped t ++ (34 ∷ [])) ++ rest) ≡ tok.Takes tok.Str (n + length (all_escaped t ++ (34 ∷ [])))
string_ends [] n rest = ap (tok.Takes tok.Str) (omega arith)
string_ends (c ∷ t) n rest =
    let all = append_assoc (escaped c) (all_escaped t) (34 ∷ []) in
    let long = length-append (escaped c) (all_escaped t ++ (34 ∷ [])) in
    ap (λ (cs : List ℕ). tok.string_end false n (cs ++ rest)) all
    ∙ ap (tok.string_end false n) (append_assoc (escaped c) (all_escaped t ++ (34 ∷ [])) rest)
    ∙ escaped_end c n ((all_escaped t ++ (34 ∷ [])) ++ rest)
    ∙ string_ends t (n + length (escaped c)) rest
    ∙ ap (tok.Takes tok.Str) (ap (λ (m : ℕ). m) (let q : n + length (escaped c) + length (all_escaped t ++ (34 ∷ [])) ≡ n + length (escaped c ++ (all_escaped t ++ (34 ∷ []))) = omega (arith, long) in q)
    ∙ ap (λ (cs : List ℕ). n + length cs) (sym all))

pub string_cut : (t rest : List ℕ) → IsCut tok.Str (quoted t) rest
string_cut t rest = string_ends t 1 rest ∙ ap (tok.Takes tok.Str) (omega arith)

plain_byte : (c : ℕ) (cs : List ℕ) → (c == 34) ≡ false → (c == 92) ≡ false → unescaped false (c ∷ cs) ≡ c ∷ unescaped false cs
plain_byte c cs p q =
    ap (λ b. elim b as (λ _. List ℕ) [ true ↦ [] | false ↦ elim (c == 92) [ true ↦ unescaped true cs | false ↦ c ∷ unescaped false cs ] ]) p
    ∙ ap (λ b. elim b as (λ _. List ℕ) [ true ↦ unescaped true cs | false ↦ c ∷ unescaped false cs ]) q

escaped_byte : (c : ℕ) (cs : List ℕ) → unescaped false (escaped c ++ cs) ≡ c ∷ unescaped false cs
escaped_byte c cs = go (c == 34) (c == 92) (c == 10) (c == 9) refl refl refl refl
  where
    go : (p q r t : Bool) → (c == 34) ≡ p → (c == 92) ≡ q → (c == 10) ≡ r → (c == 9) ≡ t → unescaped false (escaped_by p q r t c ++ cs) ≡ c ∷ unescaped false cs
    go true q r t ep eq er et = ap (λ k. k ∷ unescaped false cs) (sym (eqb-true c 34 ep))
    go false true r t ep eq er et = ap (λ k. k ∷ unescaped false cs) (sym (eqb-true c 92 eq))
    go false false true t ep eq er et = ap (λ k. k ∷ unescaped false cs) (sym (eqb-true c 10 er))
    go false false false true ep eq er et = ap (λ k. k ∷ unescaped false cs) (sym (eqb-true c 9 et))
    go false false false false ep eq er et = plain_byte c cs ep eq

all_unescaped : (t : List ℕ) → unescaped false (all_escaped t ++ (34 ∷ [])) ≡ t
all_unescaped [] = refl
all_unescaped (c ∷ t) =
    ap (unescaped false) (append_assoc (escaped c) (all_escaped t) (34 ∷ []))
    ∙ escaped_byte c (all_escaped t ++ (34 ∷ []))
    ∙ ap (λ (cs : List ℕ). c ∷ cs) (all_unescaped t)

pub string_value : (t : List ℕ) → string_leaf (quoted t) ≡ string t
string_value t = ap string (all_unescaped t)
