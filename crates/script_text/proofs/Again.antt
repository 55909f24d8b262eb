-- A full form is read as its expression.
use Rattle.std.proofs.Common.{◌≡◌, refl, sym, ap, ◌∙◌, ℕ, suc, pred, ◌+◌, ◌-◌, ◌*◌, ◌/◌, ◌%◌, ◌^◌, ◌<◌, ◌≤◌, Bool, true, false, List, [], ◌∷◌, ◌++◌, append_assoc, Option, Some, None, option_and_then, true≢false, arith, le-leb, lt-ltb, ne_eqb, eqb-true, ltb-true}
use Rattle.std.proofs.lemmas.Bool.{lt-leb}
use Rattle.std.proofs.lemmas.List.{append-nil}
use Rattle.std.specs.Prelude.{◌&&◌, ◌||◌, ◌==◌, leb, pos, negsuc, ℤ}
use Rattle.std.specs.Fmt.{decimal, signed_decimal}
use Rattle.std.proofs.lemmas.Fmt.{decimal_by_steps_wide}
use Rattle.expr_tree.specs.declared.sym.Sym.{Sym}
use Rattle.expr_tree.specs.Tree.{Tree, Trees, integer, string, symbol, normal, nil, cons, elements, trees, call}
use Rattle.expr_tree.specs.Limits.{in_range}
use Rattle.script_text.specs.Bytes.{begins_name, is_digit, in_name, is_name, all}
use Rattle.script_text.specs.Spelling.{Spelling, spelled, symbol_text}
use Rattle.script_text.specs.Full.{escaped, escaped_by, all_escaped, full, full_items, full_others}
use Rattle.script_text.specs.FullForm.{IsSpelled, IsWritten, AreWritten}
use Rattle.script_text.specs.Reader.{Class, Letter, Digit, Opening, Closing, Comma, class_by, class_of, Frame, Mode, Starts, Minus, Number, Name, InString, Have, State, at, signed, after, name, step, run, ends, symbol_of, read, whole}

abbrev pub Finder : Type 0
Finder = List ℕ → ℕ

abbrev pub state : List Frame → Mode → State
state frames mode = record { frames = frames; mode = mode }

-- ---- runs one after another

bind_then : (find : Finder) (cs ds : List ℕ) (t : State) (o : Option State) →
    ((s : State) → run find cs s ≡ Some t → run find (cs ++ ds) s ≡ run find ds t) →
    option_and_then (run find cs) o ≡ Some t → option_and_then (run find (cs ++ ds)) o ≡ run find ds t
bind_then find cs ds t None h e = cc
bind_then find cs ds t (Some s) h e = h s e

pub run_then : (find : Finder) (cs ds : List ℕ) (s t : State) → run find cs s ≡ Some t → run find (cs ++ ds) s ≡ run find ds t
run_then find [] ds s t e = let q : s ≡ t = cc in ap (run find ds) q
run_then find (c ∷ cs) ds s t e = bind_then find cs ds t (step find c s) (λ s₁ h. run_then find cs ds s₁ t h) e

-- ---- classes

letter_class : (c : ℕ) → begins_name c ≡ true → class_of c ≡ Letter
letter_class c e = ap (λ b. class_by b (is_digit c) c) e

digit_class : (d : ℕ) → d < 10 → class_of (48 + d) ≡ Digit
digit_class d h =
    let e1 : leb 97 (48 + d) ≡ false = lt-leb 97 (48 + d) (omega arith) in
    let e2 : leb 65 (48 + d) ≡ false = lt-leb 65 (48 + d) (omega arith) in
    let e3 : (48 + d == 36) ≡ false = ne_eqb (48 + d) 36 (omega arith) in
    let e4 : leb 48 (48 + d) ≡ true = le-leb 48 (48 + d) (omega arith) in
    let e5 : leb (48 + d) 57 ≡ true = le-leb (48 + d) 57 (omega arith) in
    rw (e1, e2, e3, e4, e5) refl

-- ---- names

both_true : (a b : Bool) → (a && b) ≡ true → (a ≡ true) × (b ≡ true)
both_true true b e = (refl, e)
both_true false b e = absurd (true≢false (sym e))

name_step : (find : Finder) (frames : List Frame) (w : List ℕ) (c : ℕ) → in_name c ≡ true → step find c (state frames (Name w)) ≡ at frames (Name (w ++ (c ∷ [])))
name_step find frames w c e = go (begins_name c) (is_digit c) e
  where
    go : (a b : Bool) → (a || b) ≡ true → name find frames w c (class_by a b c) ≡ at frames (Name (w ++ (c ∷ [])))
    go true b e = refl
    go false true e = refl
    go false false e = absurd (true≢false (sym e))

name_run : (find : Finder) (frames : List Frame) (w cs : List ℕ) → all in_name cs ≡ true → run find cs (state frames (Name w)) ≡ at frames (Name (w ++ cs))
name_run find frames w [] e = ap (λ v. at frames (Name v)) (sym (append-nil w))
name_run find frames w (c ∷ cs) e =
    let both = both_true (in_name c) (all in_name cs) e in
    rw (name_step find frames w c both.0) (name_run find frames (w ++ (c ∷ [])) cs both.1 ∙ ap (λ v. at frames (Name v)) (append_assoc w (c ∷ []) cs))

pub name_starts : (find : Finder) (frames : List Frame) (closes : Bool) (t : List ℕ) → is_name t ≡ true → run find t (state frames (Starts closes)) ≡ at frames (Name t)
name_starts find frames closes [] e = absurd (true≢false (sym e))
name_starts find frames closes (c ∷ cs) e =
    let both = both_true (begins_name c) (all in_name cs) e in
    rw (letter_class c both.0) (name_run find frames (c ∷ []) cs both.1)

-- ---- numbers

number_step : (find : Finder) (frames : List Frame) (below : Bool) (n d m : ℕ) → d < 10 → 0 < n → n * 10 + d ≡ m → in_range (signed below m) ≡ true
    → step find (48 + d) (state frames (Number below n)) ≡ at frames (Number below m)
number_step find frames below n d m h p e r =
    let g : n * 10 + (48 + d - 48) ≡ m = omega arith in
    let z : (n == 0) ≡ false = ne_eqb n 0 (omega arith) in
    rw (digit_class d h, z, g, r) refl

run_one : (find : Finder) (c : ℕ) (s t : State) → step find c s ≡ Some t → run find (c ∷ []) s ≡ Some t
run_one find c s t e = ap (option_and_then (run find [])) e

digits_run : (find : Finder) (frames : List Frame) (closes : Bool) (n : ℕ) → n < 2 ^ 127 → run find (decimal n) (state frames (Starts closes)) ≡ at frames (Number false n)
digits_run find frames closes n h =
    decimal_by_steps_wide (λ k ds. k < 2 ^ 127 → run find ds (state frames (Starts closes)) ≡ at frames (Number false k))
    (λ k small _. one k small)
    (λ k ds large front within. next k ds large within (front (omega arith)))
    n (omega arith) h
  where
    one : (k : ℕ) → k < 10 → run find ((48 + k) ∷ []) (state frames (Starts closes)) ≡ at frames (Number false k)
    one k small = run_one find (48 + k) (state frames (Starts closes)) (state frames (Number false k)) (let g : 48 + k - 48 ≡ k = omega arith in rw (digit_class k small, g) refl)

    next : (k : ℕ) (ds : List ℕ) → 10 ≤ k → k < 2 ^ 127 → run find ds (state frames (Starts closes)) ≡ at frames (Number false (k / 10))
        → run find (ds ++ ((48 + k % 10) ∷ [])) (state frames (Starts closes)) ≡ at frames (Number false k)
    next k ds large within front =
        run_then find ds ((48 + k % 10) ∷ []) (state frames (Starts closes)) (state frames (Number false (k / 10))) front
        ∙ run_one find (48 + k % 10) (state frames (Number false (k / 10))) (state frames (Number false k)) (number_step find frames false (k / 10) (k % 10) k (omega arith) (omega arith) (omega arith) (lt-ltb k (2 ^ 127) within))

minus_run : (find : Finder) (frames : List Frame) (n : ℕ) → 0 < n → n ≤ 2 ^ 127 → run find (decimal n) (state frames Minus) ≡ at frames (Number true n)
minus_run find frames n positive h =
    decimal_by_steps_wide (λ k ds. 0 < k → k ≤ 2 ^ 127 → run find ds (state frames Minus) ≡ at frames (Number true k))
    (λ k small p _. one k small p)
    (λ k ds large front p within. next k ds large within (front (omega arith) (omega arith)))
    n (omega arith) positive h
  where
    one : (k : ℕ) → k < 10 → 0 < k → run find ((48 + k) ∷ []) (state frames Minus) ≡ at frames (Number true k)
    one k small p =
        run_one find (48 + k) (state frames Minus) (state frames (Number true k)) (let g : 48 + k - 48 ≡ k = omega arith in let z : (48 + k == 48) ≡ false = ne_eqb (48 + k) 48 (omega arith) in rw (digit_class k small, z, g) refl)

    next : (k : ℕ) (ds : List ℕ) → 10 ≤ k → k ≤ 2 ^ 127 → run find ds (state frames Minus) ≡ at frames (Number true (k / 10))
        → run find (ds ++ ((48 + k % 10) ∷ [])) (state frames Minus) ≡ at frames (Number true k)
    next k ds large within front =
        run_then find ds ((48 + k % 10) ∷ []) (state frames Minus) (state frames (Number true (k / 10))) front
        ∙ run_one find (48 + k % 10) (state frames (Number true (k / 10))) (state frames (Number true k)) (number_step find frames true (k / 10) (k % 10) k (omega arith) (omega arith) (omega arith) (lt-ltb (pred k) (2 ^ 127) (omega arith)))

-- ---- strings

escaped_run : (find : Finder) (frames : List Frame) (s : List ℕ) (c : ℕ) (cs : List ℕ)
    → run find (escaped c ++ cs) (state frames (InString false s)) ≡ run find cs (state frames (InString false (s ++ (c ∷ []))))
escaped_run find frames s c cs = go (c == 34) (c == 92) (c == 10) (c == 9) refl refl refl refl
  where
    same : (k : ℕ) → c ≡ k → run find cs (state frames (InString false (s ++ (k ∷ [])))) ≡ run find cs (state frames (InString false (s ++ (c ∷ []))))
    same k e = ap (λ j. run find cs (state frames (InString false (s ++ (j ∷ []))))) (sym e)

    go : (p q r t : Bool) → (c == 34) ≡ p → (c == 92) ≡ q → (c == 10) ≡ r → (c == 9) ≡ t
        → run find (escaped_by p q r t c ++ cs) (state frames (InString false s)) ≡ run find cs (state frames (InString false (s ++ (c ∷ []))))
    go true q r t ep eq er et = same 34 (eqb-true c 34 ep)
    go false true r t ep eq er et = same 92 (eqb-true c 92 eq)
    go false false true t ep eq er et = same 10 (eqb-true c 10 er)
    go false false false true ep eq er et = same 9 (eqb-true c 9 et)
    go false false false false ep eq er et = rw (ep, eq, er, et) refl

pub string_run : (find : Finder) (frames : List Frame) (s t : List ℕ) → run find (all_escaped t ++ (34 ∷ [])) (state frames (InString false s)) ≡ at frames (Have (string (s ++ t)))
string_run find frames s [] = ap (λ v. at frames (Have (string v))) (sym (append-nil s))
string_run find frames s (c ∷ cs) =
    ap (λ v. run find v (state frames (InString false s))) (append_assoc (escaped c) (all_escaped cs) (34 ∷ []))
    ∙ escaped_run find frames s c (all_escaped cs ++ (34 ∷ []))
    ∙ string_run find frames (s ++ (c ∷ [])) cs
    ∙ ap (λ v. at frames (Have (string v))) (append_assoc s (c ∷ []) cs)

-- ---- behind a whole expression

follows : (find : Finder) (frames : List Frame) (c : ℕ) (k : Class)
    → ((below : Bool) (n : ℕ) → step find c (state frames (Number below n)) ≡ after frames (integer (signed below n)) k)
    → ((w : List ℕ) → step find c (state frames (Name w)) ≡ after frames (symbol (symbol_of find (spelled w))) k)
    → ((e : Tree) → step find c (state frames (Have e)) ≡ after frames e k)
    → (m : Mode) (e : Tree) → ends find m ≡ Some e → step find c (state frames m) ≡ after frames e k
follows find frames c k number name have (Number below n) e q = let p : integer (signed below n) ≡ e = cc in number below n ∙ ap (λ x. after frames x k) p
follows find frames c k number name have (Name w) e q = let p : symbol (symbol_of find (spelled w)) ≡ e = cc in name w ∙ ap (λ x. after frames x k) p
follows find frames c k number name have (Have f) e q = let p : f ≡ e = cc in have f ∙ ap (λ x. after frames x k) p
follows find frames c k number name have _ e q = cc

pub opens : (find : Finder) (frames : List Frame) (m : Mode) (e : Tree) → ends find m ≡ Some e → step find 91 (state frames m) ≡ after frames e Opening
opens find frames = follows find frames 91 Opening (λ b n. refl) (λ w. refl) (λ e. refl)

pub closes_by : (find : Finder) (frames : List Frame) (m : Mode) (e : Tree) → ends find m ≡ Some e → step find 93 (state frames m) ≡ after frames e Closing
closes_by find frames = follows find frames 93 Closing (λ b n. refl) (λ w. refl) (λ e. refl)

pub goes_on : (find : Finder) (frames : List Frame) (m : Mode) (e : Tree) → ends find m ≡ Some e → step find 44 (state frames m) ≡ after frames e Comma
goes_on find frames = follows find frames 44 Comma (λ b n. refl) (λ w. refl) (λ e. refl)

-- ---- expressions

pub record Reaches (find : Finder) (frames : List Frame) (closes : Bool) (t : List ℕ) (e : Tree) : Type 0 where
  pub mode : Mode
  pub runs : run find t (state frames (Starts closes)) ≡ at frames mode
  pub whole : ends find mode ≡ Some e

abbrev mutual
  pub IsFound : Finder → Spelling → Tree → Type 0
  IsFound find spelling (integer n) = Unit {0}
  IsFound find spelling (string t) = Unit {0}
  IsFound find spelling (symbol s) = find (spelling s.base) ≡ s.base
  IsFound find spelling (normal h es) = IsFound find spelling h × AreFound find spelling es

  pub AreFound : Finder → Spelling → Trees → Type 0
  AreFound find spelling nil = Unit {0}
  AreFound find spelling (cons e es) = IsFound find spelling e × AreFound find spelling es

packed_listed : (es : Trees) → trees (elements es) ≡ es
packed_listed nil = refl
packed_listed (cons e es) = ap (cons e) (packed_listed es)

pub int_reaches : (find : Finder) (frames : List Frame) (closes : Bool) (n : ℤ) → in_range n ≡ true → Reaches find frames closes (signed_decimal n) (integer n)
int_reaches find frames closes (pos n) r = record { mode = Number false n; runs = digits_run find frames closes n (ltb-true n (2 ^ 127) r); whole = refl }
int_reaches find frames closes (negsuc n) r =
    let h : n < 2 ^ 127 = ltb-true n (2 ^ 127) r in
    record { mode = Number true (suc n); runs = minus_run find frames (suc n) (omega arith) (omega arith); whole = refl }

symbol_reaches : (find : Finder) (spelling : Spelling) (frames : List Frame) (closes : Bool) (s : Sym) → IsSpelled spelling s → find (spelling s.base) ≡ s.base
    → Reaches find frames closes (symbol_text spelling s) (symbol s)
symbol_reaches find spelling frames closes s spelled found =
    record {
      mode = Name (symbol_text spelling s);
      runs = name_starts find frames closes (symbol_text spelling s) spelled.is_name;
      whole = ap (λ v. Some (symbol (symbol_of find v))) spelled.read_back ∙ ap (λ b. Some (symbol (record { base = b; number = s.number }))) found;
    }

mutual
  reaches : (find : Finder) (spelling : Spelling) (e : Tree) → IsWritten spelling e → IsFound find spelling e → (frames : List Frame) (closes : Bool)
      → Reaches find frames closes (full spelling e) e
  reaches find spelling (integer n) w d frames closes = int_reaches find frames closes n w
  reaches find spelling (string t) w d frames closes = record { mode = Have (string t); runs = string_run find frames [] t; whole = refl }
  reaches find spelling (symbol s) w d frames closes = symbol_reaches find spelling frames closes s w d
  reaches find spelling (normal h es) w d frames closes =
      let r = reaches find spelling h w.0 d.0 frames closes in
      record {
        mode = Have (normal h es);
        runs =
            run_then find (full spelling h) (91 ∷ full_items spelling es ++ (93 ∷ [])) (state frames (Starts closes)) (state frames r.mode) r.runs
            ∙ ap (option_and_then (run find (full_items spelling es ++ (93 ∷ [])))) (opens find frames r.mode h r.whole)
            ∙ items_run find spelling es w.1 d.1 frames h
            ∙ ap (λ v. at frames (Have (normal h v))) (packed_listed es);
        whole = refl;
      }

  items_run : (find : Finder) (spelling : Spelling) (es : Trees) → AreWritten spelling es → AreFound find spelling es → (frames : List Frame) (h : Tree)
      → run find (full_items spelling es ++ (93 ∷ [])) (state (record { head = h; items = [] } ∷ frames) (Starts true)) ≡ at frames (Have (call h (elements es)))
  items_run find spelling nil w d frames h = refl
  items_run find spelling (cons e es) w d frames h =
      let inner : List Frame = record { head = h; items = [] } ∷ frames in
      let r = reaches find spelling e w.0 d.0 inner true in
      ap (λ v. run find v (state inner (Starts true))) (append_assoc (full spelling e) (full_others spelling es) (93 ∷ []))
      ∙ run_then find (full spelling e) (full_others spelling es ++ (93 ∷ [])) (state inner (Starts true)) (state inner r.mode) r.runs
      ∙ others_run find spelling es w.1 d.1 frames h [] r.mode e r.whole

  others_run : (find : Finder) (spelling : Spelling) (es : Trees) → AreWritten spelling es → AreFound find spelling es → (frames : List Frame) (h : Tree) (items : List Tree)
      (m : Mode) (e : Tree) → ends find m ≡ Some e
      → run find (full_others spelling es ++ (93 ∷ [])) (state (record { head = h; items = items } ∷ frames) m) ≡ at frames (Have (call h (items ++ (e ∷ elements es))))
  others_run find spelling nil w d frames h items m e q = ap (option_and_then (run find [])) (closes_by find (record { head = h; items = items } ∷ frames) m e q)
  others_run find spelling (cons f es) w d frames h items m e q =
      let inner : List Frame = record { head = h; items = items ++ (e ∷ []) } ∷ frames in
      let r = reaches find spelling f w.0 d.0 inner false in
      let rest = full_others spelling es ++ (93 ∷ []) in
      ap (option_and_then (run find (32 ∷ (full spelling f ++ full_others spelling es) ++ (93 ∷ [])))) (goes_on find (record { head = h; items = items } ∷ frames) m e q)
      ∙ ap (λ v. run find v (state inner (Starts false))) (append_assoc (full spelling f) (full_others spelling es) (93 ∷ []))
      ∙ run_then find (full spelling f) (full_others spelling es ++ (93 ∷ [])) (state inner (Starts false)) (state inner r.mode) r.runs
      ∙ others_run find spelling es w.1 d.1 frames h (items ++ (e ∷ [])) r.mode f r.whole
      ∙ ap (λ v. at frames (Have (call h v))) (append_assoc items (e ∷ []) (f ∷ elements es))

pub read_again : (find : Finder) (spelling : Spelling) (e : Tree) → IsWritten spelling e → IsFound find spelling e → read find (full spelling e) ≡ Some e
read_again find spelling e w d =
    let r = reaches find spelling e w d [] false in
    ap (option_and_then (λ s. whole find s.frames s.mode)) r.runs ∙ r.whole
