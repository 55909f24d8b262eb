-- What the reader has gone over is the front of a full form.
use Rattle.std.proofs.Common.{◌≡◌, ◌≢◌, refl, sym, ap, subst, ◌∙◌, ℕ, suc, pred, ◌+◌, ◌-◌, ◌*◌, ◌/◌, ◌%◌, ◌^◌, ◌<◌, ◌≤◌, Bool, true, false, List, [], ◌∷◌, ◌++◌, append_assoc, Option, Some, None, option_and_then, true≢false, arith, eqb-true, ltb-true, lt-ltb}
use Rattle.std.specs.Prelude.{◌&&◌, ◌||◌, ◌==◌, not, leb, pos, negsuc}
use Rattle.std.specs.Fmt.{decimal, signed_decimal}
use Rattle.std.proofs.lemmas.List.{append-nil}
use Rattle.std.proofs.lemmas.Bool.{leb-true, eqb-false, not-true}
use Rattle.std.proofs.lemmas.Fmt.{decimal_step_wide, decimal_digit}
use Rattle.expr_tree.specs.Tree.{Tree, integer, string, symbol, trees, call}
use Rattle.expr_tree.specs.Limits.{in_range}
use Rattle.script_text.specs.Spelling.{Spelling}
use Rattle.script_text.specs.Full.{full, full_items, full_others, escaped, all_escaped}
use Rattle.script_text.specs.FullForm.{IsWritten, AreWritten}
use Rattle.script_text.specs.Reader.{Frame, Mode, State, Starts, Gap, Minus, Number, Name, InString, Have, Class, Letter, Digit, Dash, Quote, Opening, Closing, Comma, Space, Other, class_of, class_by, sign_class, after, starts, gap, name, minus, number, grown, escape, in_string, step_in, step, run, first_state, at, when, signed, symbol_of}
use Rattle.script_text.specs.Spelling.{spelled, symbol_text, number_suffix}
use Rattle.script_text.specs.FullForm.{IsSpelled, IsFullForm, BeginsFullForm}
use Rattle.script_text.specs.Laws.{GoesOnRightly}
use Rattle.script_text.proofs.Spelled.{spelled_back}
use Rattle.script_text.specs.Bytes.{is_name, in_name, begins_name, is_digit, all}

module _ (spelling : Spelling) where
  -- items that are whole, each with a comma and a space behind it
  abbrev pub items_text : List Tree → List ℕ
  items_text [] = []
  items_text (e ∷ es) = full spelling e ++ (44 ∷ 32 ∷ items_text es)

  -- what is open, from outside
  abbrev pub open_text : List Frame → List ℕ
  open_text [] = []
  open_text (f ∷ fs) = open_text fs ++ (full spelling f.head ++ (91 ∷ items_text f.items))

  abbrev pub AllWritten : List Tree → Type 0
  AllWritten [] = Unit {0}
  AllWritten (e ∷ es) = IsWritten spelling e × AllWritten es

  pub items_more : (es : List Tree) (e : Tree) → items_text (es ++ (e ∷ [])) ≡ items_text es ++ (full spelling e ++ (44 ∷ 32 ∷ []))
  items_more [] e = refl
  items_more (a ∷ es) e =
      ap (λ v. full spelling a ++ (44 ∷ 32 ∷ v)) (items_more es e)
      ∙ sym (append_assoc (full spelling a) (44 ∷ 32 ∷ items_text es) (full spelling e ++ (44 ∷ 32 ∷ [])))

  pub others_text : (es : List Tree) (e : Tree) → full_others spelling (trees (es ++ (e ∷ []))) ≡ 44 ∷ 32 ∷ (items_text es ++ full spelling e)
  others_text [] e = ap (λ v. 44 ∷ 32 ∷ v) (append-nil (full spelling e))
  others_text (a ∷ es) e =
      ap (λ v. 44 ∷ 32 ∷ (full spelling a ++ v)) (others_text es e)
      ∙ ap (λ v. 44 ∷ 32 ∷ v) (sym (append_assoc (full spelling a) (44 ∷ 32 ∷ items_text es) (full spelling e)))

  -- the items of a normal expression whose last one is e
  pub last_text : (es : List Tree) (e : Tree) → full_items spelling (trees (es ++ (e ∷ []))) ≡ items_text es ++ full spelling e
  last_text [] e = append-nil (full spelling e)
  last_text (a ∷ es) e =
      ap (λ v. full spelling a ++ v) (others_text es e)
      ∙ sym (append_assoc (full spelling a) (44 ∷ 32 ∷ items_text es) (full spelling e))

  pub all_more : (es : List Tree) (e : Tree) → AllWritten es → IsWritten spelling e → AreWritten spelling (trees (es ++ (e ∷ [])))
  all_more [] e w v = (v, tt)
  all_more (a ∷ es) e w v = (w.0, all_more es e w.1 v)

  abbrev pub FramesWritten : List Frame → Type 0
  FramesWritten [] = Unit {0}
  FramesWritten (f ∷ fs) = IsWritten spelling f.head × AllWritten f.items × FramesWritten fs

  -- the expression that closing every bracket makes, and the brackets
  abbrev pub closed_with : List Frame → Tree → Tree
  closed_with [] e = e
  closed_with (f ∷ fs) e = closed_with fs (call f.head (f.items ++ (e ∷ [])))

  abbrev pub brackets : List Frame → List ℕ
  brackets [] = []
  brackets (f ∷ fs) = 93 ∷ brackets fs

  -- with e whole and every bracket closed, the text is a full form
  pub closes_to : (frames : List Frame) (e : Tree) → open_text frames ++ (full spelling e ++ brackets frames) ≡ full spelling (closed_with frames e)
  closes_to [] e = append-nil (full spelling e)
  closes_to (f ∷ fs) e =
      append_assoc (open_text fs) (full spelling f.head ++ (91 ∷ items_text f.items)) (full spelling e ++ (93 ∷ brackets fs))
      ∙ ap (λ v. open_text fs ++ v) (inner ∙ sym outer)
      ∙ closes_to fs (call f.head (f.items ++ (e ∷ [])))
    where
      rest : List ℕ
      rest = brackets fs

      head : List ℕ
      head = full spelling f.head

      inner : (head ++ (91 ∷ items_text f.items)) ++ (full spelling e ++ (93 ∷ rest)) ≡ head ++ (91 ∷ (items_text f.items ++ (full spelling e ++ (93 ∷ rest))))
      inner = append_assoc head (91 ∷ items_text f.items) (full spelling e ++ (93 ∷ rest))

      outer : full spelling (call f.head (f.items ++ (e ∷ []))) ++ rest ≡ head ++ (91 ∷ (items_text f.items ++ (full spelling e ++ (93 ∷ rest))))
      outer =
          ap (λ v. (head ++ (91 ∷ v ++ (93 ∷ []))) ++ rest) (last_text f.items e)
          ∙ append_assoc head (91 ∷ (items_text f.items ++ full spelling e) ++ (93 ∷ [])) rest
          ∙ ap (λ v. head ++ (91 ∷ v)) (append_assoc (items_text f.items ++ full spelling e) (93 ∷ []) rest ∙ append_assoc (items_text f.items) (full spelling e) (93 ∷ rest))

  pub closed_written : (frames : List Frame) (e : Tree) → FramesWritten frames → IsWritten spelling e → IsWritten spelling (closed_with frames e)
  closed_written [] e w v = v
  closed_written (f ∷ fs) e w v = closed_written fs (call f.head (f.items ++ (e ∷ []))) w.2 (w.0, all_more f.items e w.1 v)

-- ---- names

both_true : (a b : Bool) → (a && b) ≡ true → (a ≡ true) × (b ≡ true)
both_true true b e = (refl, e)
both_true false b e = absurd (true≢false (sym e))

digit_in_name : (c : ℕ) → is_digit c ≡ true → in_name c ≡ true
digit_in_name c e = go (begins_name c)
  where
    go : (b : Bool) → (b || is_digit c) ≡ true
    go true = refl
    go false = e

all_longer : (cs : List ℕ) (c : ℕ) → all in_name cs ≡ true → in_name c ≡ true → all in_name (cs ++ (c ∷ [])) ≡ true
all_longer [] c p q = rw q refl
all_longer (d ∷ cs) c p q = let both = both_true (in_name d) (all in_name cs) p in rw both.0 (all_longer cs c both.1 q)

longer_name : (u : List ℕ) (c : ℕ) → in_name c ≡ true → is_name u ≡ true → is_name (u ++ (c ∷ [])) ≡ true
longer_name [] c q n = absurd (true≢false (sym n))
longer_name (d ∷ cs) c q n = let both = both_true (begins_name d) (all in_name cs) n in rw both.0 (all_longer cs c both.1 q)

module _ (spelling : Spelling) (find : List ℕ → ℕ) (found : (w : List ℕ) → spelling (find w) ≡ w) where
  symbol_back' : (u : List ℕ) → symbol_text spelling (symbol_of find (spelled u)) ≡ u
  symbol_back' u = ap (λ b. b ++ number_suffix (spelled u).number) (found (spelled u).base) ∙ spelled_back u

  spelled_well' : (u : List ℕ) → is_name u ≡ true → IsSpelled spelling (symbol_of find (spelled u))
  spelled_well' u n = record {
    is_name = ap is_name (symbol_back' u) ∙ n;
    read_back = ap spelled (symbol_back' u) ∙ ap (λ b. record { base = b; number = (spelled u).number }) (sym (found (spelled u).base));
  }

-- ---- what the reader's state tells of the text

abbrev pub NoItems : List Frame → Type 0
NoItems [] = ⊥
NoItems (f ∷ fs) = f.items ≡ []

abbrev pub Positive : Bool → ℕ → Type 0
Positive true n = 0 < n
Positive false n = Unit {0}

module _ (spelling : Spelling) where
  abbrev pub Told : List Frame → Mode → List ℕ → Type 0
  Told fs (Starts true) t = (t ≡ open_text spelling fs) × NoItems fs
  Told fs (Starts false) t = t ≡ open_text spelling fs
  Told fs Gap t = t ++ (32 ∷ []) ≡ open_text spelling fs
  Told fs Minus t = t ≡ open_text spelling fs ++ (45 ∷ [])
  Told fs (Number below n) t = (t ≡ open_text spelling fs ++ signed_decimal (signed below n)) × (in_range (signed below n) ≡ true) × Positive below n
  Told fs (Name w) t = (t ≡ open_text spelling fs ++ w) × (is_name w ≡ true)
  Told fs (InString false s) t = t ≡ open_text spelling fs ++ (34 ∷ all_escaped s)
  Told fs (InString true s) t = t ≡ open_text spelling fs ++ (34 ∷ all_escaped s ++ (92 ∷ []))
  Told fs (Have e) t = (t ≡ open_text spelling fs ++ full spelling e) × IsWritten spelling e

  abbrev pub Tells : List ℕ → Option State → Type 0
  Tells t None = Unit {0}
  Tells t (Some s) = Told s.frames s.mode t × FramesWritten spelling s.frames

  all_more_items : (es : List Tree) (e : Tree) → AllWritten spelling es → IsWritten spelling e → AllWritten spelling (es ++ (e ∷ []))
  all_more_items [] e w v = (v, tt)
  all_more_items (a ∷ es) e w v = (w.0, all_more_items es e w.1 v)

  -- a byte behind a text with two parts
  behind : (t a b : List ℕ) (c k : ℕ) → t ≡ a ++ b → c ≡ k → t ++ (c ∷ []) ≡ a ++ (b ++ (k ∷ []))
  behind t a b c k p q = ap (λ v. v ++ (c ∷ [])) p ∙ append_assoc a b (c ∷ []) ∙ ap (λ j. a ++ (b ++ (j ∷ []))) q

  opened : (fs : List Frame) (e : Tree) (c : ℕ) (t : List ℕ) → c ≡ 91 → t ≡ open_text spelling fs ++ full spelling e → IsWritten spelling e → FramesWritten spelling fs
      → Tells (t ++ (c ∷ [])) (after fs e Opening)
  opened fs e c t q p v w = ((behind t (open_text spelling fs) (full spelling e) c 91 p q, refl), (v, tt, w))

  separated : (f : Frame) (fs : List Frame) (e : Tree) (c : ℕ) (t : List ℕ) → c ≡ 44 → t ≡ open_text spelling (f ∷ fs) ++ full spelling e → IsWritten spelling e
      → FramesWritten spelling (f ∷ fs) → Tells (t ++ (c ∷ [])) (after (f ∷ fs) e Comma)
  separated f fs e c t q p v w = (
    ap (λ u. u ++ (32 ∷ [])) (behind t (open_text spelling (f ∷ fs)) (full spelling e) c 44 p q)
        ∙ append_assoc (open_text spelling (f ∷ fs)) (full spelling e ++ (44 ∷ [])) (32 ∷ [])
        ∙ ap (λ u. open_text spelling (f ∷ fs) ++ u) (append_assoc (full spelling e) (44 ∷ []) (32 ∷ []))
        ∙ append_assoc (open_text spelling fs) (full spelling f.head ++ (91 ∷ items_text spelling f.items)) (full spelling e ++ (44 ∷ 32 ∷ []))
        ∙ ap (λ u. open_text spelling fs ++ u)
        (append_assoc (full spelling f.head) (91 ∷ items_text spelling f.items) (full spelling e ++ (44 ∷ 32 ∷ []))
        ∙ ap (λ u. full spelling f.head ++ (91 ∷ u)) (sym (items_more spelling f.items e))),
    (w.0, all_more_items f.items e w.1 v, w.2),
  )

  shut : (f : Frame) (fs : List Frame) (e : Tree) (c : ℕ) (t : List ℕ) → c ≡ 93 → t ≡ open_text spelling (f ∷ fs) ++ full spelling e → IsWritten spelling e
      → FramesWritten spelling (f ∷ fs) → Tells (t ++ (c ∷ [])) (after (f ∷ fs) e Closing)
  shut f fs e c t q p v w = (
    (
      behind t (open_text spelling (f ∷ fs)) (full spelling e) c 93 p q
          ∙ append_assoc (open_text spelling fs) (full spelling f.head ++ (91 ∷ items_text spelling f.items)) (full spelling e ++ (93 ∷ []))
          ∙ ap (λ u. open_text spelling fs ++ u)
          (append_assoc (full spelling f.head) (91 ∷ items_text spelling f.items) (full spelling e ++ (93 ∷ []))
          ∙ ap (λ u. full spelling f.head ++ (91 ∷ u)) (sym (append_assoc (items_text spelling f.items) (full spelling e) (93 ∷ [])) ∙ ap (λ u. u ++ (93 ∷ [])) (sym (last_text spelling f.items e)))),
      (w.0, all_more spelling f.items e w.1 v),
    ),
    w.2,
  )

  -- ---- what a byte's class tells

  abbrev pub Fits : ℕ → Class → Type 0
  Fits c Letter = begins_name c ≡ true
  Fits c Digit = is_digit c ≡ true
  Fits c Dash = c ≡ 45
  Fits c Quote = c ≡ 34
  Fits c Opening = c ≡ 91
  Fits c Closing = c ≡ 93
  Fits c Comma = c ≡ 44
  Fits c Space = c ≡ 32
  Fits c Other = Unit {0}

  sign_fits : (c : ℕ) (a b d e f g : Bool) → (c == 45) ≡ a → (c == 34) ≡ b → (c == 91) ≡ d → (c == 93) ≡ e → (c == 44) ≡ f → (c == 32) ≡ g → Fits c (sign_class a b d e f g)
  sign_fits c true b d e f g p q r s t u = eqb-true c 45 p
  sign_fits c false true d e f g p q r s t u = eqb-true c 34 q
  sign_fits c false false true e f g p q r s t u = eqb-true c 91 r
  sign_fits c false false false true f g p q r s t u = eqb-true c 93 s
  sign_fits c false false false false true g p q r s t u = eqb-true c 44 t
  sign_fits c false false false false false true p q r s t u = eqb-true c 32 u
  sign_fits c false false false false false false p q r s t u = tt

  fits : (c : ℕ) → Fits c (class_of c)
  fits c = go (begins_name c) (is_digit c) refl refl
    where
      go : (a b : Bool) → begins_name c ≡ a → is_digit c ≡ b → Fits c (class_by a b c)
      go true b p q = p
      go false true p q = q
      go false false p q = sign_fits c (c == 45) (c == 34) (c == 91) (c == 93) (c == 44) (c == 32) refl refl refl refl refl refl

  after_tells : (fs : List Frame) (e : Tree) (c : ℕ) (k : Class) (t : List ℕ) → Fits c k → t ≡ open_text spelling fs ++ full spelling e → IsWritten spelling e → FramesWritten spelling fs
      → Tells (t ++ (c ∷ [])) (after fs e k)
  after_tells fs e c Opening t q p v w = opened fs e c t q p v w
  after_tells (f ∷ fs) e c Comma t q p v w = separated f fs e c t q p v w
  after_tells (f ∷ fs) e c Closing t q p v w = shut f fs e c t q p v w
  after_tells [] e c k t q p v w = tt
  after_tells (f ∷ fs) e c k t q p v w = tt

  -- ---- a byte that begins an expression

  digit_between : (c : ℕ) → is_digit c ≡ true → (48 ≤ c) × (c ≤ 57)
  digit_between c e = let b = both_true (leb 48 c) (leb c 57) e in (leb-true 48 c b.0, leb-true c 57 b.1)

  digit_text : (c : ℕ) → is_digit c ≡ true → decimal (c - 48) ≡ c ∷ []
  digit_text c e =
      let b = digit_between c e in
      let low = b.0 in
      let high = b.1 in
      let g : 48 + (c - 48) ≡ c = omega arith in
      decimal_digit (c - 48) (omega arith) ∙ ap (λ j. j ∷ []) g

  pub starts_tells : (fs : List Frame) (closes : Bool) (c : ℕ) (k : Class) (t : List ℕ) → Fits c k → t ≡ open_text spelling fs → (closes ≡ true → NoItems fs) → FramesWritten spelling fs
      → Tells (t ++ (c ∷ [])) (starts fs closes c k)
  starts_tells fs closes c Letter t q p n w = ((ap (λ v. v ++ (c ∷ [])) p, rw q refl), w)
  starts_tells fs closes c Digit t q p n w =
      let b = digit_between c q in
      let high = b.1 in
      ((ap (λ v. v ++ (c ∷ [])) p ∙ ap (λ v. open_text spelling fs ++ v) (sym (digit_text c q)), lt-ltb (c - 48) (2 ^ 127) (omega arith), tt), w)
  starts_tells fs closes c Dash t q p n w = (ap (λ v. v ++ (c ∷ [])) p ∙ ap (λ j. open_text spelling fs ++ (j ∷ [])) q, w)
  starts_tells fs closes c Quote t q p n w = (ap (λ v. v ++ (c ∷ [])) p ∙ ap (λ j. open_text spelling fs ++ (j ∷ [])) q, w)
  starts_tells [] closes c Closing t q p n w = none closes
    where
      none : (b : Bool) → Tells (t ++ (c ∷ [])) (when b None)
      none true = tt
      none false = tt
  starts_tells (f ∷ fs) false c Closing t q p n w = tt
  starts_tells (f ∷ fs) true c Closing t q p n w =
      let e : f.items ≡ [] = n refl in (
        (
          ap (λ v. v ++ (c ∷ [])) p
              ∙ append_assoc (open_text spelling fs) (full spelling f.head ++ (91 ∷ items_text spelling f.items)) (c ∷ [])
              ∙ ap (λ u. open_text spelling fs ++ u)
              (append_assoc (full spelling f.head) (91 ∷ items_text spelling f.items) (c ∷ [])
              ∙ ap (λ es. full spelling f.head ++ (91 ∷ items_text spelling es ++ (c ∷ []))) e
              ∙ ap (λ j. full spelling f.head ++ (91 ∷ j ∷ [])) q
              ∙ ap (λ es. full spelling f.head ++ (91 ∷ full_items spelling (trees es) ++ (93 ∷ []))) (sym e)),
          (w.0, subst (λ es. AreWritten spelling (trees es)) (sym e) tt),
        ),
        w.2,
      )
  starts_tells fs closes c k t q p n w = tt

  gap_tells : (fs : List Frame) (c : ℕ) (k : Class) (t : List ℕ) → Fits c k → t ++ (32 ∷ []) ≡ open_text spelling fs → FramesWritten spelling fs → Tells (t ++ (c ∷ [])) (gap fs k)
  gap_tells fs c Space t q p w = (ap (λ j. t ++ (j ∷ [])) q ∙ p, w)
  gap_tells fs c k t q p w = tt

  name_tells : (find : List ℕ → ℕ) (found : (w : List ℕ) → spelling (find w) ≡ w) (fs : List Frame) (u : List ℕ) (c : ℕ) (k : Class) (t : List ℕ) → Fits c k
      → t ≡ open_text spelling fs ++ u → is_name u ≡ true → FramesWritten spelling fs → Tells (t ++ (c ∷ [])) (name find fs u c k)
  name_tells find found fs u c Letter t q p n w = ((behind t (open_text spelling fs) u c c p refl, longer_name u c (rw q refl) n), w)
  name_tells find found fs u c Digit t q p n w = ((behind t (open_text spelling fs) u c c p refl, longer_name u c (digit_in_name c q) n), w)
  name_tells find found fs u c k t q p n w =
      after_tells fs (symbol (symbol_of find (spelled u))) c k t q (p ∙ ap (λ v. open_text spelling fs ++ v) (sym (symbol_back' spelling find found u))) (spelled_well' spelling find found u n) w

  -- ---- numbers

  more_digits : (n c m : ℕ) → is_digit c ≡ true → 0 < n → n * 10 + (c - 48) ≡ m → m < 10 ^ 64 → decimal m ≡ decimal n ++ (c ∷ [])
  more_digits n c m q h p small =
      let b = digit_between c q in
      let low = b.0 in
      let high = b.1 in
      let one : m / 10 ≡ n = omega arith in
      let two : 48 + m % 10 ≡ c = omega arith in
      decimal_step_wide m (omega arith) small ∙ ap (λ k. decimal k ++ ((48 + m % 10) ∷ [])) one ∙ ap (λ k. decimal n ++ (k ∷ [])) two

  minus_tells : (fs : List Frame) (c : ℕ) (k : Class) (t : List ℕ) → Fits c k → t ≡ open_text spelling fs ++ (45 ∷ []) → FramesWritten spelling fs → Tells (t ++ (c ∷ [])) (minus fs c k)
  minus_tells fs c Digit t q p w = go (c == 48) refl
    where
      go : (b : Bool) → (c == 48) ≡ b → Tells (t ++ (c ∷ [])) (when (not b) (at fs (Number true (c - 48))))
      go true e = tt
      go false e =
          let d = digit_between c q in
          let low = d.0 in
          let high = d.1 in
          let other : c ≢ 48 = eqb-false c 48 e in
          let same : suc (pred (c - 48)) ≡ c - 48 = omega arith in (
            (
              behind t (open_text spelling fs) (45 ∷ []) c c p refl ∙ ap (λ v. open_text spelling fs ++ (45 ∷ v)) (sym (ap decimal same ∙ digit_text c q)),
              lt-ltb (pred (c - 48)) (2 ^ 127) (omega arith),
              omega arith,
            ),
            w,
          )
  minus_tells fs c k t q p w = tt

  grown_text : (below : Bool) (n c m : ℕ) → is_digit c ≡ true → 0 < n → n * 10 + (c - 48) ≡ m → in_range (signed below m) ≡ true
      → signed_decimal (signed below m) ≡ signed_decimal (signed below n) ++ (c ∷ [])
  grown_text false n c m q h p r = let small : m < 2 ^ 127 = ltb-true m (2 ^ 127) r in more_digits n c m q h p (omega arith)
  grown_text true n c m q h p r =
      let small : pred m < 2 ^ 127 = ltb-true (pred m) (2 ^ 127) r in
      let one : suc (pred m) ≡ m = omega arith in
      let two : suc (pred n) ≡ n = omega arith in
      ap (λ k. 45 ∷ decimal k) one ∙ ap (λ v. 45 ∷ v) (more_digits n c m q h p (omega arith)) ∙ ap (λ k. 45 ∷ decimal k ++ (c ∷ [])) (sym two)

  positive_grown : (below : Bool) (n m : ℕ) → 0 < m → Positive below m
  positive_grown true n m h = h
  positive_grown false n m h = tt

  number_tells : (fs : List Frame) (below : Bool) (n c : ℕ) (k : Class) (t : List ℕ) → Fits c k → t ≡ open_text spelling fs ++ signed_decimal (signed below n)
      → in_range (signed below n) ≡ true → FramesWritten spelling fs → Tells (t ++ (c ∷ [])) (number fs below n c k)
  number_tells fs below n c Digit t q p r w = go (not (n == 0) && in_range (signed below (grown n c))) refl
    where
      go : (b : Bool) → (not (n == 0) && in_range (signed below (grown n c))) ≡ b → Tells (t ++ (c ∷ [])) (when b (at fs (Number below (grown n c))))
      go false e = tt
      go true e =
          let both = both_true (not (n == 0)) (in_range (signed below (grown n c))) e in
          let other : n ≢ 0 = eqb-false n 0 (not-true (n == 0) both.0) in
          let h : 0 < n = omega arith in (
            (
              behind t (open_text spelling fs) (signed_decimal (signed below n)) c c p refl
                  ∙ ap (λ v. open_text spelling fs ++ v) (sym (grown_text below n c (grown n c) q h refl both.1)),
              both.1,
              positive_grown below n (grown n c) (omega arith),
            ),
            w,
          )
  number_tells fs below n c k t q p r w = after_tells fs (integer (signed below n)) c k t q p r w

  -- ---- strings

  escaped_end : (s : List ℕ) (x : ℕ) → all_escaped (s ++ (x ∷ [])) ≡ all_escaped s ++ escaped x
  escaped_end [] x = append-nil (escaped x)
  escaped_end (c ∷ s) x = ap (λ v. escaped c ++ v) (escaped_end s x) ∙ sym (append_assoc (escaped c) (all_escaped s) (escaped x))

  escape_text : (fs : List Frame) (s : List ℕ) (c x k : ℕ) (t : List ℕ) → t ≡ open_text spelling fs ++ (34 ∷ all_escaped s ++ (92 ∷ [])) → c ≡ k → escaped x ≡ 92 ∷ k ∷ []
      → t ++ (c ∷ []) ≡ open_text spelling fs ++ (34 ∷ all_escaped (s ++ (x ∷ [])))
  escape_text fs s c x k t p q e =
      behind t (open_text spelling fs) (34 ∷ all_escaped s ++ (92 ∷ [])) c k p q
      ∙ ap (λ v. open_text spelling fs ++ (34 ∷ v)) (append_assoc (all_escaped s) (92 ∷ []) (k ∷ []) ∙ ap (λ v. all_escaped s ++ v) (sym e) ∙ sym (escaped_end s x))

  escape_tells : (fs : List Frame) (s : List ℕ) (c : ℕ) (t : List ℕ) → t ≡ open_text spelling fs ++ (34 ∷ all_escaped s ++ (92 ∷ [])) → FramesWritten spelling fs
      → Tells (t ++ (c ∷ [])) (escape fs s (c == 34) (c == 92) (c == 110) (c == 116))
  escape_tells fs s c t p w = go (c == 34) (c == 92) (c == 110) (c == 116) refl refl refl refl
    where
      go : (a b d e : Bool) → (c == 34) ≡ a → (c == 92) ≡ b → (c == 110) ≡ d → (c == 116) ≡ e → Tells (t ++ (c ∷ [])) (escape fs s a b d e)
      go true b d e x y z u = (escape_text fs s c 34 34 t p (eqb-true c 34 x) refl, w)
      go false true d e x y z u = (escape_text fs s c 92 92 t p (eqb-true c 92 y) refl, w)
      go false false true e x y z u = (escape_text fs s c 10 110 t p (eqb-true c 110 z) refl, w)
      go false false false true x y z u = (escape_text fs s c 9 116 t p (eqb-true c 116 u) refl, w)
      go false false false false x y z u = tt

  string_tells : (fs : List Frame) (s : List ℕ) (c : ℕ) (t : List ℕ) → t ≡ open_text spelling fs ++ (34 ∷ all_escaped s) → FramesWritten spelling fs
      → Tells (t ++ (c ∷ [])) (in_string fs s c (c == 34) (c == 92) (c == 10) (c == 9))
  string_tells fs s c t p w = go (c == 34) (c == 92) (c == 10) (c == 9) refl refl refl refl
    where
      go : (a b d e : Bool) → (c == 34) ≡ a → (c == 92) ≡ b → (c == 10) ≡ d → (c == 9) ≡ e → Tells (t ++ (c ∷ [])) (in_string fs s c a b d e)
      go true b d e x y z u = ((behind t (open_text spelling fs) (34 ∷ all_escaped s) c 34 p (eqb-true c 34 x), tt), w)
      go false true d e x y z u = (behind t (open_text spelling fs) (34 ∷ all_escaped s) c 92 p (eqb-true c 92 y), w)
      go false false true e x y z u = tt
      go false false false true x y z u = tt
      go false false false false x y z u =
          let one : escaped c ≡ c ∷ [] = rw (x, y, z, u) refl in
          (behind t (open_text spelling fs) (34 ∷ all_escaped s) c c p refl ∙ ap (λ v. open_text spelling fs ++ (34 ∷ v)) (ap (λ v. all_escaped s ++ v) (sym one) ∙ sym (escaped_end s c)), w)

  -- ---- all steps

  step_tells : (find : List ℕ → ℕ) (found : (w : List ℕ) → spelling (find w) ≡ w) (fs : List Frame) (m : Mode) (c : ℕ) (t : List ℕ) → Told fs m t → FramesWritten spelling fs
      → Tells (t ++ (c ∷ [])) (step_in find c fs m)
  step_tells find found fs (Starts true) c t d w = starts_tells fs true c (class_of c) t (fits c) d.0 (λ _. d.1) w
  step_tells find found fs (Starts false) c t d w = starts_tells fs false c (class_of c) t (fits c) d (λ e. absurd (true≢false (sym e))) w
  step_tells find found fs Gap c t d w = gap_tells fs c (class_of c) t (fits c) d w
  step_tells find found fs Minus c t d w = minus_tells fs c (class_of c) t (fits c) d w
  step_tells find found fs (Number below n) c t d w = number_tells fs below n c (class_of c) t (fits c) d.0 d.1 w
  step_tells find found fs (Name u) c t d w = name_tells find found fs u c (class_of c) t (fits c) d.0 d.1 w
  step_tells find found fs (InString true s) c t d w = escape_tells fs s c t d w
  step_tells find found fs (InString false s) c t d w = string_tells fs s c t d w
  step_tells find found fs (Have e) c t d w = after_tells fs e c (class_of c) t (fits c) d.0 d.1 w

  bind_tells : (find : List ℕ → ℕ) (c : ℕ) (cs t : List ℕ) (o : Option State) → ((s : State) (u : List ℕ) → Told s.frames s.mode u → FramesWritten spelling s.frames → Tells (u ++ cs) (run find cs s))
      → Tells (t ++ (c ∷ [])) o → Tells (t ++ (c ∷ cs)) (option_and_then (run find cs) o)
  bind_tells find c cs t None h d = tt
  bind_tells find c cs t (Some s) h d = subst (λ v. Tells v (run find cs s)) (append_assoc t (c ∷ []) cs) (h s (t ++ (c ∷ [])) d.0 d.1)

  pub run_tells : (find : List ℕ → ℕ) (found : (w : List ℕ) → spelling (find w) ≡ w) (cs : List ℕ) (s : State) (t : List ℕ) → Told s.frames s.mode t → FramesWritten spelling s.frames
      → Tells (t ++ cs) (run find cs s)
  run_tells find found [] s t d w = subst (λ v. Tells v (Some s)) (sym (append-nil t)) (d, w)
  run_tells find found (c ∷ cs) s t d w =
      bind_tells find c cs t (step find c s) (λ r u e v. run_tells find found cs r u e v) (step_tells find found s.frames s.mode c t d w)

  -- ---- every state has an ending

  have_ends : (fs : List Frame) (e : Tree) (t : List ℕ) → t ≡ open_text spelling fs ++ full spelling e → IsWritten spelling e → FramesWritten spelling fs → BeginsFullForm t
  have_ends fs e t p v w = (
    brackets spelling fs,
    (
      spelling,
      closed_with spelling fs e,
      record {
        written = closed_written spelling fs e w v;
        text = ap (λ u. u ++ brackets spelling fs) p ∙ append_assoc (open_text spelling fs) (full spelling e) (brackets spelling fs) ∙ closes_to spelling fs e;
      },
    ),
  )

  further : (t x : List ℕ) → BeginsFullForm (t ++ x) → BeginsFullForm t
  further t x b = (x ++ b.0, subst IsFullForm (append_assoc t x b.0) b.1)

  zero_ends : (fs : List Frame) (t : List ℕ) → t ≡ open_text spelling fs → FramesWritten spelling fs → BeginsFullForm t
  zero_ends fs t p w =
      further t (48 ∷ []) (have_ends fs (integer (pos 0)) (t ++ (48 ∷ [])) (ap (λ v. v ++ (48 ∷ [])) p ∙ ap (λ v. open_text spelling fs ++ v) (sym (decimal_digit 0 (omega arith)))) refl w)

  string_ends : (fs : List Frame) (s t : List ℕ) → t ≡ open_text spelling fs ++ (34 ∷ all_escaped s) → FramesWritten spelling fs → BeginsFullForm t
  string_ends fs s t p w = further t (34 ∷ []) (have_ends fs (string s) (t ++ (34 ∷ [])) (behind t (open_text spelling fs) (34 ∷ all_escaped s) 34 34 p refl) tt w)

  pub ends_well : (find : List ℕ → ℕ) (found : (w : List ℕ) → spelling (find w) ≡ w) (fs : List Frame) (m : Mode) (t : List ℕ) → Told fs m t → FramesWritten spelling fs → BeginsFullForm t
  ends_well find found fs (Starts true) t d w = zero_ends fs t d.0 w
  ends_well find found fs (Starts false) t d w = zero_ends fs t d w
  ends_well find found fs Gap t d w = further t (32 ∷ []) (zero_ends fs (t ++ (32 ∷ [])) d w)
  ends_well find found fs Minus t d w =
      further t (49 ∷ []) (have_ends fs (integer (negsuc 0)) (t ++ (49 ∷ []))
      (behind t (open_text spelling fs) (45 ∷ []) 49 49 d refl ∙ ap (λ v. open_text spelling fs ++ (45 ∷ v)) (sym (decimal_digit 1 (omega arith)))) refl w)
  ends_well find found fs (Number below n) t d w = have_ends fs (integer (signed below n)) t d.0 d.1 w
  ends_well find found fs (Name u) t d w =
      have_ends fs (symbol (symbol_of find (spelled u))) t (d.0 ∙ ap (λ v. open_text spelling fs ++ v) (sym (symbol_back' spelling find found u))) (spelled_well' spelling find found u d.1) w
  ends_well find found fs (InString true s) t d w =
      further t (34 ∷ []) (string_ends fs (s ++ (34 ∷ [])) (t ++ (34 ∷ [])) (escape_text fs s 34 34 34 t d refl refl) w)
  ends_well find found fs (InString false s) t d w = string_ends fs s t d w
  ends_well find found fs (Have e) t d w = have_ends fs e t d.0 d.1 w

pub goes_on_rightly : GoesOnRightly
goes_on_rightly find spelling found t s e =
    let d : Tells spelling t (Some s) = subst (Tells spelling t) e (run_tells spelling find found t first_state [] refl tt) in
    ends_well spelling find found s.frames s.mode t d.0 d.1
