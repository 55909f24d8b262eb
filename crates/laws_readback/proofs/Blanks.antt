-- Blanks and slots: the text of each is one token, which stands for it.
use Rattle.std.proofs.Common.{◌≡◌, refl, sym, ap, ap₂, subst, ◌∙◌, ℕ, zero, suc, ◌+◌, ◌<◌, ◌≤◌, Bool, true, false, cond, List, [], ◌∷◌, ◌++◌, length, take, drop, get_or, append_assoc, append-nil, length-append, true≢false, arith, ne_eqb, eqb-true, pos}
use Rattle.std.specs.Prelude.{◌==◌, ◌&&◌, ◌||◌, leb}
use Rattle.std.proofs.lemmas.Bool.{lt-leb}
use Rattle.expr_tree.specs.Tree.{Tree, integer}
use Rattle.semantics.specs.declared.builtin.Builtin.{Builtin}
use Rattle.semantics.specs.Names.{Names, make}
use Rattle.script_text.specs.Bytes.{is_digit, begins_name, in_name, is_name, run, all, begins_with}
use Rattle.syntax.specs.Tokens as tok
use Rattle.syntax.specs.Leaves.{number_or_one, name_leaf, blank_row, blank_head, named, blank_leaf, slot_leaf}
use Rattle.laws_readback.proofs.Pieces.{IsCut}
use Rattle.laws_readback.proofs.Scans.{both_true, Ends, ender, Stops, run_all, stops_digit, scan_name}
use Rattle.laws_readback.proofs.Leaves.{Numeral, front_taken, front_dropped, name_by, name_long}

-- one to three marks
pub data AreMarks : List ℕ → ℕ → Type 0 where
  one : AreMarks (95 ∷ []) 1
  two : AreMarks (95 ∷ 95 ∷ []) 2
  three : AreMarks (95 ∷ 95 ∷ 95 ∷ []) 3

-- a name, or nothing
pub data MayName : List ℕ → Type 0 where
  nothing : MayName []
  a_name : {t : List ℕ} → is_name t ≡ true → MayName t

abbrev is_mark : ℕ → Bool
is_mark c = c == 95

no_run : (test : ℕ → Bool) (rest : List ℕ) → Stops test rest → run test rest ≡ 0
no_run test [] s = refl
no_run test (c ∷ rest) s = ap (λ b. elim b [ true ↦ suc (run test rest) | false ↦ zero ]) s

name_no_mark : (c : ℕ) → begins_name c ≡ true → is_mark c ≡ false
name_no_mark c e = go (is_mark c) refl
  where
    go : (b : Bool) → is_mark c ≡ b → b ≡ false
    go true h = absurd (true≢false (sym e ∙ ap begins_name (eqb-true c 95 h)))
    go false h = refl

head_no_mark : (h rest : List ℕ) → is_name h ≡ true → Stops is_mark (h ++ rest)
head_no_mark [] rest n = absurd (true≢false (sym n))
head_no_mark (c ∷ h) rest n = name_no_mark c (both_true (begins_name c) (all in_name h) n).0

ends_no_mark : (rest : List ℕ) → Ends rest → Stops is_mark rest
ends_no_mark [] e = tt
ends_no_mark (c ∷ rest) e = (ender c e).no_mark

may_no_mark : {h : List ℕ} (rest : List ℕ) → MayName h → Ends rest → Stops is_mark (h ++ rest)
may_no_mark rest nothing e = ends_no_mark rest e
may_no_mark {h} rest (a_name n) e = head_no_mark h rest n

no_name : (rest : List ℕ) → Ends rest → tok.name_length rest ≡ 0
no_name [] e = refl
no_name (c ∷ rest) e = ap (λ b. elim b [ true ↦ suc (run in_name rest) | false ↦ zero ]) (ender c e).no_first

stops_name : (rest : List ℕ) → Ends rest → Stops in_name rest
stops_name [] e = tt
stops_name (c ∷ rest) e = (ender c e).no_name

may_long : {h : List ℕ} (rest : List ℕ) → MayName h → Ends rest → tok.name_length (h ++ rest) ≡ length h
may_long rest nothing e = no_name rest e
may_long {h} rest (a_name n) e = name_long h rest n (stops_name rest e)

abbrev blank_by : ℕ → List ℕ → ℕ → tok.Scan
blank_by n cs r = tok.Takes tok.Blank (n + cond (leb r 3) r 3 + tok.name_length (drop (cond (leb r 3) r 3) cs))

marks_taken : {ms : List ℕ} {k : ℕ} (n : ℕ) (rest : List ℕ) → AreMarks ms k → Stops is_mark rest → tok.blank_after n (ms ++ rest) ≡ tok.Takes tok.Blank (n + k + tok.name_length rest)
marks_taken n rest one s = ap (λ j. blank_by n (95 ∷ rest) (suc j)) (no_run is_mark rest s)
marks_taken n rest two s = ap (λ j. blank_by n (95 ∷ 95 ∷ rest) (suc (suc j))) (no_run is_mark rest s)
marks_taken n rest three s = ap (λ j. blank_by n (95 ∷ 95 ∷ 95 ∷ rest) (suc (suc (suc j)))) (no_run is_mark rest s)

marks_long : {ms : List ℕ} {k : ℕ} → AreMarks ms k → length ms ≡ k
marks_long one = refl
marks_long two = refl
marks_long three = refl

marks_stop : {ms : List ℕ} {k : ℕ} (rest : List ℕ) → AreMarks ms k → Stops in_name (ms ++ rest)
marks_stop rest one = refl
marks_stop rest two = refl
marks_stop rest three = refl

marks_begin : {ms : List ℕ} {k : ℕ} (rest : List ℕ) → AreMarks ms k → begins_with (95 ∷ []) (ms ++ rest) ≡ true
marks_begin rest one = refl
marks_begin rest two = refl
marks_begin rest three = refl

taken : {ms h : List ℕ} {k : ℕ} (n : ℕ) (rest : List ℕ) → AreMarks ms k → MayName h → Ends rest → tok.blank_after n ((ms ++ h) ++ rest) ≡ tok.Takes tok.Blank (n + length (ms ++ h))
taken {ms} {h} {k} n rest m w e =
    ap (tok.blank_after n) (append_assoc ms h rest)
    ∙ marks_taken n (h ++ rest) m (may_no_mark rest w e)
    ∙ ap (λ j. tok.Takes tok.Blank j) (let l = may_long rest w e in let p = marks_long m in let q = length-append ms h in omega (arith, l, p, q))

bare : {ms : List ℕ} {k : ℕ} (h rest : List ℕ) → AreMarks ms k → tok.blank_after 0 ((ms ++ h) ++ rest) ≡ tok.Takes tok.Blank (0 + length (ms ++ h)) → IsCut tok.Blank (ms ++ h) rest
bare h rest one e = e ∙ ap (tok.Takes tok.Blank) (omega arith)
bare h rest two e = e ∙ ap (tok.Takes tok.Blank) (omega arith)
bare h rest three e = e ∙ ap (tok.Takes tok.Blank) (omega arith)

-- `_h`
pub blank_cut : {ms h : List ℕ} {k : ℕ} (rest : List ℕ) → AreMarks ms k → MayName h → Ends rest → IsCut tok.Blank (ms ++ h) rest
blank_cut {h = h} rest m w e = bare h rest m (taken 0 rest m w e)

-- `x_h`
pub named_cut : {ms h : List ℕ} {k : ℕ} (x rest : List ℕ) → is_name x ≡ true → AreMarks ms k → MayName h → Ends rest → IsCut tok.Blank (x ++ (ms ++ h)) rest
named_cut [] rest n m w e = absurd (true≢false (sym n))
named_cut {ms} {h} {k} (c ∷ cs) rest n m w e =
    let both = both_true (begins_name c) (all in_name cs) n in
    let behind = (ms ++ h) ++ rest in
    let whole : (cs ++ (ms ++ h)) ++ rest ≡ cs ++ behind = append_assoc cs (ms ++ h) rest in
    let front : drop (length (c ∷ cs)) ((c ∷ cs) ++ behind) ≡ behind = front_dropped (c ∷ cs) behind in
    let assoc : behind ≡ ms ++ (h ++ rest) = append_assoc ms h rest in
    let stop : Stops in_name behind = subst (λ (us : List ℕ). Stops in_name us) (sym assoc) (marks_stop (h ++ rest) m) in
    ap (tok.scan c) whole
    ∙ scan_name c (cs ++ behind) both.0
    ∙ ap (λ j. name_by j ((c ∷ cs) ++ behind)) (name_long (c ∷ cs) behind n stop)
    ∙ ap (λ b. elim b as (λ _. tok.Scan) [ true ↦ tok.blank_after (length (c ∷ cs)) (drop (length (c ∷ cs)) ((c ∷ cs) ++ behind)) | false ↦ tok.Takes tok.Name (length (c ∷ cs)) ])
    (ap (begins_with (95 ∷ [])) (front ∙ assoc) ∙ marks_begin (h ++ rest) m)
    ∙ ap (tok.blank_after (length (c ∷ cs))) front
    ∙ taken (length (c ∷ cs)) rest m w e
    ∙ ap (tok.Takes tok.Blank) (let l = length-append cs (ms ++ h) in omega (arith, l))

-- ---- what blanks stand for

pub names_all : (x : List ℕ) → is_name x ≡ true → all in_name x ≡ true
names_all [] n = absurd (true≢false (sym n))
names_all (c ∷ cs) n =
    let both = both_true (begins_name c) (all in_name cs) n in
    ap₂ (λ p q. (p || is_digit c) && q) both.0 both.1

may_all : {x : List ℕ} → MayName x → all in_name x ≡ true
may_all nothing = refl
may_all {x} (a_name n) = names_all x n

marks_counted : {ms : List ℕ} {k : ℕ} (h : List ℕ) → AreMarks ms k → Stops is_mark h → run is_mark (ms ++ h) ≡ k
marks_counted h one s = ap suc (no_run is_mark h s)
marks_counted h two s = ap (λ j. suc (suc j)) (no_run is_mark h s)
marks_counted h three s = ap (λ j. suc (suc (suc j))) (no_run is_mark h s)

module _ (names : Names) (find : List ℕ → ℕ) where
  abbrev leaf_by : List ℕ → ℕ → ℕ → Tree
  leaf_by t n marks = named names find (take n t) (make names (blank_row marks) (blank_head names find (drop (n + marks) t)))

  pub blank_value : {x ms h : List ℕ} {k : ℕ} → MayName x → AreMarks ms k → MayName h
      → blank_leaf names find (x ++ (ms ++ h)) ≡ named names find x (make names (blank_row k) (blank_head names find h))
  blank_value {x} {ms} {h} {k} v m w =
      let t = x ++ (ms ++ h) in
      let n : run in_name t ≡ length x = run_all in_name x (ms ++ h) (may_all v) (marks_stop h m) in
      let rest : drop (run in_name t) t ≡ ms ++ h = ap (λ j. drop j t) n ∙ front_dropped x (ms ++ h) in
      let no : Stops is_mark h = subst (λ (us : List ℕ). Stops is_mark us) (append-nil h) (may_no_mark [] w tt) in
      let counted : run is_mark (drop (run in_name t) t) ≡ k = ap (run is_mark) rest ∙ marks_counted h m no in
      let size : length x + k ≡ length (x ++ ms) = let l = length-append x ms in let p = marks_long m in omega (arith, l, p) in
      let far : drop (length x + k) t ≡ h = ap₂ (λ (j : ℕ) (us : List ℕ). drop j us) size (sym (append_assoc x ms h)) ∙ front_dropped (x ++ ms) h in
      ap₂ (leaf_by t) n counted
      ∙ ap₂ (λ (us vs : List ℕ). named names find us (make names (blank_row k) (blank_head names find vs))) (front_taken x (ms ++ h)) far

  pub named_some : (x : List ℕ) (e : Tree) → is_name x ≡ true → named names find x e ≡ make names Builtin.Pattern (name_leaf names find x ∷ e ∷ [])
  named_some [] e n = absurd (true≢false (sym n))
  named_some (c ∷ cs) e n = refl

  pub head_some : (x : List ℕ) → is_name x ≡ true → blank_head names find x ≡ name_leaf names find x ∷ []
  head_some [] n = absurd (true≢false (sym n))
  head_some (c ∷ cs) n = refl

-- ---- slots

-- a number of at most nine digits that is not 0
pub record SlotNumeral (n : ℕ) (ds : List ℕ) : Type 0 where
  pub numeral : Numeral n ds
  pub first : 48 < get_or ds 0 0
  pub short : length ds ≤ 9

digit_no_hash : (c : ℕ) → 48 < c → (c == 35) ≡ false
digit_no_hash c h = ne_eqb c 35 (omega arith)

number_taken : (signs n : ℕ) (ds rest : List ℕ) → SlotNumeral n ds → Ends rest → tok.slot_after signs (ds ++ rest) ≡ tok.Takes tok.Slot (signs + length ds)
number_taken signs n [] rest w e = absurd (let s = w.numeral.some in omega (arith, s))
number_taken signs n (d ∷ ds) rest w e =
    let long : run is_digit ((d ∷ ds) ++ rest) ≡ length (d ∷ ds) = run_all is_digit (d ∷ ds) rest w.numeral.digits (stops_digit rest e) in
    let f = w.first in
    let s = w.short in
    let no_zero : begins_with (48 ∷ []) ((d ∷ ds) ++ rest) ≡ false = ap (λ b. elim b [ true ↦ true | false ↦ false ]) (ne_eqb d 48 (λ q. omega (arith, f, q))) in
    let short : leb 9 (length ds) ≡ false = lt-leb 9 (length ds) (omega (arith, s)) in
    ap (λ j. tok.slot_number signs ((d ∷ ds) ++ rest) j) long
    ∙ ap (λ b. elim b as (λ _. tok.Scan) [ true ↦ tok.Faults tok.BadByte 0 | false ↦ tok.Takes tok.Slot (signs + suc (length ds)) ]) (ap₂ (λ p q. p || q) no_zero short)

hash_off : (n : ℕ) (ds rest : List ℕ) → SlotNumeral n ds → begins_with (35 ∷ []) (ds ++ rest) ≡ false
hash_off n [] rest w = absurd (let s = w.numeral.some in omega (arith, s))
hash_off n (d ∷ ds) rest w = ap (λ b. elim b [ true ↦ true | false ↦ false ]) (digit_no_hash d w.first)

-- `#n`
pub slot_cut : (n : ℕ) (ds rest : List ℕ) → SlotNumeral n ds → Ends rest → IsCut tok.Slot (35 ∷ ds) rest
slot_cut n ds rest w e =
    ap (λ b. elim b as (λ _. tok.Scan) [ true ↦ tok.slot_after 2 (drop 1 (ds ++ rest)) | false ↦ tok.slot_after 1 (ds ++ rest) ]) (hash_off n ds rest w)
    ∙ number_taken 1 n ds rest w e ∙ ap (tok.Takes tok.Slot) (omega arith)

-- `##n`
pub slots_cut : (n : ℕ) (ds rest : List ℕ) → SlotNumeral n ds → Ends rest → IsCut tok.Slot (35 ∷ 35 ∷ ds) rest
slots_cut n ds rest w e = number_taken 2 n ds rest w e ∙ ap (tok.Takes tok.Slot) (omega arith)

read_number : (n : ℕ) (ds : List ℕ) → Numeral n ds → number_or_one ds ≡ n
read_number n [] w = absurd (let s = w.some in omega (arith, s))
read_number n (d ∷ ds) w = w.value

module _ (names : Names) (find : List ℕ → ℕ) where
  pub slot_value : (n : ℕ) (ds : List ℕ) → SlotNumeral n ds → slot_leaf names find (35 ∷ ds) ≡ make names Builtin.Slot (integer (pos n) ∷ [])
  slot_value n ds w =
      ap (λ b. elim b as (λ _. Tree) [ true ↦ make names Builtin.SlotSequence (integer (pos (number_or_one (drop 1 ds))) ∷ []) | false ↦ make names Builtin.Slot (integer (pos (number_or_one ds)) ∷ []) ])
      (ap (begins_with (35 ∷ [])) (sym (append-nil ds)) ∙ hash_off n ds [] w)
      ∙ ap (λ j. make names Builtin.Slot (integer (pos j) ∷ [])) (read_number n ds w.numeral)

  pub slots_value : (n : ℕ) (ds : List ℕ) → SlotNumeral n ds → slot_leaf names find (35 ∷ 35 ∷ ds) ≡ make names Builtin.SlotSequence (integer (pos n) ∷ [])
  slots_value n ds w = ap (λ j. make names Builtin.SlotSequence (integer (pos j) ∷ [])) (read_number n ds w.numeral)
