-- Atoms, blanks and slots as they are shown.
use Rattle.std.proofs.Common.{◌≡◌, refl, sym, ap, ◌∙◌, ℕ, zero, suc, ◌*◌, ◌^◌, ◌<◌, ◌≤◌, inl, min, Bool, true, false, List, [], ◌∷◌, ◌++◌, append-nil, true≢false, arith, eqb-true, pos, negsuc}
use Rattle.std.specs.Prelude.{◌==◌}
use Rattle.std.specs.Fmt.{decimal}
use Rattle.std.proofs.lemmas.Fmt.{first_decimal, length-decimal-le}
use Rattle.expr_tree.specs.declared.sym.Sym.{Sym}
use Rattle.expr_tree.specs.Tree.{Tree, integer, string, symbol}
use Rattle.semantics.specs.declared.builtin.Builtin.{Builtin}
use Rattle.semantics.specs.Names.{Names, make}
use Rattle.script_text.specs.Bytes.{is_digit, begins_name, in_name, is_name, all}
use Rattle.script_text.specs.Full.{quoted}
use Rattle.syntax.specs.Tokens.{Kind, Scan, Takes, scan}
use Rattle.syntax.specs.Leaves.{name_leaf, blank_row, blank_head}
use Rattle.syntax.specs.Operators.{Prefix, leads_at}
use Rattle.syntax.specs.Terminals.{Phrase, PhraseKind, Closed, NameToken, NumberToken, Value, word_of, sign_start, word_start}
use Rattle.syntax.specs.Grammar.{operand, leads}
use Rattle.laws_readback.proofs.Pieces.{word, IsCut}
use Rattle.laws_readback.proofs.Scans.{both_true, Ends}
use Rattle.laws_readback.proofs.Leaves.{Numeral, numeral, number_cut, number_value, name_cut, string_cut, string_value}
use Rattle.laws_readback.proofs.Blanks.{AreMarks, one, two, three, MayName, nothing, a_name as a_name_of, blank_cut, named_cut, blank_value, named_some, SlotNumeral, slot_cut, slots_cut, slot_value, slots_value}
use Rattle.laws_readback.proofs.Phrases.{least_high, plainly, Operand, opens_then, no_dash_then, opens_well, Opens, opener, NoDash, Fits, closed, a_name, a_number, Reading, as_term, phrase, Phrased, unsigned, signed, Good}

-- ---- first bytes

no_byte : (test : ℕ → Bool) (c k : ℕ) → test c ≡ true → test k ≡ false → (c == k) ≡ false
no_byte test c k e n = go (c == k) refl
  where
    go : (b : Bool) → (c == k) ≡ b → b ≡ false
    go true h = absurd (true≢false (sym e ∙ ap test (eqb-true c k h) ∙ n))
    go false h = refl

opens_by : (c : ℕ) → (c == 42) ≡ false → (c == 58) ≡ false → (c == 61) ≡ false → (c == 62) ≡ false → opens_well c ≡ true
opens_by c a b d e = rw (a, b, d, e) refl

record First (t : List ℕ) : Type 0 where
  opens : Opens t
  no_dash : NoDash t

name_first : (t : List ℕ) → is_name t ≡ true → First t
name_first [] n = absurd (true≢false (sym n))
name_first (c ∷ t) n =
    let e = (both_true (begins_name c) (all in_name t) n).0 in
    record {
      opens = opens_by c (no_byte begins_name c 42 e refl) (no_byte begins_name c 58 e refl) (no_byte begins_name c 61 e refl) (no_byte begins_name c 62 e refl);
      no_dash = no_byte begins_name c 45 e refl;
    }

digits_first : (n : ℕ) (ds : List ℕ) → Numeral n ds → First ds
digits_first n [] w = absurd (let s = w.some in omega (arith, s))
digits_first n (d ∷ ds) w =
    let e = (both_true (is_digit d) (all is_digit ds) w.digits).0 in
    record {
      opens = opens_by d (no_byte is_digit d 42 e refl) (no_byte is_digit d 58 e refl) (no_byte is_digit d 61 e refl) (no_byte is_digit d 62 e refl);
      no_dash = no_byte is_digit d 45 e refl;
    }

-- a minus sign in front of a text
pub minus_cut : (t rest : List ℕ) → Opens t → NoDash t → scan 45 (t ++ rest) ≡ Takes Kind.Operator 1
minus_cut [] rest o d = absurd o
minus_cut (c ∷ t) rest o d =
    let p = opener c o in
    ap (λ b. elim (elim b as (λ _. Bool) [ true ↦ true | false ↦ false ]) as (λ _. Scan) [
      | true ↦ Takes Kind.Operator 2
      | false ↦ elim (elim (c == 62) as (λ _. Bool) [ true ↦ true | false ↦ false ]) as (λ _. Scan) [
        | true ↦ Takes Kind.Operator 2
        | false ↦ elim (elim (c == 61) as (λ _. Bool) [ true ↦ true | false ↦ false ]) as (λ _. Scan) [ true ↦ Takes Kind.Operator 2 | false ↦ Takes Kind.Operator 1 ]
      ]
    ]) d
    ∙ ap (λ b. elim (elim b as (λ _. Bool) [ true ↦ true | false ↦ false ]) as (λ _. Scan) [
      | true ↦ Takes Kind.Operator 2
      | false ↦ elim (elim (c == 61) as (λ _. Bool) [ true ↦ true | false ↦ false ]) as (λ _. Scan) [ true ↦ Takes Kind.Operator 2 | false ↦ Takes Kind.Operator 1 ]
    ]) p.no_greater
    ∙ ap (λ b. elim (elim b as (λ _. Bool) [ true ↦ true | false ↦ false ]) as (λ _. Scan) [ true ↦ Takes Kind.Operator 2 | false ↦ Takes Kind.Operator 1 ]) p.no_equal

module _ (names : Names) (find : List ℕ → ℕ) where
  record Leaf (k : Kind) (text : List ℕ) (x : Phrase) : Type 0 where
    is : word_of names find k text ≡ Value x
    cut : (rest : List ℕ) → Ends rest → IsCut k text rest

  leaf_reads : {k : Kind} {text : List ℕ} {x : Phrase} (room q : ℕ) → Leaf k text x → Reading names find room q (as_term names find k text ∷ []) x 100
  unfolding word_start
  leaf_reads {k} {text} {x} room q l = operand (as_term names find k text) (ap word_start l.is)

  leaf_phrased : {k : Kind} {text : List ℕ} {x : Phrase} (level depth : ℕ) → level < 100 → Leaf k text x → Phrased names find x level text depth
  leaf_phrased {k} {text} {x} level depth h l = record {
    pieces = word k text ∷ [];
    spelled = append-nil text;
    cut = λ rest e. (l.cut rest e, tt);
    edge = 100;
    above = h;
    reads = λ room q w b. leaf_reads room q l;
  }

  leaf_good : {k : Kind} {text : List ℕ} (e : Tree) (kd : PhraseKind) (depth : ℕ) → Leaf k text (phrase names find e kd) → Fits e 27 kd → First text → 0 < depth → Good names find e 27 text depth
  leaf_good {k} {text} e kd depth l f o s = record {
    pieces = word k text ∷ [];
    spelled = append-nil text;
    opens = o.opens;
    cut = λ rest r. (l.cut rest r, tt);
    kind = kd;
    fits = f;
    edge = 100;
    tight = omega arith;
    low = omega arith;
    some = s;
    reads = λ room q w b. leaf_reads room q l;
    sign = unsigned o.no_dash;
  }

  -- ---- numbers

  number : (n : ℕ) → n < 2 ^ 127 → Leaf Kind.Number (decimal n) (phrase names find (integer (pos n)) NumberToken)
  number n h =
      let w = numeral n (omega arith) in
      record { is = ap (λ (e : Tree). Value (phrase names find e NumberToken)) (number_value n (decimal n) w); cut = λ rest e. number_cut n (decimal n) rest w h e }

  pub number_phrased : (n level depth : ℕ) → n < 2 ^ 127 → level < 100 → Phrased names find (phrase names find (integer (pos n)) NumberToken) level (decimal n) depth
  number_phrased n level depth h l = leaf_phrased level depth l (number n h)

  pub number_good : (n depth : ℕ) → n < 2 ^ 127 → 0 < depth → Good names find (integer (pos n)) 27 (decimal n) depth
  number_good n depth h s = leaf_good (integer (pos n)) NumberToken depth (number n h) (a_number refl) (digits_first n (decimal n) (numeral n (omega arith))) s

  negative_reads : (n room q : ℕ) → suc n < 2 ^ 127
      → Reading names find (suc room) q (as_term names find Kind.Operator (45 ∷ []) ∷ as_term names find Kind.Number (decimal (suc n)) ∷ []) (phrase names find (integer (negsuc n)) Closed) (min (leads_at Prefix.Negate) 100)
  unfolding sign_start word_start
  negative_reads n room q h = leads (as_term names find Kind.Operator (45 ∷ [])) refl (leaf_reads room (leads_at Prefix.Negate) (number (suc n) h))

  pub negative_good : (n depth : ℕ) → suc n < 2 ^ 127 → 0 < depth → Good names find (integer (negsuc n)) 20 (45 ∷ decimal (suc n)) depth
  unfolding leads_at
  negative_good n depth h s =
      let w = numeral (suc n) (omega arith) in
      let f = digits_first (suc n) (decimal (suc n)) w in
      record {
        pieces = word Kind.Operator (45 ∷ []) ∷ word Kind.Number (decimal (suc n)) ∷ [];
        spelled = ap (λ (us : List ℕ). 45 ∷ us) (append-nil (decimal (suc n)));
        opens = refl;
        cut = λ rest r. (
          ap (λ (us : List ℕ). scan 45 (us ++ rest)) (append-nil (decimal (suc n))) ∙ minus_cut (decimal (suc n)) rest f.opens f.no_dash,
          (number_cut (suc n) (decimal (suc n)) rest w h r, tt),
        );
        kind = Closed;
        fits = closed;
        edge = min (leads_at Prefix.Negate) 100;
        tight = omega arith;
        low = omega arith;
        some = s;
        reads = go;
        sign = signed (decimal (suc n)) refl (inl (record { n = n; is = refl; digits = refl; fits = h; level_low = omega arith }))
            (record { x = phrase names find (integer (pos (suc n))) NumberToken; phrased = number_phrased (suc n) 18 depth h (omega arith); negates = refl });
      }
    where
      go : (room q : ℕ) → 2 * depth ≤ suc room → q ≤ 20 → Reading names find room q (as_term names find Kind.Operator (45 ∷ []) ∷ as_term names find Kind.Number (decimal (suc n)) ∷ []) (phrase names find (integer (negsuc n)) Closed) (min (leads_at Prefix.Negate) 100)
      go zero q a l = absurd (omega (arith, a, s))
      go (suc room) q a l = negative_reads n room q h

  -- ---- names and strings

  pub name_good : (t : List ℕ) (x : Sym) (depth : ℕ) → is_name t ≡ true → name_leaf names find t ≡ symbol x → 0 < depth → Good names find (symbol x) 27 t depth
  name_good t x depth n v s =
      leaf_good (symbol x) NameToken depth (record { is = ap (λ (e : Tree). Value (phrase names find e NameToken)) v; cut = λ rest e. name_cut t rest n e }) a_name (name_first t n) s

  -- a name token by itself
  pub name_phrased : (t : List ℕ) (x : Sym) (level depth : ℕ) → is_name t ≡ true → name_leaf names find t ≡ symbol x → level < 100
      → Phrased names find (phrase names find (symbol x) NameToken) level t depth
  name_phrased t x level depth n v l =
      leaf_phrased level depth l (record { is = ap (λ (e : Tree). Value (phrase names find e NameToken)) v; cut = λ rest e. name_cut t rest n e })

  pub string_good : (t : List ℕ) (depth : ℕ) → 0 < depth → Good names find (string t) 27 (quoted t) depth
  string_good t depth s =
      leaf_good {k = Kind.Str} (string t) Closed depth (record { is = ap (λ (e : Tree). Value (phrase names find e Closed)) (string_value t); cut = λ rest e. string_cut t rest }) closed
      (record { opens = refl; no_dash = refl }) s

  -- ---- blanks and slots

  marks_first : {ms : List ℕ} {k : ℕ} (h : List ℕ) → AreMarks ms k → First (ms ++ h)
  marks_first h one = record { opens = refl; no_dash = refl }
  marks_first h two = record { opens = refl; no_dash = refl }
  marks_first h three = record { opens = refl; no_dash = refl }

  pub blank_good : {ms h : List ℕ} {k : ℕ} (e : Tree) (depth : ℕ) → AreMarks ms k → MayName h → make names (blank_row k) (blank_head names find h) ≡ e → 0 < depth → Good names find e 27 (ms ++ h) depth
  blank_good {ms} {h} {k} e depth m w v s =
      leaf_good {k = Kind.Blank} e Closed depth
      (record { is = ap (λ (d : Tree). Value (phrase names find d Closed)) (blank_value names find nothing m w ∙ v); cut = λ rest r. blank_cut rest m w r }) closed (marks_first h m) s

  pub named_good : {ms h : List ℕ} {k : ℕ} (x : List ℕ) (e : Tree) (depth : ℕ) → is_name x ≡ true → AreMarks ms k → MayName h
      → make names Builtin.Pattern (name_leaf names find x ∷ make names (blank_row k) (blank_head names find h) ∷ []) ≡ e → 0 < depth → Good names find e 27 (x ++ (ms ++ h)) depth
  named_good {ms} {h} {k} x e depth n m w v s =
      let f = name_first x n in
      leaf_good {k = Kind.Blank} e Closed depth
      (record {
        is = ap (λ (d : Tree). Value (phrase names find d Closed)) (blank_value names find (a_name_of n) m w ∙ named_some names find x (make names (blank_row k) (blank_head names find h)) n ∙ v);
        cut = λ rest r. named_cut x rest n m w r;
      }) closed (record { opens = opens_then x (ms ++ h) f.opens; no_dash = no_dash_then x (ms ++ h) f.no_dash }) s

  slot_numeral : (n : ℕ) → 0 < n → n ≤ 999999999 → SlotNumeral n (decimal n)
  slot_numeral n a b = record { numeral = numeral n (omega arith); first = first_decimal n a (omega arith); short = length-decimal-le 9 n (omega arith) (omega arith) (omega arith) }

  pub slot_good : (n depth : ℕ) → 0 < n → n ≤ 999999999 → 0 < depth → Good names find (make names Builtin.Slot (integer (pos n) ∷ [])) 27 (35 ∷ decimal n) depth
  slot_good n depth a b s =
      let w = slot_numeral n a b in
      leaf_good {k = Kind.Slot} (make names Builtin.Slot (integer (pos n) ∷ [])) Closed depth
      (record { is = ap (λ (d : Tree). Value (phrase names find d Closed)) (slot_value names find n (decimal n) w); cut = λ rest r. slot_cut n (decimal n) rest w r }) closed
      (record { opens = refl; no_dash = refl }) s

  pub slots_good : (n depth : ℕ) → 0 < n → n ≤ 999999999 → 0 < depth → Good names find (make names Builtin.SlotSequence (integer (pos n) ∷ [])) 27 (35 ∷ 35 ∷ decimal n) depth
  slots_good n depth a b s =
      let w = slot_numeral n a b in
      leaf_good {k = Kind.Slot} (make names Builtin.SlotSequence (integer (pos n) ∷ [])) Closed depth
      (record { is = ap (λ (d : Tree). Value (phrase names find d Closed)) (slots_value names find n (decimal n) w); cut = λ rest r. slots_cut n (decimal n) rest w r }) closed
      (record { opens = refl; no_dash = refl }) s

  -- a symbol where a name token is asked for
  pub name_operand : (t : List ℕ) (x : Sym) (level depth : ℕ) → is_name t ≡ true → name_leaf names find t ≡ symbol x → 0 < depth → level ≤ 27 → (o : Operand names find (symbol x) level t depth) × (o.kind ≡ NameToken)
  name_operand t x level depth n v s l =
      let f = name_first t n in
      let leaf : Leaf Kind.Name t (phrase names find (symbol x) NameToken) = record { is = ap (λ (e : Tree). Value (phrase names find e NameToken)) v; cut = λ rest e. name_cut t rest n e } in (
        record {
          pieces = word Kind.Name t ∷ [];
          spelled = append-nil t;
          opens = f.opens;
          cut = λ rest r. (leaf.cut rest r, tt);
          kind = NameToken;
          fits = a_name;
          edge = 100;
          tight = let h = least_high level in omega (arith, l, h);
          some = s;
          reads = λ room q w b. leaf_reads room q leaf;
          side = λ k. plainly f.no_dash;
        },
        refl,
      )
