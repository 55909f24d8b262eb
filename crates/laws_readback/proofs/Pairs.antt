-- Two operands, and the operators of one operand, as they are shown.
use Rattle.std.proofs.Common.{◌≡◌, refl, sym, ap, ap₂, subst, subst₂, ◌∙◌, ℕ, zero, suc, ◌*◌, ◌<◌, ◌≤◌, ◌⊎◌, inl, inr, ⊎_elim, min, Bool, true, false, List, [], ◌∷◌, ◌++◌, append_assoc, true≢false, arith}
use Rattle.std.specs.Prelude.{◌==◌, codes}
use Rattle.expr_tree.specs.Tree.{Tree}
use Rattle.semantics.specs.declared.builtin.Builtin.{Builtin}
use Rattle.semantics.specs.Names.{Names, make}
use Rattle.script_text.specs.Bytes.{begins_with}
use Rattle.syntax.specs.Shapes as s
use Rattle.syntax.specs.Tokens.{Kind, Scan, Takes, scan}
use Rattle.syntax.specs.Operators.{Operator, Prefix, Postfix, infix_row, level_of, right_of, gives_of, leads_at, trails_at}
use Rattle.syntax.specs.Terminals.{Phrase, PhraseKind, Closed, NameToken, Terminal, sign_start, sign_next, word_start, word_next, on_line}
use Rattle.syntax.specs.Phrases.{of, joined, accepts_by}
use Rattle.syntax.specs.Grammar.{IsJoin, joins, binary, leads, trails}
use Rattle.laws_readback.proofs.Pieces.{Piece, word, gap, bytes, AreCut, bytes_then, cut_then}
use Rattle.laws_readback.proofs.Scans.{Ends, ender}
use Rattle.laws_readback.proofs.Shaped.{pair_row, is_proper}
use Rattle.laws_readback.proofs.Phrases.{Opens, opener, NoDash, opens_then, no_dash_then, least, least_low, closed, terms, Reading, as_term, terms_then, phrase, unsigned, low, Good, Operand}
use Rattle.laws_readback.proofs.Enclosed.{no_dash_side}

abbrev pub pair_op : s.Pair → Operator
pair_op s.PatternTest = Operator.PatternTest
pair_op s.Power = Operator.Power
pair_op s.Condition = Operator.Condition
pair_op s.Rule = Operator.Rule
pair_op s.RuleDelayed = Operator.RuleDelayed
pair_op s.ReplaceAll = Operator.ReplaceAll
pair_op s.ReplaceRepeated = Operator.ReplaceRepeated
pair_op s.Set = Operator.Set
pair_op s.SetDelayed = Operator.SetDelayed
pair_op s.Naming = Operator.Pattern

abbrev spaced : List ℕ → List Piece
spaced t = gap ∷ word Kind.Operator t ∷ gap ∷ []

abbrev close : List ℕ → List Piece
close t = word Kind.Operator t ∷ []

abbrev separator : s.Pair → List Piece
separator s.PatternTest = close (codes "?")
separator s.Power = close (codes "^")
separator s.Condition = spaced (codes "/;")
separator s.Rule = spaced (codes "->")
separator s.RuleDelayed = spaced (codes ":>")
separator s.ReplaceAll = spaced (codes "/.")
separator s.ReplaceRepeated = spaced (codes "//.")
separator s.Set = spaced (codes "=")
separator s.SetDelayed = spaced (codes ":=")
separator s.Naming = close (codes ":")

abbrev one_or_two : Bool → Scan
one_or_two b = elim (elim b as (λ _. Bool) [ true ↦ true | false ↦ false ]) as (λ _. Scan) [ true ↦ Takes Kind.Operator 2 | false ↦ Takes Kind.Operator 1 ]

caret_cut : (t rest : List ℕ) → Opens t → scan 94 (t ++ rest) ≡ Takes Kind.Operator 1
caret_cut [] rest o = absurd o
caret_cut (c ∷ t) rest o =
    ap (λ b. elim (elim b as (λ _. Bool) [ true ↦ begins_with (61 ∷ []) (t ++ rest) | false ↦ false ]) as (λ _. Scan) [ true ↦ Takes Kind.Operator 3 | false ↦ one_or_two (c == 61) ]) (opener c o).no_colon
    ∙ ap one_or_two (opener c o).no_equal

colon_cut : (t rest : List ℕ) → Opens t → scan 58 (t ++ rest) ≡ Takes Kind.Operator 1
colon_cut [] rest o = absurd o
colon_cut (c ∷ t) rest o =
    ap (λ b. elim (elim b as (λ _. Bool) [ true ↦ true | false ↦ false ]) as (λ _. Scan) [ true ↦ Takes Kind.Operator 2 | false ↦ one_or_two (c == 61) ]) (opener c o).no_greater
    ∙ ap one_or_two (opener c o).no_equal

bang_cut : (t rest : List ℕ) → Opens t → scan 33 (t ++ rest) ≡ Takes Kind.Operator 1
bang_cut [] rest o = absurd o
bang_cut (c ∷ t) rest o = ap one_or_two (opener c o).no_equal

ampersand_cut : (rest : List ℕ) → Ends rest → scan 38 rest ≡ Takes Kind.Operator 1
ampersand_cut [] e = refl
ampersand_cut (c ∷ rest) e = ap one_or_two (ender c e).no_and

module _ (names : Names) (find : List ℕ → ℕ) where
  record Pairs (p : s.Pair) : Type 0 where
    spelled : bytes (separator p) ≡ s.pair_sign p
    ends : (rest : List ℕ) → Ends (s.pair_sign p ++ rest)
    cut : (t rest : List ℕ) → Opens t → AreCut (separator p) (t ++ rest)
    t : Terminal
    term : terms names find (separator p) ≡ t ∷ []
    is_join : IsJoin t (pair_op p)
    level : level_of (pair_op p) ≡ s.pair_level p
    right : right_of (pair_op p) ≡ s.pair_right p
    gives : (x y : Phrase) → joined names (gives_of (pair_op p)) x y ≡ of names (pair_row p) (x.expr ∷ y.expr ∷ [])
    left : s.pair_level p < least (s.pair_left p)
    same : s.pair_level p ≤ s.pair_left p
    tight : least (s.pair_level p) ≤ s.pair_right p
    low : 2 ≤ s.pair_level p
    loose : (s.pair_level p < 18) ⊎ (20 < s.pair_left p)

  abbrev by_sign : List ℕ → Terminal
  by_sign t = as_term names find Kind.Operator t

  pairs : (p : s.Pair) → Pairs p
  unfolding sign_next word_next on_line level_of right_of gives_of infix_row
  pairs s.PatternTest = record {
    spelled = refl;
    ends = λ rest. refl;
    cut = λ t rest o. (refl, tt);
    t = by_sign (codes "?");
    term = refl;
    is_join = joins (by_sign (codes "?")) refl;
    level = refl;
    right = refl;
    gives = λ x y. refl;
    left = omega arith;
    same = omega arith;
    tight = omega arith;
    low = omega arith;
    loose = inr (omega arith);
  }
  pairs s.Power = record {
    spelled = refl;
    ends = λ rest. refl;
    cut = λ t rest o. (caret_cut t rest o, tt);
    t = by_sign (codes "^");
    term = refl;
    is_join = joins (by_sign (codes "^")) refl;
    level = refl;
    right = refl;
    gives = λ x y. refl;
    left = omega arith;
    same = omega arith;
    tight = omega arith;
    low = omega arith;
    loose = inr (omega arith);
  }
  pairs s.Condition = record {
    spelled = refl;
    ends = λ rest. refl;
    cut = λ t rest o. (refl, tt);
    t = by_sign (codes "/;");
    term = refl;
    is_join = joins (by_sign (codes "/;")) refl;
    level = refl;
    right = refl;
    gives = λ x y. refl;
    left = omega arith;
    same = omega arith;
    tight = omega arith;
    low = omega arith;
    loose = inl (omega arith);
  }
  pairs s.Rule = record {
    spelled = refl;
    ends = λ rest. refl;
    cut = λ t rest o. (refl, tt);
    t = by_sign (codes "->");
    term = refl;
    is_join = joins (by_sign (codes "->")) refl;
    level = refl;
    right = refl;
    gives = λ x y. refl;
    left = omega arith;
    same = omega arith;
    tight = omega arith;
    low = omega arith;
    loose = inl (omega arith);
  }
  pairs s.RuleDelayed = record {
    spelled = refl;
    ends = λ rest. refl;
    cut = λ t rest o. (refl, tt);
    t = by_sign (codes ":>");
    term = refl;
    is_join = joins (by_sign (codes ":>")) refl;
    level = refl;
    right = refl;
    gives = λ x y. refl;
    left = omega arith;
    same = omega arith;
    tight = omega arith;
    low = omega arith;
    loose = inl (omega arith);
  }
  pairs s.ReplaceAll = record {
    spelled = refl;
    ends = λ rest. refl;
    cut = λ t rest o. (refl, tt);
    t = by_sign (codes "/.");
    term = refl;
    is_join = joins (by_sign (codes "/.")) refl;
    level = refl;
    right = refl;
    gives = λ x y. refl;
    left = omega arith;
    same = omega arith;
    tight = omega arith;
    low = omega arith;
    loose = inl (omega arith);
  }
  pairs s.ReplaceRepeated = record {
    spelled = refl;
    ends = λ rest. refl;
    cut = λ t rest o. (refl, tt);
    t = by_sign (codes "//.");
    term = refl;
    is_join = joins (by_sign (codes "//.")) refl;
    level = refl;
    right = refl;
    gives = λ x y. refl;
    left = omega arith;
    same = omega arith;
    tight = omega arith;
    low = omega arith;
    loose = inl (omega arith);
  }
  pairs s.Set = record {
    spelled = refl;
    ends = λ rest. refl;
    cut = λ t rest o. (refl, tt);
    t = by_sign (codes "=");
    term = refl;
    is_join = joins (by_sign (codes "=")) refl;
    level = refl;
    right = refl;
    gives = λ x y. refl;
    left = omega arith;
    same = omega arith;
    tight = omega arith;
    low = omega arith;
    loose = inl (omega arith);
  }
  pairs s.SetDelayed = record {
    spelled = refl;
    ends = λ rest. refl;
    cut = λ t rest o. (refl, tt);
    t = by_sign (codes ":=");
    term = refl;
    is_join = joins (by_sign (codes ":=")) refl;
    level = refl;
    right = refl;
    gives = λ x y. refl;
    left = omega arith;
    same = omega arith;
    tight = omega arith;
    low = omega arith;
    loose = inl (omega arith);
  }
  pairs s.Naming = record {
    spelled = refl;
    ends = λ rest. refl;
    cut = λ t rest o. (colon_cut t rest o, tt);
    t = by_sign (codes ":");
    term = refl;
    is_join = joins (by_sign (codes ":")) refl;
    level = refl;
    right = refl;
    gives = λ x y. refl;
    left = omega arith;
    same = omega arith;
    tight = omega arith;
    low = omega arith;
    loose = inl (omega arith);
  }

  -- only a name's operator looks at its left operand
  pub takes_any : (p : s.Pair) (k : PhraseKind) → is_proper (s.Pairs p) ≡ true → accepts_by (gives_of (pair_op p)) k ≡ true
  unfolding gives_of infix_row
  takes_any s.PatternTest k e = refl
  takes_any s.Power k e = refl
  takes_any s.Condition k e = refl
  takes_any s.Rule k e = refl
  takes_any s.RuleDelayed k e = refl
  takes_any s.ReplaceAll k e = refl
  takes_any s.ReplaceRepeated k e = refl
  takes_any s.Set k e = refl
  takes_any s.SetDelayed k e = refl
  takes_any s.Naming k e = absurd (true≢false (sym e))

  pub takes_name : (k : PhraseKind) → k ≡ NameToken → accepts_by (gives_of (pair_op s.Naming)) k ≡ true
  unfolding gives_of infix_row
  takes_name k e = ap (λ (j : PhraseKind). accepts_by (gives_of (pair_op s.Naming)) j) e

  pub pair_good : {a b : Tree} {ta tb : List ℕ} {d d' depth : ℕ} (p : s.Pair) → (l : Operand names find a (s.pair_left p) ta d) → accepts_by (gives_of (pair_op p)) l.kind ≡ true → d < depth
      → Operand names find b (s.pair_right p) tb d' → d' < depth → Good names find (make names (pair_row p) (a ∷ b ∷ [])) (s.pair_level p) (ta ++ s.pair_sign p ++ tb) depth
  pair_good {a} {b} {ta} {tb} {d} {d'} {depth} p l takes h r h' =
      let f = pairs p in
      let op = pair_op p in
      let x = make names (pair_row p) (a ∷ b ∷ []) in
      let inner = separator p ++ r.pieces in
      let text : bytes inner ≡ s.pair_sign p ++ tb = bytes_then (separator p) r.pieces ∙ ap₂ (λ (us vs : List ℕ). us ++ vs) f.spelled r.spelled in
      let whole : ta ++ (s.pair_sign p ++ tb) ≡ ta ++ s.pair_sign p ++ tb = sym (append_assoc ta (s.pair_sign p) tb) in
      let fl = f.level in
      let fr = f.right in
      let left = f.left in
      let lt = l.tight in
      let rt = r.tight in
      let low_right = least_low (s.pair_right p) in
      let ft = f.tight in
      let same = f.same in
      record {
        pieces = l.pieces ++ inner;
        spelled = bytes_then l.pieces inner ∙ ap₂ (λ (us vs : List ℕ). us ++ vs) l.spelled text ∙ whole;
        opens = subst (λ (us : List ℕ). Opens us) whole (opens_then ta (s.pair_sign p ++ tb) l.opens);
        cut = λ rest e.
            cut_then l.pieces inner rest
            (l.cut (bytes inner ++ rest) (subst (λ (us : List ℕ). Ends us) (sym (append_assoc (s.pair_sign p) tb rest) ∙ ap (λ (us : List ℕ). us ++ rest) (sym text)) (f.ends (tb ++ rest))))
            (cut_then (separator p) r.pieces rest (f.cut (bytes r.pieces) rest (subst (λ (us : List ℕ). Opens us) (sym r.spelled) r.opens)) (r.cut rest e));
        kind = Closed;
        fits = closed;
        edge = min (right_of op) r.edge;
        tight = omega (arith, ft, fr, rt, low_right);
        low = f.low;
        some = omega (arith, h);
        reads = go;
        sign = ⊎_elim (λ (k : s.pair_level p < 18). low k)
            (λ (k : 20 < s.pair_left p). unsigned (subst (λ (us : List ℕ). NoDash us) whole (no_dash_then ta (s.pair_sign p ++ tb) (no_dash_side names find k (l.side (omega (arith, k))))))) f.loose;
      }
    where
      go : (room q : ℕ) → 2 * depth ≤ suc room → q ≤ s.pair_level p
          → Reading names find room q (terms names find (l.pieces ++ (separator p ++ r.pieces))) (phrase names find (make names (pair_row p) (a ∷ b ∷ [])) Closed) (min (right_of (pair_op p)) r.edge)
      go zero q w k = absurd (omega (arith, w, h))
      go (suc room) q w k =
          let f = pairs p in
          let fl = f.level in
          let fr = f.right in
          let left = f.left in
          let lt = l.tight in
          let same = f.same in
          let first = l.reads (suc room) q (omega (arith, w, h)) (omega (arith, k, same)) in
          let second = r.reads room (right_of (pair_op p)) (omega (arith, w, h')) (omega (arith, fr)) in
          let joined = binary f.t first f.is_join (omega (arith, k, fl)) (omega (arith, fl, left, lt)) takes second in
          subst₂ (λ (us : List Terminal) (y : Phrase). Reading names find (suc room) q us y (min (right_of (pair_op p)) r.edge))
          (ap (λ (us : List Terminal). terms names find l.pieces ++ us) (ap (λ (us : List Terminal). us ++ terms names find r.pieces) (sym f.term) ∙ sym (terms_then names find (separator p) r.pieces))
          ∙ sym (terms_then names find l.pieces (separator p ++ r.pieces)))
          (f.gives (phrase names find a l.kind) (phrase names find b r.kind)) joined

  -- ---- one operand

  not_reads : {a : Tree} (room q edge : ℕ) (k : PhraseKind) (ts : List Terminal) → Reading names find room (leads_at Prefix.Not) ts (phrase names find a k) edge
      → Reading names find (suc room) q (as_term names find Kind.Operator (33 ∷ []) ∷ ts) (phrase names find (make names Builtin.Not (a ∷ [])) Closed) (min (leads_at Prefix.Not) edge)
  unfolding sign_start word_start
  not_reads room q edge k ts r = leads {op = Prefix.Not} (as_term names find Kind.Operator (33 ∷ [])) refl r

  pub not_good : {a : Tree} {t : List ℕ} {d depth : ℕ} → d < depth → Operand names find a 14 t d → Good names find (make names Builtin.Not (a ∷ [])) 14 (33 ∷ t) depth
  unfolding leads_at
  not_good {a} {t} {d} {depth} h o = record {
    pieces = word Kind.Operator (33 ∷ []) ∷ o.pieces;
    spelled = ap (λ (us : List ℕ). 33 ∷ us) o.spelled;
    opens = refl;
    cut = λ rest r. (ap (λ (us : List ℕ). scan 33 (us ++ rest)) o.spelled ∙ bang_cut t rest o.opens, o.cut rest r);
    kind = Closed;
    fits = closed;
    edge = min (leads_at Prefix.Not) o.edge;
    tight = let l = o.tight in omega (arith, l);
    low = omega arith;
    some = omega (arith, h);
    reads = go;
    sign = low (omega arith);
  }
    where
      go : (room q : ℕ) → 2 * depth ≤ suc room → q ≤ 14
          → Reading names find room q (as_term names find Kind.Operator (33 ∷ []) ∷ terms names find o.pieces) (phrase names find (make names Builtin.Not (a ∷ [])) Closed) (min (leads_at Prefix.Not) o.edge)
      go zero q w k = absurd (omega (arith, w, h))
      go (suc room) q w k = not_reads room q o.edge o.kind (terms names find o.pieces) (o.reads room (leads_at Prefix.Not) (omega (arith, w, h)) (omega arith))

  pub function_good : {a : Tree} {t : List ℕ} {d depth : ℕ} → d < depth → Operand names find a 6 t d → Good names find (make names Builtin.Function (a ∷ [])) 5 (t ++ codes " &") depth
  unfolding sign_next word_next on_line trails_at
  function_good {a} {t} {d} {depth} h o =
      let last = gap ∷ word Kind.Operator (38 ∷ []) ∷ [] in
      record {
        pieces = o.pieces ++ last;
        spelled = bytes_then o.pieces last ∙ ap (λ (us : List ℕ). us ++ codes " &") o.spelled;
        opens = opens_then t (codes " &") o.opens;
        cut = λ rest r. cut_then o.pieces last rest (o.cut (bytes last ++ rest) refl) (ampersand_cut rest r, tt);
        kind = Closed;
        fits = closed;
        edge = 100;
        tight = omega arith;
        low = omega arith;
        some = omega (arith, h);
        reads = λ room q w k.
            let l = o.tight in
            subst (λ (us : List Terminal). Reading names find room q us (phrase names find (make names Builtin.Function (a ∷ [])) Closed) 100) (sym (terms_then names find o.pieces last))
            (trails {op = Postfix.Function} (by_sign (38 ∷ [])) (o.reads room q (omega (arith, w, h)) (omega (arith, k))) refl k (omega (arith, l)));
        sign = low (omega arith);
      }
