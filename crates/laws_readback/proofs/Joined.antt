-- Sums, products and the other chains as they are shown.
use Rattle.std.proofs.Common.{◌≡◌, refl, sym, ap, subst, ◌∙◌, ℕ, zero, suc, ◌*◌, ◌<◌, ◌≤◌, inl, inr, min, Bool, true, false, cond, List, [], ◌∷◌, ◌++◌, append-nil, true≢false, arith, le_refl, pos, negsuc}
use Rattle.std.specs.Prelude.{codes, drop}
use Rattle.expr_tree.specs.Tree.{Tree, integer, string, symbol, normal, call}
use Rattle.expr_tree.proofs.Trees.{elements-trees}
use Rattle.semantics.specs.declared.builtin.Builtin.{Builtin}
use Rattle.semantics.specs.Names.{Names, make, name}
use Rattle.script_text.specs.Bytes.{each_after, begins_with}
use Rattle.syntax.specs.Shapes as s
use Rattle.syntax.specs.Tokens.{Kind, scan}
use Rattle.syntax.specs.Operators.{Prefix, leads_at}
use Rattle.syntax.specs.Terminals.{Phrase, PhraseKind, NumberToken, Open, Terminal, sign_start, word_start}
use Rattle.syntax.specs.Phrases.{minus_one, led, negated, negated_elements, is_open_in, chains_with}
use Rattle.syntax.specs.Grammar.{leads}
use Rattle.syntax.specs.Input.{Shown, at_level, all_at, together, term_after, terms_after, sum_text, factors, is_integer}
use Rattle.laws_readback.proofs.Pieces.{word}
use Rattle.laws_readback.proofs.Joints.{Joint, product, sum, chain, joint_row, joint_level, joint_part, joint, not_open, may_begin}
use Rattle.laws_readback.proofs.Phrases.{Opens, NoDash, opens_then, no_dash_then, least_low, least_high, Fits, closed, a_name, a_number, open_in, looser, terms, Reading, as_term, phrase, Phrased, Minus, Sign, unsigned, low, signed, Good, Side, plainly, dashed, Operand, operand}
use Rattle.laws_readback.proofs.Atoms.{minus_cut, number_phrased}
use Rattle.laws_readback.proofs.Chains.{between, Follows, follow, subtract, AllFollow, finish, also, all_add, begin}

module _ (names : Names) (find : List ℕ → ℕ) where
  -- each expression of a list as it is shown, at a lower depth
  pub data AllGood (depth : ℕ) : List Shown → List Tree → Type 0 where
    no_more : AllGood depth [] []
    one_more : {s : Shown} {ss : List Shown} {e : Tree} {es : List Tree} (d : ℕ) → Good names find e s.level s.text d → d < depth → AllGood depth ss es → AllGood depth (s ∷ ss) (e ∷ es)

  pub all_follow : {depth : ℕ} {ss : List Shown} {es : List Tree} (j : Joint) → joint_part j ≤ 27 → AllGood depth ss es
      → AllFollow names find (joint_level j) (joint_row j) depth (each_after (between j) (all_at (joint_part j) ss)) es
  all_follow j h no_more = finish
  all_follow {depth} j h (one_more {s = s} {ss = ss} {e = e} {es = es} d g l rest) =
      also (follow names find j e (at_level (joint_part j) s) d depth l (operand names find e (joint_part j) s d h g)) (all_follow j h rest)

  -- ---- the terms of a sum

  no_dash_begins : (t : List ℕ) → NoDash t → begins_with (codes "-") t ≡ false
  no_dash_begins [] n = absurd n
  no_dash_begins (c ∷ t) n = ap (λ b. elim b as (λ _. Bool) [ true ↦ true | false ↦ false ]) n

  term : {e : Tree} {t : List ℕ} {d depth : ℕ} → d < depth → Operand names find e 18 t d → Follows names find 17 Builtin.Plus e (term_after t) depth
  term {e} {t} {d} {depth} h o = go (o.side (omega arith))
    where
      go : Side names find e 18 t d → Follows names find 17 Builtin.Plus e (term_after t) depth
      go (plainly n) =
          subst (λ (us : List ℕ). Follows names find 17 Builtin.Plus e us depth) (ap (λ b. cond b (codes " - " ++ drop 1 t) (codes " + " ++ t)) (sym (no_dash_begins t n))) (follow names find sum e t d depth h o)
      go (dashed rest q i m) = subst (λ (us : List ℕ). Follows names find 17 Builtin.Plus e (term_after us) depth) (sym q) (subtract names find e rest d depth h m)

  pub all_terms : {depth : ℕ} {ss : List Shown} {es : List Tree} → AllGood depth ss es → AllFollow names find 17 Builtin.Plus depth (terms_after ss) es
  all_terms no_more = finish
  all_terms {depth} (one_more {s = s} {e = e} d g l rest) = also (term l (operand names find e 18 s d (omega arith) g)) (all_terms rest)

  -- ---- the first operand

  begins_chain : {e : Tree} {k : PhraseKind} (j : Joint) → Fits e (joint_part j) k → (is_open_in (joint_row j) k ≡ false) × (chains_with (joint_row j) k ≡ true)
  begins_chain j closed = (refl, refl)
  begins_chain j a_name = (refl, refl)
  begins_chain j (a_number i) = (refl, refl)
  begins_chain j (open_in i l) = let a = (joint j).above in let h : joint_level j < joint_level i = omega (arith, a, l) in (not_open i j h, may_begin i j h)

  first_phrased : {e : Tree} {p : ℕ} {t : List ℕ} {d : ℕ} (level depth : ℕ) → level < p → d < depth → (o : Operand names find e p t d) → Phrased names find (phrase names find e o.kind) level t depth
  first_phrased {e} {p} {t} {d} level depth l h o = record {
    pieces = o.pieces;
    spelled = o.spelled;
    cut = o.cut;
    edge = o.edge;
    above = let a = least_low p in let b = o.tight in omega (arith, a, b, l);
    reads = λ room q w k. o.reads room q (omega (arith, w, h)) (omega (arith, k, l));
  }

  abbrev joined_tree : Joint → List Tree → Tree
  joined_tree j es = make names (joint_row j) es

  chain_good : {t : List ℕ} {depth : ℕ} (j : Joint) (es : List Tree) → Phrased names find (phrase names find (joined_tree j es) (Open (joint_row j))) (joint_level j) t depth → Opens t → 0 < depth
      → Sign names find (joined_tree j es) (joint_level j) t depth → Good names find (joined_tree j es) (joint_level j) t depth
  chain_good j es a o s sign = record {
    pieces = a.pieces;
    spelled = a.spelled;
    opens = o;
    cut = a.cut;
    kind = Open (joint_row j);
    fits = open_in j (le_refl (joint_level j));
    edge = a.edge;
    tight = let h = a.above in let l = least_high (joint_level j) in omega (arith, h, l);
    low = (joint j).low;
    some = s;
    reads = a.reads;
    sign = sign;
  }

  below : {d depth : ℕ} → d < depth → 0 < depth
  below h = omega (arith, h)

  -- a first operand and others
  joined_good : {a b : Tree} {sa : Shown} {u us : List ℕ} {vs : List Tree} {depth : ℕ} (j : Joint) (d : ℕ) → Good names find a sa.level sa.text d → d < depth
      → Follows names find (joint_level j) (joint_row j) b u depth → AllFollow names find (joint_level j) (joint_row j) depth us vs
      → Sign names find (joined_tree j (a ∷ b ∷ vs)) (joint_level j) (at_level (joint_part j) sa ++ (u ++ us)) depth
      → Good names find (joined_tree j (a ∷ b ∷ vs)) (joint_level j) (at_level (joint_part j) sa ++ (u ++ us)) depth
  joined_good {a} {b} {sa} {u} {us} {vs} {depth} j d g h f fs sign =
      let k = joint j in
      let above = k.above in
      let high = k.high in
      let o = operand names find a (joint_part j) sa d (omega (arith, above, high)) g in
      let n = begins_chain j o.fits in
      chain_good j (a ∷ b ∷ vs) (begin names find (phrase names find a o.kind) (first_phrased (joint_level j) depth (omega (arith, above)) h o) n.0 n.1 f fs) (opens_then (at_level (joint_part j) sa) (u ++ us) o.opens) (below h) sign

  chain_low : (c : s.Chain) → s.chain_level c < 18
  chain_low s.Equal = omega arith
  chain_low s.Unequal = omega arith
  chain_low s.Less = omega arith
  chain_low s.LessEqual = omega arith
  chain_low s.Greater = omega arith
  chain_low s.GreaterEqual = omega arith
  chain_low s.SameQ = omega arith
  chain_low s.UnsameQ = omega arith
  chain_low s.And = omega arith
  chain_low s.Or = omega arith
  chain_low s.Alternatives = omega arith
  chain_low s.CompoundExpression = omega arith

  part_low : (j : Joint) → joint_part j ≤ 27
  part_low j = let k = joint j in let a = k.above in let h = k.high in omega (arith, a, h)

  pub chain_shown : {sa sb : Shown} {ss : List Shown} {a b : Tree} {vs : List Tree} {depth : ℕ} (c : s.Chain) → AllGood depth (sa ∷ sb ∷ ss) (a ∷ b ∷ vs)
      → Good names find (make names (joint_row (chain c)) (a ∷ b ∷ vs)) (s.chain_level c) (together (s.chain_sign c) (s.chain_part c) (sa ∷ sb ∷ ss)) depth
  chain_shown {sb = sb} {b = b} {depth = depth} c (one_more d g h (one_more d' g' h' rest)) =
      let j = chain c in
      joined_good j d g h (follow names find j b (at_level (joint_part j) sb) d' depth h' (operand names find b (joint_part j) sb d' (part_low j) g')) (all_follow j (part_low j) rest) (low (chain_low c))

  pub sum_shown : {sa sb : Shown} {ss : List Shown} {a b : Tree} {vs : List Tree} {depth : ℕ} → AllGood depth (sa ∷ sb ∷ ss) (a ∷ b ∷ vs)
      → Good names find (make names Builtin.Plus (a ∷ b ∷ vs)) 17 (sum_text (sa ∷ sb ∷ ss)) depth
  sum_shown {sb = sb} {b = b} (one_more d g h (one_more d' g' h' rest)) =
      joined_good sum d g h (term h' (operand names find b 18 sb d' (omega arith) g')) (all_terms rest) (low (omega arith))

  -- ---- products

  negated_number_first : (n : ℕ) (a b : Tree) (vs : List Tree) → a ≡ integer (negsuc n)
      → negated names (phrase names find (make names Builtin.Times (integer (pos (suc n)) ∷ b ∷ vs)) (Open Builtin.Times)) ≡ make names Builtin.Times (a ∷ b ∷ vs)
  negated_number_first n a b vs e =
      ap (λ (us : List Tree). make names Builtin.Times (integer (negsuc n) ∷ b ∷ us)) (elements-trees vs) ∙ ap (λ (x : Tree). make names Builtin.Times (x ∷ b ∷ vs)) (sym e)

  product_sign : {a b : Tree} {t u us : List ℕ} {vs : List Tree} {d depth : ℕ} → Side names find a 19 t d
      → Follows names find 18 Builtin.Times b u depth → AllFollow names find 18 Builtin.Times depth us vs
      → Sign names find (make names Builtin.Times (a ∷ b ∷ vs)) 18 (t ++ (u ++ us)) depth
  product_sign {t = t} {u = u} {us = us} (plainly n) f fs = unsigned (no_dash_then t (u ++ us) n)
  product_sign {a} {b} {t} {u} {us} {vs} {d} {depth} (dashed rest q (inl n) m) f fs =
      signed (rest ++ (u ++ us)) (ap (λ (ws : List ℕ). ws ++ (u ++ us)) q) (inr (le_refl 18)) (record {
        x = phrase names find (make names Builtin.Times (integer (pos (suc n.n)) ∷ b ∷ vs)) (Open Builtin.Times);
        phrased = subst (λ (ws : List ℕ). Phrased names find (phrase names find (make names Builtin.Times (integer (pos (suc n.n)) ∷ b ∷ vs)) (Open Builtin.Times)) 18 (ws ++ (u ++ us)) depth) (sym n.digits)
            (begin names find (phrase names find (integer (pos (suc n.n))) NumberToken) (number_phrased names find (suc n.n) 18 depth n.fits (omega arith)) refl refl f fs);
        negates = negated_number_first n.n a b vs n.is;
      })
  product_sign (dashed rest q (inr l) m) f fs = absurd (omega (arith, l))

  pub product_shown : {sa sb : Shown} {ss : List Shown} {a b : Tree} {vs : List Tree} {depth : ℕ} → AllGood depth (sa ∷ sb ∷ ss) (a ∷ b ∷ vs)
      → Good names find (make names Builtin.Times (a ∷ b ∷ vs)) 18 (together (codes "*") 19 (sa ∷ sb ∷ ss)) depth
  product_shown {sa} {sb} {a = a} {b = b} {depth = depth} (one_more d g h (one_more d' g' h' rest)) =
      let f = follow names find product b (at_level 19 sb) d' depth h' (operand names find b 19 sb d' (omega arith) g') in
      let fs = all_follow product (omega arith) rest in
      let o = operand names find a 19 sa d (omega arith) g in
      joined_good product d g h f fs (product_sign (o.side (omega arith)) f fs)

  -- ---- a product that begins with -1

  leads_to : {b : Tree} {k : PhraseKind} → Fits b 20 k → is_integer b ≡ false → led names Prefix.Negate (phrase names find b k) ≡ phrase names find (make names Builtin.Times (minus_one ∷ b ∷ [])) (Open Builtin.Times)
  leads_to closed n = refl
  leads_to a_name n = refl
  leads_to (a_number i) n = absurd (true≢false (sym i ∙ n))
  leads_to (open_in j l) n = absurd (let h = (joint j).high in omega (arith, l, h))

  no_dash_of : {b : Tree} {t : List ℕ} {d : ℕ} → is_integer b ≡ false → Side names find b 20 t d → NoDash t
  no_dash_of i (plainly n) = n
  no_dash_of i (dashed rest q (inl n) m) = absurd (true≢false (sym (ap is_integer n.is) ∙ i))
  no_dash_of i (dashed rest q (inr l) m) = absurd (omega (arith, l))

  negative_leads : (b : Tree) (room q edge : ℕ) (k : PhraseKind) (ts : List Terminal) → Reading names find room (leads_at Prefix.Negate) ts (phrase names find b k) edge
      → Reading names find (suc room) q (as_term names find Kind.Operator (45 ∷ []) ∷ ts) (led names Prefix.Negate (phrase names find b k)) (min (leads_at Prefix.Negate) edge)
  unfolding sign_start word_start
  negative_leads b room q edge k ts r = leads (as_term names find Kind.Operator (45 ∷ [])) refl r

  lead : {b : Tree} {t : List ℕ} {d depth : ℕ} → d < depth → is_integer b ≡ false → Operand names find b 20 t d
      → Phrased names find (phrase names find (make names Builtin.Times (minus_one ∷ b ∷ [])) (Open Builtin.Times)) 18 (45 ∷ t) depth
  unfolding leads_at
  lead {b} {t} {d} {depth} h i o = record {
    pieces = word Kind.Operator (45 ∷ []) ∷ o.pieces;
    spelled = ap (λ (us : List ℕ). 45 ∷ us) o.spelled;
    cut = λ rest r. (ap (λ (us : List ℕ). scan 45 (us ++ rest)) o.spelled ∙ minus_cut t rest o.opens (no_dash_of i (o.side (omega arith))), o.cut rest r);
    edge = min (leads_at Prefix.Negate) o.edge;
    above = let a = o.tight in omega (arith, a);
    reads = go;
  }
    where
      go : (room q : ℕ) → 2 * depth ≤ suc room → q ≤ 18
          → Reading names find room q (terms names find (word Kind.Operator (45 ∷ []) ∷ o.pieces)) (phrase names find (make names Builtin.Times (minus_one ∷ b ∷ [])) (Open Builtin.Times)) (min (leads_at Prefix.Negate) o.edge)
      go zero q w l = absurd (omega (arith, w, h))
      go (suc room) q w l =
          subst (λ (x : Phrase). Reading names find (suc room) q (terms names find (word Kind.Operator (45 ∷ []) ∷ o.pieces)) x (min (leads_at Prefix.Negate) o.edge)) (leads_to o.fits i)
          (negative_leads b room q o.edge o.kind (terms names find o.pieces) (o.reads room (leads_at Prefix.Negate) (omega (arith, w, h)) (omega arith)))

  minus_in_front : (b : Tree) (es : List Tree) → is_integer b ≡ false → negated_elements names (b ∷ es) ≡ minus_one ∷ b ∷ es
  minus_in_front (integer n) es i = absurd (true≢false i)
  minus_in_front (string t) es i = refl
  minus_in_front (symbol x) es i = refl
  minus_in_front (normal h fs) es i = refl

  negated_first : (b c : Tree) (vs : List Tree) → is_integer b ≡ false
      → negated names (phrase names find (make names Builtin.Times (b ∷ c ∷ vs)) (Open Builtin.Times)) ≡ make names Builtin.Times (minus_one ∷ b ∷ c ∷ vs)
  negated_first b c vs i =
      ap (λ (us : List Tree). call (name names Builtin.Times) (negated_elements names (b ∷ c ∷ us))) (elements-trees vs) ∙ ap (call (name names Builtin.Times)) (minus_in_front b (c ∷ vs) i)

  behind_minus : {b : Tree} {t : List ℕ} {d depth : ℕ} {ss : List Shown} {es : List Tree} → d < depth → is_integer b ≡ false → Operand names find b 20 t d → AllGood depth ss es
      → Minus names find (make names Builtin.Times (minus_one ∷ b ∷ es)) (t ++ each_after (codes "*") (all_at 19 ss)) depth
  behind_minus {b} {t} {d} {depth} h i o no_more = record {
    x = phrase names find b o.kind;
    phrased = subst (λ (us : List ℕ). Phrased names find (phrase names find b o.kind) 18 us depth) (sym (append-nil t)) (first_phrased 18 depth (omega arith) h o);
    negates = ap (λ (x : Phrase). x.expr) (leads_to o.fits i);
  }
  behind_minus {b} {t} {d} {depth} h i o (one_more {s = sc} {ss = ss} {e = c} {es = es} d' g l rest) =
      let n = begins_chain product (looser 19 (omega arith) o.fits) in
      record {
        x = phrase names find (make names Builtin.Times (b ∷ c ∷ es)) (Open Builtin.Times);
        phrased = begin names find (phrase names find b o.kind) (first_phrased 18 depth (omega arith) h o) n.0 n.1
            (follow names find product c (at_level 19 sc) d' depth l (operand names find c 19 sc d' (omega arith) g)) (all_follow product (omega arith) rest);
        negates = negated_first b c es i;
      }

  pub negative_shown : {sb : Shown} {ss : List Shown} {b : Tree} {vs : List Tree} {depth : ℕ} → is_integer b ≡ false → AllGood depth (sb ∷ ss) (b ∷ vs)
      → Good names find (make names Builtin.Times (minus_one ∷ b ∷ vs)) 18 (factors (sb ∷ ss)) depth
  negative_shown {sb} {ss} {b} {vs} {depth} i (one_more d g h rest) =
      let o = operand names find b 20 sb d (omega arith) g in
      let t = at_level 20 sb in
      let others = each_after (codes "*") (all_at 19 ss) in
      chain_good product (minus_one ∷ b ∷ vs) (all_add names find (minus_one ∷ b ∷ []) (lead h i o) (all_follow product (omega arith) rest)) refl (below h)
      (signed (t ++ others) refl (inr (le_refl 18)) (behind_minus h i o rest))
