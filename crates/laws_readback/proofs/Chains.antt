-- Two or more operands under one operator.
use Rattle.std.proofs.Common.{◌≡◌, refl, sym, ap, ap₂, subst, subst₂, ◌∙◌, ℕ, zero, suc, ◌*◌, ◌<◌, ◌≤◌, min, Bool, true, false, cond, List, [], ◌∷◌, ◌++◌, append_assoc, append-nil, arith, le_refl}
use Rattle.std.specs.Prelude.{◌||◌, not, codes}
use Rattle.expr_tree.specs.Tree.{Tree, call}
use Rattle.expr_tree.proofs.Trees.{elements-trees}
use Rattle.semantics.specs.declared.builtin.Builtin.{Builtin}
use Rattle.semantics.specs.Names.{Names, make, name}
use Rattle.syntax.specs.Shapes as s
use Rattle.syntax.specs.Tokens.{Kind, Scan, Takes, scan}
use Rattle.syntax.specs.Operators.{Operator, Gives, infix_row, level_of, right_of, gives_of}
use Rattle.syntax.specs.Terminals.{Phrase, Open, Terminal, sign_next, word_next, on_line}
use Rattle.syntax.specs.Phrases.{chained, appended, joined, accepts_by, is_open_in, chains_with, of_one_kind}
use Rattle.syntax.specs.Grammar.{IsJoin, joins, sequence, binary}
use Rattle.laws_readback.proofs.Pieces.{Piece, word, gap, bytes, AreCut, bytes_then, cut_then}
use Rattle.laws_readback.proofs.Scans.{Ends}
use Rattle.laws_readback.proofs.Joints.{Joint, product, sum, chain, joint_row, joint_level, joint_part, joint_op, joint, same_itself}
use Rattle.laws_readback.proofs.Phrases.{Opens, opener, least_low, terms, Reading, as_term, terms_then, phrase, Phrased, Minus, Operand}

-- ---- what stands between the operands

abbrev spaced : List ℕ → List Piece
spaced t = gap ∷ word Kind.Operator t ∷ gap ∷ []

abbrev pub separator : Joint → List Piece
separator product = word Kind.Operator (42 ∷ []) ∷ []
separator sum = spaced (43 ∷ [])
separator (chain s.Equal) = spaced (codes "==")
separator (chain s.Unequal) = spaced (codes "!=")
separator (chain s.Less) = spaced (codes "<")
separator (chain s.LessEqual) = spaced (codes "<=")
separator (chain s.Greater) = spaced (codes ">")
separator (chain s.GreaterEqual) = spaced (codes ">=")
separator (chain s.SameQ) = spaced (codes "===")
separator (chain s.UnsameQ) = spaced (codes "=!=")
separator (chain s.And) = spaced (codes "&&")
separator (chain s.Or) = spaced (codes "||")
separator (chain s.Alternatives) = spaced (codes "|")
separator (chain s.CompoundExpression) = word Kind.Operator (codes ";") ∷ gap ∷ []

abbrev pub between : Joint → List ℕ
between product = codes "*"
between sum = codes " + "
between (chain c) = s.chain_sign c

star_cut : (t rest : List ℕ) → Opens t → scan 42 (t ++ rest) ≡ Takes Kind.Operator 1
star_cut [] rest o = absurd o
star_cut (c ∷ t) rest o = ap (λ b. elim (elim b as (λ _. Bool) [ true ↦ true | false ↦ false ]) as (λ _. Scan) [ true ↦ Takes Kind.Operator 2 | false ↦ Takes Kind.Operator 1 ]) (opener c o).no_equal

module _ (names : Names) (find : List ℕ → ℕ) where
  record Separates (j : Joint) : Type 0 where
    spelled : bytes (separator j) ≡ between j
    ends : (rest : List ℕ) → Ends (between j ++ rest)
    cut : (t rest : List ℕ) → Opens t → AreCut (separator j) (t ++ rest)
    t : Terminal
    term : terms names find (separator j) ≡ t ∷ []
    is_join : IsJoin t (joint_op j)

  abbrev by_sign : List ℕ → Terminal
  by_sign t = as_term names find Kind.Operator t

  separates : (j : Joint) → Separates j
  unfolding sign_next word_next on_line
  separates product = record { spelled = refl; ends = λ rest. refl; cut = λ t rest o. (star_cut t rest o, tt); t = by_sign (42 ∷ []); term = refl; is_join = joins (by_sign (42 ∷ [])) refl }
  separates sum = record { spelled = refl; ends = λ rest. refl; cut = λ t rest o. (refl, tt); t = by_sign (43 ∷ []); term = refl; is_join = joins (by_sign (43 ∷ [])) refl }
  separates (chain s.Equal) = record { spelled = refl; ends = λ rest. refl; cut = λ t rest o. (refl, tt); t = by_sign (codes "=="); term = refl; is_join = joins (by_sign (codes "==")) refl }
  separates (chain s.Unequal) = record { spelled = refl; ends = λ rest. refl; cut = λ t rest o. (refl, tt); t = by_sign (codes "!="); term = refl; is_join = joins (by_sign (codes "!=")) refl }
  separates (chain s.Less) = record { spelled = refl; ends = λ rest. refl; cut = λ t rest o. (refl, tt); t = by_sign (codes "<"); term = refl; is_join = joins (by_sign (codes "<")) refl }
  separates (chain s.LessEqual) = record { spelled = refl; ends = λ rest. refl; cut = λ t rest o. (refl, tt); t = by_sign (codes "<="); term = refl; is_join = joins (by_sign (codes "<=")) refl }
  separates (chain s.Greater) = record { spelled = refl; ends = λ rest. refl; cut = λ t rest o. (refl, tt); t = by_sign (codes ">"); term = refl; is_join = joins (by_sign (codes ">")) refl }
  separates (chain s.GreaterEqual) = record { spelled = refl; ends = λ rest. refl; cut = λ t rest o. (refl, tt); t = by_sign (codes ">="); term = refl; is_join = joins (by_sign (codes ">=")) refl }
  separates (chain s.SameQ) = record { spelled = refl; ends = λ rest. refl; cut = λ t rest o. (refl, tt); t = by_sign (codes "==="); term = refl; is_join = joins (by_sign (codes "===")) refl }
  separates (chain s.UnsameQ) = record { spelled = refl; ends = λ rest. refl; cut = λ t rest o. (refl, tt); t = by_sign (codes "=!="); term = refl; is_join = joins (by_sign (codes "=!=")) refl }
  separates (chain s.And) = record { spelled = refl; ends = λ rest. refl; cut = λ t rest o. (refl, tt); t = by_sign (codes "&&"); term = refl; is_join = joins (by_sign (codes "&&")) refl }
  separates (chain s.Or) = record { spelled = refl; ends = λ rest. refl; cut = λ t rest o. (refl, tt); t = by_sign (codes "||"); term = refl; is_join = joins (by_sign (codes "||")) refl }
  separates (chain s.Alternatives) = record { spelled = refl; ends = λ rest. refl; cut = λ t rest o. (refl, tt); t = by_sign (codes "|"); term = refl; is_join = joins (by_sign (codes "|")) refl }
  separates (chain s.CompoundExpression) = record { spelled = refl; ends = λ rest. refl; cut = λ t rest o. (refl, tt); t = by_sign (codes ";"); term = refl; is_join = sequence (by_sign (codes ";")) refl }

  -- ---- one more operand

  pub record Follows (level : ℕ) (row : Builtin) (v : Tree) (text : List ℕ) (depth : ℕ) : Type 0 where
    pub pieces : List Piece
    pub spelled : bytes pieces ≡ text
    pub ends : (rest : List ℕ) → Ends (text ++ rest)
    pub cut : (rest : List ℕ) → Ends rest → AreCut pieces rest
    pub some : 0 < depth
    pub edge : ℕ
    pub above : level < edge
    pub goes_on : (room q far : ℕ) (ts : List Terminal) (x : Phrase) → 2 * depth ≤ suc (suc room) → q ≤ level → level < far → chains_with row x.kind ≡ true
        → Reading names find (suc room) q ts x far → Reading names find (suc room) q (ts ++ terms names find pieces) (chained names row x v) edge

  pub follow : (j : Joint) (v : Tree) (t : List ℕ) (d depth : ℕ) → d < depth → Operand names find v (joint_part j) t d → Follows (joint_level j) (joint_row j) v (between j ++ t) depth
  follow j v t d depth h o =
      let p = separates j in
      let f = joint j in
      let op = joint_op j in
      record {
        pieces = separator j ++ o.pieces;
        spelled = bytes_then (separator j) o.pieces ∙ ap₂ (λ (us vs : List ℕ). us ++ vs) p.spelled o.spelled;
        ends = λ rest. subst (λ (us : List ℕ). Ends us) (sym (append_assoc (between j) t rest)) (p.ends (t ++ rest));
        cut = λ rest e. cut_then (separator j) o.pieces rest (p.cut (bytes o.pieces) rest (subst (λ (us : List ℕ). Opens us) (sym o.spelled) o.opens)) (o.cut rest e);
        some = omega (arith, h);
        edge = min (right_of op) o.edge;
        above = let a = f.above in let r = f.right in let l = least_low (joint_part j) in let k = o.tight in omega (arith, a, r, l, k);
        goes_on = λ room q far ts x w l b c g.
            let fl = f.level in
            let fr = f.right in
            let value : joined names (gives_of op) x (phrase names find v o.kind) ≡ chained names (joint_row j) x v = ap (λ (k : Gives). joined names k x (phrase names find v o.kind)) f.gives in
            let takes : accepts_by (gives_of op) x.kind ≡ true = ap (λ (k : Gives). accepts_by k x.kind) f.gives ∙ c in
            let right = o.reads room (right_of op) (omega (arith, w, h)) (omega (arith, fr)) in
            let whole = binary p.t g p.is_join (omega (arith, l, fl)) (omega (arith, b, fl)) takes right in
            subst₂ (λ (us : List Terminal) (y : Phrase). Reading names find (suc room) q (ts ++ us) y (min (right_of op) o.edge))
            (ap (λ (us : List Terminal). us ++ terms names find o.pieces) (sym p.term) ∙ sym (terms_then names find (separator j) o.pieces)) value whole;
      }

  -- a term of a sum behind its minus sign
  pub subtract : (v : Tree) (t : List ℕ) (d depth : ℕ) → d < depth → Minus names find v t d → Follows 17 Builtin.Plus v (codes " - " ++ t) depth
  unfolding sign_next word_next on_line level_of right_of gives_of infix_row
  subtract v t d depth h m =
      let o = m.phrased in
      record {
        pieces = spaced (45 ∷ []) ++ o.pieces;
        spelled = ap (λ (us : List ℕ). 32 ∷ 45 ∷ 32 ∷ us) o.spelled;
        ends = λ rest. refl;
        cut = λ rest e. (refl, o.cut rest e);
        some = omega (arith, h);
        edge = min (right_of Operator.Minus) o.edge;
        above = let a = o.above in omega (arith, a);
        goes_on = λ room q far ts x w l b c g.
            let right = o.reads room 18 (omega (arith, w, h)) (le_refl 18) in
            let whole = binary (by_sign (45 ∷ [])) g (joins (by_sign (45 ∷ [])) refl) l b refl right in
            subst (λ (n : Tree). Reading names find (suc room) q (ts ++ terms names find (spaced (45 ∷ []) ++ o.pieces)) (chained names Builtin.Plus x n) (min (right_of Operator.Minus) o.edge)) m.negates whole;
      }

  -- ---- all operands

  pub data AllFollow (level : ℕ) (row : Builtin) (depth : ℕ) : List ℕ → List Tree → Type 0 where
    finish : AllFollow level row depth [] []
    also : {t ts : List ℕ} {v : Tree} {vs : List Tree} → Follows level row v t depth → AllFollow level row depth ts vs → AllFollow level row depth (t ++ ts) (v ∷ vs)

  add : {x : Phrase} {level depth : ℕ} {row : Builtin} {v : Tree} {t u : List ℕ} → Phrased names find x level t depth → chains_with row x.kind ≡ true → Follows level row v u depth
      → Phrased names find (chained names row x v) level (t ++ u) depth
  add {x} {level} {depth} {row} {v} {t} {u} a k f = record {
    pieces = a.pieces ++ f.pieces;
    spelled = bytes_then a.pieces f.pieces ∙ ap₂ (λ (us vs : List ℕ). us ++ vs) a.spelled f.spelled;
    cut = λ rest e. cut_then a.pieces f.pieces rest (a.cut (bytes f.pieces ++ rest) (subst (λ (us : List ℕ). Ends (us ++ rest)) (sym f.spelled) (f.ends rest))) (f.cut rest e);
    edge = f.edge;
    above = f.above;
    reads = go;
  }
    where
      go : (room q : ℕ) → 2 * depth ≤ suc room → q ≤ level → Reading names find room q (terms names find (a.pieces ++ f.pieces)) (chained names row x v) f.edge
      go zero q w l = absurd (let some = f.some in omega (arith, w, some))
      go (suc room) q w l =
          subst (λ (us : List Terminal). Reading names find (suc room) q us (chained names row x v) f.edge) (sym (terms_then names find a.pieces f.pieces))
          (f.goes_on room q a.edge (terms names find a.pieces) x w l a.above k (a.reads (suc room) q w l))

  chained_open : (row : Builtin) (fs : List Tree) (v : Tree) → chained names row (phrase names find (make names row fs) (Open row)) v ≡ phrase names find (make names row (fs ++ (v ∷ []))) (Open row)
  chained_open row fs v =
      ap (λ b. phrase names find (cond b (appended names row (make names row fs) v) (make names row (make names row fs ∷ v ∷ []))) (Open row)) (same_itself row)
      ∙ ap (λ (es : List Tree). phrase names find (call (name names row) (es ++ (v ∷ []))) (Open row)) (elements-trees fs)

  chained_closed : (row : Builtin) (x : Phrase) (v : Tree) → is_open_in row x.kind ≡ false → chained names row x v ≡ phrase names find (make names row (x.expr ∷ v ∷ [])) (Open row)
  chained_closed row x v e = ap (λ b. phrase names find (cond b (appended names row x.expr v) (make names row (x.expr ∷ v ∷ []))) (Open row)) e

  chains_itself : (row : Builtin) → chains_with row (Open row) ≡ true
  chains_itself row = ap (λ b. b || not (of_one_kind row row)) (same_itself row)

  abbrev opened : Builtin → List Tree → Phrase
  opened row fs = phrase names find (make names row fs) (Open row)

  pub all_add : {level depth : ℕ} {row : Builtin} {t u : List ℕ} {vs : List Tree} (fs : List Tree) → Phrased names find (opened row fs) level t depth → AllFollow level row depth u vs
      → Phrased names find (opened row (fs ++ vs)) level (t ++ u) depth
  all_add {level} {depth} {row} {t} fs a finish =
      subst₂ (λ (es : List Tree) (us : List ℕ). Phrased names find (opened row es) level us depth) (sym (append-nil fs)) (sym (append-nil t)) a
  all_add {level} {depth} {row} {t} fs a (also {t = u} {ts = us} {v = v} {vs = vs} f rest) =
      subst₂ (λ (es : List Tree) (ws : List ℕ). Phrased names find (opened row es) level ws depth) (append_assoc fs (v ∷ []) vs) (append_assoc t u us)
      (all_add (fs ++ (v ∷ [])) (subst (λ (y : Phrase). Phrased names find y level (t ++ u) depth) (chained_open row fs v) (add a (chains_itself row) f)) rest)

  pub begin : {level depth : ℕ} {row : Builtin} {t u us : List ℕ} {v : Tree} {vs : List Tree} (x : Phrase) → Phrased names find x level t depth → is_open_in row x.kind ≡ false → chains_with row x.kind ≡ true
      → Follows level row v u depth → AllFollow level row depth us vs → Phrased names find (opened row (x.expr ∷ v ∷ vs)) level (t ++ (u ++ us)) depth
  begin {level} {depth} {row} {t} {u} {us} {v} {vs} x a n k f rest =
      subst (λ (ws : List ℕ). Phrased names find (opened row (x.expr ∷ v ∷ vs)) level ws depth) (append_assoc t u us)
      (all_add (x.expr ∷ v ∷ []) (subst (λ (y : Phrase). Phrased names find y level (t ++ u) depth) (chained_closed row x v n) (add a k f)) rest)
