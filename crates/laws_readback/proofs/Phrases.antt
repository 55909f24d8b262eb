-- What is known of the text of an expression: its pieces, and that these are a phrase with the expression's value.
--     Phrased              a text that is a phrase
--     Good, Operand        the text of an expression at its own level, and at the level that is asked of it
--     Sign, Side           what such a text is behind its minus sign, if it has one
use Rattle.std.proofs.Common.{◌≡◌, refl, sym, ap, subst, ◌∙◌, ℕ, zero, suc, ◌*◌, ◌<◌, ◌≤◌, ◌⊎◌, inl, inr, Bool, true, false, cond, List, [], ◌∷◌, ◌++◌, append_assoc, true≢false, arith, le_trans, le_refl, ltb-false, eqb-true, eq-eqb, ◌^◌, negsuc}
use Rattle.std.proofs.lemmas.List.{map-append}
use Rattle.std.specs.Prelude.{◌==◌, ◌&&◌, ◌||◌, ltb, not}
use Rattle.std.specs.Fmt.{decimal}
use Rattle.expr_tree.specs.Tree.{Tree, integer}
use Rattle.semantics.specs.Names.{Names}
use Rattle.syntax.specs.Tokens.{Kind, Takes, scan}
use Rattle.syntax.specs.Terminals.{Phrase, PhraseKind, Closed, NameToken, NumberToken, Open, Terminal, terminal, terminals, sign_start, sign_next, word_start, word_next, on_line}
use Rattle.syntax.specs.Phrases.{written, negated}
use Rattle.syntax.specs.Grammar.{PhraseOf, group, plain}
use Rattle.syntax.specs.Input.{Shown, at_level, is_integer}
use Rattle.laws_readback.proofs.Pieces.{Piece, word, bytes, words, AreCut, bytes_then, words_then, cut_then}
use Rattle.laws_readback.proofs.Scans.{both_true, not_true, Ends, scan_is, scan_by}
use Rattle.laws_readback.proofs.Joints.{Joint, joint_row, joint_level}

-- ---- first bytes

-- a byte that makes no longer sign of the one in front of it
abbrev pub opens_well : ℕ → Bool
opens_well c = not (c == 42) && (not (c == 58) && (not (c == 61) && not (c == 62)))

abbrev pub Opens : List ℕ → Type 0
Opens [] = ⊥
Opens (c ∷ cs) = opens_well c ≡ true

abbrev pub NoDash : List ℕ → Type 0
NoDash [] = ⊥
NoDash (c ∷ cs) = (c == 45) ≡ false

pub record Opener (c : ℕ) : Type 0 where
  pub no_star : (c == 42) ≡ false
  pub no_colon : (c == 58) ≡ false
  pub no_equal : (c == 61) ≡ false
  pub no_greater : (c == 62) ≡ false

pub opener : (c : ℕ) → opens_well c ≡ true → Opener c
opener c e =
    let p = both_true (not (c == 42)) _ e in
    let q = both_true (not (c == 58)) _ p.1 in
    let r = both_true (not (c == 61)) _ q.1 in
    record { no_star = not_true (c == 42) p.0; no_colon = not_true (c == 58) q.0; no_equal = not_true (c == 61) r.0; no_greater = not_true (c == 62) r.1 }

pub opens_then : (t u : List ℕ) → Opens t → Opens (t ++ u)
opens_then (c ∷ t) u o = o
opens_then [] u o = absurd o

pub no_dash_then : (t u : List ℕ) → NoDash t → NoDash (t ++ u)
no_dash_then (c ∷ t) u o = o
no_dash_then [] u o = absurd o

-- ---- edges

-- what the edge of a phrase of this level is at least
abbrev pub least : ℕ → ℕ
least n = cond ((n == 7) || ((n == 9) || ((n == 25) || (n == 26)))) (suc n) n

pub least_low : (n : ℕ) → n ≤ least n
least_low n = go ((n == 7) || ((n == 9) || ((n == 25) || (n == 26))))
  where
    go : (b : Bool) → n ≤ cond b (suc n) n
    go true = omega arith
    go false = omega arith

pub least_high : (n : ℕ) → least n ≤ suc n
least_high n = go ((n == 7) || ((n == 9) || ((n == 25) || (n == 26))))
  where
    go : (b : Bool) → cond b (suc n) n ≤ suc n
    go true = omega arith
    go false = omega arith

pub least_grows : (m n : ℕ) → m ≤ n → least m ≤ least n
least_grows m n h = go (m == n) refl
  where
    go : (b : Bool) → (m == n) ≡ b → least m ≤ least n
    go true e = let q : m ≡ n = eqb-true m n e in subst (λ (k : ℕ). least m ≤ least k) q (le_refl (least m))
    go false e =
        let other : m ≡ n → ⊥ = λ q. true≢false (sym (eq-eqb m n q) ∙ e) in
        let below : suc m ≤ n = omega (arith, h, other) in
        let a = least_high m in
        let b = least_low n in
        omega (arith, a, b, below)

-- ---- kinds

-- what a later operator may see of the text of an expression at a level
pub data Fits (e : Tree) (level : ℕ) : PhraseKind → Type 0 where
  closed : Fits e level Closed
  a_name : Fits e level NameToken
  a_number : is_integer e ≡ true → Fits e level NumberToken
  open_in : (j : Joint) → level ≤ joint_level j → Fits e level (Open (joint_row j))

pub looser : {e : Tree} {level : ℕ} {k : PhraseKind} (p : ℕ) → p ≤ level → Fits e level k → Fits e p k
looser p h closed = closed
looser p h a_name = a_name
looser p h (a_number i) = a_number i
looser p h (open_in j l) = open_in j (le_trans h l)

-- a negative integer, where the text behind the sign is its digits
pub record Negative (e : Tree) (level : ℕ) (rest : List ℕ) : Type 0 where
  pub n : ℕ
  pub is : e ≡ integer (negsuc n)
  pub digits : rest ≡ decimal (suc n)
  pub fits : suc n < 2 ^ 127
  pub level_low : level ≤ 20

module _ (names : Names) (find : List ℕ → ℕ) where
  abbrev pub terms : List Piece → List Terminal
  terms ps = terminals names find (words ps)

  abbrev pub Reading : ℕ → ℕ → List Terminal → Phrase → ℕ → Type 0
  Reading room level ts x edge = PhraseOf Phrase Tree (List Tree) (written names) room level ts x edge

  abbrev pub as_term : Kind → List ℕ → Terminal
  as_term k t = terminal names find (record { kind = k; text = t; after_line = false })

  pub terms_then : (ps qs : List Piece) → terms (ps ++ qs) ≡ terms ps ++ terms qs
  terms_then ps qs = ap (terminals names find) (words_then ps qs) ∙ map-append (terminal names find) (words ps) (words qs)

  abbrev pub phrase : Tree → PhraseKind → Phrase
  phrase e k = record { expr = e; kind = k }

  -- `depth` is that of an expression that the text is all of, or a part of
  pub record Phrased (x : Phrase) (level : ℕ) (text : List ℕ) (depth : ℕ) : Type 0 where
    pub pieces : List Piece
    pub spelled : bytes pieces ≡ text
    pub cut : (rest : List ℕ) → Ends rest → AreCut pieces rest
    pub edge : ℕ
    pub above : level < edge
    pub reads : (room q : ℕ) → 2 * depth ≤ suc room → q ≤ level → Reading room q (terms pieces) x edge

  -- behind its sign, the text is a phrase that is negated to the expression
  pub record Minus (e : Tree) (text : List ℕ) (depth : ℕ) : Type 0 where
    pub x : Phrase
    pub phrased : Phrased x 18 text depth
    pub negates : negated names x ≡ e

  pub data Sign (e : Tree) (level : ℕ) (text : List ℕ) (depth : ℕ) : Type 0 where
    unsigned : NoDash text → Sign e level text depth
    low : level < 18 → Sign e level text depth
    signed : (rest : List ℕ) → text ≡ 45 ∷ rest → Negative e level rest ⊎ (level ≤ 18) → Minus e rest depth → Sign e level text depth

  pub record Good (e : Tree) (level : ℕ) (text : List ℕ) (depth : ℕ) : Type 0 where
    pub pieces : List Piece
    pub spelled : bytes pieces ≡ text
    pub opens : Opens text
    pub cut : (rest : List ℕ) → Ends rest → AreCut pieces rest
    pub kind : PhraseKind
    pub fits : Fits e level kind
    pub edge : ℕ
    pub tight : least level ≤ edge
    pub low : 2 ≤ level
    pub some : 0 < depth
    pub reads : (room q : ℕ) → 2 * depth ≤ suc room → q ≤ level → Reading room q (terms pieces) (phrase e kind) edge
    pub sign : Sign e level text depth

  pub data Side (e : Tree) (level : ℕ) (text : List ℕ) (depth : ℕ) : Type 0 where
    plainly : NoDash text → Side e level text depth
    dashed : (rest : List ℕ) → text ≡ 45 ∷ rest → Negative e level rest ⊎ (level ≤ 18) → Minus e rest depth → Side e level text depth

  pub record Operand (e : Tree) (level : ℕ) (text : List ℕ) (depth : ℕ) : Type 0 where
    pub pieces : List Piece
    pub spelled : bytes pieces ≡ text
    pub opens : Opens text
    pub cut : (rest : List ℕ) → Ends rest → AreCut pieces rest
    pub kind : PhraseKind
    pub fits : Fits e level kind
    pub edge : ℕ
    pub tight : least level ≤ edge
    pub some : 0 < depth
    pub reads : (room q : ℕ) → 2 * depth ≤ room → q ≤ level → Reading room q (terms pieces) (phrase e kind) edge
    pub side : 18 ≤ level → Side e level text depth

  -- ---- parentheses

  open_cut : (t rest : List ℕ) → Opens t → scan 40 (t ++ rest) ≡ Takes Kind.Operator 1
  open_cut [] rest o = absurd o
  open_cut (c ∷ t) rest o =
      scan_is 40 ((c ∷ t) ++ rest)
      ∙ ap (λ b. scan_by 40 ((c ∷ t) ++ rest) false (elim b as (λ _. Bool) [ true ↦ true | false ↦ false ]) false false false false false) (opener c o).no_star

  close_cut : (rest : List ℕ) → scan 41 rest ≡ Takes Kind.Operator 1
  close_cut rest = refl

  abbrev in_parens : List Piece → List Piece
  in_parens ps = word Kind.Operator (40 ∷ []) ∷ (ps ++ (word Kind.Operator (41 ∷ []) ∷ []))

  parens_spelled : (ps : List Piece) (t : List ℕ) → bytes ps ≡ t → bytes (in_parens ps) ≡ 40 ∷ t ++ (41 ∷ [])
  parens_spelled ps t e = ap (λ (cs : List ℕ). 40 ∷ cs) (bytes_then ps (word Kind.Operator (41 ∷ []) ∷ []) ∙ ap (λ (cs : List ℕ). cs ++ (41 ∷ [])) e)

  parens_cut : (ps : List Piece) (t rest : List ℕ) → bytes ps ≡ t → Opens t → AreCut ps ((41 ∷ []) ++ rest) → AreCut (in_parens ps) rest
  parens_cut ps t rest e o c =
      let whole : (t ++ (41 ∷ [])) ++ rest ≡ bytes (ps ++ (word Kind.Operator (41 ∷ []) ∷ [])) ++ rest =
      ap (λ (cs : List ℕ). cs ++ rest) (ap (λ (cs : List ℕ). cs ++ (41 ∷ [])) (sym e) ∙ sym (bytes_then ps (word Kind.Operator (41 ∷ []) ∷ []))) in (
        ap (scan 40) (sym whole ∙ append_assoc t (41 ∷ []) rest) ∙ open_cut t ((41 ∷ []) ++ rest) o,
        cut_then ps (word Kind.Operator (41 ∷ []) ∷ []) rest c (close_cut rest, tt),
      )

  parens_read : (ps : List Piece) (e : Tree) (k : PhraseKind) (edge room q : ℕ) → Reading room 2 (terms ps) (phrase e k) edge → Reading (suc room) q (terms (in_parens ps)) (phrase e Closed) 100
  unfolding sign_start sign_next word_start word_next on_line
  parens_read ps e k edge room q r =
      subst (λ (us : List Terminal). Reading (suc room) q (as_term Kind.Operator (40 ∷ []) ∷ us) (phrase e Closed) 100) (sym (terms_then ps (word Kind.Operator (41 ∷ []) ∷ [])))
      (group (as_term Kind.Operator (40 ∷ [])) (as_term Kind.Operator (41 ∷ [])) refl (plain r) refl)

  side_of : (e : Tree) (p level : ℕ) (text : List ℕ) (depth : ℕ) → p ≤ level → 18 ≤ p → Sign e level text depth → Side e p text depth
  side_of e p level text depth h k (unsigned d) = plainly d
  side_of e p level text depth h k (low l) = absurd (omega (arith, h, k, l))
  side_of e p level text depth h k (signed rest s (inl i) m) = dashed rest s (inl (record { n = i.n; is = i.is; digits = i.digits; fits = i.fits; level_low = le_trans h i.level_low })) m
  side_of e p level text depth h k (signed rest s (inr i) m) = dashed rest s (inr (omega (arith, h, i))) m

  -- the text where an operand of level p is asked for
  pub operand : (e : Tree) (p : ℕ) (s : Shown) (depth : ℕ) → p ≤ 27 → Good e s.level s.text depth → Operand e p (at_level p s) depth
  operand e p s depth h g = go (ltb s.level p) refl
    where
      closed_reads : (room q : ℕ) → 2 * depth ≤ room → Reading room q (terms (in_parens g.pieces)) (phrase e Closed) 100
      closed_reads zero q w = absurd (let some = g.some in omega (arith, w, some))
      closed_reads (suc room) q w = parens_read g.pieces e g.kind g.edge room q (g.reads room 2 w g.low)

      go : (b : Bool) → ltb s.level p ≡ b → Operand e p (cond b (40 ∷ s.text ++ (41 ∷ [])) s.text) depth
      go true b = record {
        pieces = in_parens g.pieces;
        spelled = parens_spelled g.pieces s.text g.spelled;
        opens = refl;
        cut = λ rest r. parens_cut g.pieces s.text rest g.spelled g.opens (g.cut ((41 ∷ []) ++ rest) refl);
        kind = Closed;
        fits = closed;
        edge = 100;
        tight = let l = least_high p in omega (arith, h, l);
        some = g.some;
        reads = λ room q w l. closed_reads room q w;
        side = λ k. plainly refl;
      }
      go false b =
          let l : p ≤ s.level = ltb-false s.level p b in
          record {
            pieces = g.pieces;
            spelled = g.spelled;
            opens = g.opens;
            cut = g.cut;
            kind = g.kind;
            fits = looser p l g.fits;
            edge = g.edge;
            tight = le_trans (least_grows p s.level l) g.tight;
            some = g.some;
            reads = λ room q w k. g.reads room q (omega (arith, w)) (le_trans k l);
            side = λ k. side_of e p s.level s.text depth l k g.sign;
          }
