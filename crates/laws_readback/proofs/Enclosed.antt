-- Elements between brackets and braces.
use Rattle.std.proofs.Common.{◌≡◌, refl, sym, ap, ap₂, subst, subst₂, ◌∙◌, ℕ, zero, suc, ◌*◌, ◌<◌, ◌≤◌, inl, inr, List, [], ◌∷◌, ◌++◌, append_assoc, append-nil, arith, le_refl}
use Rattle.std.specs.Prelude.{codes}
use Rattle.expr_tree.specs.Tree.{Tree, call}
use Rattle.semantics.specs.declared.builtin.Builtin.{Builtin}
use Rattle.semantics.specs.Names.{Names, make}
use Rattle.script_text.specs.Bytes.{each_after}
use Rattle.syntax.specs.Tokens.{Kind}
use Rattle.syntax.specs.Terminals.{Phrase, Closed, Terminal, sign_start, sign_next, word_start, word_next, on_line}
use Rattle.syntax.specs.Phrases.{written}
use Rattle.syntax.specs.Grammar.{braces, call as calls, plain, RowOf, one, more, ElementsOf, none, row}
use Rattle.syntax.specs.Input.{Shown, at_level, all_at, together}
use Rattle.laws_readback.proofs.Pieces.{Piece, word, gap, bytes, AreCut, bytes_then, cut_then}
use Rattle.laws_readback.proofs.Scans.{Ends}
use Rattle.laws_readback.proofs.Phrases.{Opens, NoDash, opens_then, no_dash_then, closed, terms, Reading, as_term, terms_then, phrase, unsigned, Good, Side, plainly, dashed, Operand, operand}
use Rattle.laws_readback.proofs.Joined.{AllGood, no_more, one_more}

module _ (names : Names) (find : List ℕ → ℕ) where
  abbrev Row : ℕ → List Terminal → List Tree → Type 0
  Row room ts es = RowOf Phrase Tree (List Tree) (written names) room ts es

  abbrev Elements : ℕ → List Terminal → List Tree → Type 0
  Elements room ts es = ElementsOf Phrase Tree (List Tree) (written names) room ts es

  -- one or more elements
  record Listed (text : List ℕ) (es : List Tree) (depth : ℕ) : Type 0 where
    pieces : List Piece
    spelled : bytes pieces ≡ text
    cut : (rest : List ℕ) → Ends rest → AreCut pieces rest
    reads : (room : ℕ) → 2 * depth ≤ suc (suc room) → Row room (terms names find pieces) es

  -- any number of them
  pub record Within (text : List ℕ) (es : List Tree) (depth : ℕ) : Type 0 where
    pub pieces : List Piece
    pub spelled : bytes pieces ≡ text
    pub cut : (rest : List ℕ) → Ends rest → AreCut pieces rest
    pub some : 0 < depth
    pub reads : (room : ℕ) → 2 * depth ≤ suc room → Elements room (terms names find pieces) es

  first_listed : {e : Tree} {t : List ℕ} {d depth : ℕ} → d < depth → Operand names find e 2 t d → Listed t (e ∷ []) depth
  first_listed h o = record { pieces = o.pieces; spelled = o.spelled; cut = o.cut; reads = λ room w. one (plain (o.reads room 2 (omega (arith, w, h)) (le_refl 2))) }

  abbrev comma : List Piece
  comma = word Kind.Operator (44 ∷ []) ∷ gap ∷ []

  more_reads : (room : ℕ) (ts : List Terminal) (es : List Tree) (e : Tree) (ps : List Piece) (far : ℕ) (x : Phrase) → Row room ts es → x.expr ≡ e → Reading names find room 2 (terms names find ps) x far
      → Row room (ts ++ terms names find (comma ++ ps)) (es ++ (e ∷ []))
  unfolding sign_next word_next on_line
  more_reads room ts es e ps far x r q p =
      subst (λ (d : Tree). Row room (ts ++ terms names find (comma ++ ps)) (es ++ (d ∷ []))) q (more (as_term names find Kind.Operator (44 ∷ [])) r refl (plain p))

  more_listed : {es : List Tree} {e : Tree} {t u : List ℕ} {d depth : ℕ} → Listed t es depth → d < depth → Operand names find e 2 u d → Listed (t ++ (codes ", " ++ u)) (es ++ (e ∷ [])) depth
  more_listed {es} {e} {t} {u} {d} {depth} l h o = record {
    pieces = l.pieces ++ (comma ++ o.pieces);
    spelled = bytes_then l.pieces (comma ++ o.pieces) ∙ ap₂ (λ (us vs : List ℕ). us ++ (44 ∷ 32 ∷ vs)) l.spelled o.spelled;
    cut = λ rest r. cut_then l.pieces (comma ++ o.pieces) rest (l.cut (bytes (comma ++ o.pieces) ++ rest) refl) (refl, o.cut rest r);
    reads = λ room w.
        subst (λ (us : List Terminal). Row room us (es ++ (e ∷ []))) (sym (terms_then names find l.pieces (comma ++ o.pieces)))
        (more_reads room (terms names find l.pieces) es e o.pieces o.edge (phrase names find e o.kind) (l.reads room w) refl (o.reads room 2 (omega (arith, w, h)) (le_refl 2)));
  }

  all_listed : {depth : ℕ} {vs : List Tree} {ss : List Shown} → AllGood names find depth ss vs → (es : List Tree) (t : List ℕ) → Listed t es depth
      → Listed (t ++ each_after (codes ", ") (all_at 2 ss)) (es ++ vs) depth
  all_listed {depth} no_more es t l = subst₂ (λ (us : List ℕ) (ds : List Tree). Listed us ds depth) (sym (append-nil t)) (sym (append-nil es)) l
  all_listed {depth} (one_more {s = s} {ss = ss} {e = e} {es = vs} d g h rest) es t l =
      subst₂ (λ (us : List ℕ) (ds : List Tree). Listed us ds depth) (append_assoc t (codes ", " ++ at_level 2 s) (each_after (codes ", ") (all_at 2 ss))) (append_assoc es (e ∷ []) vs)
      (all_listed rest (es ++ (e ∷ [])) (t ++ (codes ", " ++ at_level 2 s)) (more_listed l h (operand names find e 2 s d (omega arith) g)))

  listed_within : {t : List ℕ} {es : List Tree} {depth : ℕ} → 0 < depth → Listed t es depth → Within t es depth
  listed_within {t} {es} {depth} h l = record { pieces = l.pieces; spelled = l.spelled; cut = l.cut; some = h; reads = go }
    where
      go : (room : ℕ) → 2 * depth ≤ suc room → Elements room (terms names find l.pieces) es
      go zero w = absurd (omega (arith, w, h))
      go (suc room) w = row (l.reads room w)

  pub within : {ss : List Shown} {es : List Tree} {depth : ℕ} → 0 < depth → AllGood names find depth ss es → Within (together (codes ", ") 2 ss) es depth
  within h no_more = record { pieces = []; spelled = refl; cut = λ rest r. tt; some = h; reads = λ room w. none }
  within h (one_more {s = s} {e = e} d g l rest) = listed_within h (all_listed rest (e ∷ []) (at_level 2 s) (first_listed l (operand names find e 2 s d (omega arith) g)))

  -- ---- {..}

  abbrev closing : ℕ → List Piece
  closing c = word Kind.Operator (c ∷ []) ∷ []

  pub braces_good : {t : List ℕ} {es : List Tree} {depth : ℕ} → Within t es depth → Good names find (make names Builtin.List es) 27 (codes "{" ++ t ++ codes "}") depth
  unfolding sign_start sign_next word_start word_next on_line
  braces_good {t} {es} {depth} w = record {
    pieces = word Kind.Operator (123 ∷ []) ∷ (w.pieces ++ closing 125);
    spelled = ap (λ (us : List ℕ). 123 ∷ us) (bytes_then w.pieces (closing 125) ∙ ap (λ (us : List ℕ). us ++ (125 ∷ [])) w.spelled);
    opens = refl;
    cut = λ rest r. (refl, cut_then w.pieces (closing 125) rest (w.cut ((125 ∷ []) ++ rest) refl) (refl, tt));
    kind = Closed;
    fits = closed;
    edge = 100;
    tight = omega arith;
    low = omega arith;
    some = w.some;
    reads = λ room q h l.
        subst (λ (us : List Terminal). Reading names find room q (as_term names find Kind.Operator (123 ∷ []) ∷ us) (phrase names find (make names Builtin.List es) Closed) 100) (sym (terms_then names find w.pieces (closing 125)))
        (braces (as_term names find Kind.Operator (123 ∷ [])) (as_term names find Kind.Operator (125 ∷ [])) refl (w.reads room h) refl);
    sign = unsigned refl;
  }

  -- ---- h[..]

  pub no_dash_side : {e : Tree} {p : ℕ} {t : List ℕ} {d : ℕ} → 20 < p → Side names find e p t d → NoDash t
  no_dash_side h (plainly n) = n
  no_dash_side h (dashed rest q (inl n) m) = absurd (let l = n.level_low in omega (arith, h, l))
  no_dash_side h (dashed rest q (inr l) m) = absurd (omega (arith, h, l))

  pub brackets_good : {h : Tree} {th t : List ℕ} {es : List Tree} {d depth : ℕ} → d < depth → Operand names find h 25 th d → Within t es depth
      → Good names find (call h es) 25 (th ++ codes "[" ++ t ++ codes "]") depth
  unfolding sign_start sign_next word_start word_next on_line
  brackets_good {h} {th} {t} {es} {d} {depth} below o w =
      let inner = word Kind.Operator (91 ∷ []) ∷ (w.pieces ++ closing 93) in
      let text : bytes inner ≡ 91 ∷ (t ++ (93 ∷ [])) = ap (λ (us : List ℕ). 91 ∷ us) (bytes_then w.pieces (closing 93) ∙ ap (λ (us : List ℕ). us ++ (93 ∷ [])) w.spelled) in
      let whole : th ++ (91 ∷ (t ++ (93 ∷ []))) ≡ th ++ codes "[" ++ t ++ codes "]" = sym (append_assoc th (91 ∷ t) (93 ∷ [])) ∙ ap (λ (us : List ℕ). us ++ (93 ∷ [])) (sym (append_assoc th (91 ∷ []) t)) in
      record {
        pieces = o.pieces ++ inner;
        spelled = bytes_then o.pieces inner ∙ ap₂ (λ (us vs : List ℕ). us ++ vs) o.spelled text ∙ whole;
        opens = subst (λ (us : List ℕ). Opens us) whole (opens_then th (91 ∷ (t ++ (93 ∷ []))) o.opens);
        cut = λ rest r. cut_then o.pieces inner rest (o.cut (bytes inner ++ rest) refl) (refl, cut_then w.pieces (closing 93) rest (w.cut ((93 ∷ []) ++ rest) refl) (refl, tt));
        kind = Closed;
        fits = closed;
        edge = 100;
        tight = omega arith;
        low = omega arith;
        some = w.some;
        reads = λ room q k l.
            let tight = o.tight in
            subst (λ (us : List Terminal). Reading names find room q us (phrase names find (call h es) Closed) 100)
            (ap (λ (us : List Terminal). terms names find o.pieces ++ (as_term names find Kind.Operator (91 ∷ []) ∷ us)) (sym (terms_then names find w.pieces (closing 93))) ∙ sym (terms_then names find o.pieces inner))
            (calls (as_term names find Kind.Operator (91 ∷ [])) (as_term names find Kind.Operator (93 ∷ [])) (o.reads room q (omega (arith, k, below)) l) refl l (omega (arith, tight)) (w.reads room k) refl);
        sign = unsigned (subst (λ (us : List ℕ). NoDash us) whole (no_dash_then th (91 ∷ (t ++ (93 ∷ []))) (no_dash_side (omega arith) (o.side (omega arith)))));
      }
