-- A full form has a byte for each atom, and one for each level.
use Rattle.std.proofs.Common.{◌≡◌, sym, ap, ◌∙◌, ℕ, ◌+◌, ◌≤◌, List, [], ◌∷◌, ◌++◌, length, Some, None, true, false, true≢false, arith}
use Rattle.std.proofs.lemmas.List.{length-append}
use Rattle.expr_tree.specs.Tree.{Tree, Trees, integer, string, symbol, normal, nil, cons, size, sizes, depth, depths}
use Rattle.script_text.specs.Bytes.{is_name}
use Rattle.script_text.specs.Spelling.{Spelling, symbol_text}
use Rattle.script_text.specs.Full.{full, full_items, full_others}
use Rattle.script_text.specs.FullForm.{IsWritten, AreWritten}
use Rattle.script_text.specs.Laws.{FullFormIsLong}
use Rattle.script_text.specs.Reader.{Starts, ends}
use Rattle.script_text.proofs.Again.{Reaches, state, int_reaches}

reached_text : (find : List ℕ → ℕ) (t : List ℕ) (e : Tree) → Reaches find [] false t e → 1 ≤ length t
reached_text find [] e r = absurd (nothing r)
  where
    nothing : Reaches find [] false [] e → ⊥
    nothing r =
        let runs : Some (state [] (Starts false)) ≡ Some (state [] r.mode) = r.runs in
        let states : state [] (Starts false) ≡ state [] r.mode = cc in
        let none : None ≡ Some e = ap (λ s. ends find s.mode) states ∙ r.whole in
        absurd (cc)
reached_text find (c ∷ cs) e r = omega arith

name_text : (t : List ℕ) → is_name t ≡ true → 1 ≤ length t
name_text [] p = absurd (true≢false (sym p))
name_text (c ∷ cs) p = omega arith

mutual
  pub long : (spelling : Spelling) (e : Tree) → IsWritten spelling e → (size e ≤ length (full spelling e)) × (depth e ≤ length (full spelling e))
  long spelling (integer n) w =
      let h : 1 ≤ length (full spelling (integer n)) = reached_text (λ _. 0) (full spelling (integer n)) (integer n) (int_reaches (λ _. 0) [] false n w) in (h, h)
  long spelling (string t) w = (omega arith, omega arith)
  long spelling (symbol s) w = let h : 1 ≤ length (symbol_text spelling s) = name_text (symbol_text spelling s) w.is_name in (h, h)
  long spelling (normal h es) w =
      let head = long spelling h w.0 in
      let items = items_long spelling es w.1 in
      let whole : length (full spelling h ++ (91 ∷ full_items spelling es ++ (93 ∷ []))) ≡ length (full spelling h) + length (91 ∷ full_items spelling es ++ (93 ∷ [])) = length-append (full spelling h) (91 ∷ full_items spelling es ++ (93 ∷ [])) in
      let rest : length (full_items spelling es ++ (93 ∷ [])) ≡ length (full_items spelling es) + 1 = length-append (full_items spelling es) (93 ∷ []) in
      (omega (arith, head.0, items.0, whole, rest), omega (arith, head.1, items.1, whole, rest))

  items_long : (spelling : Spelling) (es : Trees) → AreWritten spelling es → (sizes es ≤ length (full_items spelling es)) × (depths es ≤ length (full_items spelling es))
  items_long spelling nil w = (omega arith, omega arith)
  items_long spelling (cons e es) w =
      let one = long spelling e w.0 in
      let others = others_long spelling es w.1 in
      let whole : length (full spelling e ++ full_others spelling es) ≡ length (full spelling e) + length (full_others spelling es) = length-append (full spelling e) (full_others spelling es) in
      (omega (arith, one.0, others.0, whole), omega (arith, one.1, others.1, whole))

  others_long : (spelling : Spelling) (es : Trees) → AreWritten spelling es → (sizes es ≤ length (full_others spelling es)) × (depths es ≤ length (full_others spelling es))
  others_long spelling nil w = (omega arith, omega arith)
  others_long spelling (cons e es) w =
      let one = long spelling e w.0 in
      let others = others_long spelling es w.1 in
      let whole : length (full spelling e ++ full_others spelling es) ≡ length (full spelling e) + length (full_others spelling es) = length-append (full spelling e) (full_others spelling es) in
      (omega (arith, one.0, others.0, whole), omega (arith, one.1, others.1, whole))

pub full_form_is_long : FullFormIsLong
full_form_is_long = long
