-- A full form is read again as a cell, where no head is a negative integer.
use Rattle.std.proofs.Common.{◌≡◌, refl, ap, ap₂, subst, subst₂, ◌∙◌, ℕ, suc, ◌^◌, ◌<◌, List, [], ◌∷◌, ◌++◌, append_assoc, arith, ltb-true, pos, negsuc}
use Rattle.std.specs.Prelude.{codes}
use Rattle.expr_tree.specs.Tree.{Tree, Trees, integer, string, symbol, normal, nil, cons, elements, depth, depths}
use Rattle.expr_tree.proofs.Trees.{trees-elements}
use Rattle.semantics.specs.Names.{Names}
use Rattle.semantics.specs.Texts.{names_of}
use Rattle.script_text.specs.Bytes.{each_after}
use Rattle.script_text.specs.Full.{full, full_items, full_others}
use Rattle.script_text.specs.Spelling.{Spelling, by_texts, place_in, symbol_text}
use Rattle.script_text.proofs.Again.{IsFound, AreFound}
use Rattle.syntax.specs.Input.{Shown, at_level, all_at, together}
use Rattle.laws_readback.specs.Showable.{IsShowable, AreShowable, IsPlainHead, HavePlainHeads, AllHavePlainHeads}
use Rattle.laws_readback.specs.Laws.{FullFormIsReadAgain}
use Rattle.laws_readback.proofs.Phrases.{Good, Operand, operand}
use Rattle.laws_readback.proofs.Atoms.{number_good, negative_good, name_good, string_good}
use Rattle.laws_readback.proofs.Joined.{AllGood, no_more, one_more}
use Rattle.laws_readback.proofs.Enclosed.{within, brackets_good}
use Rattle.laws_readback.proofs.Named.{all_found, leaf_is}
use Rattle.laws_readback.proofs.Whole.{reads_as}

module _ (names : Names) (find : List ℕ → ℕ) (spelling : Spelling) where
  abbrev full_level : Tree → ℕ
  full_level (integer (pos n)) = 27
  full_level (integer (negsuc n)) = 20
  full_level (string t) = 27
  full_level (symbol x) = 27
  full_level (normal h es) = 25

  abbrev full_shown : Tree → Shown
  full_shown e = record { level = full_level e; text = full spelling e }

  abbrev all_full : Trees → List Shown
  all_full nil = []
  all_full (cons e es) = full_shown e ∷ all_full es

  head_text : (h : Tree) → IsPlainHead h → at_level 25 (full_shown h) ≡ full spelling h
  head_text (integer (pos n)) p = refl
  head_text (integer (negsuc n)) p = absurd p
  head_text (string t) p = refl
  head_text (symbol x) p = refl
  head_text (normal h es) p = refl

  element_text : (e : Tree) → at_level 2 (full_shown e) ≡ full spelling e
  element_text (integer (pos n)) = refl
  element_text (integer (negsuc n)) = refl
  element_text (string t) = refl
  element_text (symbol x) = refl
  element_text (normal h es) = refl

  others_text : (es : Trees) → each_after (codes ", ") (all_at 2 (all_full es)) ≡ full_others spelling es
  others_text nil = refl
  others_text (cons e es) = ap₂ (λ (t u : List ℕ). 44 ∷ 32 ∷ (t ++ u)) (element_text e) (others_text es)

  items_text : (es : Trees) → together (codes ", ") 2 (all_full es) ≡ full_items spelling es
  items_text nil = refl
  items_text (cons e es) = ap₂ (λ (t u : List ℕ). t ++ u) (element_text e) (others_text es)

  whole_text : (h : Tree) (es : Trees) → IsPlainHead h → at_level 25 (full_shown h) ++ codes "[" ++ together (codes ", ") 2 (all_full es) ++ codes "]" ≡ full spelling (normal h es)
  whole_text h es p =
      let items = full_items spelling es in
      ap₂ (λ (t u : List ℕ). t ++ codes "[" ++ u ++ codes "]") (head_text h p) (items_text es)
      ∙ ap (λ (us : List ℕ). us ++ (93 ∷ [])) (append_assoc (full spelling h) (91 ∷ []) items)
      ∙ append_assoc (full spelling h) (91 ∷ items) (93 ∷ [])

  abbrev GoodFull : Tree → Type 0
  GoodFull e = Good names find e (full_level e) (full spelling e) (depth e)

  brackets_full : (h : Tree) (es : Trees) (d : ℕ) → IsPlainHead h → GoodFull h → depth h < d → AllGood names find d (all_full es) (elements es) → Good names find (normal h es) 25 (full spelling (normal h es)) d
  brackets_full h es d p g l items =
      subst₂ (λ (us : Trees) (t : List ℕ). Good names find (normal h us) 25 t d) (trees-elements es) (whole_text h es p)
      (brackets_good names find l (operand names find h 25 (full_shown h) (depth h) (omega arith) g) (within names find (omega (arith, l)) items))

  mutual
    good_full : (e : Tree) → IsShowable spelling e → IsFound find spelling e → HavePlainHeads e → GoodFull e
    good_full (integer (pos n)) w f p = number_good names find n 1 (ltb-true n (2 ^ 127) w) (omega arith)
    good_full (integer (negsuc n)) w f p = negative_good names find n 1 (ltb-true (suc n) (2 ^ 127) w) (omega arith)
    good_full (string t) w f p = string_good names find t 1 (omega arith)
    good_full (symbol x) w f p = name_good names find (symbol_text spelling x) x 1 w.is_name (leaf_is names find spelling x w f) (omega arith)
    good_full (normal h es) w f p = brackets_full h es (depth (normal h es)) p.0 (good_full h w.0 f.0 p.1) (omega arith) (all_good_full es w.1 f.1 p.2 (depth (normal h es)) (omega arith))

    all_good_full : (es : Trees) → AreShowable spelling es → AreFound find spelling es → AllHavePlainHeads es → (d : ℕ) → depths es < d → AllGood names find d (all_full es) (elements es)
    all_good_full nil w f p d h = no_more
    all_good_full (cons e es) w f p d h = one_more (depth e) (good_full e w.0 f.0 p.0) (omega (arith, h)) (all_good_full es w.1 f.1 p.1 d (omega (arith, h)))

  pub full_operand : (e : Tree) → IsShowable spelling e → IsFound find spelling e → HavePlainHeads e → Operand names find e 2 (full spelling e) (depth e)
  full_operand e w f p = subst (λ (t : List ℕ). Operand names find e 2 t (depth e)) (element_text e) (operand names find e 2 (full_shown e) (depth e) (omega arith) (good_full e w f p))

pub full_form_is_read_again : FullFormIsReadAgain
full_form_is_read_again texts distinct e w p =
    reads_as (names_of texts) (place_in texts) (full_operand (names_of texts) (place_in texts) (by_texts texts) e w.showable (all_found texts distinct e w.kept) p) w.shallow
