-- The names of the built-in table among distinct texts, and the symbols whose bases are among them.
use Rattle.std.proofs.Common.{◌≡◌, refl, sym, ap, ◌∙◌, ℕ, zero, suc, ◌<◌, Bool, true, false, List, [], ◌∷◌, length, get_or, Option, Some, arith}
use Rattle.std.specs.Ordering.{is_eq}
use Rattle.expr_tree.specs.Order.{text_cmp}
use Rattle.expr_tree.specs.Tree.{Tree, Trees, integer, string, symbol, normal, nil, cons}
use Rattle.semantics.specs.declared.builtin.Builtin.{Builtin}
use Rattle.semantics.specs.Builtin.{rows}
use Rattle.semantics.specs.Texts.{row_text, row_with, row_at, names_of}
use Rattle.script_text.specs.Spelling.{by_texts, place_in}
use Rattle.script_text.specs.Laws.{AreDistinct, IsKept, AreKept}
use Rattle.script_text.proofs.Again.{IsFound, AreFound}
use Rattle.script_text.proofs.Unique.{found_at, equal_texts, is_equal}
use Rattle.expr_tree.specs.declared.sym.Sym.{Sym}
use Rattle.semantics.specs.Names.{Names}
use Rattle.script_text.specs.Spelling.{Spelling, symbol_text}
use Rattle.script_text.specs.FullForm.{IsSpelled}
use Rattle.script_text.specs.Reader.{symbol_of}
use Rattle.syntax.specs.Leaves.{name_leaf}
use Rattle.laws_readback.proofs.Shaped.{Placed}

row_found : (rs : List Builtin) (t : List ℕ) (row : Builtin) → row_with rs t ≡ Some row → row_text row ≡ t
row_found [] t row e = cc
row_found (r ∷ rs) t row e = go (is_eq (text_cmp (row_text r) t)) refl (row_found rs t row) e
  where
    go : (b : Bool) → is_eq (text_cmp (row_text r) t) ≡ b → (row_with rs t ≡ Some row → row_text row ≡ t)
        → elim b as (λ _. Option Builtin) [ true ↦ Some r | false ↦ row_with rs t ] ≡ Some row → row_text row ≡ t
    go true q next e = let same : r ≡ row = cc in ap row_text (sym same) ∙ equal_texts (row_text r) t (is_equal (text_cmp (row_text r) t) q)
    go false q next e = next e

row_there : (texts : List (List ℕ)) (n : ℕ) (row : Builtin) → row_at texts n ≡ Some row → (n < length texts) × (row_text row ≡ get_or texts n [])
row_there [] n row e = cc
row_there (t ∷ ts) zero row e = (omega arith, row_found rows t row e)
row_there (t ∷ ts) (suc n) row e = let p = row_there ts n row e in let h = p.0 in (omega (arith, h), p.1)

pub placed : (texts : List (List ℕ)) → AreDistinct texts → Placed (names_of texts)
placed texts distinct base row e =
    let p = row_there texts base row e in
    ap (place_in texts) p.1 ∙ found_at texts distinct base p.0

mutual
  pub all_found : (texts : List (List ℕ)) → AreDistinct texts → (e : Tree) → IsKept (length texts) e → IsFound (place_in texts) (by_texts texts) e
  all_found texts distinct (integer n) k = tt
  all_found texts distinct (string t) k = tt
  all_found texts distinct (symbol x) k = found_at texts distinct x.base k
  all_found texts distinct (normal h es) k = (all_found texts distinct h k.0, each_found texts distinct es k.1)

  pub each_found : (texts : List (List ℕ)) → AreDistinct texts → (es : Trees) → AreKept (length texts) es → AreFound (place_in texts) (by_texts texts) es
  each_found texts distinct nil k = tt
  each_found texts distinct (cons e es) k = (all_found texts distinct e k.0, each_found texts distinct es k.1)

module _ (names : Names) (find : List ℕ → ℕ) (spelling : Spelling) where
  pub leaf_is : (x : Sym) → IsSpelled spelling x → find (spelling x.base) ≡ x.base → name_leaf names find (symbol_text spelling x) ≡ symbol x
  leaf_is x w f = ap (λ v. symbol (symbol_of find v)) w.read_back ∙ ap (λ (b : ℕ). symbol (record { base = b; number = x.number })) f
