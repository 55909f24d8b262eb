-- What input form shows is read again.
use Rattle.std.proofs.Common.{subst, ℕ, suc, ◌^◌, ◌<◌, List, arith, ltb-true, pos, negsuc}
use Rattle.expr_tree.specs.declared.sym.Sym.{Sym}
use Rattle.expr_tree.specs.Tree.{Tree, Trees, integer, string, symbol, normal, nil, cons, elements, depth, depths}
use Rattle.semantics.specs.Names.{Names}
use Rattle.script_text.specs.Spelling.{Spelling, symbol_text}
use Rattle.script_text.proofs.Again.{IsFound, AreFound}
use Rattle.script_text.specs.Spelling.{by_texts, place_in}
use Rattle.semantics.specs.Texts.{names_of}
use Rattle.syntax.specs.Reads.{Reads}
use Rattle.syntax.proofs.Read.{one_reading}
use Rattle.laws_readback.specs.Laws.{IsShown, shown_by, InputIsReadAgain, InputTellsApart}
use Rattle.laws_readback.proofs.Named.{placed, all_found, leaf_is}
use Rattle.laws_readback.proofs.Fitted.{form_good}
use Rattle.laws_readback.proofs.Whole.{reads_as}
use Rattle.syntax.specs.Shapes as s
use Rattle.syntax.specs.Input.{Shown, input, shown, all_shown}
use Rattle.laws_readback.specs.Showable.{IsShowable, AreShowable}
use Rattle.laws_readback.proofs.Shaped.{Placed}
use Rattle.script_text.specs.Laws.{AreDistinct}
use Rattle.laws_readback.proofs.Phrases.{Operand, Good, operand}
use Rattle.laws_readback.proofs.Atoms.{number_good, negative_good, name_good, string_good}
use Rattle.laws_readback.proofs.Joined.{AllGood, no_more, one_more}

module _ (names : Names) (agree : Placed names) (find : List ℕ → ℕ) (spelling : Spelling) where
  abbrev shape : Sym → s.Shape
  shape = s.shape_in names

  abbrev show : Tree → Shown
  show e = shown spelling shape e

  abbrev show_all : Trees → List Shown
  show_all es = all_shown spelling shape es

  abbrev GoodOf : Tree → Type 0
  GoodOf e = Good names find e (show e).level (show e).text (depth e)

  mutual
    good : (e : Tree) → IsShowable spelling e → IsFound find spelling e → GoodOf e
    good (integer (pos n)) w f = number_good names find n 1 (ltb-true n (2 ^ 127) w) (omega arith)
    good (integer (negsuc n)) w f = negative_good names find n 1 (ltb-true (suc n) (2 ^ 127) w) (omega arith)
    good (string t) w f = string_good names find t 1 (omega arith)
    good (symbol x) w f = name_good names find (symbol_text spelling x) x 1 w.is_name (leaf_is names find spelling x w f) (omega arith)
    good (normal h es) w f =
        form_good names agree find spelling h es (depth (normal h es))
        (record { head = good h w.0 f.0; below = omega arith; items = all_good es w.1 f.1 (depth (normal h es)) (omega arith); showable = w.1; found = f.1 })

    all_good : (es : Trees) → AreShowable spelling es → AreFound find spelling es → (d : ℕ) → depths es < d → AllGood names find d (show_all es) (elements es)
    all_good nil w f d h = no_more
    all_good (cons e es) w f d h = one_more (depth e) (good e w.0 f.0) (omega (arith, h)) (all_good es w.1 f.1 d (omega (arith, h)))

  -- the text that is shown
  pub shown_operand : (e : Tree) → IsShowable spelling e → IsFound find spelling e → Operand names find e 2 (input spelling shape e) (depth e)
  shown_operand e w f = operand names find e 2 (show e) (depth e) (omega arith) (good e w f)

module _ (texts : List (List ℕ)) (distinct : AreDistinct texts) where
  pub operand_by : (e : Tree) → IsShown texts e → Operand (names_of texts) (place_in texts) e 2 (shown_by texts e) (depth e)
  operand_by e w = shown_operand (names_of texts) (placed texts distinct) (place_in texts) (by_texts texts) e w.showable (all_found texts distinct e w.kept)

pub input_is_read_again : InputIsReadAgain
input_is_read_again texts distinct e w = reads_as (names_of texts) (place_in texts) (operand_by texts distinct e w) w.shallow

pub input_tells_apart : InputTellsApart
input_tells_apart texts distinct d e v w q =
    one_reading (names_of texts) (place_in texts) (shown_by texts e) d e
    (subst (λ (t : List ℕ). Reads (names_of texts) (place_in texts) t d) q (input_is_read_again texts distinct d v)) (input_is_read_again texts distinct e w)
