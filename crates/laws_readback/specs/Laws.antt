-- What input form shows is read again.
--     shown_by             the input form of an expression, by the texts of the bases
--     IsShown              the expression can be shown and read: its symbols by the texts, its integers, its depth
--     InputIsReadAgain     its input form is read as the expression
--     InputTellsApart      two of them with one input form are one
--     InputIsOneCell       as a script, its input form is one cell
--     FullFormIsReadAgain  its full form is read as the expression too, where no head is a negative integer
-- The names of the built-in table are found in the texts as in a script; a row whose name is not there is no row.
use Rattle.std.specs.Prelude.{◌≡◌, ℕ, ◌≤◌, List, [], ◌∷◌, length}
use Rattle.expr_tree.specs.Tree.{Tree, depth}
use Rattle.semantics.specs.Texts.{names_of}
use Rattle.script_text.specs.Full.{full}
use Rattle.script_text.specs.Cells.{cells}
use Rattle.script_text.specs.Spelling.{by_texts, place_in}
use Rattle.script_text.specs.Laws.{AreDistinct, IsKept}
use Rattle.syntax.specs.Shapes.{shape_in}
use Rattle.syntax.specs.Input.{input}
use Rattle.syntax.specs.Reads.{Reads}
use Rattle.laws_readback.specs.Showable.{IsShowable, HavePlainHeads}

abbrev pub shown_by : List (List ℕ) → Tree → List ℕ
shown_by texts e = input (by_texts texts) (shape_in (names_of texts)) e

-- Nothing is asked of the nesting of the text: within this depth it does not pass its limit.
pub record IsShown (texts : List (List ℕ)) (e : Tree) : Type 0 where
  pub kept : IsKept (length texts) e
  pub showable : IsShowable (by_texts texts) e
  pub shallow : depth e ≤ 512

abbrev pub InputIsReadAgain : Type 0
InputIsReadAgain =
    (texts : List (List ℕ)) → AreDistinct texts → (e : Tree) → IsShown texts e → Reads (names_of texts) (place_in texts) (shown_by texts e) e

abbrev pub InputTellsApart : Type 0
InputTellsApart =
    (texts : List (List ℕ)) → AreDistinct texts → (d e : Tree) → IsShown texts d → IsShown texts e → shown_by texts d ≡ shown_by texts e → d ≡ e

abbrev pub InputIsOneCell : Type 0
InputIsOneCell = (texts : List (List ℕ)) → AreDistinct texts → (e : Tree) → IsShown texts e → cells (shown_by texts e) ≡ shown_by texts e ∷ []

abbrev pub FullFormIsReadAgain : Type 0
FullFormIsReadAgain =
    (texts : List (List ℕ)) → AreDistinct texts → (e : Tree) → IsShown texts e → HavePlainHeads e → Reads (names_of texts) (place_in texts) (full (by_texts texts) e) e
