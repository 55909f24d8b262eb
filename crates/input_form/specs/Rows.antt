-- The rows of the built-in table, by the texts of their names.
--     named_shape          the shape of the row with this name
--     shapes               the shape of each symbol, by the texts of the bases
--     named_asked          what the row with this name asks for
--     asked                what a symbol asks for, by the texts of the bases
--     value_as             what is shown of a call whose head asks for this
use Rattle.std.specs.Prelude.{ℕ, List, Option, Some}
use Rattle.expr_tree.specs.declared.sym.Sym.{Sym}
use Rattle.expr_tree.specs.Tree.{Tree, Trees, nil, cons}
use Rattle.script_text.specs.Full.{full}
use Rattle.script_text.specs.Spelling.{by_texts}
use Rattle.semantics.specs.declared.builtin.Builtin.{Builtin}
use Rattle.semantics.specs.Builtin.{rows}
use Rattle.semantics.specs.Names.{role_of}
use Rattle.semantics.specs.Texts.{row_with, names_of}
use Rattle.syntax.specs.Input.{input}
use Rattle.syntax.specs.Shapes.{Shape, shape_by, shape_in}
use Rattle.input_form.specs.declared.value.Asked.{Asked}
use Rattle.input_form.specs.declared.value.Asked.TheVariants as ask

unfoldable pub named_shape : List ℕ → Shape
named_shape t = shape_by (row_with rows t)

unfoldable pub shapes : List (List ℕ) → Sym → Shape
shapes texts = shape_in (names_of texts)

-- FullForm asks for the full form of its element, and InputForm for the input form
abbrev pub asked_by : Option Builtin → Asked
asked_by (Some Builtin.FullForm) = ask.FullForm
asked_by (Some Builtin.InputForm) = ask.InputForm
asked_by _ = ask.Neither

unfoldable pub named_asked : List ℕ → Asked
named_asked t = asked_by (row_with rows t)

unfoldable pub asked : List (List ℕ) → Sym → Asked
asked texts s = asked_by (role_of (names_of texts) s)

abbrev pub value_as : List (List ℕ) → Asked → Tree → Trees → List ℕ
value_as texts ask.FullForm v (cons e nil) = full (by_texts texts) e
value_as texts ask.InputForm v (cons e nil) = input (by_texts texts) (shape_in (names_of texts)) e
value_as texts _ v es = input (by_texts texts) (shape_in (names_of texts)) v
