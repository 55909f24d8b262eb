-- The lines of a script that is run by one kernel without an outside.
--     limits_of            the limits of each cell, by the greatest number of its steps
--     alone                the setting of each cell
--     Ran, ran             the value of a cell that is read, if it is built, and the definitions after it
--     PrintsCell           the line of one cell
--     Prints               the lines of some cells
--     texts_of             the names of a script and of the built-in table, by its cells
--     Transcript           the lines of some cells of a script, from the first on
use Rattle.std.specs.Prelude.{ℕ, ◌+◌, leb, true, false, List, [], ◌∷◌, ◌++◌, map, Option, Some, None, codes}
use Rattle.expr_tree.specs.Tree.{Tree, depth}
use Rattle.expr_tree.specs.declared.limits.Limits.{Limits}
use Rattle.script_text.specs.Spelling.{Spelling, bases, by_texts, place_in}
use Rattle.semantics.specs.Builtin.{rows}
use Rattle.semantics.specs.Names.{Names}
use Rattle.semantics.specs.Texts.{row_text, names_of}
use Rattle.semantics.specs.Definitions.{Definitions, empty}
use Rattle.semantics.specs.Program.{Cell}
use Rattle.semantics.specs.Play.{Setting}
use Rattle.semantics.specs.Ends.{aborted, shown_end}
use Rattle.semantics.specs.Eval.{Outcome, Ended, Evaluation, eval}
use Rattle.syntax.specs.Tokens.{lex, names_in}
use Rattle.syntax.specs.Reads.{Reads, IsOffset}
use Rattle.syntax.specs.Lines.{value_text, numbered_line, out_line, syntax_line}
use Rattle.sequential_transcript.specs.Unbuilt.{has_unbuilt}

abbrev pub limits_of : ℕ → Limits
limits_of steps = record { recursion = 256; iteration = 4096; steps = steps; size = 4000000; depth = 512 }

-- the text of a value, as its Out line shows it
unfoldable pub shown_in : Spelling → Names → Tree → List ℕ
shown_in spelling names = value_text spelling names

abbrev pub alone : Spelling → Names → ℕ → Setting
alone spelling names steps = record { names = names; shown = shown_in spelling names; mode = Cell; kernel = 0; limits = limits_of steps }

-- the value is None where the cell is unbuilt
pub record Ran : Type 0 where
  pub value : Option Tree
  pub definitions : Definitions

abbrev pub leaves : Option Tree → Definitions → Ran
leaves v d = record { value = v; definitions = d }

abbrev pub unbuilt_line : ℕ → List ℕ
unbuilt_line n = numbered_line (codes "Unbuilt") n []

-- what needs a call is not built
abbrev pub value_in : Names → Limits → Outcome → Option Tree
value_in names limits (Ended end) = Some (shown_end names limits end)
value_in names limits _ = None

-- the definitions that were made before a stop, a throw or a call stay
abbrev pub left_by : Names → Limits → Evaluation → Ran
left_by names limits v = leaves (value_in names limits v.outcome) v.definitions

module _ (spelling : Spelling) (names : Names) (find : List ℕ → ℕ) (steps : ℕ) where
  -- by what the cell is read as; no call is answered
  abbrev pub ran : Definitions → Tree → Ran
  ran d e =
      elim (leb (depth e) 512) [
        | false ↦ leaves (Some (aborted names)) d
        | true ↦ elim (has_unbuilt names e) [ true ↦ leaves None d | false ↦ left_by names (limits_of steps) (eval (alone spelling names steps) d e []) ]
      ]

  abbrev pub line_of : ℕ → Option Tree → List ℕ
  line_of n (Some v) = out_line spelling names n v
  line_of n None = unbuilt_line n

  -- what the n-th cell prints, and the definitions after it
  pub data PrintsCell (d : Definitions) (n : ℕ) (cell : List ℕ) : List ℕ → Definitions → Type 0 where
    read : (e : Tree) → Reads names find cell e → PrintsCell d n cell (line_of n (ran d e).value) (ran d e).definitions
    unread : (place : ℕ) → IsOffset names find cell place → PrintsCell d n cell (syntax_line n place) d

  -- the lines of some cells, one for each, the first of them being the n-th
  pub data Prints : Definitions → ℕ → List (List ℕ) → List (List ℕ) → Type 0 where
    none : {d : Definitions} {n : ℕ} → Prints d n [] []
    next : {d later : Definitions} {n : ℕ} {cell line : List ℕ} {cells lines : List (List ℕ)}
        → PrintsCell d n cell line later → Prints later (n + 1) cells lines → Prints d n (cell ∷ cells) (line ∷ lines)

-- the names that stand in the cells, as often as they stand there
abbrev pub written_names : List (List ℕ) → List (List ℕ)
written_names [] = []
written_names (cell ∷ cells) = names_in cell (lex cell).tokens ++ written_names cells

-- the bases of these and of the rows of the built-in table
abbrev pub texts_of : List (List ℕ) → List (List ℕ)
texts_of cells = bases (map row_text rows ++ written_names cells)

-- the lines of some of these cells, which have the names of all; each cell may take so many steps
abbrev pub Transcript : ℕ → List (List ℕ) → List (List ℕ) → List (List ℕ) → Type 0
Transcript steps all cells lines = Prints (by_texts (texts_of all)) (names_of (texts_of all)) (place_in (texts_of all)) steps empty 1 cells lines
