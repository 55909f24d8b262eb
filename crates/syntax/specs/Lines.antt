-- The lines of a transcript, each with its line feed.
--     value_text           what is shown of a value
--     out_line             the line of a cell's value; none where it is Null
--     syntax_line          the line of a cell that has no reading
--     print_line           the line of a text that Print shows; the language joins it of the texts of values
use Rattle.std.specs.Prelude.{ℕ, true, false, List, [], ◌∷◌, ◌++◌, codes, Option, Some}
use Rattle.std.specs.Fmt.{decimal}
use Rattle.expr_tree.specs.Tree.{Tree, Trees, symbol, normal, nil, cons}
use Rattle.semantics.specs.declared.builtin.Builtin.{Builtin}
use Rattle.semantics.specs.Names.{Names, role_of, is_name}
use Rattle.script_text.specs.Spelling.{Spelling}
use Rattle.script_text.specs.Full.{full}
use Rattle.syntax.specs.Input.{input}
use Rattle.syntax.specs.Shapes.{shape_in}

-- word[n]rest
abbrev pub numbered_line : List ℕ → ℕ → List ℕ → List ℕ
numbered_line word n rest = word ++ codes "[" ++ decimal n ++ codes "]" ++ rest ++ (10 ∷ [])

-- of the n-th cell, with the syntax offset
abbrev pub syntax_line : ℕ → ℕ → List ℕ
syntax_line n place = numbered_line (codes "Syntax") n (codes ": " ++ decimal place)

abbrev pub print_line : List ℕ → List ℕ
print_line t = t ++ (10 ∷ [])

module _ (spelling : Spelling) (names : Names) where
  -- FullForm[e] shows the full form of e, InputForm[e] the input form of e, and any other value its input form
  abbrev pub value_in : Option Builtin → Tree → Trees → List ℕ
  value_in (Some Builtin.FullForm) v (cons e nil) = full spelling e
  value_in (Some Builtin.InputForm) v (cons e nil) = input spelling (shape_in names) e
  value_in _ v es = input spelling (shape_in names) v

  abbrev pub value_text : Tree → List ℕ
  value_text (normal (symbol s) es) = value_in (role_of names s) (normal (symbol s) es) es
  value_text v = input spelling (shape_in names) v

  -- of the n-th cell
  abbrev pub out_line : ℕ → Tree → List ℕ
  out_line n v = elim (is_name names Builtin.Null v) [ true ↦ [] | false ↦ numbered_line (codes "Out") n (codes "= " ++ value_text v) ]
