-- The texts of elements from a place on.
--     comma                what stands in front of the element at a place
--     items_from           the elements from a place on, with what stands in front of the first of them
use Rattle.std.specs.Prelude.{ℕ, ◌==◌, cond, List, [], codes}
use Rattle.expr_tree.specs.Tree.{Trees}
use Rattle.script_text.specs.Spelling.{Spelling}
use Rattle.script_text.specs.Full.{full_items, full_others}

abbrev pub comma : ℕ → List ℕ
comma i = cond (i == 0) [] (codes ", ")

abbrev pub items_from : Spelling → ℕ → Trees → List ℕ
items_from spelling i es = cond (i == 0) (full_items spelling es) (full_others spelling es)
