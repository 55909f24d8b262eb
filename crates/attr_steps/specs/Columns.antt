-- Columns of elements that are Lists.
--     at_place              the element at a place of a List; another expression is itself at each place
--     column                the elements at a place
use Rattle.std.specs.Prelude.{ℕ, List, [], ◌∷◌, true, false, get_or}
use Rattle.expr_tree.specs.Tree.{Tree}
use Rattle.semantics.specs.declared.builtin.Builtin.{Builtin}
use Rattle.semantics.specs.Names.{Names, is_call, items_of}

abbrev pub at_place : Names → ℕ → Tree → Tree
at_place names place e = elim (is_call names Builtin.List e) [ true ↦ get_or (items_of e) place e | false ↦ e ]

abbrev pub column : Names → ℕ → List Tree → List Tree
column names place [] = []
column names place (e ∷ es) = at_place names place e ∷ column names place es
