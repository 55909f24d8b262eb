-- Which expressions have a name whose row is not built.
--     is_unbuilt           the rows that are not built: those that need other kernels, shared symbols or an outside
--     has_unbuilt          whether the name of one stands in an expression
use Rattle.std.specs.Prelude.{Bool, false, ◌||◌, Some, None}
use Rattle.expr_tree.specs.Tree.{Tree, Trees, integer, string, symbol, normal, nil, cons}
use Rattle.expr_tree.specs.declared.sym.Sym.{Sym}
use Rattle.semantics.specs.declared.builtin.Builtin.{Builtin}
use Rattle.semantics.specs.Names.{Names, role_of}
use Rattle.row_kinds.specs.Kinds as kinds

abbrev pub is_unbuilt : Builtin → Bool
is_unbuilt Builtin.Throw = false
is_unbuilt Builtin.Catch = false
is_unbuilt row = kinds.is_unbuilt row

abbrev pub names_unbuilt : Names → Sym → Bool
names_unbuilt names s = elim (role_of names s) [ None ↦ false | Some row ↦ is_unbuilt row ]

abbrev mutual
  pub has_unbuilt : Names → Tree → Bool
  has_unbuilt names (integer n) = false
  has_unbuilt names (string t) = false
  has_unbuilt names (symbol s) = names_unbuilt names s
  has_unbuilt names (normal h es) = has_unbuilt names h || have_unbuilt names es

  pub have_unbuilt : Names → Trees → Bool
  have_unbuilt names nil = false
  have_unbuilt names (cons e es) = has_unbuilt names e || have_unbuilt names es
