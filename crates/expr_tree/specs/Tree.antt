-- Expressions as contracts see them.
--     Tree                  an integer, a string (its bytes), a symbol, or a head with elements
--     Trees                 the elements of an expression
--     elements, trees       these as a list, and a list as these
--     call                  the expression of a head and a list of elements
--     count                 the number of elements
--     size, sizes           the number of atoms in an expression, and in elements
--     depth, depths         the depth of an expression, which is 1 for an atom; the greatest depth among elements
use Rattle.std.specs.Prelude.{ℕ, ℤ, ◌+◌, max, List, [], ◌∷◌}
use Rattle.expr_tree.specs.declared.sym.Sym.{Sym}

mutual
  pub data Tree : Type 0 where
    integer : ℤ → Tree
    string : List ℕ → Tree
    symbol : Sym → Tree
    normal : Tree → Trees → Tree

  pub data Trees : Type 0 where
    nil : Trees
    cons : Tree → Trees → Trees

abbrev pub elements : Trees → List Tree
elements nil = []
elements (cons t ts) = t ∷ elements ts

abbrev pub trees : List Tree → Trees
trees [] = nil
trees (t ∷ ts) = cons t (trees ts)

abbrev pub call : Tree → List Tree → Tree
call h es = normal h (trees es)

abbrev pub count : Trees → ℕ
count nil = 0
count (cons t ts) = count ts + 1

abbrev mutual
  pub size : Tree → ℕ
  size (integer n) = 1
  size (string s) = 1
  size (symbol s) = 1
  size (normal h ts) = size h + sizes ts

  pub sizes : Trees → ℕ
  sizes nil = 0
  sizes (cons t ts) = size t + sizes ts

abbrev mutual
  pub depth : Tree → ℕ
  depth (integer n) = 1
  depth (string s) = 1
  depth (symbol s) = 1
  depth (normal h ts) = 1 + max (depth h) (depths ts)

  pub depths : Trees → ℕ
  depths nil = 0
  depths (cons t ts) = max (depth t) (depths ts)
