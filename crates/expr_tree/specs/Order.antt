-- The canonical order: integers by value, then strings, then symbols, then normal expressions by the number of elements, then head, then elements.
--     text_cmp              strings by their bytes, a prefix first
--     symbol_cmp            symbols by base, then by number
--     tree_cmp, trees_cmp   expressions; elements one by one from the left
--     comes_before          whether an expression stands before another
--     same, same_symbol     whether two expressions, or two symbols, are identical
use Rattle.std.specs.Prelude.{Bool, ℕ, List}
use Rattle.std.specs.Ordering.{nat_cmp, int_cmp, ordering_then, is_lt}
use Rattle.std.specs.Cmp.Lexicographic.{slice_cmp}
use Rattle.std.specs.declared.cmp.Ordering.{Ordering}
use Rattle.std.specs.declared.cmp.Ordering.TheVariants.{Less, Equal, Greater}
use Rattle.expr_tree.specs.Tree.{Tree, Trees, integer, string, symbol, normal, nil, cons, count}
use Rattle.expr_tree.specs.declared.sym.Sym.{Sym}
use Rattle.expr_tree.specs.Same.{symbol_eq, tree_eq}

abbrev pub text_cmp : List ℕ → List ℕ → Ordering
text_cmp = slice_cmp nat_cmp

abbrev pub symbol_cmp : Sym → Sym → Ordering
symbol_cmp a b = ordering_then (nat_cmp a.base b.base) (nat_cmp a.number b.number)

abbrev mutual
  pub tree_cmp : Tree → Tree → Ordering
  tree_cmp (integer m) (integer n) = int_cmp m n
  tree_cmp (integer m) _ = Less
  tree_cmp (string s) (integer n) = Greater
  tree_cmp (string s) (string r) = text_cmp s r
  tree_cmp (string s) _ = Less
  tree_cmp (symbol s) (symbol r) = symbol_cmp s r
  tree_cmp (symbol s) (normal h us) = Less
  tree_cmp (symbol s) _ = Greater
  tree_cmp (normal h ts) (normal k us) = ordering_then (nat_cmp (count ts) (count us)) (ordering_then (tree_cmp h k) (trees_cmp ts us))
  tree_cmp (normal h ts) _ = Greater

  pub trees_cmp : Trees → Trees → Ordering
  trees_cmp nil nil = Equal
  trees_cmp nil (cons u us) = Less
  trees_cmp (cons t ts) nil = Greater
  trees_cmp (cons t ts) (cons u us) = ordering_then (tree_cmp t u) (trees_cmp ts us)

abbrev pub comes_before : Tree → Tree → Bool
comes_before a b = is_lt (tree_cmp a b)

abbrev pub same : Tree → Tree → Bool
same = tree_eq

abbrev pub same_symbol : Sym → Sym → Bool
same_symbol = symbol_eq
