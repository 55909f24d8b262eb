-- Left sides that no expression is: Lists to which a left side is threaded, larger or deeper than any expression.
--     IsLarge               larger or deeper than any expression
--     AreUnder              calls of one symbol
--     Replaces              an expression that stands in place of such a List: the List of the symbol under which all its items are
use Rattle.std.specs.Prelude.{◌≡◌, ◌<◌, ◌⊎◌, List, [], ◌∷◌, Some}
use Rattle.expr_tree.specs.declared.sym.Sym.{Sym}
use Rattle.expr_tree.specs.Tree.{Tree, symbol, size, depth}
use Rattle.semantics.specs.declared.builtin.Builtin.{Builtin}
use Rattle.semantics.specs.Names.{Names, make}
use Rattle.semantics.specs.Assign.{add_symbol, item_symbols}

abbrev pub IsLarge : Tree → Type 0
IsLarge t = (4000000 < size t) ⊎ (512 < depth t)

-- calls of one symbol, and of no other
abbrev pub AreUnder : Sym → List Tree → Type 0
AreUnder s each = (ss : List Sym) → item_symbols each ss ≡ add_symbol (Some s) ss

pub record Replaces (names : Names) (e l : Tree) : Type 0 where
  pub head : Sym
  pub each : List Tree
  pub is : l ≡ make names Builtin.List each
  pub under : AreUnder head each
  pub large : IsLarge l
  pub instead : e ≡ make names Builtin.List (symbol head ∷ [])
