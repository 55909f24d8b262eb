-- Shapes of expressions that forms look for.
--     pair_of               the items of a list of two
--     pair_under            the two elements of c[p, t]
--     elements_under        the elements of c[..]
--     symbol_of             the innermost leftmost head of an expression, where it is a symbol
use Rattle.std.specs.Prelude.{List, [], ◌∷◌, Option, Some, None, if◌then◌else◌}
use Rattle.expr_tree.specs.declared.sym.Sym.{Sym}
use Rattle.expr_tree.specs.Same.{symbol_eq}
use Rattle.expr_tree.specs.Tree.{Tree, symbol, normal, elements}

abbrev pub pair_of : {X : Type 0} → List X → Option (X × X)
pair_of (x ∷ y ∷ []) = Some (x, y)
pair_of _ = None

abbrev pub pair_under : Sym → Tree → Option (Tree × Tree)
pair_under c (normal (symbol s) ts) = if symbol_eq s c then pair_of (elements ts) else None
pair_under c _ = None

abbrev pub elements_under : Sym → Tree → Option (List Tree)
elements_under c (normal (symbol s) ts) = if symbol_eq s c then Some (elements ts) else None
elements_under c _ = None

abbrev pub symbol_of : Tree → Option Sym
symbol_of (symbol s) = Some s
symbol_of (normal h ts) = symbol_of h
symbol_of _ = None
