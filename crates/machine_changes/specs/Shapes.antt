-- Shapes of the elements of these rows.
--     symbol_in             the symbol that an expression is
--     of_symbol, of_two     rows with a symbol and nothing else, or with a symbol and another element
use Rattle.std.specs.Prelude.{List, [], ◌∷◌, Option, Some, None}
use Rattle.expr_tree.specs.declared.sym.Sym.{Sym}
use Rattle.expr_tree.specs.Tree.{Tree, symbol}
use Rattle.semantics.specs.Program.{Prog}

abbrev pub symbol_in : Tree → Option Sym
symbol_in (symbol s) = Some s
symbol_in _ = None

abbrev pub of_symbol : (Sym → Prog) → Prog → List Tree → Prog
of_symbol p stay (symbol s ∷ []) = p s
of_symbol p stay _ = stay

abbrev pub of_two : (Sym → Tree → Prog → Prog) → Prog → List Tree → Prog
of_two p stay (symbol s ∷ x ∷ []) = p s x stay
of_two p stay _ = stay
