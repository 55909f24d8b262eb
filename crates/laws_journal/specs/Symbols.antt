-- Sets of symbols as lists in strict order.
--     AllAbove, Ascends     symbols of which each comes after one; a list in strict order
--     MembersTell           such a list is told by its members
--     ClosuresAscend        what is put into such a list leaves it one, and a closure lists its symbols so
use Rattle.std.specs.Prelude.{◌≡◌, List, [], ◌∷◌}
use Rattle.std.specs.declared.cmp.Ordering.TheVariants.{Less}
use Rattle.expr_tree.specs.declared.sym.Sym.{Sym}
use Rattle.expr_tree.specs.Order.{symbol_cmp}
use Rattle.expr_tree.specs.Substitution.{among}
use Rattle.semantics.specs.Names.{Names}
use Rattle.semantics.specs.Definitions.{Definitions}
use Rattle.journal.specs.Closure.{put_symbols, closure}

abbrev pub AllAbove : Sym → List Sym → Type 0
AllAbove s [] = Unit {0}
AllAbove s (t ∷ ts) = (symbol_cmp s t ≡ Less) × AllAbove s ts

abbrev pub Ascends : List Sym → Type 0
Ascends [] = Unit {0}
Ascends (s ∷ ss) = AllAbove s ss × Ascends ss

abbrev pub MembersTell : Type 0
MembersTell = (ss ts : List Sym) → Ascends ss → Ascends ts → ((s : Sym) → among s ss ≡ among s ts) → ss ≡ ts

abbrev pub ClosuresAscend : Type 0
ClosuresAscend =
    ((ss set : List Sym) → Ascends set → Ascends (put_symbols ss set))
    × ((names : Names) (d : Definitions) (seeds : List Sym) → Ascends (closure names d seeds).symbols)
