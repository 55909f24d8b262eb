-- The shapes of an iterator.
--     IsShape               an iterator of these elements asks for these parts, or stays as it is
use Rattle.std.specs.Prelude.{◌≡◌, List, Option, Some, None}
use Rattle.expr_tree.specs.declared.sym.Sym.{Sym}
use Rattle.expr_tree.specs.Tree.{Tree}
use Rattle.semantics.specs.Names.{Names}
use Rattle.semantics.specs.Program.{Prog}
use Rattle.semantics.specs.Control.{Values, iterator_parts}
use Rattle.machine_iterators.specs.PartsAsked.{opened, asks}
use Rattle.machine_iterators.specs.declared.iteration.Shape.{Shape}
use Rattle.machine_iterators.specs.declared.parts.Known.{Known}

abbrev pub IsShapeBy : List Tree → Option Shape → Type 0
IsShapeBy es None = (names : Names) (k : Option Sym → Values → List Tree → Prog) (stay : Prog) → iterator_parts names es k stay ≡ stay
IsShapeBy es (Some s) = (names : Names) (k : Option Sym → Values → Prog) (stay : Prog) →
    iterator_parts names es (λ i values parts. k i values) stay ≡ opened names s.symbol (asks names s.symbol Known.Nothing s.parts.now (k s.symbol) stay)

pub record IsShape (es : List Tree) (r : Option Shape) : Type 0 where
  pub by : IsShapeBy es r
