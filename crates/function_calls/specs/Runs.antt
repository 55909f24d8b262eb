-- A slot with the arguments that stand for it.
--     with_run              these as one expression; without any, the slot
use Rattle.std.specs.Prelude.{List, Option, Some, None}
use Rattle.expr_tree.specs.Tree.{Tree}
use Rattle.semantics.specs.Names.{Names}
use Rattle.semantics.specs.InPlace.{as_one}

abbrev pub with_run : Names → Tree → Option (List Tree) → Tree
with_run names e None = e
with_run names e (Some run) = as_one names run
