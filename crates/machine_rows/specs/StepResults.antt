-- What a step makes besides its move.
--     done_of               the result, or the halt in its place
--     made_all              definitions in which locals have their values for good
--     is_shared, any_shared whether a symbol, or one of some, is shared
use Rattle.std.specs.Prelude.{List, [], ◌∷◌, Bool, false, ◌||◌, is_some, Result, Ok, Err}
use Rattle.expr_tree.specs.declared.sym.Sym.{Sym}
use Rattle.expr_tree.specs.Tree.{Tree}
use Rattle.semantics.specs.Names.{Names}
use Rattle.semantics.specs.Definitions.{Definitions, Shared, shared_as}
use Rattle.semantics.specs.Program.{Local}
use Rattle.semantics.specs.Play.{written, local_definition}
use Rattle.evaluation_steps.specs.declared.Halt.{Halt}
use Rattle.machine_steps.specs.declared.moves.Move.{Move}

abbrev pub done_of : Result Tree Halt → Result Move Halt
done_of (Ok e) = Ok (Move.Done e)
done_of (Err h) = Err h

abbrev pub made_all : Names → List Local → Definitions → Definitions
made_all names [] d = d
made_all names (l ∷ ls) d = made_all names ls (written names d l.symbol (local_definition l))

abbrev pub is_shared : List Shared → Sym → Bool
is_shared shared s = is_some (shared_as shared s)

abbrev pub any_shared : List Shared → List Sym → Bool
any_shared shared [] = false
any_shared shared (s ∷ ss) = is_shared shared s || any_shared shared ss
