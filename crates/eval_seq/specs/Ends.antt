-- What becomes of the end of an evaluation.
--     caught                a throw is caught
--     thrown_by             what a pass throws itself, or how else it ends
--     leaves                after which ends a section is left
--     held_in               whether the open section holds some locks
use Rattle.std.specs.Prelude.{List, Bool, true, false, Option, Some, None, Result, Ok, Err}
use Rattle.expr_tree.specs.declared.sym.Sym.{Sym}
use Rattle.expr_tree.specs.Tree.{Tree}
use Rattle.semantics.specs.Play.{all_among}
use Rattle.evaluation_steps.specs.declared.Exit.{Exit}

abbrev pub caught : Result Tree Exit → Result Tree Exit
caught (Ok v) = Ok v
caught (Err (Exit.Stopped c)) = Err (Exit.Stopped c)
caught (Err (Exit.Throwing v)) = Err (Exit.Throwing v)
caught (Err (Exit.Thrown v)) = Ok v
caught (Err Exit.Quit) = Err Exit.Quit
caught (Err Exit.Closed) = Err Exit.Closed
caught (Err Exit.NoMemory) = Err Exit.NoMemory

abbrev pub thrown_by : Exit → Result Tree Exit
thrown_by (Exit.Stopped c) = Err (Exit.Stopped c)
thrown_by (Exit.Throwing v) = Ok v
thrown_by (Exit.Thrown v) = Err (Exit.Thrown v)
thrown_by Exit.Quit = Err Exit.Quit
thrown_by Exit.Closed = Err Exit.Closed
thrown_by Exit.NoMemory = Err Exit.NoMemory

abbrev pub leaves : Result Tree Exit → Bool
leaves (Ok v) = true
leaves (Err (Exit.Stopped c)) = true
leaves (Err (Exit.Throwing v)) = false
leaves (Err (Exit.Thrown v)) = true
leaves (Err Exit.Quit) = false
leaves (Err Exit.Closed) = false
leaves (Err Exit.NoMemory) = false

abbrev pub held_in : Option (List Sym) → List Sym → Option Bool
held_in None locks = None
held_in (Some held) locks = Some (all_among locks held)
