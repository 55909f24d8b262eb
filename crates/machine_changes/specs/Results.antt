-- Results that end a row.
--     done_with             a value is the result
use Rattle.std.specs.Prelude.{Result, Ok, Err}
use Rattle.expr_tree.specs.Tree.{Tree}
use Rattle.evaluation_steps.specs.declared.Halt.{Halt}
use Rattle.machine_steps.specs.declared.moves.Move.{Move}

abbrev pub done_with : Result Tree Halt → Result Move Halt
done_with (Ok v) = Ok (Move.Done v)
done_with (Err h) = Err h
