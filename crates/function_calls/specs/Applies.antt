-- What the application of a Function may answer.
--     Applies               the answer for what a Function makes of arguments, in the way of a row: nothing, or an expression
use Rattle.std.specs.Prelude.{◌≡◌, List, Option, Result}
use Rattle.expr_tree.specs.Tree.{Tree}
use Rattle.semantics.specs.Names.{Names}
use Rattle.semantics.specs.Program.{Prog}
use Rattle.semantics.specs.Scoping.{apply_function}
use Rattle.semantics.specs.Table.{as_program}
use Rattle.semantics.specs.Worked.{Worked}
use Rattle.builtin_names.specs.Results.{Works}
use Rattle.builtin_names.specs.declared.fault.Fault.{Fault}

-- the Function of these elements is a program that stays, or is done with an expression
pub record Applies (names : Names) (parts args : List Tree) (r : Result (Option Tree) Fault) : Type 0 where
  pub made : Worked
  pub is : (stay : Prog) → apply_function names stay parts args ≡ as_program stay made
  pub works : Works made r
