-- Quiet applications.
use Rattle.std.proofs.Common.{◌≡◌, refl, false, [], ◌∷◌, arith, Some, None}
use Rattle.expr_tree.specs.Tree.{Tree, call}
use Rattle.semantics.specs.declared.builtin.Builtin.{Builtin}
use Rattle.semantics.specs.Definitions.{Definitions, empty}
use Rattle.semantics.specs.Names.{name}
use Rattle.semantics.specs.Program.{Mode}
use Rattle.semantics.specs.Play.{End}
use Rattle.semantics.specs.Eval.{Outcome, eval}
use Rattle.semantics.specs.Table.{row, worked}
use Rattle.semantics.specs.Match.{matches}
use Rattle.journal.specs.Core.{in_mode}
use Rattle.journal.specs.Quiet.{IsQuiet, by_itself, alone, quiet_values, quiet_named_value}
use Rattle.worked_journals.proofs.Script.{setup, names, int, list, of, f', x'}

-- Mod[7, 4] is quiet: it gives 3 wherever it is evaluated
quiet_mod : IsQuiet (setup 0) empty (of Builtin.Mod (int 7 ∷ int 4 ∷ []))
unfolding eval row worked
quiet_mod = record { small = omega arith; flat = omega arith; value = int 3; gives = refl; keeps = refl; unused = refl }

alone_mod : alone (setup 0) empty (of Builtin.Mod (int 7 ∷ int 4 ∷ []) ∷ []) ≡ int 3 ∷ []
unfolding eval row worked
alone_mod = refl

abbrev at : Tree → Tree
at e = call f' (e ∷ [])

-- f[x_] := x x
abbrev square : Tree
square = of Builtin.SetDelayed (at (of Builtin.Pattern (x' ∷ of Builtin.Blank [] ∷ [])) ∷ of Builtin.Times (x' ∷ x' ∷ []) ∷ [])

-- the master's definitions after the first cell
abbrev known : Definitions
known = (eval (in_mode (setup 0) Mode.Cell 0) empty square []).definitions

squares_value : (by_itself (setup 0) known (at (int 3))).outcome ≡ Outcome.Ended (End.Value (int 9))
unfolding eval row worked matches
squares_value = refl

squares_unused : (by_itself (setup 0) known (at (int 3))).used ≡ false
unfolding eval row worked matches
squares_unused = refl

alone_squares : alone (setup 0) known (at (int 1) ∷ at (int 2) ∷ []) ≡ int 1 ∷ int 4 ∷ []
unfolding eval row worked matches
alone_squares = refl

-- computed: the value of a quiet application, and none of one that the kernel's number would show in, or that takes a number
computed : quiet_values (setup 0) known (at (int 3) ∷ name names Builtin.KernelID ∷ of Builtin.Module (list (x' ∷ []) ∷ int 5 ∷ []) ∷ []) ≡ Some (int 9) ∷ None ∷ None ∷ []
unfolding eval row worked matches
computed = refl

-- Module[{x}, 5] is quiet but for generated names; Module[{x}, x] gives one
computed_named : quiet_named_value (setup 0) empty (of Builtin.Module (list (x' ∷ []) ∷ int 5 ∷ [])) ≡ Some (int 5)
unfolding eval row worked
computed_named = refl

given_name : quiet_named_value (setup 0) empty (of Builtin.Module (list (x' ∷ []) ∷ x' ∷ [])) ≡ None
unfolding eval row worked
given_name = refl

-- Max is no name of those that such an application may hold
other_name : quiet_named_value (setup 0) empty (of Builtin.Max (int 5 ∷ [])) ≡ None
unfolding eval row worked
other_name = refl
