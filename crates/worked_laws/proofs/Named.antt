-- Applications that make generated names.
use Rattle.std.proofs.Common.{◌≡◌, refl, true, false, [], ◌∷◌, Option, Some, None}
use Rattle.expr_tree.specs.Tree.{Tree}
use Rattle.semantics.specs.declared.builtin.Builtin.{Builtin}
use Rattle.semantics.specs.Definitions.{Definitions, Share, empty}
use Rattle.semantics.specs.Program.{Mode}
use Rattle.semantics.specs.Eval.{eval}
use Rattle.semantics.specs.Table.{row, worked}
use Rattle.semantics.specs.Match.{matches}
use Rattle.journal.specs.declared.recover.Recover.{Recover}
use Rattle.journal.specs.Core.{Setup, in_mode}
use Rattle.journal.specs.Quiet.{by_itself, quiet_named_value}
use Rattle.worked_rows.specs.Sample.{names, in_cell, usual, apply, equals, f', t', x', int, list, made, of, plus, times, value}

abbrev setup : Setup
setup = record { names = names; shown = λ e. 63 ∷ []; kernels = 3; limits = usual; recovery = Recover.Retry }

abbrev known_after : Definitions → Tree → Definitions
known_after d e = (eval (in_cell usual) d e []).definitions

abbrev at : Tree → Tree
at e = apply f' e

abbrev define : Tree → Definitions
define e = known_after empty (of Builtin.SetDelayed (at (of Builtin.Pattern (x' ∷ of Builtin.Blank [] ∷ [])) ∷ e ∷ []))

-- f[x_] := Module[{t = x + 1}, t t]
abbrev squares : Definitions
squares = define (of Builtin.Module (list (equals t' (plus x' (int 1)) ∷ []) ∷ times t' t' ∷ []))

-- f[2] is 9 by itself, with `used` false
square_alone : (by_itself setup squares (at (int 2))).outcome ≡ value (int 9)
unfolding eval row worked matches
square_alone = refl

square_unused : (by_itself setup squares (at (int 2))).used ≡ false
unfolding eval row worked matches
square_unused = refl

-- it is quiet but for generated names
square_quiet : quiet_named_value setup squares (at (int 2)) ≡ Some (int 9)
unfolding eval row worked matches
square_quiet = refl

-- and so it is from the master's definitions after f[1], where the next number is another
number_after_one : (known_after squares (at (int 1))).module_number ≡ 2
unfolding eval row worked matches
number_after_one = refl

square_after_one : (eval (in_mode setup Mode.Cell 0) (known_after squares (at (int 1))) (at (int 2)) []).outcome ≡ value (int 9)
unfolding eval row worked matches
square_after_one = refl

-- f[x_] := Module[{t}, t] gives the name that it makes: t$1 by itself, and t$2 after f[1]
abbrev gives_names : Definitions
gives_names = define (of Builtin.Module (list (t' ∷ []) ∷ t' ∷ []))

name_alone : (by_itself setup gives_names (at (int 2))).outcome ≡ value (made 19 1)
unfolding eval row worked matches
name_alone = refl

name_after_one : (eval (in_mode setup Mode.Cell 0) (known_after gives_names (at (int 1))) (at (int 2)) []).outcome ≡ value (made 19 2)
unfolding eval row worked matches
name_after_one = refl

-- it is not quiet but for generated names
name_not_quiet : ◌≡◌ {A = Option Tree} (quiet_named_value setup gives_names (at (int 2))) None
unfolding eval row worked matches
name_not_quiet = refl

-- where t$2 is shared, which a Module may still make, f[2] is as quiet by itself; from a greater number its evaluation is a use of t$2
abbrev next_shared : Definitions
next_shared = record squares { shared = record { symbol = record { base = 1019; number = 2 }; kind = Share.Variable; attributes = [] } ∷ [] }

quiet_beside : quiet_named_value setup next_shared (at (int 2)) ≡ Some (int 9)
unfolding eval row worked matches
quiet_beside = refl

used_after_one : (eval (in_mode setup Mode.Item 0) (record next_shared { module_number = 2 }) (at (int 2)) []).used ≡ true
unfolding eval row worked matches
used_after_one = refl
