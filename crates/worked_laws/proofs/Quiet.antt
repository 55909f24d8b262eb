-- Quiet applications on a kernel that knows something else.
use Rattle.std.proofs.Common.{Some, ◌≡◌, refl, true, false, List, [], ◌∷◌}
use Rattle.expr_tree.specs.Tree.{call, Tree}
use Rattle.semantics.specs.declared.builtin.Builtin.{Builtin}
use Rattle.semantics.specs.Definitions.{Definitions, Share, Shared, empty, put}
use Rattle.semantics.specs.Names.{known}
use Rattle.semantics.specs.Program.{Mode}
use Rattle.semantics.specs.Eval.{Outcome, eval}
use Rattle.semantics.specs.Table.{row, worked}
use Rattle.semantics.specs.Match.{matches}
use Rattle.journal.specs.Closure.{symbols_of, symbols_of_all, bundle, install}
use Rattle.journal.specs.declared.recover.Recover.{Recover}
use Rattle.journal.specs.Core.{Setup, in_mode}
use Rattle.journal.specs.Quiet.{by_itself, quiet_value}
use Rattle.laws_quiet.specs.Quiet.{results}
use Rattle.worked_rows.specs.Sample.{names, in_cell, usual, apply, equals, f', g', x', int, made, of, plus, symbol_of_row, value}

abbrev setup : Setup
setup = record { names = names; shown = λ e. 63 ∷ []; kernels = 3; limits = usual; recovery = Recover.Retry }

abbrev known_after : Definitions → Tree → Definitions
known_after d e = (eval (in_cell usual) d e []).definitions

abbrev at : Tree → Tree
at e = apply f' e

abbrev define : Tree → Tree
define e = of Builtin.SetDelayed (at (of Builtin.Pattern (x' ∷ of Builtin.Blank [] ∷ [])) ∷ e ∷ [])

-- the master knows f[x_] := x + 1; the kernel knows f[x_] := x + g and g = 7 from earlier items
abbrev master : Definitions
master = known_after empty (define (plus x' (int 1)))

abbrev left : Definitions
left = known_after (known_after empty (define (plus x' g'))) (equals g' (int 7))

-- an application evaluated by kernel 3, with its bundle installed
abbrev on_kernel : Tree → Outcome
on_kernel e = (eval (in_mode setup Mode.Item 3) (install names left (bundle names master (symbols_of e))) e []).outcome

-- f[3] is quiet: 4 by itself, on the kernel, and from the master's definitions
quiet_alone : (by_itself setup master (at (int 3))).outcome ≡ value (int 4)
unfolding eval row worked matches
quiet_alone = refl

quiet_unused : (by_itself setup master (at (int 3))).used ≡ false
unfolding eval row worked matches
quiet_unused = refl

quiet_on_kernel : on_kernel (at (int 3)) ≡ value (int 4)
unfolding eval row worked matches
quiet_on_kernel = refl

quiet_from_master : (eval (in_mode setup Mode.Cell 0) master (at (int 3)) []).outcome ≡ value (int 4)
unfolding eval row worked matches
quiet_from_master = refl

-- f[$KernelID] is not: by itself `used` is true, and it gives 1, but 4 on kernel 3
used_alone : (by_itself setup master (at (symbol_of_row Builtin.KernelID))).used ≡ true
unfolding eval row worked matches
used_alone = refl

number_alone : (by_itself setup master (at (symbol_of_row Builtin.KernelID))).outcome ≡ value (int 1)
unfolding eval row worked matches
number_alone = refl

number_on_kernel : on_kernel (at (symbol_of_row Builtin.KernelID)) ≡ value (int 4)
unfolding eval row worked matches
number_on_kernel = refl

-- y$5 has the value 4, though the next Module takes the number 1: f[y$5] is quiet, and a list with it gives on the kernel what it gives by itself
abbrev to_come : Definitions
to_come = put names master (record { base = 1008; number = 5 }) (record { attributes = []; own = Some (int 4); downs = []; ups = [] })

abbrev with_later : List Tree
with_later = at (made 8 5) ∷ at (int 2) ∷ at (made 8 5) ∷ []

next_number : to_come.module_number ≡ 1
unfolding eval row worked matches
next_number = refl

later_quiet : quiet_value setup to_come (at (made 8 5)) ≡ Some (int 5)
unfolding eval row worked matches
later_quiet = refl

later_on_kernel : results (in_mode setup Mode.Item 3) (install names left (bundle names to_come (symbols_of_all with_later))) with_later ≡ value (int 5) ∷ value (int 3) ∷ value (int 5) ∷ []
unfolding eval row worked matches
later_on_kernel = refl

-- with the names Pattern and BlankSequence shared the closure of f[1, 2] lacks Sequence, which f[x__] := g[x] puts in: by itself g[1, 2], with
-- `used` false, but g[7[1, 2]] on a kernel where Sequence has the value 7
abbrev shared_name : Builtin → Shared
shared_name row = record { symbol = known names row; kind = Share.Variable; attributes = [] }

abbrev sharing : Definitions
sharing =
    record (known_after empty (of Builtin.SetDelayed (at (of Builtin.Pattern (x' ∷ of Builtin.BlankSequence [] ∷ [])) ∷ apply g' x' ∷ []))) {
      shared = shared_name Builtin.Pattern ∷ shared_name Builtin.BlankSequence ∷ [];
    }

abbrev of_two : Tree
of_two = call f' (int 1 ∷ int 2 ∷ [])

abbrev with_seven : Definitions
with_seven = put names empty (known names Builtin.Sequence) (record { attributes = []; own = Some (int 7); downs = []; ups = [] })

shared_alone : (by_itself setup sharing of_two).outcome ≡ value (call g' (int 1 ∷ int 2 ∷ []))
unfolding eval row worked matches
shared_alone = refl

shared_unused : (by_itself setup sharing of_two).used ≡ false
unfolding eval row worked matches
shared_unused = refl

shared_on_kernel : (eval (in_mode setup Mode.Item 3) (install names with_seven (bundle names sharing (symbols_of of_two))) of_two []).outcome
    ≡ value (call g' (call (int 7) (int 1 ∷ int 2 ∷ []) ∷ []))
unfolding eval row worked matches
shared_on_kernel = refl
