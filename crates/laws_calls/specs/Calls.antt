-- The calls of an evaluation, by its mode and by whether a section is open.
--     are_parts             the parts of an iterator, evaluated
--     also_inside           the forms that go outward also inside a section, each with its shapes
--     outside_alone         those that do so outside alone
--     may_come              which calls may come in a mode, where a section is open or not
--     unstopped             whether no Leave was answered by a stop
--     Fits                  a play each of whose calls may come where it stands, and at whose end no section is open
--     CallsFit              each evaluation
use Rattle.std.specs.Prelude.{◌≡◌, pos, List, [], ◌∷◌, length, leb, Bool, true, false, T, ◌&&◌, ◌||◌, not, is_some}
use Rattle.std.specs.Ordering.{int_eq}
use Rattle.expr_tree.specs.declared.sym.Sym.{Sym}
use Rattle.expr_tree.specs.Tree.{Tree, integer, symbol, normal}
use Rattle.semantics.specs.declared.builtin.Builtin.{Builtin}
use Rattle.semantics.specs.Names.{Names, is_call, items_of}
use Rattle.semantics.specs.Definitions.{Definitions}
use Rattle.semantics.specs.Program.{Mode, Cell, Item, Service, Access, Count, Print, Outside, Call, Sends, Enter, Leave}
use Rattle.semantics.specs.Assemble.{is_single}
use Rattle.semantics.specs.Sections.{is_option, without_option, is_last_option, has_object, are_symbols, is_submission}
use Rattle.semantics.specs.Play.{Setting, State, End, Value, Stopped, Throwing, Thrown, Quit, Closed, Starved, Reply, Replied, Halted, Shut, Lacking, Play, Over, Calls, whole}
use Rattle.semantics.specs.Opened.{opens}

-- ---- shapes

abbrev pub is_number_or_list : Names → Tree → Bool
is_number_or_list names (integer n) = true
is_number_or_list names e = is_call names Builtin.List e

-- {n}, {i, b}, {i, List}, {i, a, b} and {i, a, b, d}, where the step d is not 0
abbrev pub are_parts : Names → List Tree → Bool
are_parts names (integer n ∷ []) = true
are_parts names (symbol i ∷ b ∷ []) = is_number_or_list names b
are_parts names (symbol i ∷ integer a ∷ integer b ∷ []) = true
are_parts names (symbol i ∷ integer a ∷ integer b ∷ integer d ∷ []) = not (int_eq d (pos 0))
are_parts names _ = false

abbrev pub is_loop : Names → List Tree → Bool
is_loop names (e ∷ it ∷ es) = is_call names Builtin.List it && are_parts names (items_of it)
is_loop names _ = false

abbrev pub is_map : Names → List Tree → Bool
is_map names (f ∷ l ∷ []) = not (is_option names l)
is_map names (f ∷ l ∷ o ∷ []) = is_option names o
is_map names _ = false

abbrev pub is_combine : Names → List Tree → Bool
is_combine names (f ∷ normal h es ∷ rest) = leb (length (without_option names rest)) 1 && not (is_last_option names (normal h es) rest)
is_combine names _ = false

abbrev pub is_try : Names → List Tree → Bool
is_try names (f ∷ l ∷ []) = is_call names Builtin.List l
is_try names _ = false

abbrev pub is_wait : Names → List Tree → Bool
is_wait names (e ∷ []) = has_object names e
is_wait names _ = false

-- ---- forms

-- a form with the test of its shapes
abbrev pub Shaped : Type 0
Shaped = Builtin × (List Tree → Bool)

abbrev pub is_one_of : Names → List Shaped → Tree → Bool
is_one_of names [] e = false
is_one_of names (form ∷ forms) e = is_call names form.0 e && form.1 (items_of e) || is_one_of names forms e

abbrev pub also_inside : Names → List Shaped
also_inside names =
    (Builtin.ParallelSubmit, is_submission names) ∷ (Builtin.DistributeDefinitions, are_symbols) ∷ (Builtin.SetSharedVariable, are_symbols)
    ∷ (Builtin.SetSharedFunction, are_symbols) ∷ []

abbrev pub outside_alone : Names → List Shaped
outside_alone names =
    (Builtin.ParallelMap, is_map names) ∷ (Builtin.ParallelCombine, is_combine names) ∷ (Builtin.ParallelTry, is_try names)
    ∷ (Builtin.ParallelTable, is_loop names) ∷ (Builtin.ParallelDo, is_loop names) ∷ (Builtin.ParallelSum, is_loop names)
    ∷ (Builtin.ParallelEvaluate, is_single) ∷ (Builtin.WaitNext, is_single) ∷ (Builtin.WaitAll, is_wait names) ∷ []

-- ---- calls

abbrev pub is_cell : Mode → Bool
is_cell Cell = true
is_cell Item = false
is_cell Service = false

abbrev pub is_item : Mode → Bool
is_item Cell = false
is_item Item = true
is_item Service = false

abbrev pub is_service : Mode → Bool
is_service Cell = false
is_service Item = false
is_service Service = true

abbrev pub is_empty : List Sym → Bool
is_empty [] = true
is_empty (s ∷ ss) = false

-- an access comes in an item alone, a form in a cell alone, a section in both; the kernels are counted, and lines printed, in every mode
abbrev pub may_come : Names → Mode → Bool → Call → Bool
may_come names mode is_open (Sends (Access e)) = is_item mode
may_come names mode is_open (Sends Count) = true
may_come names mode is_open (Sends (Print t)) = true
may_come names mode is_open (Sends (Outside e)) =
    is_cell mode && (is_one_of names (also_inside names) e || not is_open && is_one_of names (outside_alone names) e)
may_come names mode is_open (Enter locks) = not (is_service mode) && (not (is_empty locks) && not is_open)
may_come names mode is_open Leave = not (is_service mode) && is_open

-- ---- along a play

-- a Leave that is answered by a stop ends the evaluation with its section open; no outside answers it so
abbrev pub unstopped : Call → Reply → Bool → Bool
unstopped (Sends c) r so_far = so_far
unstopped (Enter locks) r so_far = so_far
unstopped Leave (Replied v) so_far = so_far
unstopped Leave (Halted c) so_far = false
unstopped Leave Shut so_far = so_far
unstopped Leave Lacking so_far = so_far

-- after a value, a stop or a throw
abbrev pub NoneOpen : End → Bool → Type 0
NoneOpen (Value v) now = now ≡ false
NoneOpen (Stopped c) now = now ≡ false
NoneOpen (Throwing v) now = now ≡ false
NoneOpen (Thrown v) now = now ≡ false
NoneOpen Quit now = Unit {0}
NoneOpen Closed now = Unit {0}
NoneOpen Starved now = Unit {0}

-- at a point where no Leave was answered by a stop, or one was, and where a section is open or not
pub data Fits (names : Names) (mode : Mode) : Bool → Bool → Play → Type 0 where
  ended : {so_far now : Bool} {o : End} {s : State} → is_some s.open_section ≡ now → (so_far ≡ true → NoneOpen o now) → Fits names mode so_far now (Over o s)
  called : {so_far now : Bool} {c : Call} {s : State} {k : Reply → Definitions → Play} → is_some s.open_section ≡ now → T (may_come names mode now c)
      → ((r : Reply) (d : Definitions) → Fits names mode (unstopped c r so_far) (opens c r now) (k r d)) → Fits names mode so_far now (Calls c s k)

-- each evaluation
abbrev pub CallsFit : Type 0
CallsFit = (set : Setting) (d : Definitions) (e : Tree) → Fits set.names set.mode true false (whole set d e)
