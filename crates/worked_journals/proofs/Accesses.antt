-- Accesses of shared symbols: one after the other, a lost update, one that nobody makes, a shared function.
use Rattle.std.proofs.Common.{◌≡◌, refl, true, false, List, [], ◌∷◌, ◌++◌, Some}
use Rattle.std.specs.Prelude.{codes}
use Rattle.expr_tree.specs.Tree.{Tree, string, call}
use Rattle.semantics.specs.declared.builtin.Builtin.{Builtin}
use Rattle.semantics.specs.Names.{name}
use Rattle.semantics.specs.Table.{row, worked}
use Rattle.semantics.specs.Match.{matches}
use Rattle.journal.specs.declared.event.Wait.{Wait}
use Rattle.journal.specs.declared.event.Event.{Event}
use Rattle.journal.specs.declared.event.Entry.{Entry}
use Rattle.journal.specs.Run.{Reading, Out, legal, transcript}
use Rattle.worked_journals.proofs.Script.{setup, names, int, list, of, equals, by, reads, n', f', x', increment, share, submit, wait_all, read, write}

-- n = 0; SetSharedVariable[n]; WaitAll[{ParallelSubmit[n++], ParallelSubmit[n++]}]; n
two_items : List Reading
two_items = reads (equals n' (int 0) ∷ share n' ∷ wait_all (list (submit (increment n') ∷ submit (increment n') ∷ [])) ∷ n' ∷ [])

two_items_journal : List Entry
two_items_journal =
    by 0 (Event.Submit 1)
    ∷ by 0 (Event.Submit 2)
    ∷ by 0 (Event.Yield (Wait.All (1 ∷ 2 ∷ [])))
    ∷ by 0 (Event.Take 1)
    ∷ by 0 (Event.Access (increment n') (int 0))
    ∷ by 0 (Event.Deliver 1 (int 0))
    ∷ by 0 (Event.Take 2)
    ∷ by 0 (Event.Access (increment n') (int 1))
    ∷ by 0 (Event.Deliver 2 (int 1))
    ∷ by 0 Event.Resume
    ∷ by 0 Event.Close
    ∷ []

two_items_legal : legal (setup 0) [] two_items two_items_journal ≡ true
unfolding two_items two_items_journal row worked
two_items_legal = refl

two_items_lines : transcript (setup 0) false two_items two_items_journal 4 ≡ Some (Out 1 (int 0) ∷ Out 3 (list (int 0 ∷ int 1 ∷ [])) ∷ Out 4 (int 2) ∷ [])
unfolding two_items two_items_journal row worked
two_items_lines = refl

-- x = 0; SetSharedVariable[x]; ParallelDo[x = x + 1, {2}, Method -> "FinestGrained"]; x
updated : List Reading
updated =
    reads (
    equals x' (int 0)
    ∷ share x'
    ∷ of Builtin.ParallelDo (
    equals x' (of Builtin.Plus (x' ∷ int 1 ∷ [])) ∷ list (int 2 ∷ []) ∷ of Builtin.Rule (name names Builtin.Method ∷ string (codes "FinestGrained") ∷ []) ∷ [])
    ∷ x' ∷ [])

updated_with : List Entry → List Entry
updated_with between =
    by 0 (Event.Submit 1) ∷ by 0 (Event.Submit 2) ∷ by 0 (Event.Yield (Wait.All (1 ∷ 2 ∷ []))) ∷ by 1 (Event.Take 1) ∷ by 2 (Event.Take 2)
    ∷ between ++ by 0 Event.Resume ∷ by 0 Event.Close ∷ []

-- both read 0: one update is lost
lost_update : transcript (setup 2) false updated
    (updated_with (read 1 0 ∷ read 2 0 ∷ write 1 1 ∷ write 2 1 ∷ by 1 (Event.Deliver 1 (list (int 1 ∷ []))) ∷ by 2 (Event.Deliver 2 (list (int 1 ∷ []))) ∷ [])) 4
    ≡ Some (Out 1 (int 0) ∷ Out 4 (int 1) ∷ [])
unfolding updated updated_with row
lost_update = refl

lost_update_legal : legal (setup 2) [] updated
    (updated_with (read 1 0 ∷ read 2 0 ∷ write 1 1 ∷ write 2 1 ∷ by 1 (Event.Deliver 1 (list (int 1 ∷ []))) ∷ by 2 (Event.Deliver 2 (list (int 1 ∷ []))) ∷ []))
    ≡ true
unfolding updated updated_with row worked
lost_update_legal = refl

-- an access that no evaluation makes
invented : legal (setup 2) [] updated
    (updated_with (read 1 0 ∷ read 1 0 ∷ read 2 0 ∷ write 1 1 ∷ write 2 1 ∷ by 1 (Event.Deliver 1 (list (int 1 ∷ []))) ∷ by 2 (Event.Deliver 2 (list (int 1 ∷ []))) ∷ []))
    ≡ false
unfolding updated updated_with row worked
invented = refl

abbrev at : Tree → Tree
at e = call f' (e ∷ [])

-- f[x_] := x x
abbrev square : Tree
square = of Builtin.SetDelayed (at (of Builtin.Pattern (x' ∷ of Builtin.Blank [] ∷ [])) ∷ of Builtin.Times (x' ∷ x' ∷ []) ∷ [])

-- f[x_] := x x; SetSharedFunction[f]; WaitAll[ParallelSubmit[f[3]]]; ParallelTable[7, {3}]
shared : List Reading
shared =
    reads (
    square
    ∷ of Builtin.SetSharedFunction (f' ∷ [])
    ∷ wait_all (submit (at (int 3)))
    ∷ of Builtin.ParallelTable (int 7 ∷ list (int 3 ∷ []) ∷ [])
    ∷ [])

shared_journal : List Entry
shared_journal =
    by 0 (Event.Submit 1) ∷ by 0 (Event.Yield (Wait.All (1 ∷ []))) ∷ by 1 (Event.Take 1) ∷ by 1 (Event.Access (at (int 3)) (int 9)) ∷ by 1 (Event.Deliver 1 (int 9)) ∷ by 0 Event.Resume
    ∷ by 0 (Event.Submit 2) ∷ by 0 (Event.Yield (Wait.All (2 ∷ []))) ∷ by 1 (Event.Take 2) ∷ by 1 (Event.Deliver 2 (list (int 7 ∷ int 7 ∷ int 7 ∷ []))) ∷ by 0 Event.Resume
    ∷ by 0 Event.Close ∷ []

shared_legal : legal (setup 1) [] shared shared_journal ≡ true
unfolding shared shared_journal row worked matches
shared_legal = refl

shared_lines : transcript (setup 1) false shared shared_journal 4 ≡ Some (Out 3 (int 9) ∷ Out 4 (list (int 7 ∷ int 7 ∷ int 7 ∷ [])) ∷ [])
unfolding shared shared_journal row worked matches
shared_lines = refl

-- DistributeDefinitions[]; SetSharedVariable[]; SetSharedFunction[]: no symbols, no entry, and Null
no_symbols : List Reading
no_symbols = reads (of Builtin.DistributeDefinitions [] ∷ of Builtin.SetSharedVariable [] ∷ of Builtin.SetSharedFunction [] ∷ int 1 ∷ [])

no_symbols_legal : legal (setup 0) [] no_symbols (by 0 Event.Close ∷ []) ≡ true
unfolding no_symbols row worked
no_symbols_legal = refl

no_symbols_lines : transcript (setup 0) false no_symbols (by 0 Event.Close ∷ []) 4 ≡ Some (Out 4 (int 1) ∷ [])
unfolding no_symbols row worked
no_symbols_lines = refl

-- SetSharedFunction[f]; WaitAll[ParallelSubmit[f[Unevaluated[x]]]]: one access, and what stood before the wrapper was taken off
wrapped : List Reading
wrapped =
    reads (of Builtin.SetSharedFunction (f' ∷ []) ∷ wait_all (submit (call f' (of Builtin.Unevaluated (x' ∷ []) ∷ []))) ∷ [])

wrapped_journal : List Entry
wrapped_journal =
    by 0 (Event.Submit 1) ∷ by 0 (Event.Yield (Wait.All (1 ∷ []))) ∷ by 0 (Event.Take 1)
    ∷ by 0 (Event.Access (call f' (x' ∷ [])) (call f' (x' ∷ [])))
    ∷ by 0 (Event.Deliver 1 (call f' (of Builtin.Unevaluated (x' ∷ []) ∷ [])))
    ∷ by 0 Event.Resume ∷ by 0 Event.Close ∷ []

wrapped_legal : legal (setup 0) [] wrapped wrapped_journal ≡ true
unfolding wrapped wrapped_journal row worked
wrapped_legal = refl

wrapped_lines : transcript (setup 0) false wrapped wrapped_journal 2 ≡ Some (Out 2 (call f' (of Builtin.Unevaluated (x' ∷ []) ∷ [])) ∷ [])
unfolding wrapped wrapped_journal row worked
wrapped_lines = refl
