-- Critical sections: two kernels, inner sections, a master that waits for a lock, a stop at Quit inside one.
use Rattle.std.proofs.Common.{◌≡◌, refl, ℕ, true, false, List, [], ◌∷◌, ◌++◌, Some}
use Rattle.std.specs.Prelude.{codes}
use Rattle.expr_tree.specs.Tree.{Tree, string, symbol}
use Rattle.semantics.specs.declared.builtin.Builtin.{Builtin}
use Rattle.semantics.specs.Names.{name}
use Rattle.semantics.specs.Table.{row, worked}
use Rattle.journal.specs.declared.event.Wait.{Wait}
use Rattle.journal.specs.declared.event.Event.{Event}
use Rattle.journal.specs.declared.event.Entry.{Entry}
use Rattle.journal.specs.Run.{Reading, Out, legal, transcript}
use Rattle.worked_journals.proofs.Script.{setup, names, sym, int, list, of, equals, by, reads, x', lock', failed', share, submit, wait_all, section, alone_at, read, write}

-- x = 0; SetSharedVariable[x]; ParallelDo[CriticalSection[{lock}, x = x + 1], {2}, Method -> "FinestGrained"]; x
guarded : List Reading
guarded =
    reads (
    equals x' (int 0)
    ∷ share x'
    ∷ of Builtin.ParallelDo (
    of Builtin.CriticalSection (list (symbol lock' ∷ []) ∷ equals x' (of Builtin.Plus (x' ∷ int 1 ∷ [])) ∷ [])
    ∷ list (int 2 ∷ []) ∷ of Builtin.Rule (name names Builtin.Method ∷ string (codes "FinestGrained") ∷ []) ∷ [])
    ∷ x' ∷ [])

abbrev enters : ℕ → Entry
enters k = by k (Event.Enter (lock' ∷ []))

guarded_with : List Entry → List Entry
guarded_with between =
    by 0 (Event.Submit 1) ∷ by 0 (Event.Submit 2) ∷ by 0 (Event.Yield (Wait.All (1 ∷ 2 ∷ []))) ∷ by 1 (Event.Take 1) ∷ by 2 (Event.Take 2)
    ∷ between ++ by 0 Event.Resume ∷ by 0 Event.Close ∷ []

guarded_apart : List Entry
guarded_apart =
    guarded_with (
    enters 1 ∷ read 1 0 ∷ write 1 1 ∷ by 1 Event.Leave ∷ enters 2 ∷ by 1 (Event.Deliver 1 (list (int 1 ∷ [])))
    ∷ read 2 1 ∷ write 2 2 ∷ by 2 Event.Leave ∷ by 2 (Event.Deliver 2 (list (int 2 ∷ []))) ∷ [])

guarded_overlapping : List Entry
guarded_overlapping =
    guarded_with (
    enters 1 ∷ read 1 0 ∷ enters 2 ∷ write 1 1 ∷ by 1 Event.Leave ∷ by 1 (Event.Deliver 1 (list (int 1 ∷ [])))
    ∷ read 2 1 ∷ write 2 2 ∷ by 2 Event.Leave ∷ by 2 (Event.Deliver 2 (list (int 2 ∷ []))) ∷ [])

guarded_legal : legal (setup 2) [] guarded guarded_apart ≡ true
unfolding guarded guarded_with guarded_apart row worked
guarded_legal = refl

guarded_lines : transcript (setup 2) false guarded guarded_apart 4 ≡ Some (Out 1 (int 0) ∷ Out 4 (int 2) ∷ [])
unfolding guarded guarded_with guarded_apart row
guarded_lines = refl

-- the second Enter comes too early
guarded_refused : legal (setup 2) [] guarded guarded_overlapping ≡ false
unfolding guarded guarded_with guarded_overlapping row
guarded_refused = refl

-- WaitAll[ParallelSubmit[CriticalSection[{a}, CriticalSection[{b}, 1]]]]; the same with a twice
inner : List Reading
inner = reads (section (sym 0) (sym 1) ∷ section (sym 0) (sym 0) ∷ [])
  where
    section : Tree → Tree → Tree
    section a b = wait_all (submit (of Builtin.CriticalSection (list (a ∷ []) ∷ of Builtin.CriticalSection (list (b ∷ []) ∷ int 1 ∷ []) ∷ [])))

inner_journal : List Entry
inner_journal =
    by 0 (Event.Submit 1) ∷ by 0 (Event.Yield (Wait.All (1 ∷ [])))
    ∷ by 0 (Event.Take 1) ∷ by 0 (Event.Enter (record { base = 1000; number = 0 } ∷ [])) ∷ by 0 Event.Leave ∷ by 0 (Event.Deliver 1 failed') ∷ by 0 Event.Resume
    ∷ by 0 (Event.Submit 2) ∷ by 0 (Event.Yield (Wait.All (2 ∷ [])))
    ∷ by 0 (Event.Take 2) ∷ by 0 (Event.Enter (record { base = 1000; number = 0 } ∷ [])) ∷ by 0 Event.Leave ∷ by 0 (Event.Deliver 2 (int 1)) ∷ by 0 Event.Resume
    ∷ by 0 Event.Close ∷ []

inner_lines : transcript (setup 0) false inner inner_journal 2 ≡ Some (Out 1 failed' ∷ Out 2 (int 1) ∷ [])
unfolding inner inner_journal row worked
inner_lines = refl

inner_legal : legal (setup 0) [] inner inner_journal ≡ true
unfolding inner inner_journal row worked
inner_legal = refl

-- w = {ParallelSubmit[1], ParallelSubmit[CriticalSection[{lock}, 2]]}; WaitNext[w]; CriticalSection[{lock}, 3]; WaitAll[w]
lock_awaited : List Reading
lock_awaited =
    reads (
    equals w' (list (submit (int 1) ∷ submit (section (int 2)) ∷ []))
    ∷ of Builtin.WaitNext (w' ∷ [])
    ∷ section (int 3)
    ∷ wait_all w'
    ∷ [])
  where
    w' : Tree
    w' = sym 30

lock_awaited_journal : List Entry
lock_awaited_journal =
    by 0 (Event.Submit 1) ∷ by 0 (Event.Submit 2) ∷ by 0 (Event.Yield (Wait.Next (1 ∷ 2 ∷ [])))
    ∷ by 1 (Event.Take 1) ∷ by 2 (Event.Take 2) ∷ by 2 (Event.Enter (lock' ∷ [])) ∷ by 1 (Event.Deliver 1 (int 1)) ∷ by 0 Event.Resume
    ∷ by 0 (Event.Yield (Wait.Locks (lock' ∷ []))) ∷ by 2 Event.Leave ∷ by 0 Event.Resume ∷ by 0 (Event.Enter (lock' ∷ [])) ∷ by 0 Event.Leave
    ∷ by 0 (Event.Yield (Wait.All (1 ∷ 2 ∷ []))) ∷ by 2 (Event.Deliver 2 (int 2)) ∷ by 0 Event.Resume ∷ by 0 Event.Close ∷ []

lock_awaited_legal : legal (setup 2) [] lock_awaited lock_awaited_journal ≡ true
unfolding lock_awaited lock_awaited_journal row worked
lock_awaited_legal = refl

-- WaitAll[ParallelSubmit[ParallelSubmit[1]]]; WaitAll[ParallelSubmit[CriticalSection[{lock}, Quit[]]]]: the stand-in leaves the section
quitting_inside : List Reading
quitting_inside = reads (wait_all (submit (submit (int 1))) ∷ wait_all (submit (section (of Builtin.Quit []))) ∷ [])

quitting_inside_journal : List Entry
quitting_inside_journal =
    alone_at 1 failed'
    ++ by 0 (Event.Submit 2) ∷ by 0 (Event.Yield (Wait.All (2 ∷ []))) ∷ by 0 (Event.Take 2) ∷ by 0 (Event.Enter (lock' ∷ [])) ∷ by 0 Event.Leave
    ∷ by 0 (Event.Deliver 2 (name names Builtin.Aborted)) ∷ by 0 Event.Resume ∷ by 0 Event.Close ∷ []

quitting_inside_legal : legal (setup 0) [] quitting_inside quitting_inside_journal ≡ true
unfolding quitting_inside quitting_inside_journal row worked
quitting_inside_legal = refl

quitting_inside_lines : transcript (setup 0) false quitting_inside quitting_inside_journal 2 ≡ Some (Out 1 failed' ∷ Out 2 (name names Builtin.Aborted) ∷ [])
unfolding quitting_inside quitting_inside_journal row worked
quitting_inside_lines = refl
