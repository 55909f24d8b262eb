-- Throws that nothing catches: in an item, in a batch, in a service.
use Rattle.std.proofs.Common.{◌≡◌, refl, true, false, List, [], ◌∷◌, Some}
use Rattle.expr_tree.specs.Tree.{Tree, call}
use Rattle.semantics.specs.declared.builtin.Builtin.{Builtin}
use Rattle.semantics.specs.Table.{row, worked}
use Rattle.semantics.specs.Match.{matches}
use Rattle.journal.specs.declared.event.Wait.{Wait}
use Rattle.journal.specs.declared.event.Event.{Event}
use Rattle.journal.specs.declared.event.Entry.{Entry}
use Rattle.journal.specs.Run.{Reading, Out, legal, transcript}
use Rattle.worked_journals.proofs.Script.{setup, int, list, of, by, reads, f', x', lock', submit, wait_all, section}

abbrev throw : Tree → Tree
throw e = of Builtin.Throw (e ∷ [])

abbrev shown : Tree → Tree
shown e = of Builtin.Hold (throw e ∷ [])

-- WaitAll[ParallelSubmit[CriticalSection[{lock}, Throw[1]]]]: the section is left, and the throw is delivered
thrown_inside : List Reading
thrown_inside = reads (wait_all (submit (section (throw (int 1)))) ∷ [])

thrown_inside_journal : List Entry
thrown_inside_journal =
    by 0 (Event.Submit 1) ∷ by 0 (Event.Yield (Wait.All (1 ∷ []))) ∷ by 0 (Event.Take 1) ∷ by 0 (Event.Enter (lock' ∷ [])) ∷ by 0 Event.Leave
    ∷ by 0 (Event.Deliver 1 (shown (int 1))) ∷ by 0 Event.Resume ∷ by 0 Event.Close ∷ []

thrown_inside_legal : legal (setup 0) [] thrown_inside thrown_inside_journal ≡ true
unfolding thrown_inside thrown_inside_journal row worked
thrown_inside_legal = refl

thrown_inside_lines : transcript (setup 0) false thrown_inside thrown_inside_journal 1 ≡ Some (Out 1 (shown (int 1)) ∷ [])
unfolding thrown_inside thrown_inside_journal row worked
thrown_inside_lines = refl

-- Catch[ParallelMap[Throw, {1, 2}]]: a throw on a kernel does not pass into the master
caught : List Reading
caught = reads (of Builtin.Catch (of Builtin.ParallelMap (of Builtin.Function (throw (of Builtin.Slot (int 1 ∷ [])) ∷ []) ∷ list (int 1 ∷ int 2 ∷ []) ∷ []) ∷ []) ∷ [])

caught_journal : List Entry
caught_journal =
    by 0 (Event.Submit 1) ∷ by 0 (Event.Yield (Wait.All (1 ∷ []))) ∷ by 1 (Event.Take 1) ∷ by 1 (Event.Deliver 1 (list (shown (int 1) ∷ shown (int 2) ∷ []))) ∷ by 0 Event.Resume
    ∷ by 0 Event.Close ∷ []

caught_legal : legal (setup 1) [] caught caught_journal ≡ true
unfolding caught caught_journal row worked
caught_legal = refl

-- f[x_] := Throw[x]; SetSharedFunction[f]; WaitAll[ParallelSubmit[f[3]]]: what the service throws is its reply
served_throw : List Reading
served_throw =
    reads (
    of Builtin.SetDelayed (call f' (of Builtin.Pattern (x' ∷ of Builtin.Blank [] ∷ []) ∷ []) ∷ throw x' ∷ [])
    ∷ of Builtin.SetSharedFunction (f' ∷ [])
    ∷ wait_all (submit (call f' (int 3 ∷ [])))
    ∷ [])

served_throw_journal : List Entry
served_throw_journal =
    by 0 (Event.Submit 1) ∷ by 0 (Event.Yield (Wait.All (1 ∷ []))) ∷ by 1 (Event.Take 1) ∷ by 1 (Event.Access (call f' (int 3 ∷ [])) (shown (int 3))) ∷ by 1 (Event.Deliver 1 (shown (int 3)))
    ∷ by 0 Event.Resume ∷ by 0 Event.Close ∷ []

served_throw_legal : legal (setup 1) [] served_throw served_throw_journal ≡ true
unfolding served_throw served_throw_journal row worked matches
served_throw_legal = refl
