-- The parallel forms of a cell: values in place order whatever the interleaving, methods, several iterators, the first success, the first result.
use Rattle.std.proofs.Common.{◌≡◌, refl, ℕ, true, false, List, [], ◌∷◌, ◌++◌, Some}
use Rattle.std.specs.Prelude.{codes}
use Rattle.expr_tree.specs.Tree.{Tree, call}
use Rattle.semantics.specs.declared.builtin.Builtin.{Builtin}
use Rattle.semantics.specs.Names.{name}
use Rattle.semantics.specs.Table.{row, worked}
use Rattle.semantics.specs.Match.{matches}
use Rattle.journal.specs.declared.event.Wait.{Wait}
use Rattle.journal.specs.declared.event.Event.{Event}
use Rattle.journal.specs.declared.event.Entry.{Entry}
use Rattle.journal.specs.Run.{Reading, Out, legal, transcript}
use Rattle.worked_journals.proofs.Script.{setup, names, sym, int, list, of, equals, by, reads, f', x', object, failed', submit, wait_all, method, alone_at, everywhere}

-- f[x_] := x x; ParallelMap[f, {1, 2, 3}]
squares : List Reading
squares =
    reads (
    of Builtin.SetDelayed (call f' (of Builtin.Pattern (x' ∷ of Builtin.Blank [] ∷ []) ∷ []) ∷ of Builtin.Times (x' ∷ x' ∷ []) ∷ [])
    ∷ of Builtin.ParallelMap (f' ∷ list (int 1 ∷ int 2 ∷ int 3 ∷ []) ∷ [])
    ∷ [])

squares_begun : List Entry
squares_begun = by 0 (Event.Submit 1) ∷ by 0 (Event.Submit 2) ∷ by 0 (Event.Yield (Wait.All (1 ∷ 2 ∷ []))) ∷ []

squares_ended : List Entry
squares_ended = by 0 Event.Resume ∷ by 0 Event.Close ∷ []

squares_in_order : List Entry
squares_in_order =
    squares_begun ++ by 1 (Event.Take 1) ∷ by 2 (Event.Take 2) ∷ by 1 (Event.Deliver 1 (list (int 1 ∷ int 4 ∷ []))) ∷ by 2 (Event.Deliver 2 (list (int 9 ∷ []))) ∷ squares_ended

squares_other : List Entry
squares_other =
    squares_begun ++ by 2 (Event.Take 1) ∷ by 1 (Event.Take 2) ∷ by 1 (Event.Deliver 2 (list (int 9 ∷ []))) ∷ by 2 (Event.Deliver 1 (list (int 1 ∷ int 4 ∷ []))) ∷ squares_ended

squares_legal : legal (setup 2) [] squares squares_in_order ≡ true
unfolding squares squares_begun squares_ended squares_in_order row worked matches
squares_legal = refl

squares_legal_too : legal (setup 2) [] squares squares_other ≡ true
unfolding squares squares_begun squares_ended squares_other row worked matches
squares_legal_too = refl

-- place order, whatever the interleaving
squares_lines : transcript (setup 2) false squares squares_in_order 2 ≡ Some (Out 2 (list (int 1 ∷ int 4 ∷ int 9 ∷ [])) ∷ [])
unfolding squares squares_begun squares_ended squares_in_order row worked
squares_lines = refl

squares_lines_too : transcript (setup 2) false squares squares_other 2 ≡ Some (Out 2 (list (int 1 ∷ int 4 ∷ int 9 ∷ [])) ∷ [])
unfolding squares squares_begun squares_ended squares_other row worked
squares_lines_too = refl

-- ParallelTry[If[# > 2, #, $Failed] &, {1, 2, 3}]: the third is delivered first, and the others are dropped
tried : List Reading
tried =
    reads (
    of Builtin.ParallelTry (
    of Builtin.Function (of Builtin.If (of Builtin.Greater (of Builtin.Slot (int 1 ∷ []) ∷ int 2 ∷ []) ∷ of Builtin.Slot (int 1 ∷ []) ∷ failed' ∷ []) ∷ [])
    ∷ list (int 1 ∷ int 2 ∷ int 3 ∷ []) ∷ [])
    ∷ [])

tried_journal : List Entry
tried_journal =
    by 0 (Event.Submit 1) ∷ by 0 (Event.Submit 2) ∷ by 0 (Event.Submit 3) ∷ by 0 (Event.Yield (Wait.Try (1 ∷ 2 ∷ 3 ∷ [])))
    ∷ by 1 (Event.Take 1) ∷ by 2 (Event.Take 2) ∷ by 1 (Event.Deliver 1 failed') ∷ by 1 (Event.Take 3) ∷ by 1 (Event.Deliver 3 (int 3))
    ∷ by 0 Event.Resume ∷ by 0 Event.Close ∷ []

tried_legal : legal (setup 2) [] tried tried_journal ≡ true
unfolding tried tried_journal row worked
tried_legal = refl

tried_lines : transcript (setup 2) false tried tried_journal 1 ≡ Some (Out 1 (int 3) ∷ [])
unfolding tried tried_journal row worked
tried_lines = refl

-- w = {ParallelSubmit[1 + 1], ParallelSubmit[2 + 2]}; WaitNext[w]; WaitAll[w]
next : List Reading
next = reads (equals w' (list (submit (plus 1) ∷ submit (plus 2) ∷ [])) ∷ of Builtin.WaitNext (w' ∷ []) ∷ wait_all w' ∷ [])
  where
    w' : Tree
    w' = sym 30

    plus : ℕ → Tree
    plus k = of Builtin.Plus (int k ∷ int k ∷ [])

next_journal : List Entry
next_journal =
    by 0 (Event.Submit 1) ∷ by 0 (Event.Submit 2) ∷ by 0 (Event.Yield (Wait.Next (1 ∷ 2 ∷ [])))
    ∷ by 0 (Event.Take 1) ∷ by 0 (Event.Deliver 1 (int 2)) ∷ by 0 Event.Resume
    ∷ by 0 (Event.Yield (Wait.All (1 ∷ 2 ∷ []))) ∷ by 0 (Event.Take 2) ∷ by 0 (Event.Deliver 2 (int 4)) ∷ by 0 Event.Resume
    ∷ by 0 Event.Close ∷ []

next_legal : legal (setup 0) [] next next_journal ≡ true
unfolding next next_journal row worked
next_legal = refl

next_lines :
    transcript (setup 0) false next next_journal 3
    ≡ Some (Out 1 (list (object 1 ∷ object 2 ∷ [])) ∷ Out 2 (list (int 2 ∷ object 1 ∷ list (object 2 ∷ []) ∷ [])) ∷ Out 3 (list (int 2 ∷ int 4 ∷ [])) ∷ [])
unfolding next next_journal row worked
next_lines = refl

-- ParallelCombine[Length, {a, b, c, d, e}, List] with two kernels
combined : List Reading
combined = reads (of Builtin.ParallelCombine (name names Builtin.Length ∷ list (sym 0 ∷ sym 1 ∷ sym 2 ∷ sym 3 ∷ sym 4 ∷ []) ∷ name names Builtin.List ∷ []) ∷ [])

combined_journal : List Entry
combined_journal =
    by 0 (Event.Submit 1) ∷ by 0 (Event.Submit 2) ∷ by 0 (Event.Yield (Wait.All (1 ∷ 2 ∷ [])))
    ∷ by 2 (Event.Take 1) ∷ by 2 (Event.Deliver 1 (int 3)) ∷ by 2 (Event.Take 2) ∷ by 2 (Event.Deliver 2 (int 2)) ∷ by 0 Event.Resume ∷ by 0 Event.Close ∷ []

combined_legal : legal (setup 2) [] combined combined_journal ≡ true
unfolding combined combined_journal row worked
combined_legal = refl

combined_lines : transcript (setup 2) false combined combined_journal 1 ≡ Some (Out 1 (list (int 3 ∷ int 2 ∷ [])) ∷ [])
unfolding combined combined_journal row worked
combined_lines = refl

-- ParallelEvaluate[$KernelID] with no kernels, and with three
everywhere_alone_legal : legal (setup 0) [] everywhere (by 0 Event.Close ∷ []) ≡ true
unfolding everywhere row worked
everywhere_alone_legal = refl

everywhere_alone_lines : transcript (setup 0) false everywhere (by 0 Event.Close ∷ []) 1 ≡ Some (Out 1 (list []) ∷ [])
unfolding everywhere row worked
everywhere_alone_lines = refl

everywhere_journal : List Entry
everywhere_journal =
    by 0 (Event.Submit 1) ∷ by 0 (Event.Submit 2) ∷ by 0 (Event.Submit 3) ∷ by 0 (Event.Yield (Wait.All (1 ∷ 2 ∷ 3 ∷ [])))
    ∷ by 2 (Event.Take 2) ∷ by 3 (Event.Take 3) ∷ by 3 (Event.Deliver 3 (int 3)) ∷ by 1 (Event.Take 1) ∷ by 1 (Event.Deliver 1 (int 1)) ∷ by 2 (Event.Deliver 2 (int 2))
    ∷ by 0 Event.Resume ∷ by 0 Event.Close ∷ []

everywhere_legal : legal (setup 3) [] everywhere everywhere_journal ≡ true
unfolding everywhere everywhere_journal row worked
everywhere_legal = refl

everywhere_lines : transcript (setup 3) false everywhere everywhere_journal 1 ≡ Some (Out 1 (list (int 1 ∷ int 2 ∷ int 3 ∷ [])) ∷ [])
unfolding everywhere everywhere_journal row worked
everywhere_lines = refl

-- ParallelSum[i j, {i, 2}, {j, 2}]; ParallelTable[i + j, {i, 2}, {j, 2}]; ParallelSum[i, {i, 4}]
loops : List Reading
loops =
    reads (
    of Builtin.ParallelSum (of Builtin.Times (i ∷ j ∷ []) ∷ list (i ∷ int 2 ∷ []) ∷ list (j ∷ int 2 ∷ []) ∷ [])
    ∷ of Builtin.ParallelTable (of Builtin.Plus (i ∷ j ∷ []) ∷ list (i ∷ int 2 ∷ []) ∷ list (j ∷ int 2 ∷ []) ∷ [])
    ∷ of Builtin.ParallelSum (i ∷ list (i ∷ int 4 ∷ []) ∷ [])
    ∷ [])
  where
    i : Tree
    i = sym 13

    j : Tree
    j = sym 14

loops_journal : List Entry
loops_journal =
    alone_at 1 (list (int 3 ∷ int 6 ∷ []))
    ++ alone_at 2 (list (list (int 2 ∷ int 3 ∷ []) ∷ list (int 3 ∷ int 4 ∷ []) ∷ []))
    ++ alone_at 3 (list (int 1 ∷ int 2 ∷ int 3 ∷ int 4 ∷ [])) ++ by 0 Event.Close ∷ []

loops_legal : legal (setup 0) [] loops loops_journal ≡ true
unfolding loops loops_journal row worked
loops_legal = refl

loops_lines :
    transcript (setup 0) false loops loops_journal 3
    ≡ Some (Out 1 (int 9) ∷ Out 2 (list (list (int 2 ∷ int 3 ∷ []) ∷ list (int 3 ∷ int 4 ∷ []) ∷ [])) ∷ Out 3 (int 10) ∷ [])
unfolding loops loops_journal row worked
loops_lines = refl

-- ParallelMap[f, h[1, 2], Method -> "FinestGrained"]; ParallelMap[f, 5]; ParallelMap[f, {1}, Method -> "Other"]; ParallelMap[f, {}]
maps : List Reading
maps =
    reads (
    of Builtin.ParallelMap (f' ∷ call (sym 5) (int 1 ∷ int 2 ∷ []) ∷ method (codes "FinestGrained") ∷ [])
    ∷ of Builtin.ParallelMap (f' ∷ int 5 ∷ [])
    ∷ of Builtin.ParallelMap (f' ∷ list (int 1 ∷ []) ∷ method (codes "Other") ∷ [])
    ∷ of Builtin.ParallelMap (f' ∷ list [] ∷ [])
    ∷ [])

maps_journal : List Entry
maps_journal =
    by 0 (Event.Submit 1) ∷ by 0 (Event.Submit 2) ∷ by 0 (Event.Yield (Wait.All (1 ∷ 2 ∷ [])))
    ∷ by 0 (Event.Take 1) ∷ by 0 (Event.Deliver 1 (list (call f' (int 1 ∷ []) ∷ []))) ∷ by 0 (Event.Take 2) ∷ by 0 (Event.Deliver 2 (list (call f' (int 2 ∷ []) ∷ [])))
    ∷ by 0 Event.Resume ∷ by 0 Event.Close ∷ []

maps_legal : legal (setup 0) [] maps maps_journal ≡ true
unfolding maps maps_journal row worked
maps_legal = refl

maps_lines :
    transcript (setup 0) false maps maps_journal 4
    ≡ Some (Out 1 (call (sym 5) (call f' (int 1 ∷ []) ∷ call f' (int 2 ∷ []) ∷ [])) ∷ Out 2 (int 5) ∷ Out 3 failed' ∷ Out 4 (list []) ∷ [])
unfolding maps maps_journal row worked
maps_lines = refl
