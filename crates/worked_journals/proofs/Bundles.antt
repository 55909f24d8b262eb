-- What an item takes with it, and what DistributeDefinitions adds to that.
use Rattle.std.proofs.Common.{◌≡◌, refl, true, false, List, [], ◌∷◌, Some}
use Rattle.expr_tree.specs.Tree.{Tree, symbol, call}
use Rattle.semantics.specs.declared.builtin.Builtin.{Builtin}
use Rattle.semantics.specs.Table.{row, worked}
use Rattle.semantics.specs.Match.{matches}
use Rattle.journal.specs.declared.event.Wait.{Wait}
use Rattle.journal.specs.declared.event.Event.{Event}
use Rattle.journal.specs.declared.event.Entry.{Entry}
use Rattle.journal.specs.Run.{Reading, Out, legal, transcript}
use Rattle.worked_journals.proofs.Script.{setup, sym, int, of, equals, by, reads, x', submit, wait_all}

-- k = 3; g[x_] := x + k; WaitAll[ParallelSubmit[g[1]]]; DistributeDefinitions[g]; WaitAll[ParallelSubmit[g[2]]]
bundled : List Reading
bundled =
    reads (
    equals k' (int 3)
    ∷ of Builtin.SetDelayed (call g' (of Builtin.Pattern (x' ∷ of Builtin.Blank [] ∷ []) ∷ []) ∷ of Builtin.Plus (x' ∷ k' ∷ []) ∷ [])
    ∷ wait_all (submit (call g' (int 1 ∷ [])))
    ∷ of Builtin.DistributeDefinitions (g' ∷ [])
    ∷ wait_all (submit (call g' (int 2 ∷ [])))
    ∷ [])
  where
    k' : Tree
    k' = sym 31

    g' : Tree
    g' = sym 4

bundled_journal : List Entry
bundled_journal =
    by 0 (Event.Submit 1) ∷ by 0 (Event.Yield (Wait.All (1 ∷ []))) ∷ by 0 (Event.Take 1) ∷ by 0 (Event.Deliver 1 (int 4)) ∷ by 0 Event.Resume
    ∷ by 0 (Event.Submit 2) ∷ by 0 (Event.Yield (Wait.All (2 ∷ []))) ∷ by 0 (Event.Take 2) ∷ by 0 (Event.Deliver 2 (int 5)) ∷ by 0 Event.Resume
    ∷ by 0 Event.Close ∷ []

bundled_legal : legal (setup 0) [] bundled bundled_journal ≡ true
unfolding bundled bundled_journal row worked matches
bundled_legal = refl

bundled_lines : transcript (setup 0) false bundled bundled_journal 5 ≡ Some (Out 1 (int 3) ∷ Out 3 (int 4) ∷ Out 5 (int 5) ∷ [])
unfolding bundled bundled_journal row worked matches
bundled_lines = refl

-- Module[{x}, Hold[x]]; WaitAll[ParallelSubmit[Module[{x}, x]]]; Module[{x}, x]: the kernel takes the number of the bundle, and the master goes on by itself
numbered : List Reading
numbered = reads (module_of (of Builtin.Hold (x' ∷ [])) ∷ wait_all (submit (module_of x')) ∷ module_of x' ∷ [])
  where
    module_of : Tree → Tree
    module_of e = of Builtin.Module (of Builtin.List (x' ∷ []) ∷ e ∷ [])

second_x : Tree
second_x = symbol (record { base = 1007; number = 2 })

numbered_journal : List Entry
numbered_journal =
    by 0 (Event.Submit 1) ∷ by 0 (Event.Yield (Wait.All (1 ∷ []))) ∷ by 0 (Event.Take 1) ∷ by 0 (Event.Deliver 1 second_x) ∷ by 0 Event.Resume ∷ by 0 Event.Close ∷ []

numbered_legal : legal (setup 0) [] numbered numbered_journal ≡ true
unfolding numbered second_x numbered_journal row worked
numbered_legal = refl

numbered_lines :
    transcript (setup 0) false numbered numbered_journal 3
    ≡ Some (Out 1 (of Builtin.Hold (symbol (record { base = 1007; number = 1 }) ∷ [])) ∷ Out 2 second_x ∷ Out 3 second_x ∷ [])
unfolding numbered second_x numbered_journal row worked
numbered_lines = refl
