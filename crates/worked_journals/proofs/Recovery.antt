-- Losses: an item that waits again, a kernel that quits, one that was not started, a pinned item, and recovery by abandoning.
use Rattle.std.proofs.Common.{◌≡◌, refl, true, false, List, [], ◌∷◌, ◌++◌, Some}
use Rattle.expr_tree.specs.Tree.{Tree, call}
use Rattle.semantics.specs.declared.builtin.Builtin.{Builtin}
use Rattle.semantics.specs.Names.{name}
use Rattle.semantics.specs.Table.{row, worked}
use Rattle.journal.specs.declared.loss.Loss.{Loss}
use Rattle.journal.specs.declared.event.Wait.{Wait}
use Rattle.journal.specs.declared.event.Event.{Event}
use Rattle.journal.specs.declared.event.Entry.{Entry}
use Rattle.journal.specs.Run.{Reading, Out, legal, started, transcript}
use Rattle.worked_journals.proofs.Script.{setup, abandoning, names, int, list, of, equals, by, reads, n', f', failed', aborted', increment, share, submit, wait_all, then, alone_at, everywhere}

-- n = 0; SetSharedVariable[n]; WaitAll[ParallelSubmit[n++; 7]]; n
counted : List Reading
counted = reads (equals n' (int 0) ∷ share n' ∷ wait_all (submit (then (increment n') (int 7))) ∷ n' ∷ [])

-- with one kernel, which is lost at its third entry: the effect came twice, the result once
counted_again : Tree → List Entry
counted_again second =
    by 0 (Event.Submit 1)
    ∷ by 0 (Event.Yield (Wait.All (1 ∷ [])))
    ∷ by 1 (Event.Take 1)
    ∷ by 1 (Event.Access (increment n') (int 0))
    ∷ by 1 (Event.Lose Loss.Plan)
    ∷ by 0 (Event.Take 1)
    ∷ by 0 (Event.Access (increment n') second)
    ∷ by 0 (Event.Deliver 1 (int 7))
    ∷ by 0 Event.Resume
    ∷ by 0 Event.Close
    ∷ []

retried_legal : legal (setup 1) ((1, 3) ∷ []) counted (counted_again (int 1)) ≡ true
unfolding counted counted_again row worked
retried_legal = refl

retried_lines : transcript (setup 1) false counted (counted_again (int 1)) 4 ≡ Some (Out 1 (int 0) ∷ Out 3 (int 7) ∷ Out 4 (int 2) ∷ [])
unfolding counted counted_again row worked
retried_lines = refl

-- another reply of the second access
another_reply : legal (setup 1) ((1, 3) ∷ []) counted (counted_again (int 0)) ≡ false
unfolding counted counted_again row worked
another_reply = refl

-- the same journal where the plan names no loss
unplanned_loss : legal (setup 1) [] counted (counted_again (int 1)) ≡ false
unfolding counted counted_again row worked
unplanned_loss = refl

-- WaitAll[ParallelSubmit[Quit[]]]; $KernelCount
quitting : List Reading
quitting = reads (wait_all (submit (of Builtin.Quit [])) ∷ name names Builtin.KernelCount ∷ [])

quitting_journal : List Entry
quitting_journal =
    by 0 (Event.Submit 1) ∷ by 0 (Event.Yield (Wait.All (1 ∷ [])))
    ∷ by 2 (Event.Take 1) ∷ by 2 (Event.Lose Loss.Quit) ∷ by 1 (Event.Take 1) ∷ by 1 (Event.Lose Loss.Quit)
    ∷ by 0 (Event.Take 1) ∷ by 0 (Event.Deliver 1 aborted')
    ∷ by 0 Event.Resume ∷ by 0 (Event.Ask 0) ∷ by 0 Event.Close ∷ []

quitting_legal : legal (setup 2) [] quitting quitting_journal ≡ true
unfolding quitting quitting_journal row worked
quitting_legal = refl

quitting_lines : transcript (setup 2) false quitting quitting_journal 2 ≡ Some (Out 1 aborted' ∷ Out 2 (int 0) ∷ [])
unfolding quitting quitting_journal row worked
quitting_lines = refl

-- ParallelEvaluate[$KernelID]: kernel 2 is lost before it takes its item
everywhere_journal : List Entry
everywhere_journal =
    by 0 (Event.Submit 1) ∷ by 0 (Event.Submit 2) ∷ by 0 (Event.Submit 3) ∷ by 0 (Event.Yield (Wait.All (1 ∷ 2 ∷ 3 ∷ [])))
    ∷ by 2 (Event.Lose Loss.Plan) ∷ by 3 (Event.Take 3) ∷ by 1 (Event.Take 1) ∷ by 1 (Event.Deliver 1 (int 1)) ∷ by 3 (Event.Deliver 3 (int 3))
    ∷ by 0 Event.Resume ∷ by 0 Event.Close ∷ []

everywhere_legal : legal (setup 3) ((2, 1) ∷ []) everywhere everywhere_journal ≡ true
unfolding everywhere everywhere_journal row worked
everywhere_legal = refl

everywhere_lines : transcript (setup 3) false everywhere everywhere_journal 1 ≡ Some (Out 1 (list (int 1 ∷ failed' ∷ int 3 ∷ [])) ∷ [])
unfolding everywhere everywhere_journal row worked
everywhere_lines = refl

-- ParallelMap[f, {1, 2}]
mapped : List Reading
mapped = reads (of Builtin.ParallelMap (f' ∷ list (int 1 ∷ int 2 ∷ []) ∷ []) ∷ [])

mapped_journal : List Entry
mapped_journal = by 0 (Event.Submit 1) ∷ by 0 (Event.Yield (Wait.All (1 ∷ []))) ∷ by 1 (Event.Take 1) ∷ by 1 (Event.Lose Loss.Plan) ∷ by 0 Event.Resume ∷ by 0 Event.Close ∷ []

not_started : List Entry
not_started =
    by 1 (Event.Lose Loss.NotStarted) ∷ by 0 (Event.Submit 1) ∷ by 0 (Event.Yield (Wait.All (1 ∷ []))) ∷ by 2 (Event.Take 1)
    ∷ by 2 (Event.Deliver 1 (list (call f' (int 1 ∷ []) ∷ call f' (int 2 ∷ []) ∷ []))) ∷ by 0 Event.Resume ∷ by 0 Event.Close ∷ []

not_started_legal : legal (setup 2) [] mapped not_started ≡ true
unfolding mapped not_started row worked
not_started_legal = refl

-- a kernel that takes an item although the plan names its first entry
plan_ignored : legal (setup 2) ((2, 1) ∷ []) mapped not_started ≡ false
unfolding mapped not_started row worked
plan_ignored = refl

lost_journal : List Entry
lost_journal =
    by 0 (Event.Submit 1) ∷ by 0 (Event.Yield (Wait.All (1 ∷ []))) ∷ by 1 (Event.Take 1) ∷ by 1 (Event.Access (increment n') (int 0)) ∷ by 1 (Event.Lose Loss.Plan)
    ∷ by 0 Event.Resume ∷ by 0 Event.Close ∷ []

abandoned : transcript (abandoning 1) false counted lost_journal 4 ≡ Some (Out 1 (int 0) ∷ Out 3 failed' ∷ Out 4 (int 1) ∷ [])
unfolding counted lost_journal row worked
abandoned = refl

abandoned_legal : legal (abandoning 1) ((1, 3) ∷ []) counted lost_journal ≡ true
unfolding counted lost_journal row worked
abandoned_legal = refl

-- the same journal is not legal where a lost item waits again
abandoned_unasked : legal (setup 1) ((1, 3) ∷ []) counted lost_journal ≡ false
unfolding counted lost_journal row worked
abandoned_unasked = refl

batch_abandoned : transcript (abandoning 1) false mapped mapped_journal 1 ≡ Some (Out 1 (list (failed' ∷ failed' ∷ [])) ∷ [])
unfolding mapped mapped_journal row worked
batch_abandoned = refl

batch_abandoned_legal : legal (abandoning 1) ((1, 2) ∷ []) mapped mapped_journal ≡ true
unfolding mapped mapped_journal row worked
batch_abandoned_legal = refl

-- kernel 2 reaches Quit[], and its item is given up
given_up_journal : List Entry
given_up_journal =
    by 0 (Event.Submit 1) ∷ by 0 (Event.Yield (Wait.All (1 ∷ []))) ∷ by 2 (Event.Take 1) ∷ by 2 (Event.Lose Loss.Quit) ∷ by 0 Event.Resume ∷ by 0 (Event.Ask 1) ∷ by 0 Event.Close ∷ []

given_up_legal : legal (abandoning 2) [] quitting given_up_journal ≡ true
unfolding quitting given_up_journal row worked
given_up_legal = refl

given_up_lines : transcript (abandoning 2) false quitting given_up_journal 2 ≡ Some (Out 1 failed' ∷ Out 2 (int 1) ∷ [])
unfolding quitting given_up_journal row worked
given_up_lines = refl

-- the journal of a run that recovers so is none of one that retries, and the other way round
given_up_unasked : legal (setup 2) [] quitting given_up_journal ≡ false
unfolding quitting given_up_journal row worked
given_up_unasked = refl

retried_unasked : legal (abandoning 2) [] quitting quitting_journal ≡ false
unfolding quitting quitting_journal row worked
retried_unasked = refl

-- with no kernels: WaitAll[ParallelSubmit[Quit[]]]; $KernelCount
quitting_alone : List Entry
quitting_alone = alone_at 1 aborted' ++ by 0 (Event.Ask 0) ∷ by 0 Event.Close ∷ []

quitting_alone_legal : legal (setup 0) [] quitting quitting_alone ≡ true
unfolding quitting quitting_alone row worked
quitting_alone_legal = refl

quitting_alone_lines : transcript (setup 0) false quitting quitting_alone 2 ≡ Some (Out 1 aborted' ∷ Out 2 (int 0) ∷ [])
unfolding quitting quitting_alone row worked
quitting_alone_lines = refl

-- ---- what a kernel may not post

-- it did not reach Quit[]
no_quit : List Entry
no_quit =
    by 0 (Event.Submit 1) ∷ by 0 (Event.Yield (Wait.All (1 ∷ []))) ∷ by 1 (Event.Take 1) ∷ by 1 (Event.Lose Loss.Quit) ∷ by 0 (Event.Take 1)
    ∷ by 0 (Event.Deliver 1 (list (call f' (int 1 ∷ []) ∷ call f' (int 2 ∷ []) ∷ []))) ∷ by 0 Event.Resume ∷ by 0 Event.Close ∷ []

no_quit_illegal : legal (setup 1) [] mapped no_quit ≡ false
unfolding mapped no_quit row worked
no_quit_illegal = refl

-- the same where the plan names its second entry
planned_instead : legal (setup 1) ((1, 2) ∷ []) mapped no_quit ≡ false
unfolding mapped no_quit row worked
planned_instead = refl

-- another value than that of the item
another_value : List Entry
another_value = by 0 (Event.Submit 1) ∷ by 0 (Event.Yield (Wait.All (1 ∷ []))) ∷ by 1 (Event.Take 1) ∷ by 1 (Event.Deliver 1 (int 8)) ∷ by 0 Event.Resume ∷ by 0 Event.Close ∷ []

another_value_illegal : legal (setup 1) [] (reads (wait_all (submit (int 7)) ∷ [])) another_value ≡ false
unfolding another_value row worked
another_value_illegal = refl

-- it was started: it posts, and then says that it was not
started_before : List Entry
started_before =
    by 0 (Event.Submit 1) ∷ by 0 (Event.Yield (Wait.All (1 ∷ []))) ∷ by 1 (Event.Take 1) ∷ by 1 (Event.Lose Loss.NotStarted) ∷ by 0 (Event.Take 1)
    ∷ by 0 (Event.Deliver 1 (int 7)) ∷ by 0 Event.Resume ∷ by 0 Event.Close ∷ []

started_before_illegal : legal (setup 1) [] (reads (wait_all (submit (int 7)) ∷ [])) started_before ≡ false
unfolding started_before row worked
started_before_illegal = refl

-- ---- journals that end sooner

-- up to the loss, and with another entry of the master there
begun_counted : List Entry
begun_counted = by 0 (Event.Submit 1) ∷ by 0 (Event.Yield (Wait.All (1 ∷ []))) ∷ by 1 (Event.Take 1) ∷ by 1 (Event.Access (increment n') (int 0)) ∷ by 1 (Event.Lose Loss.Plan) ∷ []

begun_started : started (setup 1) ((1, 3) ∷ []) counted begun_counted ≡ true
unfolding counted begun_counted row worked
begun_started = refl

begun_illegal : legal (setup 1) ((1, 3) ∷ []) counted begun_counted ≡ false
unfolding counted begun_counted row worked
begun_illegal = refl

closed_too_early : started (setup 1) [] counted (by 0 Event.Close ∷ []) ≡ false
unfolding counted row worked
closed_too_early = refl
