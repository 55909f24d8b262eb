-- For each guard of the replay, entries that stand and one more that it refuses.
use Rattle.std.proofs.Common.{◌≡◌, refl, ℕ, true, List, [], ◌∷◌, ◌++◌, None}
use Rattle.expr_tree.specs.declared.sym.Sym.{Sym}
use Rattle.expr_tree.specs.Tree.{Tree}
use Rattle.semantics.specs.declared.builtin.Builtin.{Builtin}
use Rattle.semantics.specs.Names.{name}
use Rattle.semantics.specs.Definitions.{empty}
use Rattle.semantics.specs.Table.{row, worked}
use Rattle.journal.specs.declared.loss.Loss.{Loss}
use Rattle.journal.specs.Places.{given, is_some}
use Rattle.journal.specs.Closure.{bundle, symbols_of}
use Rattle.journal.specs.declared.event.Wait.{Wait}
use Rattle.journal.specs.declared.event.Event.{Event}
use Rattle.journal.specs.declared.item.Item.{Item}
use Rattle.journal.specs.Entry.{Handed, Posted}
use Rattle.journal.specs.Core.{Setup, step, replay}
use Rattle.worked_journals.proofs.Script.{setup, names, sym, int, by}

-- the entries may be posted, and this one not after them
abbrev Refused : Setup → List Posted → Posted → Type 0
Refused set ps p = (is_some (replay set ps) ≡ true) × (given (replay set ps) (λ c. step set c p) ≡ None)

abbrev a' : Sym
a' = record { base = 1000; number = 0 }

abbrev b' : Sym
b' = record { base = 1001; number = 0 }

abbrev plain : ℕ → Event → Posted
plain k event = record { entry = by k event; handed = Handed.Nothing }

abbrev given_in : ℕ → ℕ → Item → Tree → Posted
given_in k id item e = record { entry = by k (Event.Submit id); handed = Handed.Given item (bundle names empty (symbols_of e)) }

abbrev submits : ℕ → Posted
submits id = given_in 0 id (Item.Plain (sym 5)) (sym 5)

-- an item for one kernel alone
abbrev pins : ℕ → ℕ → Posted
pins id k = given_in 0 id (Item.Pinned k (sym 5)) (sym 5)

abbrev yields : Wait → Posted
yields w = record { entry = by 0 (Event.Yield w); handed = Handed.Lent empty }

abbrev both : Wait
both = Wait.All (1 ∷ 2 ∷ [])

abbrev one : List Posted
one = submits 1 ∷ []

abbrev waiting : List Posted
waiting = submits 1 ∷ submits 2 ∷ yields both ∷ []

-- kernel 1 runs the first item
abbrev running : List Posted
running = waiting ++ plain 1 (Event.Take 1) ∷ []

abbrev inside : List Posted
inside = running ++ plain 1 (Event.Enter (a' ∷ [])) ∷ []

-- with no kernels: the stand-in runs the first item
abbrev standing_in : List Posted
standing_in = waiting ++ plain 0 (Event.Take 1) ∷ []

-- ---- every entry

after_close : Refused (setup 2) (plain 0 Event.Close ∷ []) (submits 1)
after_close = (refl, refl)

-- kernels post in a wait, or before the master begins
between_waits : Refused (setup 2) one (plain 1 (Event.Lose Loss.Plan))
between_waits = (refl, refl)

-- ---- Submit

submit_by_kernel : Refused (setup 2) [] (given_in 1 1 (Item.Plain (sym 5)) (sym 5))
submit_by_kernel = (refl, refl)

submit_in_wait : Refused (setup 2) waiting (submits 3)
submit_in_wait = (refl, refl)

submit_another_id : Refused (setup 2) one (submits 3)
submit_another_id = (refl, refl)

submit_for_the_dead : Refused (setup 2) (plain 2 (Event.Lose Loss.NotStarted) ∷ []) (pins 1 2)
submit_for_the_dead = (refl, refl)

submit_no_item : Refused (setup 2) [] (plain 0 (Event.Submit 1))
submit_no_item = (refl, refl)

-- ---- Yield

yield_by_kernel : Refused (setup 2) [] (record { entry = by 1 (Event.Yield (Wait.All [])); handed = Handed.Lent empty })
yield_by_kernel = (refl, refl)

yield_in_wait : Refused (setup 2) waiting (yields both)
yield_in_wait = (refl, refl)

yield_no_such_item : Refused (setup 2) one (yields both)
yield_no_such_item = (refl, refl)

yield_next_of_none : Refused (setup 2) one (yields (Wait.Next []))
yield_next_of_none = (refl, refl)

yield_next_no_such_item : Refused (setup 2) one (yields (Wait.Next (2 ∷ [])))
yield_next_no_such_item = (refl, refl)

yield_try_no_such_item : Refused (setup 2) one (yields (Wait.Try (2 ∷ [])))
yield_try_no_such_item = (refl, refl)

-- the second item was dropped when the first was a success
yield_dropped_item :
    Refused (setup 2)
    (submits 1 ∷ submits 2 ∷ yields (Wait.Try (1 ∷ 2 ∷ [])) ∷ plain 1 (Event.Take 1) ∷ plain 1 (Event.Deliver 1 (int 7)) ∷ plain 0 Event.Resume ∷ []) (yields (Wait.All (2 ∷ [])))
yield_dropped_item = (refl, refl)

yield_no_definitions : Refused (setup 2) one (plain 0 (Event.Yield (Wait.All (1 ∷ []))))
yield_no_definitions = (refl, refl)

-- ---- Resume

resume_by_kernel : Refused (setup 2) (one ++ yields (Wait.All []) ∷ []) (plain 1 Event.Resume)
resume_by_kernel = (refl, refl)

resume_too_early : Refused (setup 2) waiting (plain 0 Event.Resume)
resume_too_early = (refl, refl)

resume_next_too_early : Refused (setup 2) (one ++ yields (Wait.Next (1 ∷ [])) ∷ []) (plain 0 Event.Resume)
resume_next_too_early = (refl, refl)

-- one failed, and the other may still be a success
resume_try_too_early :
    Refused (setup 2)
    (submits 1 ∷ submits 2 ∷ yields (Wait.Try (1 ∷ 2 ∷ [])) ∷ plain 1 (Event.Take 1) ∷ plain 1 (Event.Deliver 1 (name names Builtin.Failed)) ∷ []) (plain 0 Event.Resume)
resume_try_too_early = (refl, refl)

-- kernel 1 has the lock that the wait is for
resume_locks_too_early :
    Refused (setup 2)
    (submits 1 ∷ submits 2 ∷ yields (Wait.Next (1 ∷ 2 ∷ [])) ∷ plain 1 (Event.Take 1) ∷ plain 1 (Event.Enter (a' ∷ [])) ∷ plain 2 (Event.Take 2) ∷ plain 2 (Event.Deliver 2 (int 7))
    ∷ plain 0 Event.Resume ∷ yields (Wait.Locks (a' ∷ [])) ∷ [])
    (plain 0 Event.Resume)
resume_locks_too_early = (refl, refl)

resume_no_wait : Refused (setup 2) one (plain 0 Event.Resume)
resume_no_wait = (refl, refl)

-- the lock that the wait is for is free again, and the stand-in still runs its item
resume_in_attempt :
    Refused (setup 0) (one ++ plain 0 (Event.Enter (a' ∷ [])) ∷ yields (Wait.Locks (a' ∷ [])) ∷ plain 0 (Event.Take 1) ∷ plain 0 Event.Leave ∷ []) (plain 0 Event.Resume)
resume_in_attempt = (refl, refl)

-- ---- Take

-- an item waits, and the stand-in is free
take_no_wait : Refused (setup 0) one (plain 0 (Event.Take 1))
take_no_wait = (refl, refl)

take_in_attempt : Refused (setup 2) running (plain 1 (Event.Take 2))
take_in_attempt = (refl, refl)

take_by_the_dead : Refused (setup 2) (waiting ++ plain 1 (Event.Lose Loss.Plan) ∷ []) (plain 1 (Event.Take 1))
take_by_the_dead = (refl, refl)

take_not_the_least : Refused (setup 2) waiting (plain 1 (Event.Take 2))
take_not_the_least = (refl, refl)

take_pinned_to_another : Refused (setup 2) (pins 1 2 ∷ yields (Wait.All (1 ∷ [])) ∷ []) (plain 1 (Event.Take 1))
take_pinned_to_another = (refl, refl)

-- a kernel lives; the condition holds
stand_in_beside_kernels : Refused (setup 2) waiting (plain 0 (Event.Take 1))
stand_in_beside_kernels = (refl, refl)

stand_in_for_nothing : Refused (setup 0) (one ++ yields (Wait.All []) ∷ []) (plain 0 (Event.Take 1))
stand_in_for_nothing = (refl, refl)

-- ---- inside an attempt

access_outside : Refused (setup 2) waiting (plain 1 (Event.Access (int 7) (int 7)))
access_outside = (refl, refl)

access_another_reply : Refused (setup 2) running (plain 1 (Event.Access (int 7) (int 8)))
unfolding row worked
access_another_reply = (refl, refl)

ask_outside : Refused (setup 2) waiting (plain 1 (Event.Ask 2))
ask_outside = (refl, refl)

ask_another_number : Refused (setup 2) running (plain 1 (Event.Ask 1))
ask_another_number = (refl, refl)

-- the master, in its wait
print_in_wait : Refused (setup 2) waiting (plain 0 (Event.Print []))
print_in_wait = (refl, refl)

enter_outside : Refused (setup 2) waiting (plain 1 (Event.Enter (a' ∷ [])))
enter_outside = (refl, refl)

enter_no_locks : Refused (setup 2) running (plain 1 (Event.Enter []))
enter_no_locks = (refl, refl)

enter_twice : Refused (setup 2) inside (plain 1 (Event.Enter (b' ∷ [])))
enter_twice = (refl, refl)

-- of two locks one is held
enter_held : Refused (setup 2) (inside ++ plain 2 (Event.Take 2) ∷ []) (plain 2 (Event.Enter (b' ∷ a' ∷ [])))
enter_held = (refl, refl)

leave_nothing : Refused (setup 2) running (plain 1 Event.Leave)
leave_nothing = (refl, refl)

-- the master holds a lock and waits
leave_in_wait : Refused (setup 2) (one ++ plain 0 (Event.Enter (a' ∷ [])) ∷ yields (Wait.All (1 ∷ [])) ∷ []) (plain 0 Event.Leave)
leave_in_wait = (refl, refl)

deliver_anothers : Refused (setup 2) running (plain 2 (Event.Deliver 1 (int 7)))
deliver_anothers = (refl, refl)

deliver_inside : Refused (setup 2) inside (plain 1 (Event.Deliver 1 (int 7)))
deliver_inside = (refl, refl)

-- ---- Lose, Close

lose_the_master : Refused (setup 0) standing_in (plain 0 (Event.Lose Loss.Quit))
lose_the_master = (refl, refl)

lose_twice : Refused (setup 2) (plain 1 (Event.Lose Loss.NotStarted) ∷ []) (plain 1 (Event.Lose Loss.Plan))
lose_twice = (refl, refl)

close_by_kernel : Refused (setup 2) [] (plain 1 Event.Close)
close_by_kernel = (refl, refl)

close_in_wait : Refused (setup 2) waiting (plain 0 Event.Close)
close_in_wait = (refl, refl)
