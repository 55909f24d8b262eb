-- The journal's text: one line for each entry, with its number from 1, its kernel's number and its event.
--     event_text         the text of an event
--     entry_line         the line of an entry, with its line feed
--     journal_text       all lines
use Rattle.std.specs.Prelude.{ℕ, suc, List, [], ◌∷◌, ◌++◌, map, codes}
use Rattle.std.specs.Fmt.{decimal}
use Rattle.expr_tree.specs.declared.sym.Sym.{Sym}
use Rattle.script_text.specs.Bytes.{each_after}
use Rattle.script_text.specs.Spelling.{Spelling, symbol_text}
use Rattle.script_text.specs.Full.{full, quoted}
use Rattle.journal.specs.declared.loss.Loss.{Loss}
use Rattle.journal.specs.declared.event.Wait.{Wait}
use Rattle.journal.specs.declared.event.Event.{Event}
use Rattle.journal.specs.declared.event.Entry.{Entry}
use Rattle.journal.specs.Entry.{Text}

-- each with a space in front
abbrev pub spaced : List Text → Text
spaced words = each_after (codes " ") words

abbrev pub ids_text : List ℕ → Text
ids_text ids = spaced (map decimal ids)

abbrev pub loss_text : Loss → Text
loss_text Loss.Plan = codes "Plan"
loss_text Loss.Quit = codes "Quit"
loss_text Loss.NotStarted = codes "NotStarted"

abbrev pub locks_text : Spelling → List Sym → Text
locks_text spelling locks = spaced (map (symbol_text spelling) locks)

abbrev pub wait_text : Spelling → Wait → Text
wait_text spelling (Wait.All ids) = codes "All" ++ ids_text ids
wait_text spelling (Wait.Next ids) = codes "Next" ++ ids_text ids
wait_text spelling (Wait.Try ids) = codes "Try" ++ ids_text ids
wait_text spelling (Wait.Locks locks) = codes "Locks" ++ locks_text spelling locks

abbrev pub event_text : Spelling → Event → Text
event_text spelling (Event.Submit id) = codes "Submit " ++ decimal id
event_text spelling (Event.Yield wait) = codes "Yield " ++ wait_text spelling wait
event_text spelling Event.Resume = codes "Resume"
event_text spelling (Event.Take id) = codes "Take " ++ decimal id
event_text spelling (Event.Access sent reply) = codes "Access " ++ full spelling sent ++ codes " | " ++ full spelling reply
event_text spelling (Event.Ask count) = codes "Ask " ++ decimal count
event_text spelling (Event.Print t) = codes "Print " ++ quoted t
event_text spelling (Event.Enter locks) = codes "Enter" ++ locks_text spelling locks
event_text spelling Event.Leave = codes "Leave"
event_text spelling (Event.Deliver id value) = codes "Deliver " ++ decimal id ++ codes " " ++ full spelling value
event_text spelling (Event.Lose loss) = codes "Lose " ++ loss_text loss
event_text spelling Event.Close = codes "Close"

-- the n-th entry
abbrev pub entry_line : Spelling → ℕ → Entry → Text
entry_line spelling n entry = decimal n ++ codes " " ++ decimal entry.kernel ++ codes " " ++ event_text spelling entry.event ++ (10 ∷ [])

abbrev pub lines_from : Spelling → ℕ → List Entry → Text
lines_from spelling n [] = []
lines_from spelling n (entry ∷ entries) = entry_line spelling n entry ++ lines_from spelling (suc n) entries

abbrev pub journal_text : Spelling → List Entry → Text
journal_text spelling entries = lines_from spelling 1 entries
