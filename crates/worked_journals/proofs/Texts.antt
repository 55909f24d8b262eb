-- The text of journals and of transcripts.
use Rattle.std.proofs.Common.{◌≡◌, refl, ℕ, true, false, List, [], ◌∷◌, Some}
use Rattle.std.specs.Prelude.{codes}
use Rattle.std.specs.Fmt.{digits}
use Rattle.expr_tree.specs.declared.sym.Sym.{Sym}
use Rattle.expr_tree.specs.Tree.{Tree, symbol}
use Rattle.semantics.specs.declared.builtin.Builtin.{Builtin}
use Rattle.semantics.specs.Names.{Names, make, name}
use Rattle.semantics.specs.Texts.{names_of}
use Rattle.semantics.specs.Table.{row, worked}
use Rattle.script_text.specs.Spelling.{Spelling, by_texts, place_in}
use Rattle.journal.specs.declared.loss.Loss.{Loss}
use Rattle.journal.specs.declared.event.Wait.{Wait}
use Rattle.journal.specs.declared.event.Event.{Event}
use Rattle.journal.specs.declared.event.Entry.{Entry}
use Rattle.journal.specs.Entry.{Text}
use Rattle.journal.specs.declared.recover.Recover.{Recover}
use Rattle.journal.specs.Core.{Setup}
use Rattle.journal.specs.Lines.{entry_line, journal_text}
use Rattle.journal.specs.Run.{Reading, legal}
use Rattle.journal.specs.Members.{setup_of}
use Rattle.journal.specs.Transcript.{opening, transcript_text}
use Rattle.worked_journals.proofs.Script.{by, int, reads}

-- the names that the scripts here need, in order
abbrev texts : List Text
texts =
    codes "a" ∷ codes "b" ∷ codes "CompoundExpression" ∷ codes "EvaluationObject" ∷ codes "Increment" ∷ codes "List" ∷ codes "n" ∷ codes "Null" ∷ codes "ParallelSubmit" ∷ codes "Plus" ∷ codes "Print"
    ∷ codes "Set" ∷ codes "SetSharedVariable" ∷ codes "WaitAll" ∷ []

abbrev names : Names
names = names_of texts

abbrev spelling : Spelling
spelling = by_texts texts

abbrev named : Text → Sym
named t = record { base = place_in texts t; number = 0 }

abbrev n' : Tree
n' = symbol (named (codes "n"))

abbrev of : Builtin → List Tree → Tree
of row es = make names row es

abbrev increment_n : Tree
increment_n = of Builtin.Increment (n' ∷ [])

-- n = 0; SetSharedVariable[n]; WaitAll[ParallelSubmit[n++; 7]]; n
counted : List Reading
counted =
    reads (
    of Builtin.Set (n' ∷ int 0 ∷ [])
    ∷ of Builtin.SetSharedVariable (n' ∷ [])
    ∷ of Builtin.WaitAll (of Builtin.ParallelSubmit (of Builtin.CompoundExpression (increment_n ∷ int 7 ∷ []) ∷ []) ∷ [])
    ∷ n' ∷ [])

-- a kernel that is lost at its third entry
lost_once : List Entry
lost_once =
    by 0 (Event.Submit 1)
    ∷ by 0 (Event.Yield (Wait.All (1 ∷ [])))
    ∷ by 1 (Event.Take 1)
    ∷ by 1 (Event.Access increment_n (int 0))
    ∷ by 1 (Event.Lose Loss.Plan)
    ∷ by 0 (Event.Take 1)
    ∷ by 0 (Event.Access increment_n (int 1))
    ∷ by 0 (Event.Deliver 1 (int 7))
    ∷ by 0 Event.Resume
    ∷ by 0 Event.Close
    ∷ []

lost_once_text :
    journal_text spelling lost_once
    ≡ codes "1 0 Submit 1\n2 0 Yield All 1\n3 1 Take 1\n4 1 Access Increment[n] | 0\n5 1 Lose Plan\n6 0 Take 1\n7 0 Access Increment[n] | 1\n8 0 Deliver 1 7\n9 0 Resume\n10 0 Close\n"
unfolding digits lost_once
lost_once_text = refl

abbrev losing : Setup
losing = setup_of (opening texts 1 1000000 Recover.Retry)

lost_once_legal : legal losing ((1, 3) ∷ []) counted lost_once ≡ true
unfolding counted lost_once row worked
lost_once_legal = refl

lost_once_transcript : transcript_text texts losing false counted lost_once 4 ≡ Some (codes "Out[1]= 0\nOut[3]= 7\nOut[4]= 2\n")
unfolding digits counted lost_once row worked
lost_once_transcript = refl

-- with the journal
lost_once_shown :
    transcript_text texts losing true counted lost_once 4
    ≡ Some (codes "Out[1]= 0\nOut[3]= 7\nOut[4]= 2\n1 0 Submit 1\n2 0 Yield All 1\n3 1 Take 1\n4 1 Access Increment[n] | 0\n5 1 Lose Plan\n6 0 Take 1\n7 0 Access Increment[n] | 1\n8 0 Deliver 1 7\n9 0 Resume\n10 0 Close\n")
unfolding digits counted lost_once row worked
lost_once_shown = refl

-- WaitAll[{ParallelSubmit[Print[1]], ParallelSubmit[Print[2]]}]
printing : List Reading
printing = reads (of Builtin.WaitAll (of Builtin.List (printed 1 ∷ printed 2 ∷ []) ∷ []) ∷ [])
  where
    printed : ℕ → Tree
    printed k = of Builtin.ParallelSubmit (of Builtin.Print (int k ∷ []) ∷ [])

printing_journal : List Entry
printing_journal =
    by 0 (Event.Submit 1) ∷ by 0 (Event.Submit 2) ∷ by 0 (Event.Yield (Wait.All (1 ∷ 2 ∷ [])))
    ∷ by 0 (Event.Take 1) ∷ by 0 (Event.Print (codes "1")) ∷ by 0 (Event.Deliver 1 (name names Builtin.Null))
    ∷ by 0 (Event.Take 2) ∷ by 0 (Event.Print (codes "2")) ∷ by 0 (Event.Deliver 2 (name names Builtin.Null))
    ∷ by 0 Event.Resume ∷ by 0 Event.Close ∷ []

abbrev by_itself : Setup
by_itself = setup_of (opening texts 0 1000000 Recover.Retry)

printing_legal : legal by_itself [] printing printing_journal ≡ true
unfolding digits printing printing_journal row worked
printing_legal = refl

printing_transcript : transcript_text texts by_itself false printing printing_journal 1 ≡ Some (codes "1\n2\nOut[1]= {Null, Null}\n")
unfolding digits printing printing_journal row worked
printing_transcript = refl

-- n = 0; SetSharedVariable[n]; WaitAll[{ParallelSubmit[n++], ParallelSubmit[n++]}]; n
increments : List Reading
increments =
    reads (
    of Builtin.Set (n' ∷ int 0 ∷ [])
    ∷ of Builtin.SetSharedVariable (n' ∷ [])
    ∷ of Builtin.WaitAll (of Builtin.List (of Builtin.ParallelSubmit (increment_n ∷ []) ∷ of Builtin.ParallelSubmit (increment_n ∷ []) ∷ []) ∷ [])
    ∷ n' ∷ [])

increments_journal : List Entry
increments_journal =
    by 0 (Event.Submit 1) ∷ by 0 (Event.Submit 2) ∷ by 0 (Event.Yield (Wait.All (1 ∷ 2 ∷ [])))
    ∷ by 0 (Event.Take 1) ∷ by 0 (Event.Access increment_n (int 0)) ∷ by 0 (Event.Deliver 1 (int 0))
    ∷ by 0 (Event.Take 2) ∷ by 0 (Event.Access increment_n (int 1)) ∷ by 0 (Event.Deliver 2 (int 1))
    ∷ by 0 Event.Resume ∷ by 0 Event.Close ∷ []

increments_legal : legal by_itself [] increments increments_journal ≡ true
unfolding increments increments_journal row worked
increments_legal = refl

increments_shown :
    transcript_text texts by_itself true increments increments_journal 4
    ≡ Some (codes "Out[1]= 0\nOut[3]= {0, 1}\nOut[4]= 2\n1 0 Submit 1\n2 0 Submit 2\n3 0 Yield All 1 2\n4 0 Take 1\n5 0 Access Increment[n] | 0\n6 0 Deliver 1 0\n7 0 Take 2\n8 0 Access Increment[n] | 1\n9 0 Deliver 2 1\n10 0 Resume\n11 0 Close\n")
unfolding digits increments increments_journal row worked
increments_shown = refl

-- ---- lines

waits : entry_line spelling 12 (by 0 (Event.Yield (Wait.Try (1 ∷ 2 ∷ [])))) ≡ codes "12 0 Yield Try 1 2\n"
unfolding digits
waits = refl

locks_awaited : entry_line spelling 3 (by 0 (Event.Yield (Wait.Locks (named (codes "a") ∷ named (codes "b") ∷ [])))) ≡ codes "3 0 Yield Locks a b\n"
unfolding digits
locks_awaited = refl

locks_entered : entry_line spelling 5 (by 16 (Event.Enter (named (codes "a") ∷ named (codes "b") ∷ []))) ≡ codes "5 16 Enter a b\n"
unfolding digits
locks_entered = refl

text_printed : entry_line spelling 4 (by 2 (Event.Print (codes "a\"b"))) ≡ codes "4 2 Print \"a\\\"b\"\n"
unfolding digits
text_printed = refl

kernels_counted : entry_line spelling 4 (by 2 (Event.Ask 2)) ≡ codes "4 2 Ask 2\n"
unfolding digits
kernels_counted = refl
