-- A script with no kernels whose cells have no tokens.
use Rattle.std.proofs.Common.{◌≡◌, refl, true, false, List, [], ◌∷◌, Some}
use Rattle.semantics.specs.declared.builtin.Builtin.{Builtin}
use Rattle.semantics.specs.Table.{row, worked}
use Rattle.journal.specs.declared.event.Event.{Event}
use Rattle.journal.specs.Run.{Reading, Out, legal, transcript}
use Rattle.worked_journals.proofs.Script.{setup, int, of, equals, by, reads, null', then}

-- a comment; Unprotect[Null]; Null = 5; the comment again: what has no token is read as Null, and evaluated
comments : List Reading
comments = reads (null' ∷ then (of Builtin.Unprotect (null' ∷ [])) (equals null' (int 5)) ∷ null' ∷ [])

comments_legal : legal (setup 0) [] comments (by 0 Event.Close ∷ []) ≡ true
unfolding comments row worked
comments_legal = refl

comments_lines : transcript (setup 0) false comments (by 0 Event.Close ∷ []) 3 ≡ Some (Out 2 (int 5) ∷ Out 3 (int 5) ∷ [])
unfolding comments row worked
comments_lines = refl
