-- The sequential transcript of a script, and the run with no kernels.
--     IsBuilt, AreBuilt     a cell whose value is built, by its reading; some cells, each from the definitions that the ones before it leave
--     AloneIsRun            the lines of such cells are what the run with no kernels writes
use Rattle.std.specs.Prelude.{◌≡◌, ℕ, List, [], ◌∷◌, ◌++◌, length, true, false, Some, is_some}
use Rattle.expr_tree.specs.Tree.{Tree}
use Rattle.script_text.specs.Spelling.{by_texts, place_in}
use Rattle.semantics.specs.Definitions.{Definitions, empty}
use Rattle.semantics.specs.Texts.{names_of}
use Rattle.journal.specs.declared.recover.Recover.{Recover}
use Rattle.journal.specs.declared.event.Event.{Event}
use Rattle.journal.specs.declared.event.Entry.{Entry}
use Rattle.journal.specs.Entry.{Text}
use Rattle.journal.specs.Core.{Setup}
use Rattle.journal.specs.Run.{Reading, Reads, Unread, Legal}
use Rattle.journal.specs.Members.{setup_of}
use Rattle.journal.specs.Transcript.{opening, AreReadings, transcript_text}
use Rattle.sequential_transcript.specs.Transcript.{ran, Prints}

-- with no kernels
abbrev pub no_kernels : List Text → ℕ → Setup
no_kernels texts steps = setup_of (opening texts 0 steps Recover.Retry)

module _ (texts : List Text) (steps : ℕ) where
  -- something is shown for it: it is too deep, or no name that is not built stands in it and its evaluation needs no call
  abbrev pub IsBuilt : Definitions → Tree → Type 0
  IsBuilt d e = is_some (ran (by_texts texts) (names_of texts) (place_in texts) steps d e).value ≡ true

  abbrev pub AreBuilt : Definitions → List Reading → Type 0
  AreBuilt d [] = Unit {0}
  AreBuilt d (Reads e ∷ readings) = IsBuilt d e × AreBuilt (ran (by_texts texts) (names_of texts) (place_in texts) steps d e).definitions readings
  AreBuilt d (Unread place ∷ readings) = AreBuilt d readings

abbrev pub close : Entry
close = record { kernel = 0; event = Event.Close }

abbrev pub joined : List Text → Text
joined [] = []
joined (line ∷ lines) = line ++ joined lines

abbrev pub AloneIsRun : Type 0
AloneIsRun =
    (texts : List Text) (steps : ℕ) (cells : List Text) (readings : List Reading) (lines : List Text)
    → AreReadings texts cells readings → AreBuilt texts steps empty readings → Prints (by_texts texts) (names_of texts) (place_in texts) steps empty 1 cells lines
    → Legal (no_kernels texts steps) [] readings (close ∷ [])
    × (transcript_text texts (no_kernels texts steps) false readings (close ∷ []) (length readings) ≡ Some (joined lines))
