-- A law of transcripts.
use Rattle.std.specs.Prelude.{◌≡◌, ℕ, List}
use Rattle.script_text.specs.Spelling.{Spelling}
use Rattle.semantics.specs.Names.{Names}
use Rattle.semantics.specs.Definitions.{Definitions}
use Rattle.sequential_transcript.specs.Transcript.{Prints}

-- the lines are determined by the cells
abbrev pub OneTranscript : Type 0
OneTranscript =
    (spelling : Spelling) (names : Names) (find : List ℕ → ℕ) (steps : ℕ) (d : Definitions) (n : ℕ) (cells lines others : List (List ℕ))
    → Prints spelling names find steps d n cells lines → Prints spelling names find steps d n cells others → lines ≡ others
