-- What a run promises, by its status.
--     IsTranscript         the lines of all cells of a script
--     Begins               the lines of some cells at the front of a script
--     IsWhole              the bytes were read to their end, and are at most 1,048,576
--     Writes               what was written of a script
--     Ends, Runs           both ends as they stand; what was read and written between two moments
--     Completes            which statuses come where nothing fails
-- Each Option is the bytes that the source has left, or that the sink holds, where they are told; each count is that of failures.
use Rattle.std.specs.Prelude.{◌≡◌, ◌⊎◌, ℕ, ◌≤◌, ◌<◌, List, [], ◌∷◌, ◌++◌, length, take}
use Rattle.std.specs.Str.{IsUtf8}
use Rattle.std.specs.declared.option.Option.{Option}
use Rattle.std.specs.declared.option.Option.TheVariants.{Some, None}
use Rattle.std.specs.Io.KnownBytes.{Consumes, IsAtEnd, Appends}
use Rattle.script_text.specs.Bytes.{all_joined}
use Rattle.script_text.specs.Cells.{cells}
use Rattle.port_io.specs.Counts.{Rose}
use Rattle.sequential_transcript.specs.Transcript.{Transcript}
use Rattle.script_run.specs.Words.{steps_in}
use Rattle.script_run.specs.declared.report.Status.{Status}
use Rattle.script_run.specs.declared.report.Status.TheVariants.{Done, Usage, ReadFault, WriteFault, NoMemory, TooLong, NotText}

abbrev pub Known : Type 0
Known = Option (List ℕ)

abbrev pub limit : ℕ
limit = 1048576

abbrev pub IsTranscript : ℕ → List ℕ → List (List ℕ) → Type 0
IsTranscript steps script lines = Transcript steps (cells script) (cells script) lines

abbrev pub Begins : ℕ → List ℕ → List (List ℕ) → Type 0
Begins steps script lines = (front rest : List (List ℕ)) × (cells script ≡ front ++ rest) × Transcript steps (cells script) front lines

abbrev pub IsWhole : Known → Known → List ℕ → Type 0
IsWhole before now bytes = Consumes before now bytes × IsAtEnd now × (length bytes ≤ limit)

-- all lines; or lines and a part of the next one, with a failure that is counted; or lines at the front
abbrev pub Writes : Known → Known → ℕ → ℕ → ℕ → List ℕ → Status → Type 0
Writes held after faults rose steps script Done = (lines : List (List ℕ)) × IsTranscript steps script lines × Appends held after (all_joined lines)
Writes held after faults rose steps script WriteFault =
    Rose faults rose × (lines : List (List ℕ)) × (line : List ℕ) × (n : ℕ) × Begins steps script (lines ++ line ∷ []) × Appends held after (all_joined lines ++ take n line)
Writes held after faults rose steps script NoMemory = (lines : List (List ℕ)) × Begins steps script lines × Appends held after (all_joined lines)
Writes held after faults rose steps script Usage = ⊥
Writes held after faults rose steps script ReadFault = ⊥
Writes held after faults rose steps script TooLong = ⊥
Writes held after faults rose steps script NotText = ⊥

-- the bytes that the source has left and that the sink holds, and the counts of their failures
pub record Ends : Type 0 where
  pub left : Known
  pub read_faults : ℕ
  pub held : Known
  pub write_faults : ℕ

-- the input is a text, and lines of its cells were written
abbrev pub RunsWhole : Ends → Ends → ℕ → Status → Type 0
RunsWhole before after steps status =
    (script : List ℕ) × IsWhole before.left after.left script × IsUtf8 script
    × Writes before.held after.held before.write_faults after.write_faults steps script status

-- the input was not read to its end, and nothing was written
abbrev pub RunsOut : Ends → Ends → Type 0
RunsOut before after = (bytes : List ℕ) × Consumes before.left after.left bytes × (length bytes ≤ limit) × Appends before.held after.held []

-- the words are read, and each cell may take so many steps
abbrev pub AreRead : List (List ℕ) → ℕ → Type 0
AreRead words steps = steps_in words ≡ Some steps

-- by the status: what was read, and what was written
abbrev pub Runs : List (List ℕ) → Ends → Ends → Status → Type 0
Runs words before after Done = (steps : ℕ) × AreRead words steps × RunsWhole before after steps Done
Runs words before after Usage = steps_in words ≡ None
Runs words before after ReadFault =
    (steps : ℕ) × AreRead words steps × (bytes : List ℕ) × Consumes before.left after.left bytes × (length bytes ≤ limit) × Rose before.read_faults after.read_faults
Runs words before after WriteFault = (steps : ℕ) × AreRead words steps × RunsWhole before after steps WriteFault
Runs words before after NoMemory = (steps : ℕ) × AreRead words steps × (RunsWhole before after steps NoMemory ⊎ RunsOut before after)
Runs words before after TooLong = (steps : ℕ) × AreRead words steps × (bytes : List ℕ) × Consumes before.left after.left bytes × (limit < length bytes)
Runs words before after NotText = (steps : ℕ) × AreRead words steps × (bytes : List ℕ) × IsWhole before.left after.left bytes × ¬ IsUtf8 bytes

-- the sink takes the lines of all cells at the front of the script
abbrev pub TakesAll : (ℕ → Type 0) → ℕ → List ℕ → Type 0
TakesAll takes steps script = (lines : List (List ℕ)) → Begins steps script lines → takes (length (all_joined lines))

-- words that are read, a text within the limit that is left in a source that does not fail, and a sink that takes its transcript
abbrev pub Completes : List (List ℕ) → Known → Type 0 → (ℕ → Type 0) → Status → Type 0
Completes words left never_fails takes status =
    (steps : ℕ) → AreRead words steps → never_fails → (script : List ℕ) → left ≡ Some script → length script ≤ limit → IsUtf8 script → TakesAll takes steps script
    → (status ≡ Done) ⊎ (status ≡ NoMemory)
