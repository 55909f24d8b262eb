-- A whole reading: IsRefusal, Answers, IsRead
use Rattle.std.specs.Prelude.{◌≡◌, ℕ, ◌<◌, ◌≤◌, List, length, Result}
use Rattle.std.specs.Io.KnownBytes.{Consumes, IsAtEnd}
use Rattle.std.specs.declared.option.Option.{Option}
use Rattle.std.specs.declared.result.Result.TheVariants.{Ok, Err}
use Rattle.port_io.specs.Counts.{Rose}
use Rattle.port_io.specs.declared.input.ReadNo.{ReadNo}
use Rattle.port_io.specs.declared.input.ReadNo.TheVariants.{Fault, TooLong, NoMemory}

-- why the bytes that were read were not answered
abbrev pub IsRefusal : ℕ → List ℕ → ℕ → ℕ → ReadNo → Type 0
IsRefusal limit bytes before now Fault = (length bytes ≤ limit) × Rose before now
IsRefusal limit bytes before now TooLong = limit < length bytes
IsRefusal limit bytes before now NoMemory = length bytes ≤ limit

-- what was read is the answer, and no more is left; or there is a cause why it is not answered
abbrev pub Answers : ℕ → List ℕ → Option (List ℕ) → ℕ → ℕ → Result (List ℕ) ReadNo → Type 0
Answers limit bytes left before now (Ok answer) = (answer ≡ bytes) × (length bytes ≤ limit) × IsAtEnd left
Answers limit bytes left before now (Err refusal) = IsRefusal limit bytes before now refusal

-- some bytes were read, and are gone from the source
abbrev pub IsRead : ℕ → Option (List ℕ) → Option (List ℕ) → ℕ → ℕ → Result (List ℕ) ReadNo → Type 0
IsRead limit left_before left_now before now result =
    (bytes : List ℕ) × Consumes left_before left_now bytes × Answers limit bytes left_now before now result
