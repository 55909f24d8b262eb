-- What a write left in a sink: WritesAll
use Rattle.std.specs.Prelude.{ℕ, List, take, Result, MatchResult}
use Rattle.std.specs.declared.option.Option.{Option}
use Rattle.std.specs.Io.KnownBytes.{Appends}

-- all bytes were appended, or after a failure a prefix of them
abbrev pub WritesAll : {T E : Type 0} → Option (List ℕ) → Option (List ℕ) → List ℕ → Result T E → Type 0
WritesAll before now bytes result =
    MatchResult result (λ _. Appends before now bytes) (λ _. (n : ℕ) × Appends before now (take n bytes))
