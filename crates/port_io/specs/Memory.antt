-- A sink in memory: Store, refuses, empty_store, after_write
use Rattle.std.specs.Prelude.{Bool, ℕ, ◌+◌, ◌-◌, ◌^◌, List, [], ◌++◌, length, min, if◌then◌else◌, nat_lt, ◌||◌}
use Rattle.port_io.specs.Calls.{fails_next}

-- the bytes held, how many there may be, the number of calls so far, the calls that fail, how many failed
pub record Store : Type 0 where
  pub held : List ℕ
  pub room : ℕ
  pub calls : ℕ
  pub fails : List ℕ
  pub faults : ℕ

abbrev pub empty_store : ℕ → List ℕ → Store
empty_store room fails = record { held = []; room = room; calls = 0; fails = fails; faults = 0 }

-- the next call is to fail, or the piece is longer than the room left
abbrev pub refuses : Store → List ℕ → Bool
refuses s piece = fails_next s.calls s.fails || nat_lt s.room (length s.held + length piece)

-- a refused piece leaves nothing of it, and is counted; both counts stop at their greatest value
abbrev pub after_write : Store → List ℕ → Store
after_write s piece = record {
  held = if refuses s piece then s.held else s.held ++ piece;
  room = s.room;
  calls = min (s.calls + 1) (2 ^ 64 - 1);
  fails = s.fails;
  faults = if refuses s piece then min (s.faults + 1) (2 ^ 64 - 1) else s.faults;
}
