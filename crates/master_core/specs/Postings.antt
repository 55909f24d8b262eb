-- Entries that were posted, and how many have room.
use Rattle.std.specs.Prelude.{ℕ, List}
use Rattle.journal.specs.Entry.{Posted}

pub record Postings : Type 0 where
  pub posted : List Posted
  pub room : ℕ
