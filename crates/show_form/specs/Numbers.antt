-- The digits of a number so far.
use Rattle.std.specs.Prelude.{ℕ, Bool}

-- whether a `-` stands in front, and what the digits write
pub record Written : Type 0 where
  pub below : Bool
  pub magnitude : ℕ
