-- Where a new rule stands.
--     ReplacesAt            a new rule replaces the one at this place
use Rattle.std.specs.Prelude.{◌≡◌, ◌<◌, ℕ, List, length, true, slice_set}
use Rattle.semantics.specs.Names.{Names}
use Rattle.semantics.specs.Rule.{Rule, is_replaced, replace_in}

pub record ReplacesAt (names : Names) (new : Rule) (rs : List Rule) (at : ℕ) : Type 0 where
  pub within : at < length rs
  pub found : is_replaced names new rs ≡ true
  pub replaced : replace_in names new rs ≡ slice_set rs at new
