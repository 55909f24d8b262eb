-- Products of many factors.
--     signed                a magnitude with a sign
--     Kept, Stands          what is kept of a product: its magnitude, where that is below 2^128, and its sign
use Rattle.std.specs.Prelude.{◌≡◌, ℕ, ◌^◌, ◌≤◌, ℤ, pos, neg_ℤ, Bool, true, false, Option, None, Some}

abbrev pub signed : Bool → ℕ → ℤ
signed true m = neg_ℤ (pos m)
signed false m = pos m

pub record Kept : Type 0 where
  pub magnitude : Option ℕ
  pub is_negative : Bool

abbrev pub Holds : Option ℕ → ℕ → Type 0
Holds None m = 2 ^ 128 ≤ m
Holds (Some k) m = k ≡ m

pub record Stands (kept : Kept) (z : ℤ) : Type 0 where
  pub whole : ℕ
  pub is : z ≡ signed kept.is_negative whole
  pub holds : Holds kept.magnitude whole
