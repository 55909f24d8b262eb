-- The operators of the grammar. A greater level binds tighter.
--     Operator, infix_row  an infix operator; its level, the level of its right operand, and what it gives
--     Gives                what an infix operator makes of its operands a and b
--     Prefix, leads_at     a prefix operator; its level, which is that of its operand
--     Postfix, trails_at   a postfix operator; its level
-- Besides there are h[..] and h[[..]] at level 25, t /: l = r at level 3, and the postfix semicolon.
use Rattle.std.specs.Prelude.{ℕ, Option, Some, None}
use Rattle.semantics.specs.declared.builtin.Builtin.{Builtin}

pub data Operator : Type 0 where
  PatternTest Calls Map Apply Power Divide Times Plus Minus : Operator
  Equal Unequal Less LessEqual Greater GreaterEqual SameQ UnsameQ And Or : Operator
  Alternatives Pattern Condition Rule RuleDelayed ReplaceAll ReplaceRepeated : Operator
  AddTo SubtractFrom TimesBy Into Set SetDelayed UpSet UpSetDelayed CompoundExpression : Operator

pub data Gives : Type 0 where
  Pair : Builtin → Gives  -- row[a, b]
  Chain : Builtin → Gives  -- row[a, b], open in the row
  Quotient : Gives  -- Times[a, Power[b, -1]], open in Times
  Difference : Gives  -- Plus[a, Neg(b)], open in Plus
  CallOfLeft : Gives  -- a[b]
  CallOfRight : Gives  -- b[a]
  Naming : Gives  -- Pattern[a, b], where a is one name token

pub record Infix : Type 0 where
  pub level : ℕ
  pub right : ℕ
  pub gives : Gives

abbrev row : ℕ → ℕ → Gives → Infix
row level right gives = record { level = level; right = right; gives = gives }

unfoldable pub infix_row : Operator → Infix
infix_row PatternTest = row 26 27 (Pair Builtin.PatternTest)
infix_row Calls = row 23 23 CallOfLeft
infix_row Map = row 22 22 (Pair Builtin.Map)
infix_row Apply = row 22 22 (Pair Builtin.Apply)
infix_row Power = row 21 21 (Pair Builtin.Power)
infix_row Divide = row 19 20 Quotient
infix_row Times = row 18 19 (Chain Builtin.Times)
infix_row Plus = row 17 18 (Chain Builtin.Plus)
infix_row Minus = row 17 18 Difference
infix_row Equal = row 16 17 (Chain Builtin.Equal)
infix_row Unequal = row 16 17 (Chain Builtin.Unequal)
infix_row Less = row 16 17 (Chain Builtin.Less)
infix_row LessEqual = row 16 17 (Chain Builtin.LessEqual)
infix_row Greater = row 16 17 (Chain Builtin.Greater)
infix_row GreaterEqual = row 16 17 (Chain Builtin.GreaterEqual)
infix_row SameQ = row 15 16 (Chain Builtin.SameQ)
infix_row UnsameQ = row 15 16 (Chain Builtin.UnsameQ)
infix_row And = row 13 14 (Chain Builtin.And)
infix_row Or = row 12 13 (Chain Builtin.Or)
infix_row Alternatives = row 11 12 (Chain Builtin.Alternatives)
infix_row Pattern = row 10 11 Naming
infix_row Condition = row 9 10 (Pair Builtin.Condition)
infix_row Rule = row 8 8 (Pair Builtin.Rule)
infix_row RuleDelayed = row 8 8 (Pair Builtin.RuleDelayed)
infix_row ReplaceAll = row 7 8 (Pair Builtin.ReplaceAll)
infix_row ReplaceRepeated = row 7 8 (Pair Builtin.ReplaceRepeated)
infix_row AddTo = row 6 6 (Pair Builtin.AddTo)
infix_row SubtractFrom = row 6 6 (Pair Builtin.SubtractFrom)
infix_row TimesBy = row 6 6 (Pair Builtin.TimesBy)
infix_row Into = row 4 5 CallOfRight
infix_row Set = row 3 3 (Pair Builtin.Set)
infix_row SetDelayed = row 3 3 (Pair Builtin.SetDelayed)
infix_row UpSet = row 3 3 (Pair Builtin.UpSet)
infix_row UpSetDelayed = row 3 3 (Pair Builtin.UpSetDelayed)
infix_row CompoundExpression = row 2 3 (Chain Builtin.CompoundExpression)

unfoldable pub level_of : Operator → ℕ
level_of op = (infix_row op).level

unfoldable pub right_of : Operator → ℕ
right_of op = (infix_row op).right

unfoldable pub gives_of : Operator → Gives
gives_of op = (infix_row op).gives

-- which row `t /: l op r` gives
unfoldable pub tags_of : Operator → Option Builtin
tags_of Set = Some Builtin.TagSet
tags_of SetDelayed = Some Builtin.TagSetDelayed
tags_of _ = None

pub data Prefix : Type 0 where
  PreIncrement PreDecrement Negate Not : Prefix

unfoldable pub leads_at : Prefix → ℕ
leads_at PreIncrement = 24
leads_at PreDecrement = 24
leads_at Negate = 20
leads_at Not = 14

pub data Postfix : Type 0 where
  Increment Decrement Function Unset : Postfix

unfoldable pub trails_at : Postfix → ℕ
trails_at Increment = 24
trails_at Decrement = 24
trails_at Function = 5
trails_at Unset = 3
