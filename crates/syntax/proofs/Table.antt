-- Facts on the tables of operators and signs.
use Rattle.std.proofs.Common.{◌≡◌, ◌<◌, ◌≤◌, Bool, true, false, Some, refl, lit<, lit≤}
use Rattle.semantics.specs.declared.builtin.Builtin.{Builtin}
use Rattle.syntax.specs.Signs.{Sign}
use Rattle.syntax.specs.Operators.{Operator, Prefix, Postfix, infix_row, level_of, right_of, leads_at, trails_at, tags_of}
use Rattle.syntax.specs.Terminals.{Word, Terminal, Start, Next, sign_start, sign_next, word_start, word_next, on_line, start_of, next_of}

-- every infix operator binds its right operand tighter than a semicolon
pub right_above : (op : Operator) → 2 < right_of op
unfolding right_of infix_row
right_above Operator.PatternTest = lit< tt
right_above Operator.Calls = lit< tt
right_above Operator.Map = lit< tt
right_above Operator.Apply = lit< tt
right_above Operator.Power = lit< tt
right_above Operator.Divide = lit< tt
right_above Operator.Times = lit< tt
right_above Operator.Plus = lit< tt
right_above Operator.Minus = lit< tt
right_above Operator.Equal = lit< tt
right_above Operator.Unequal = lit< tt
right_above Operator.Less = lit< tt
right_above Operator.LessEqual = lit< tt
right_above Operator.Greater = lit< tt
right_above Operator.GreaterEqual = lit< tt
right_above Operator.SameQ = lit< tt
right_above Operator.UnsameQ = lit< tt
right_above Operator.And = lit< tt
right_above Operator.Or = lit< tt
right_above Operator.Alternatives = lit< tt
right_above Operator.Pattern = lit< tt
right_above Operator.Condition = lit< tt
right_above Operator.Rule = lit< tt
right_above Operator.RuleDelayed = lit< tt
right_above Operator.ReplaceAll = lit< tt
right_above Operator.ReplaceRepeated = lit< tt
right_above Operator.AddTo = lit< tt
right_above Operator.SubtractFrom = lit< tt
right_above Operator.TimesBy = lit< tt
right_above Operator.Into = lit< tt
right_above Operator.Set = lit< tt
right_above Operator.SetDelayed = lit< tt
right_above Operator.UpSet = lit< tt
right_above Operator.UpSetDelayed = lit< tt
right_above Operator.CompoundExpression = lit< tt

pub level_right : (op : Operator) → level_of op ≤ right_of op
unfolding level_of right_of infix_row
level_right Operator.PatternTest = lit≤ tt
level_right Operator.Calls = lit≤ tt
level_right Operator.Map = lit≤ tt
level_right Operator.Apply = lit≤ tt
level_right Operator.Power = lit≤ tt
level_right Operator.Divide = lit≤ tt
level_right Operator.Times = lit≤ tt
level_right Operator.Plus = lit≤ tt
level_right Operator.Minus = lit≤ tt
level_right Operator.Equal = lit≤ tt
level_right Operator.Unequal = lit≤ tt
level_right Operator.Less = lit≤ tt
level_right Operator.LessEqual = lit≤ tt
level_right Operator.Greater = lit≤ tt
level_right Operator.GreaterEqual = lit≤ tt
level_right Operator.SameQ = lit≤ tt
level_right Operator.UnsameQ = lit≤ tt
level_right Operator.And = lit≤ tt
level_right Operator.Or = lit≤ tt
level_right Operator.Alternatives = lit≤ tt
level_right Operator.Pattern = lit≤ tt
level_right Operator.Condition = lit≤ tt
level_right Operator.Rule = lit≤ tt
level_right Operator.RuleDelayed = lit≤ tt
level_right Operator.ReplaceAll = lit≤ tt
level_right Operator.ReplaceRepeated = lit≤ tt
level_right Operator.AddTo = lit≤ tt
level_right Operator.SubtractFrom = lit≤ tt
level_right Operator.TimesBy = lit≤ tt
level_right Operator.Into = lit≤ tt
level_right Operator.Set = lit≤ tt
level_right Operator.SetDelayed = lit≤ tt
level_right Operator.UpSet = lit≤ tt
level_right Operator.UpSetDelayed = lit≤ tt
level_right Operator.CompoundExpression = lit≤ tt

pub leads_above : (op : Prefix) → 3 < leads_at op
unfolding leads_at
leads_above Prefix.PreIncrement = lit< tt
leads_above Prefix.PreDecrement = lit< tt
leads_above Prefix.Negate = lit< tt
leads_above Prefix.Not = lit< tt

pub tags_level : (op : Operator) (row : Builtin) → tags_of op ≡ Some row → level_of op ≡ 3
unfolding level_of tags_of infix_row
tags_level Operator.PatternTest row e = cc
tags_level Operator.Calls row e = cc
tags_level Operator.Map row e = cc
tags_level Operator.Apply row e = cc
tags_level Operator.Power row e = cc
tags_level Operator.Divide row e = cc
tags_level Operator.Times row e = cc
tags_level Operator.Plus row e = cc
tags_level Operator.Minus row e = cc
tags_level Operator.Equal row e = cc
tags_level Operator.Unequal row e = cc
tags_level Operator.Less row e = cc
tags_level Operator.LessEqual row e = cc
tags_level Operator.Greater row e = cc
tags_level Operator.GreaterEqual row e = cc
tags_level Operator.SameQ row e = cc
tags_level Operator.UnsameQ row e = cc
tags_level Operator.And row e = cc
tags_level Operator.Or row e = cc
tags_level Operator.Alternatives row e = cc
tags_level Operator.Pattern row e = cc
tags_level Operator.Condition row e = cc
tags_level Operator.Rule row e = cc
tags_level Operator.RuleDelayed row e = cc
tags_level Operator.ReplaceAll row e = cc
tags_level Operator.ReplaceRepeated row e = cc
tags_level Operator.AddTo row e = cc
tags_level Operator.SubtractFrom row e = cc
tags_level Operator.TimesBy row e = cc
tags_level Operator.Into row e = cc
tags_level Operator.Set row e = refl
tags_level Operator.SetDelayed row e = refl
tags_level Operator.UpSet row e = cc
tags_level Operator.UpSetDelayed row e = cc
tags_level Operator.CompoundExpression row e = cc

-- every level is below the edge of an operand
pub level_low : (op : Operator) → level_of op < 100
unfolding level_of infix_row
level_low Operator.PatternTest = lit< tt
level_low Operator.Calls = lit< tt
level_low Operator.Map = lit< tt
level_low Operator.Apply = lit< tt
level_low Operator.Power = lit< tt
level_low Operator.Divide = lit< tt
level_low Operator.Times = lit< tt
level_low Operator.Plus = lit< tt
level_low Operator.Minus = lit< tt
level_low Operator.Equal = lit< tt
level_low Operator.Unequal = lit< tt
level_low Operator.Less = lit< tt
level_low Operator.LessEqual = lit< tt
level_low Operator.Greater = lit< tt
level_low Operator.GreaterEqual = lit< tt
level_low Operator.SameQ = lit< tt
level_low Operator.UnsameQ = lit< tt
level_low Operator.And = lit< tt
level_low Operator.Or = lit< tt
level_low Operator.Alternatives = lit< tt
level_low Operator.Pattern = lit< tt
level_low Operator.Condition = lit< tt
level_low Operator.Rule = lit< tt
level_low Operator.RuleDelayed = lit< tt
level_low Operator.ReplaceAll = lit< tt
level_low Operator.ReplaceRepeated = lit< tt
level_low Operator.AddTo = lit< tt
level_low Operator.SubtractFrom = lit< tt
level_low Operator.TimesBy = lit< tt
level_low Operator.Into = lit< tt
level_low Operator.Set = lit< tt
level_low Operator.SetDelayed = lit< tt
level_low Operator.UpSet = lit< tt
level_low Operator.UpSetDelayed = lit< tt
level_low Operator.CompoundExpression = lit< tt

pub trails_low : (op : Postfix) → trails_at op < 100
unfolding trails_at
trails_low Postfix.Increment = lit< tt
trails_low Postfix.Decrement = lit< tt
trails_low Postfix.Function = lit< tt
trails_low Postfix.Unset = lit< tt

-- a phrase may begin so
abbrev pub CanStart : Start → Type 0
CanStart Start.NoStart = ⊥
CanStart _ = Unit {0}

-- what such a terminal may be behind a phrase
abbrev pub CanBegin : Next → Type 0
CanBegin Next.Comma = ⊥
CanBegin (Next.Closes c) = ⊥
CanBegin Next.Elements = ⊥
CanBegin _ = Unit {0}

beside_begins : (after_line : Bool) → CanBegin (on_line after_line Next.Beside)
unfolding on_line
beside_begins true = tt
beside_begins false = tt

on_line_begins : (after_line : Bool) (n : Next) → CanBegin n → CanBegin (on_line after_line n)
unfolding on_line
on_line_begins after_line Next.Beside h = beside_begins after_line
on_line_begins after_line Next.Comma h = absurd h
on_line_begins after_line (Next.Closes c) h = absurd h
on_line_begins after_line Next.Elements h = absurd h
on_line_begins after_line (Next.Joins op) h = tt
on_line_begins after_line (Next.Trails op) h = tt
on_line_begins after_line Next.Semicolon h = tt
on_line_begins after_line Next.Tags h = tt
on_line_begins after_line Next.NoNext h = tt

sign_begins : (s : Sign) → CanStart (sign_start s) → CanBegin (sign_next s)
unfolding sign_start sign_next
sign_begins Sign.Query h = absurd h
sign_begins Sign.At h = absurd h
sign_begins Sign.SlashAt h = absurd h
sign_begins Sign.AtAt h = absurd h
sign_begins Sign.Caret h = absurd h
sign_begins Sign.Slash h = absurd h
sign_begins Sign.Star h = absurd h
sign_begins Sign.Plus h = absurd h
sign_begins Sign.Minus h = tt
sign_begins Sign.EqualEqual h = absurd h
sign_begins Sign.BangEqual h = absurd h
sign_begins Sign.Less h = absurd h
sign_begins Sign.LessEqual h = absurd h
sign_begins Sign.Greater h = absurd h
sign_begins Sign.GreaterEqual h = absurd h
sign_begins Sign.SameSign h = absurd h
sign_begins Sign.UnsameSign h = absurd h
sign_begins Sign.Bang h = tt
sign_begins Sign.AndAnd h = absurd h
sign_begins Sign.BarBar h = absurd h
sign_begins Sign.Bar h = absurd h
sign_begins Sign.Colon h = absurd h
sign_begins Sign.SlashSemicolon h = absurd h
sign_begins Sign.Arrow h = absurd h
sign_begins Sign.ColonGreater h = absurd h
sign_begins Sign.SlashDot h = absurd h
sign_begins Sign.SlashSlashDot h = absurd h
sign_begins Sign.PlusEqual h = absurd h
sign_begins Sign.MinusEqual h = absurd h
sign_begins Sign.StarEqual h = absurd h
sign_begins Sign.Ampersand h = absurd h
sign_begins Sign.SlashSlash h = absurd h
sign_begins Sign.Assign h = absurd h
sign_begins Sign.ColonEqual h = absurd h
sign_begins Sign.CaretEqual h = absurd h
sign_begins Sign.CaretColonEqual h = absurd h
sign_begins Sign.AssignDot h = absurd h
sign_begins Sign.SlashColon h = absurd h
sign_begins Sign.Semicolon h = absurd h
sign_begins Sign.PlusPlus h = tt
sign_begins Sign.MinusMinus h = tt
sign_begins Sign.OpenParen h = tt
sign_begins Sign.CloseParen h = absurd h
sign_begins Sign.OpenBracket h = absurd h
sign_begins Sign.CloseBracket h = absurd h
sign_begins Sign.OpenBrace h = tt
sign_begins Sign.CloseBrace h = absurd h
sign_begins Sign.Comma h = absurd h

word_begins : (w : Word) → CanStart (word_start w) → CanBegin (word_next w)
unfolding word_start word_next
word_begins (Word.Value x) h = tt
word_begins (Word.Mark s) h = sign_begins s h

pub can_begin : (t : Terminal) → CanStart (start_of t) → CanBegin (next_of t)
can_begin t h = on_line_begins t.after_line (word_next t.word) (word_begins t.word h)
