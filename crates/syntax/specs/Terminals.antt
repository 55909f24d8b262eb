-- The tokens of a cell as the grammar takes them.
--     PhraseKind, Phrase       what a later operator has to know of a phrase; an expression with that
--     Word, Terminal           a token by itself; with whether it begins a line
--     Start, start_of          what a terminal is where a phrase begins
--     Next, next_of            what a terminal is behind a phrase
--     terminal                 the terminal of a lexeme
use Rattle.std.specs.Prelude.{ℕ, Bool, cond, List, map}
use Rattle.expr_tree.specs.Tree.{Tree}
use Rattle.semantics.specs.declared.builtin.Builtin.{Builtin}
use Rattle.semantics.specs.Names.{Names}
use Rattle.syntax.specs.Signs.{Sign, sign_of}
use Rattle.syntax.specs.Tokens.{Kind}
use Rattle.syntax.specs.Operators.{Operator, Prefix, Postfix}
use Rattle.syntax.specs.Leaves.{Lexeme, number_leaf, name_leaf, blank_leaf, string_leaf, slot_leaf}

-- `Open row`: a later operand may be appended to the elements of row[..]
pub data PhraseKind : Type 0 where
  Closed NameToken NumberToken : PhraseKind
  Open : Builtin → PhraseKind

pub record Phrase : Type 0 where
  pub expr : Tree
  pub kind : PhraseKind

pub data Word : Type 0 where
  Value : Phrase → Word  -- an operand by itself
  Mark : Sign → Word

pub record Terminal : Type 0 where
  pub word : Word
  pub after_line : Bool

pub data Bracket : Type 0 where
  Round Square Curly : Bracket

pub data Opening : Type 0 where
  Group Braces : Opening

pub data Start : Type 0 where
  Operand : Phrase → Start
  Leads : Prefix → Start
  Opens : Opening → Start
  NoStart : Start

-- `Beside`: it begins the second factor of a product without a sign; `Elements`: it opens the elements of a call
pub data Next : Type 0 where
  Joins : Operator → Next
  Trails : Postfix → Next
  Semicolon Tags Beside Elements Comma NoNext : Next
  Closes : Bracket → Next

unfoldable pub sign_start : Sign → Start
sign_start Sign.Minus = Leads Prefix.Negate
sign_start Sign.PlusPlus = Leads Prefix.PreIncrement
sign_start Sign.MinusMinus = Leads Prefix.PreDecrement
sign_start Sign.Bang = Leads Prefix.Not
sign_start Sign.OpenParen = Opens Group
sign_start Sign.OpenBrace = Opens Braces
sign_start _ = NoStart

unfoldable pub sign_next : Sign → Next
sign_next Sign.Query = Joins Operator.PatternTest
sign_next Sign.At = Joins Operator.Calls
sign_next Sign.SlashAt = Joins Operator.Map
sign_next Sign.AtAt = Joins Operator.Apply
sign_next Sign.Caret = Joins Operator.Power
sign_next Sign.Slash = Joins Operator.Divide
sign_next Sign.Star = Joins Operator.Times
sign_next Sign.Plus = Joins Operator.Plus
sign_next Sign.Minus = Joins Operator.Minus
sign_next Sign.EqualEqual = Joins Operator.Equal
sign_next Sign.BangEqual = Joins Operator.Unequal
sign_next Sign.Less = Joins Operator.Less
sign_next Sign.LessEqual = Joins Operator.LessEqual
sign_next Sign.Greater = Joins Operator.Greater
sign_next Sign.GreaterEqual = Joins Operator.GreaterEqual
sign_next Sign.SameSign = Joins Operator.SameQ
sign_next Sign.UnsameSign = Joins Operator.UnsameQ
sign_next Sign.Bang = NoNext
sign_next Sign.AndAnd = Joins Operator.And
sign_next Sign.BarBar = Joins Operator.Or
sign_next Sign.Bar = Joins Operator.Alternatives
sign_next Sign.Colon = Joins Operator.Pattern
sign_next Sign.SlashSemicolon = Joins Operator.Condition
sign_next Sign.Arrow = Joins Operator.Rule
sign_next Sign.ColonGreater = Joins Operator.RuleDelayed
sign_next Sign.SlashDot = Joins Operator.ReplaceAll
sign_next Sign.SlashSlashDot = Joins Operator.ReplaceRepeated
sign_next Sign.PlusEqual = Joins Operator.AddTo
sign_next Sign.MinusEqual = Joins Operator.SubtractFrom
sign_next Sign.StarEqual = Joins Operator.TimesBy
sign_next Sign.Ampersand = Trails Postfix.Function
sign_next Sign.SlashSlash = Joins Operator.Into
sign_next Sign.Assign = Joins Operator.Set
sign_next Sign.ColonEqual = Joins Operator.SetDelayed
sign_next Sign.CaretEqual = Joins Operator.UpSet
sign_next Sign.CaretColonEqual = Joins Operator.UpSetDelayed
sign_next Sign.AssignDot = Trails Postfix.Unset
sign_next Sign.SlashColon = Tags
sign_next Sign.Semicolon = Semicolon
sign_next Sign.PlusPlus = Trails Postfix.Increment
sign_next Sign.MinusMinus = Trails Postfix.Decrement
sign_next Sign.OpenParen = Beside
sign_next Sign.CloseParen = Closes Round
sign_next Sign.OpenBracket = Elements
sign_next Sign.CloseBracket = Closes Square
sign_next Sign.OpenBrace = Beside
sign_next Sign.CloseBrace = Closes Curly
sign_next Sign.Comma = Comma

unfoldable pub word_start : Word → Start
word_start (Value x) = Operand x
word_start (Mark s) = sign_start s

abbrev pub start_of : Terminal → Start
start_of t = word_start t.word

unfoldable pub word_next : Word → Next
word_next (Value x) = Beside
word_next (Mark s) = sign_next s

-- an operand at the beginning of a line is no second factor
unfoldable pub on_line : Bool → Next → Next
on_line after_line Beside = cond after_line NoNext Beside
on_line after_line n = n

abbrev pub next_of : Terminal → Next
next_of t = on_line t.after_line (word_next t.word)

module _ (names : Names) (find : List ℕ → ℕ) where
  abbrev pub closed : Tree → Word
  closed e = Value (record { expr = e; kind = Closed })

  abbrev pub word_of : Kind → List ℕ → Word
  word_of Kind.Number t = Value (record { expr = number_leaf t; kind = NumberToken })
  word_of Kind.Name t = Value (record { expr = name_leaf names find t; kind = NameToken })
  word_of Kind.Blank t = closed (blank_leaf names find t)
  word_of Kind.Str t = closed (string_leaf t)
  word_of Kind.Slot t = closed (slot_leaf names find t)
  word_of Kind.Operator t = Mark (sign_of t)

  abbrev pub terminal : Lexeme → Terminal
  terminal l = record { word = word_of l.kind l.text; after_line = l.after_line }

  abbrev pub terminals : List Lexeme → List Terminal
  terminals ls = map terminal ls
