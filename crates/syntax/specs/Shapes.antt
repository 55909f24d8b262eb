-- How an expression is printed, by its head.
--     Pair                 an operator between two operands: its sign, and the levels of the operands and the whole
--     Chain                an operator between two or more operands of one level
--     Mark                 a sign in front
--     Shape, shape_of      what a row of the built-in table prints as, where its elements fit
--     Form                 what one expression prints as
--     shape_in             the shape of a symbol
-- A greater level binds tighter.
use Rattle.std.specs.Prelude.{ℕ, List as Many, [], codes, Option as Maybe, Some, None}
use Rattle.expr_tree.specs.declared.sym.Sym.{Sym}
use Rattle.semantics.specs.declared.builtin.Builtin.{Builtin}
use Rattle.semantics.specs.Names.{Names, role_of}

pub data Pair : Type 0 where
  PatternTest Power Condition Rule RuleDelayed ReplaceAll ReplaceRepeated Set SetDelayed Naming : Pair

pub data Chain : Type 0 where
  Equal Unequal Less LessEqual Greater GreaterEqual SameQ UnsameQ And Or Alternatives CompoundExpression : Chain

pub data Mark : Type 0 where
  One Two Three Hash Hashes Nothing : Mark

pub data Shape : Type 0 where
  List Named Times Plus Not Function Other : Shape
  Blank Slot : Mark → Shape
  Pairs : Pair → Shape
  Chains : Chain → Shape

pub data Form : Type 0 where
  Braces Product Negative Sum Negation Ampersand Brackets : Form
  Marked : Mark → Form
  Paired : Pair → Form
  Chained : Chain → Form

abbrev pub mark_sign : Mark → Many ℕ
mark_sign One = codes "_"
mark_sign Two = codes "__"
mark_sign Three = codes "___"
mark_sign Hash = codes "#"
mark_sign Hashes = codes "##"
mark_sign Nothing = []

abbrev pub pair_sign : Pair → Many ℕ
pair_sign PatternTest = codes "?"
pair_sign Power = codes "^"
pair_sign Condition = codes " /; "
pair_sign Rule = codes " -> "
pair_sign RuleDelayed = codes " :> "
pair_sign ReplaceAll = codes " /. "
pair_sign ReplaceRepeated = codes " //. "
pair_sign Set = codes " = "
pair_sign SetDelayed = codes " := "
pair_sign Naming = codes ":"

-- the level asked of the left operand
abbrev pub pair_left : Pair → ℕ
pair_left PatternTest = 26
pair_left Power = 22
pair_left Condition = 9
pair_left Rule = 9
pair_left RuleDelayed = 9
pair_left ReplaceAll = 7
pair_left ReplaceRepeated = 7
pair_left Set = 4
pair_left SetDelayed = 4
pair_left Naming = 27

-- and of the right one
abbrev pub pair_right : Pair → ℕ
pair_right PatternTest = 27
pair_right Power = 21
pair_right Condition = 10
pair_right Rule = 8
pair_right RuleDelayed = 8
pair_right ReplaceAll = 8
pair_right ReplaceRepeated = 8
pair_right Set = 3
pair_right SetDelayed = 3
pair_right Naming = 11

-- the level of the whole
abbrev pub pair_level : Pair → ℕ
pair_level PatternTest = 26
pair_level Power = 21
pair_level Condition = 9
pair_level Rule = 8
pair_level RuleDelayed = 8
pair_level ReplaceAll = 7
pair_level ReplaceRepeated = 7
pair_level Set = 3
pair_level SetDelayed = 3
pair_level Naming = 10

abbrev pub chain_sign : Chain → Many ℕ
chain_sign Equal = codes " == "
chain_sign Unequal = codes " != "
chain_sign Less = codes " < "
chain_sign LessEqual = codes " <= "
chain_sign Greater = codes " > "
chain_sign GreaterEqual = codes " >= "
chain_sign SameQ = codes " === "
chain_sign UnsameQ = codes " =!= "
chain_sign And = codes " && "
chain_sign Or = codes " || "
chain_sign Alternatives = codes " | "
chain_sign CompoundExpression = codes "; "

-- the level asked of each operand
abbrev pub chain_part : Chain → ℕ
chain_part SameQ = 16
chain_part UnsameQ = 16
chain_part And = 14
chain_part Or = 13
chain_part Alternatives = 12
chain_part CompoundExpression = 3
chain_part _ = 17  -- comparisons

-- the level of the whole
abbrev pub chain_level : Chain → ℕ
chain_level SameQ = 15
chain_level UnsameQ = 15
chain_level And = 13
chain_level Or = 12
chain_level Alternatives = 11
chain_level CompoundExpression = 2
chain_level _ = 16  -- comparisons

abbrev pub shape_of : Builtin → Shape
shape_of Builtin.List = List
shape_of Builtin.Blank = Blank One
shape_of Builtin.BlankSequence = Blank Two
shape_of Builtin.BlankNullSequence = Blank Three
shape_of Builtin.Pattern = Named
shape_of Builtin.Slot = Slot Hash
shape_of Builtin.SlotSequence = Slot Hashes
shape_of Builtin.Times = Times
shape_of Builtin.Plus = Plus
shape_of Builtin.Not = Not
shape_of Builtin.Function = Function
shape_of Builtin.PatternTest = Pairs PatternTest
shape_of Builtin.Power = Pairs Power
shape_of Builtin.Condition = Pairs Condition
shape_of Builtin.Rule = Pairs Rule
shape_of Builtin.RuleDelayed = Pairs RuleDelayed
shape_of Builtin.ReplaceAll = Pairs ReplaceAll
shape_of Builtin.ReplaceRepeated = Pairs ReplaceRepeated
shape_of Builtin.Set = Pairs Set
shape_of Builtin.SetDelayed = Pairs SetDelayed
shape_of Builtin.Equal = Chains Equal
shape_of Builtin.Unequal = Chains Unequal
shape_of Builtin.Less = Chains Less
shape_of Builtin.LessEqual = Chains LessEqual
shape_of Builtin.Greater = Chains Greater
shape_of Builtin.GreaterEqual = Chains GreaterEqual
shape_of Builtin.SameQ = Chains SameQ
shape_of Builtin.UnsameQ = Chains UnsameQ
shape_of Builtin.And = Chains And
shape_of Builtin.Or = Chains Or
shape_of Builtin.Alternatives = Chains Alternatives
shape_of Builtin.CompoundExpression = Chains CompoundExpression
shape_of _ = Other

abbrev pub shape_by : Maybe Builtin → Shape
shape_by (Some row) = shape_of row
shape_by None = Other

abbrev pub shape_in : Names → Sym → Shape
shape_in names s = shape_by (role_of names s)
