-- The program's words for infix operators, as the definitions have them.
--     operator_in, gives_in      operators, and what one gives
use Rattle.syntax.specs.Operators as syn
use Rattle.operator_levels.specs.declared.operator.Operator.{Operator}
use Rattle.operator_levels.specs.declared.operator.Operator.TheVariants as op
use Rattle.operator_levels.specs.declared.operator.Gives.{Gives}
use Rattle.operator_levels.specs.declared.operator.Gives.TheVariants as gi

abbrev pub operator_in : Operator → syn.Operator
operator_in op.PatternTest = syn.PatternTest
operator_in op.Calls = syn.Calls
operator_in op.Map = syn.Map
operator_in op.Apply = syn.Apply
operator_in op.Power = syn.Power
operator_in op.Divide = syn.Divide
operator_in op.Times = syn.Times
operator_in op.Plus = syn.Plus
operator_in op.Minus = syn.Minus
operator_in op.Equal = syn.Equal
operator_in op.Unequal = syn.Unequal
operator_in op.Less = syn.Less
operator_in op.LessEqual = syn.LessEqual
operator_in op.Greater = syn.Greater
operator_in op.GreaterEqual = syn.GreaterEqual
operator_in op.SameQ = syn.SameQ
operator_in op.UnsameQ = syn.UnsameQ
operator_in op.And = syn.And
operator_in op.Or = syn.Or
operator_in op.Alternatives = syn.Alternatives
operator_in op.Pattern = syn.Pattern
operator_in op.Condition = syn.Condition
operator_in op.Rule = syn.Rule
operator_in op.RuleDelayed = syn.RuleDelayed
operator_in op.ReplaceAll = syn.ReplaceAll
operator_in op.ReplaceRepeated = syn.ReplaceRepeated
operator_in op.AddTo = syn.AddTo
operator_in op.SubtractFrom = syn.SubtractFrom
operator_in op.TimesBy = syn.TimesBy
operator_in op.Into = syn.Into
operator_in op.Set = syn.Set
operator_in op.SetDelayed = syn.SetDelayed
operator_in op.UpSet = syn.UpSet
operator_in op.UpSetDelayed = syn.UpSetDelayed
operator_in op.CompoundExpression = syn.CompoundExpression

abbrev pub gives_in : Gives → syn.Gives
gives_in (gi.Pair row) = syn.Pair row
gives_in (gi.Chain row) = syn.Chain row
gives_in gi.Quotient = syn.Quotient
gives_in gi.Difference = syn.Difference
gives_in gi.CallOfLeft = syn.CallOfLeft
gives_in gi.CallOfRight = syn.CallOfRight
gives_in gi.Naming = syn.Naming
