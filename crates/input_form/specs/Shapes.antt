-- The shapes of the program as the definitions have them.
--     as_pair, as_chain, as_mark, as_shape, as_form
use Rattle.syntax.specs.Shapes as s
use Rattle.input_form.specs.declared.shape.Pair.{Pair}
use Rattle.input_form.specs.declared.shape.Pair.TheVariants as pa
use Rattle.input_form.specs.declared.shape.Chain.{Chain}
use Rattle.input_form.specs.declared.shape.Chain.TheVariants as ch
use Rattle.input_form.specs.declared.shape.Mark.{Mark}
use Rattle.input_form.specs.declared.shape.Mark.TheVariants as ma
use Rattle.input_form.specs.declared.shape.Shape.{Shape}
use Rattle.input_form.specs.declared.shape.Shape.TheVariants as sh
use Rattle.input_form.specs.declared.shape.Form.{Form}
use Rattle.input_form.specs.declared.shape.Form.TheVariants as fo

abbrev pub as_pair : Pair → s.Pair
as_pair pa.PatternTest = s.PatternTest
as_pair pa.Power = s.Power
as_pair pa.Condition = s.Condition
as_pair pa.Rule = s.Rule
as_pair pa.RuleDelayed = s.RuleDelayed
as_pair pa.ReplaceAll = s.ReplaceAll
as_pair pa.ReplaceRepeated = s.ReplaceRepeated
as_pair pa.Set = s.Set
as_pair pa.SetDelayed = s.SetDelayed
as_pair pa.Naming = s.Naming

abbrev pub as_chain : Chain → s.Chain
as_chain ch.Equal = s.Equal
as_chain ch.Unequal = s.Unequal
as_chain ch.Less = s.Less
as_chain ch.LessEqual = s.LessEqual
as_chain ch.Greater = s.Greater
as_chain ch.GreaterEqual = s.GreaterEqual
as_chain ch.SameQ = s.SameQ
as_chain ch.UnsameQ = s.UnsameQ
as_chain ch.And = s.And
as_chain ch.Or = s.Or
as_chain ch.Alternatives = s.Alternatives
as_chain ch.CompoundExpression = s.CompoundExpression

abbrev pub as_mark : Mark → s.Mark
as_mark ma.One = s.One
as_mark ma.Two = s.Two
as_mark ma.Three = s.Three
as_mark ma.Hash = s.Hash
as_mark ma.Hashes = s.Hashes
as_mark ma.Nothing = s.Nothing

abbrev pub as_shape : Shape → s.Shape
as_shape sh.List = s.List
as_shape sh.Named = s.Named
as_shape sh.Times = s.Times
as_shape sh.Plus = s.Plus
as_shape sh.Not = s.Not
as_shape sh.Function = s.Function
as_shape sh.Other = s.Other
as_shape (sh.Blank m) = s.Blank (as_mark m)
as_shape (sh.Slot m) = s.Slot (as_mark m)
as_shape (sh.Pairs p) = s.Pairs (as_pair p)
as_shape (sh.Chains c) = s.Chains (as_chain c)

abbrev pub as_form : Form → s.Form
as_form fo.Braces = s.Braces
as_form fo.Product = s.Product
as_form fo.Negative = s.Negative
as_form fo.Sum = s.Sum
as_form fo.Negation = s.Negation
as_form fo.Ampersand = s.Ampersand
as_form fo.Brackets = s.Brackets
as_form (fo.Marked m) = s.Marked (as_mark m)
as_form (fo.Paired p) = s.Paired (as_pair p)
as_form (fo.Chained c) = s.Chained (as_chain c)
