-- How infix operators are shown.
--     shape_shown               what an expression prints as that has the row that an operator gives
--     sign_of                   the sign between the operands; none where it is not shown as an operator
--     left_of, shown_right_of   the levels asked of the operands
--     whole_of                  the level of the whole
use Rattle.std.specs.Prelude.{ℕ, List as Many, []}
use Rattle.syntax.specs.Operators as syn
use Rattle.syntax.specs.Shapes as s

abbrev pub shape_given : syn.Gives → s.Shape
shape_given (syn.Pair row) = s.shape_of row
shape_given (syn.Chain row) = s.shape_of row
shape_given syn.Naming = s.Pairs s.Naming
shape_given _ = s.Other

abbrev pub shape_shown : syn.Operator → s.Shape
shape_shown op = shape_given (syn.gives_of op)

abbrev pub sign_in : s.Shape → Many ℕ
sign_in (s.Pairs p) = s.pair_sign p
sign_in (s.Chains c) = s.chain_sign c
sign_in _ = []

abbrev pub left_in : s.Shape → ℕ
left_in (s.Pairs p) = s.pair_left p
left_in (s.Chains c) = s.chain_part c
left_in _ = 0

abbrev pub right_in : s.Shape → ℕ
right_in (s.Pairs p) = s.pair_right p
right_in (s.Chains c) = s.chain_part c
right_in _ = 0

abbrev pub whole_in : s.Shape → ℕ
whole_in (s.Pairs p) = s.pair_level p
whole_in (s.Chains c) = s.chain_level c
whole_in _ = 0

abbrev pub sign_of : syn.Operator → Many ℕ
sign_of op = sign_in (shape_shown op)

abbrev pub left_of : syn.Operator → ℕ
left_of op = left_in (shape_shown op)

abbrev pub shown_right_of : syn.Operator → ℕ
shown_right_of op = right_in (shape_shown op)

abbrev pub whole_of : syn.Operator → ℕ
whole_of op = whole_in (shape_shown op)
