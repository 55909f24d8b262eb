-- The shapes of the rows that have one of their own, computed.
use Rattle.std.proofs.Common.{◌≡◌, refl}
use Rattle.std.specs.Prelude.{codes}
use Rattle.syntax.specs.Shapes as s
use Rattle.input_form.specs.Rows.{named_shape}

pub is_list : named_shape (codes "List") ≡ s.List
unfolding named_shape
is_list = refl

pub is_blank : named_shape (codes "Blank") ≡ (s.Blank s.One)
unfolding named_shape
is_blank = refl

pub is_blank_sequence : named_shape (codes "BlankSequence") ≡ (s.Blank s.Two)
unfolding named_shape
is_blank_sequence = refl

pub is_blank_null_sequence : named_shape (codes "BlankNullSequence") ≡ (s.Blank s.Three)
unfolding named_shape
is_blank_null_sequence = refl

pub is_pattern : named_shape (codes "Pattern") ≡ s.Named
unfolding named_shape
is_pattern = refl

pub is_slot : named_shape (codes "Slot") ≡ (s.Slot s.Hash)
unfolding named_shape
is_slot = refl

pub is_slot_sequence : named_shape (codes "SlotSequence") ≡ (s.Slot s.Hashes)
unfolding named_shape
is_slot_sequence = refl

pub is_times : named_shape (codes "Times") ≡ s.Times
unfolding named_shape
is_times = refl

pub is_plus : named_shape (codes "Plus") ≡ s.Plus
unfolding named_shape
is_plus = refl

pub is_not : named_shape (codes "Not") ≡ s.Not
unfolding named_shape
is_not = refl

pub is_function : named_shape (codes "Function") ≡ s.Function
unfolding named_shape
is_function = refl

pub is_pattern_test : named_shape (codes "PatternTest") ≡ (s.Pairs s.PatternTest)
unfolding named_shape
is_pattern_test = refl

pub is_power : named_shape (codes "Power") ≡ (s.Pairs s.Power)
unfolding named_shape
is_power = refl

pub is_condition : named_shape (codes "Condition") ≡ (s.Pairs s.Condition)
unfolding named_shape
is_condition = refl

pub is_rule : named_shape (codes "Rule") ≡ (s.Pairs s.Rule)
unfolding named_shape
is_rule = refl

pub is_rule_delayed : named_shape (codes "RuleDelayed") ≡ (s.Pairs s.RuleDelayed)
unfolding named_shape
is_rule_delayed = refl

pub is_replace_all : named_shape (codes "ReplaceAll") ≡ (s.Pairs s.ReplaceAll)
unfolding named_shape
is_replace_all = refl

pub is_replace_repeated : named_shape (codes "ReplaceRepeated") ≡ (s.Pairs s.ReplaceRepeated)
unfolding named_shape
is_replace_repeated = refl

pub is_set : named_shape (codes "Set") ≡ (s.Pairs s.Set)
unfolding named_shape
is_set = refl

pub is_set_delayed : named_shape (codes "SetDelayed") ≡ (s.Pairs s.SetDelayed)
unfolding named_shape
is_set_delayed = refl

pub is_equal : named_shape (codes "Equal") ≡ (s.Chains s.Equal)
unfolding named_shape
is_equal = refl

pub is_unequal : named_shape (codes "Unequal") ≡ (s.Chains s.Unequal)
unfolding named_shape
is_unequal = refl

pub is_less : named_shape (codes "Less") ≡ (s.Chains s.Less)
unfolding named_shape
is_less = refl

pub is_less_equal : named_shape (codes "LessEqual") ≡ (s.Chains s.LessEqual)
unfolding named_shape
is_less_equal = refl

pub is_greater : named_shape (codes "Greater") ≡ (s.Chains s.Greater)
unfolding named_shape
is_greater = refl

pub is_greater_equal : named_shape (codes "GreaterEqual") ≡ (s.Chains s.GreaterEqual)
unfolding named_shape
is_greater_equal = refl

pub is_same_q : named_shape (codes "SameQ") ≡ (s.Chains s.SameQ)
unfolding named_shape
is_same_q = refl

pub is_unsame_q : named_shape (codes "UnsameQ") ≡ (s.Chains s.UnsameQ)
unfolding named_shape
is_unsame_q = refl

pub is_and : named_shape (codes "And") ≡ (s.Chains s.And)
unfolding named_shape
is_and = refl

pub is_or : named_shape (codes "Or") ≡ (s.Chains s.Or)
unfolding named_shape
is_or = refl

pub is_alternatives : named_shape (codes "Alternatives") ≡ (s.Chains s.Alternatives)
unfolding named_shape
is_alternatives = refl

pub is_compound_expression : named_shape (codes "CompoundExpression") ≡ (s.Chains s.CompoundExpression)
unfolding named_shape
is_compound_expression = refl
