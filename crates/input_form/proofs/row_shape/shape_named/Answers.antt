use Rattle.std.proofs.Common.{sym, ap, ◌∙◌}
use Rattle.input_form.specs.Rows.{named_shape}
use Rattle.input_form.proofs.Named.{is_list, is_blank, is_blank_sequence, is_blank_null_sequence, is_pattern, is_slot, is_slot_sequence, is_times, is_plus, is_not, is_function, is_pattern_test, is_power, is_condition, is_rule, is_rule_delayed, is_replace_all, is_replace_repeated, is_set, is_set_delayed, is_equal, is_unequal, is_less, is_less_equal, is_greater, is_greater_equal, is_same_q, is_unsame_q, is_and, is_or, is_alternatives, is_compound_expression}
use Rattle.input_form.proofs.Unlisted.{IsNone, none, shaped, unshaped}
use Rattle.input_form.proofs.row_shape.shape_named.Goals as goal

pub returns-in_default : goal.returns-in_default
returns-in_default c =
    let d = c.in_default in
    let apart : IsNone c.args.name.now shaped = (
      d.not-List,
      (
        d.not-Blank,
        (
          d.not-BlankSequence,
          (
            d.not-BlankNullSequence,
            (
              d.not-Pattern,
              (
                d.not-Slot,
                (
                  d.not-SlotSequence,
                  (
                    d.not-Times,
                    (
                      d.not-Plus,
                      (
                        d.not-Not,
                        (
                          d.not-Function,
                          (
                            d.not-PatternTest,
                            (
                              d.not-Power,
                              (
                                d.not-Condition,
                                (
                                  d.not-Rule,
                                  (
                                    d.not-RuleDelayed,
                                    (
                                      d.not-ReplaceAll,
                                      (
                                        d.not-ReplaceRepeated,
                                        (
                                          d.not-Set,
                                          (
                                            d.not-SetDelayed,
                                            (
                                              d.not-Equal,
                                              (
                                                d.not-Unequal,
                                                (
                                                  d.not-Less,
                                                  (
                                                    d.not-LessEqual,
                                                    (
                                                      d.not-Greater,
                                                      (
                                                        d.not-GreaterEqual,
                                                        (
                                                          d.not-SameQ,
                                                          (
                                                            d.not-UnsameQ,
                                                            (
                                                              d.not-And,
                                                              (
                                                                d.not-Or,
                                                                (
                                                                  d.not-Alternatives,
                                                                  (d.not-CompoundExpression, tt),
                                                                ),
                                                              ),
                                                            ),
                                                          ),
                                                        ),
                                                      ),
                                                    ),
                                                  ),
                                                ),
                                              ),
                                            ),
                                          ),
                                        ),
                                      ),
                                    ),
                                  ),
                                ),
                              ),
                            ),
                          ),
                        ),
                      ),
                    ),
                  ),
                ),
              ),
            ),
          ),
        ),
      ),
    )
    in
    sym (unshaped c.args.name.now (none c.args.name.now shaped apart))

pub returns-in-List : goal.returns-in-List
returns-in-List c = sym (ap named_shape c.in-List.is ∙ is_list)

pub returns-in-Blank : goal.returns-in-Blank
returns-in-Blank c = sym (ap named_shape c.in-Blank.is ∙ is_blank)

pub returns-in-BlankSequence : goal.returns-in-BlankSequence
returns-in-BlankSequence c = sym (ap named_shape c.in-BlankSequence.is ∙ is_blank_sequence)

pub returns-in-BlankNullSequence : goal.returns-in-BlankNullSequence
returns-in-BlankNullSequence c = sym (ap named_shape c.in-BlankNullSequence.is ∙ is_blank_null_sequence)

pub returns-in-Pattern : goal.returns-in-Pattern
returns-in-Pattern c = sym (ap named_shape c.in-Pattern.is ∙ is_pattern)

pub returns-in-Slot : goal.returns-in-Slot
returns-in-Slot c = sym (ap named_shape c.in-Slot.is ∙ is_slot)

pub returns-in-SlotSequence : goal.returns-in-SlotSequence
returns-in-SlotSequence c = sym (ap named_shape c.in-SlotSequence.is ∙ is_slot_sequence)

pub returns-in-Times : goal.returns-in-Times
returns-in-Times c = sym (ap named_shape c.in-Times.is ∙ is_times)

pub returns-in-Plus : goal.returns-in-Plus
returns-in-Plus c = sym (ap named_shape c.in-Plus.is ∙ is_plus)

pub returns-in-Not : goal.returns-in-Not
returns-in-Not c = sym (ap named_shape c.in-Not.is ∙ is_not)

pub returns-in-Function : goal.returns-in-Function
returns-in-Function c = sym (ap named_shape c.in-Function.is ∙ is_function)

pub returns-in-PatternTest : goal.returns-in-PatternTest
returns-in-PatternTest c = sym (ap named_shape c.in-PatternTest.is ∙ is_pattern_test)

pub returns-in-Power : goal.returns-in-Power
returns-in-Power c = sym (ap named_shape c.in-Power.is ∙ is_power)

pub returns-in-Condition : goal.returns-in-Condition
returns-in-Condition c = sym (ap named_shape c.in-Condition.is ∙ is_condition)

pub returns-in-Rule : goal.returns-in-Rule
returns-in-Rule c = sym (ap named_shape c.in-Rule.is ∙ is_rule)

pub returns-in-RuleDelayed : goal.returns-in-RuleDelayed
returns-in-RuleDelayed c = sym (ap named_shape c.in-RuleDelayed.is ∙ is_rule_delayed)

pub returns-in-ReplaceAll : goal.returns-in-ReplaceAll
returns-in-ReplaceAll c = sym (ap named_shape c.in-ReplaceAll.is ∙ is_replace_all)

pub returns-in-ReplaceRepeated : goal.returns-in-ReplaceRepeated
returns-in-ReplaceRepeated c = sym (ap named_shape c.in-ReplaceRepeated.is ∙ is_replace_repeated)

pub returns-in-Set : goal.returns-in-Set
returns-in-Set c = sym (ap named_shape c.in-Set.is ∙ is_set)

pub returns-in-SetDelayed : goal.returns-in-SetDelayed
returns-in-SetDelayed c = sym (ap named_shape c.in-SetDelayed.is ∙ is_set_delayed)

pub returns-in-Equal : goal.returns-in-Equal
returns-in-Equal c = sym (ap named_shape c.in-Equal.is ∙ is_equal)

pub returns-in-Unequal : goal.returns-in-Unequal
returns-in-Unequal c = sym (ap named_shape c.in-Unequal.is ∙ is_unequal)

pub returns-in-Less : goal.returns-in-Less
returns-in-Less c = sym (ap named_shape c.in-Less.is ∙ is_less)

pub returns-in-LessEqual : goal.returns-in-LessEqual
returns-in-LessEqual c = sym (ap named_shape c.in-LessEqual.is ∙ is_less_equal)

pub returns-in-Greater : goal.returns-in-Greater
returns-in-Greater c = sym (ap named_shape c.in-Greater.is ∙ is_greater)

pub returns-in-GreaterEqual : goal.returns-in-GreaterEqual
returns-in-GreaterEqual c = sym (ap named_shape c.in-GreaterEqual.is ∙ is_greater_equal)

pub returns-in-SameQ : goal.returns-in-SameQ
returns-in-SameQ c = sym (ap named_shape c.in-SameQ.is ∙ is_same_q)

pub returns-in-UnsameQ : goal.returns-in-UnsameQ
returns-in-UnsameQ c = sym (ap named_shape c.in-UnsameQ.is ∙ is_unsame_q)

pub returns-in-And : goal.returns-in-And
returns-in-And c = sym (ap named_shape c.in-And.is ∙ is_and)

pub returns-in-Or : goal.returns-in-Or
returns-in-Or c = sym (ap named_shape c.in-Or.is ∙ is_or)

pub returns-in-Alternatives : goal.returns-in-Alternatives
returns-in-Alternatives c = sym (ap named_shape c.in-Alternatives.is ∙ is_alternatives)

pub returns-in-CompoundExpression : goal.returns-in-CompoundExpression
returns-in-CompoundExpression c = sym (ap named_shape c.in-CompoundExpression.is ∙ is_compound_expression)
