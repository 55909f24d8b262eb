-- The constructs by their names.
use Rattle.semantics.specs.declared.builtin.Builtin.{Builtin}
use Rattle.semantics.specs.Names.{Names, known}
use Rattle.match_seq.specs.declared.constructs.Constructs.{Constructs}

abbrev pub constructs_of : Names → Constructs
constructs_of names = record {
  blank = known names Builtin.Blank;
  sequence = known names Builtin.BlankSequence;
  null_sequence = known names Builtin.BlankNullSequence;
  pattern = known names Builtin.Pattern;
  test = known names Builtin.PatternTest;
  condition = known names Builtin.Condition;
  alternatives = known names Builtin.Alternatives;
  hold = known names Builtin.HoldPattern;
  verbatim = known names Builtin.Verbatim;
}
