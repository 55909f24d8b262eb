-- The bases of the names that a key counts.
--     marks_of              those of some names
--     marked                names that have these bases
use Rattle.std.specs.Prelude.{ℕ, None}
use Rattle.semantics.specs.declared.builtin.Builtin.{Builtin}
use Rattle.semantics.specs.Names.{Names}
use Rattle.rule_store.specs.declared.marks.Marks.{Marks}

abbrev pub marks_of : Names → Marks
marks_of names =
    record {
      null_sequence = names.place Builtin.BlankNullSequence;
      sequence = names.place Builtin.BlankSequence;
      blank = names.place Builtin.Blank;
      condition = names.place Builtin.Condition;
      test = names.place Builtin.PatternTest;
    }

abbrev pub marked_place : Marks → Builtin → ℕ
marked_place marks Builtin.BlankNullSequence = marks.null_sequence
marked_place marks Builtin.BlankSequence = marks.sequence
marked_place marks Builtin.Blank = marks.blank
marked_place marks Builtin.Condition = marks.condition
marked_place marks Builtin.PatternTest = marks.test
marked_place marks _ = 0

abbrev pub marked : Marks → Names
marked marks = record { place = marked_place marks; role = λ base. None }
