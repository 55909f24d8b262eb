use Rattle.std.proofs.Common.{refl}
use Rattle.frames_control.proofs.Shown.{shown}
use Rattle.builtin_names.specs.Named.{names_in}
use Rattle.frames_control.specs.Choices.{row_of, going_of, ending_of}
use Rattle.frames_control.proofs.Choosing.{several_kept}
use Rattle.frames_control.proofs.connected.Connected.finish.Goals as goal

pub returns-in_default-clause-moved : goal.returns-in_default-clause-moved
returns-in_default-clause-moved c = shown (rw (c.requires.at_end, c.in_default.ensures.0, c.name.ensures, c.going.ensures) refl)

pub returns-then-is_empty-clause-moved : goal.returns-then-is_empty-clause-moved
returns-then-is_empty-clause-moved c = shown (rw (c.requires.at_end, c.in-Some.ensures, c.if-is_empty.ensures.0 refl) refl)

pub returns-clause-moved : goal.returns-clause-moved
returns-clause-moved c =
    shown (rw (c.requires.at_end, c.in-Some.ensures, c.name-2.ensures, c.row.ensures, c.take_reversed.ensures, c.in_ok-push.ensures) (several_kept (names_in c.args.names.now) (row_of c.args.self.now.connective) (going_of c.args.self.now.connective) (ending_of c.args.self.now.connective) c.in-Some.last c.pop.new.self c.if-is_empty.ensures.1))
