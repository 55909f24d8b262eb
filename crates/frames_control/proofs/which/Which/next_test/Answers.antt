use Rattle.std.proofs.Common.{refl}
use Rattle.frames_control.proofs.Shown.{shown}
use Rattle.builtin_names.specs.Named.{names_in}
use Rattle.frames_control.proofs.Choosing.{test_asked}
use Rattle.frames_control.proofs.which.Which.next_test.Goals as goal

pub returns-in_default-clause-moved : goal.returns-in_default-clause-moved
returns-in_default-clause-moved c = shown (rw (c.in_default.ensures.0, c.name.ensures) refl)

pub returns-then-is_empty-clause-moved : goal.returns-then-is_empty-clause-moved
returns-then-is_empty-clause-moved c = shown (rw (c.in-Some.ensures, c.if-is_empty.ensures.0 refl, c.name-then-is_empty.ensures, c.in_ok-one.ensures) refl)

pub returns-clause-moved : goal.returns-clause-moved
returns-clause-moved c = shown (rw c.in-Some.ensures (test_asked (names_in c.args.names.now) c.in-Some.test c.pop.new.self c.if-is_empty.ensures.1))
