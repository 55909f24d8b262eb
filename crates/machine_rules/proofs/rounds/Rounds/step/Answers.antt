use Rattle.std.proofs.Common.{refl}
use Rattle.builtin_names.specs.Named.{names_in}
use Rattle.rule_frames.proofs.Shown.{shows_is}
use Rattle.machine_rules.proofs.Going.{goes_after}
use Rattle.machine_rules.proofs.Ending.{before_round, round_asks, round_whole, round_halts}
use Rattle.machine_rules.proofs.rounds.Rounds.step.Goals as goal

pub returns-then-not-self : goal.returns-then-not-self
returns-then-not-self c =
    goes_after (shows_is (before_round (names_in c.args.scene.now.names.now) c.args.self.now c.args.answer c.if-not-self.true)) (c.begin_with.ensures (names_in c.args.scene.now.names.now) c.args.defs.now c.args.scene.now.limits)

pub returns-in-Ok-Ask : goal.returns-in-Ok-Ask
returns-in-Ok-Ask c =
    round_asks (names_in c.args.scene.now.names.now) c.args.defs.now c.args.scene.now.limits c.args.self.now c.args.answer c.if-not-self.false
    (record { walk = c.step.new.self; subject = c.args.self.now.subject; further = c.args.self.now.further; begun = c.args.self.now.begun }) c.if-not-self.false refl refl c.in-Ok-Ask.ensures.rules
    (rw c.in-Ok-Ask.field-0-is at c.in-Ok-Ask.ensures.goes)

pub returns-in-Ok-Whole : goal.returns-in-Ok-Whole
returns-in-Ok-Whole c =
    goes_after
    (round_whole (names_in c.args.scene.now.names.now) c.args.defs.now c.args.scene.now.limits c.args.self.now c.args.answer c.if-not-self.false c.step.new.self.rules c.in-Ok-Whole.ensures.rules
    (rw c.in-Ok-Whole.field-0-is at c.in-Ok-Whole.ensures.goes))
    (c.end.ensures c.args.defs.now)

pub returns-in-Err : goal.returns-in-Err
returns-in-Err c = round_halts (names_in c.args.scene.now.names.now) c.args.defs.now c.args.scene.now.limits c.args.self.now c.args.answer c.if-not-self.false c.in-Err.ensures.goes
