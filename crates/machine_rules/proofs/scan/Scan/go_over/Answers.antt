use Rattle.std.proofs.Common.{rules, ◌≡◌, []}
use Rattle.rule_frames.specs.Reading.{same}
use Rattle.rule_frames.proofs.Shown.{shows_on}
use Rattle.machine_rules.proofs.Going.{goes_after}
use Rattle.machine_rules.proofs.Scanning.{goes_end, goes_move, goes_next, shows_end, shows_item}
use Rattle.machine_rules.proofs.scan.Scan.go_over.Goals as goal

pub loop-subject-init : goal.loop-subject-init
loop-subject-init c = same

pub returns-in-Ok-Some : goal.returns-in-Ok-Some
returns-in-Ok-Some c = goes_after (shows_item c.loop-subject.self.rules c.loop-subject.self.tally c.in-Some.subject c.pop.new.self c.loop-subject.invariant c.in-Some.ensures) (goes_move (rw c.in-Ok-Some.field-0-is at c.in-Ok-Some.ensures.goes))

pub loop-subject-preserved : goal.loop-subject-preserved
loop-subject-preserved c = shows_on (shows_item c.loop-subject.self.rules c.loop-subject.self.tally c.in-Some.subject c.pop.new.self c.loop-subject.invariant c.in-Some.ensures) (goes_next (rw c.in-Ok-None.field-0-is at c.in-Ok-None.ensures.goes))

pub returns-in-Err : goal.returns-in-Err
returns-in-Err c = goes_after (shows_item c.loop-subject.self.rules c.loop-subject.self.tally c.in-Some.subject c.pop.new.self c.loop-subject.invariant c.in-Some.ensures) (goes_end c.in-Err.ensures.goes)

pub returns : goal.returns
returns c =
    let empty : c.loop-subject.self.rest ≡ [] = search rules in
    goes_after (shows_end c.loop-subject.self.rules c.loop-subject.self.tally c.loop-subject.invariant empty) (c.finish.ensures c.args.defs.now)
