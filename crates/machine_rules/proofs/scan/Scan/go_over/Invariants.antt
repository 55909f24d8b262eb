use Rattle.std.proofs.Common.{length}
use Rattle.builtin_names.specs.Named.{names_in}
use Rattle.rule_frames.specs.Reading.{Shows}
use Rattle.machine_rules.specs.Scans.{rest_of_scan}
use Rattle.machine_rules.proofs.scan.Scan.go_over.Given as goal

abbrev pub invariant-loop-subject : goal.invariant-loop-subject
invariant-loop-subject l = Shows (names_in l.scene.names.now) l.defs l.scene.limits (rest_of_scan (names_in l.scene.names.now) l.initial.self) (rest_of_scan (names_in l.scene.names.now) l.self)

abbrev pub decreases-loop-subject : goal.decreases-loop-subject
decreases-loop-subject l = length l.self.rest
