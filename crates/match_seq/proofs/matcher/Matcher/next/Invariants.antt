use Rattle.std.proofs.Common.{◌≡◌}
use Rattle.match_seq.specs.Goals.{left, work}
use Rattle.match_seq.proofs.matcher.Matcher.next.Given as goal

abbrev pub invariant-loop-branch : goal.invariant-loop-branch
invariant-loop-branch l = left l.self-inside.setting l.self-inside.stack ≡ left l.initial.self-inside.setting l.initial.self-inside.stack

abbrev pub decreases-loop-branch : goal.decreases-loop-branch
decreases-loop-branch l = work l.self-inside.setting l.self-inside.stack
