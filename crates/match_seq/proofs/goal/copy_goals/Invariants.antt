use Rattle.std.proofs.Common.{◌≡◌, take}
use Rattle.match_seq.proofs.goal.copy_goals.Given as goal

abbrev pub invariant-loop-goal : goal.invariant-loop-goal
invariant-loop-goal l = l.copies ≡ take l.goal-index l.goals
