-- Stacks of branches.
use Rattle.std.proofs.Common.{◌≡◌, ℕ, ◌+◌, ◌<◌, List, [], ◌∷◌, ◌++◌, append_assoc, append-nil, refl, ap, sym, ◌∙◌, arith}
use Rattle.match_seq.specs.declared.setting.Setting.{Setting}
use Rattle.match_seq.specs.declared.goal.Branch.{Branch}
use Rattle.match_seq.specs.Search.{answers, steps}
use Rattle.match_seq.specs.Goals.{branch, left, work}
use Rattle.match_seq.proofs.Steps.{goals-push}

pub left-push : (setting : Setting) (bs : List Branch) (b : Branch) → left setting (bs ++ b ∷ []) ≡ answers (branch setting b) ++ left setting bs
left-push setting [] b = sym (append-nil (answers (branch setting b)))
left-push setting (c ∷ bs) b = ap (λ fs. fs ++ answers (branch setting c)) (left-push setting bs b) ∙ append_assoc (answers (branch setting b)) (left setting bs) (answers (branch setting c))

pub work-push : (setting : Setting) (bs : List Branch) (b : Branch) → work setting (bs ++ b ∷ []) ≡ steps (branch setting b) + work setting bs
work-push setting [] b = omega arith
work-push setting (c ∷ bs) b = omega (arith, work-push setting bs b)

pub ruleset stack_steps = (left-push, work-push, goals-push, append_assoc)
