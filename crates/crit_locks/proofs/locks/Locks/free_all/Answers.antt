use Rattle.std.proofs.Common.{rules, ◌≡◌, ◌∙◌}
use Rattle.std.specs.Prelude.{not, ◌==◌}
use Rattle.std.proofs.lemmas.Fn.{filter_same}
use Rattle.crit_locks.specs.Holdings.{without}
use Rattle.crit_locks.proofs.Left.{left_by_filter, left_as_seen, left_by_each_as_seen}
use Rattle.crit_locks.proofs.locks.Locks.free_all.Goals as goal

pub returns-clause-left : goal.returns-clause-left
returns-clause-left c =
    let rest : c.retain.new.self.items ≡ without c.args.kernel c.self.inside.held.items =
    filter_same _ (λ h. not (h.by == c.args.kernel)) _ (λ x b f' k. search rules) _ _ c.retain.ensures.filtered
    ∙ left_by_filter c.args.kernel c.self.inside.held.items
    in
    left_as_seen _ _ _ _ _ _ c.self.view_is rest c.retain.ensures.capacity

pub returns-clause-locks : goal.returns-clause-locks
returns-clause-locks c =
    let rest : c.retain.new.self.items ≡ without c.args.kernel c.self.inside.held.items =
    filter_same _ (λ h. not (h.by == c.args.kernel)) _ (λ x b f' k. search rules) _ _ c.retain.ensures.filtered
    ∙ left_by_filter c.args.kernel c.self.inside.held.items
    in
    left_by_each_as_seen _ _ _ _ _ c.self.view_is rest
