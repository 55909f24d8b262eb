use Rattle.std.proofs.Common.{rules, ap, ◌∙◌, ◌++◌, ◌∷◌, [], append_assoc, sym, append-nil}
use Rattle.desk_uses.proofs.Joins.{of_desk, joins_one, joins_none}
use Rattle.desk_uses.proofs.many.join_all.Goals as goal

pub join-pass-requires : goal.join-pass-requires
join-pass-requires g c = record {
  desk = (
    c.loop-other.invariant.joins.desk ∙ c.requires.desk,
    of_desk _ c.loop-other.yielded c.in-Some.other c.next.new.self.rest.items _ (ap (λ l. c.loop-other.yielded ++ l) (sym c.in-Some.ensures.steps.0) ∙ c.loop-other.invariant.parts) c.requires.all,
  );
}

pub loop-other-preserved : goal.loop-other-preserved
loop-other-preserved g c = record {
  joins = joins_one _ _ _ _ _ c.loop-other.invariant.joins c.join-pass.ensures.both c.join-pass.ensures.seen.0;
  parts = append_assoc c.loop-other.yielded (c.in-Some.other ∷ []) c.next.new.self.rest.items ∙ ap (λ l. c.loop-other.yielded ++ l) (sym c.in-Some.ensures.steps.0) ∙ c.loop-other.invariant.parts;
}

pub loop-other-init : goal.loop-other-init
loop-other-init g c = record { joins = joins_none _; parts = c.into_iter-other-iterator.ensures.into_iter_gives.0 }
