use Rattle.std.proofs.Common.{arith, true, refl, sym, subst}
use Rattle.sum_forms.specs.Planned.{Plans}
use Rattle.sum_forms.specs.contracts.terms.Terms.{the_view}
use Rattle.sum_forms.proofs.Lists.{plans-lost}
use Rattle.sum_forms.proofs.terms.Terms.with_lost.Goals as goal

pub returns : goal.returns
returns c ts t plans size_is deep = record {
  by = plans-lost ts t (the_view c.self.inside) (the_view (record { held = c.self.inside.held; count = c.saturating_add.result; nodes = c.in-Some.nodes; is_lost = true }))
      (subst (Plans ts) (sym c.self.view_is) plans) deep c.saturating_add.ensures (omega (arith, c.in-Some.ensures)) (omega (arith, c.in-Some.ensures)) refl;
}
