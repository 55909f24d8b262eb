use Rattle.std.proofs.Common.{rules, arith, refl, sym, subst}
use Rattle.sum_forms.specs.Planned.{Plans}
use Rattle.sum_forms.specs.contracts.terms.Terms.{the_view}
use Rattle.sum_forms.proofs.Lists.{plans-made}
use Rattle.sum_forms.proofs.terms.Terms.with_made.Goals as goal

pub returns : goal.returns
returns c ts plans = record {
  by = plans-made ts c.args.term (the_view c.self.inside) (the_view (record { held = c.push.new.self; count = c.saturating_add.result; nodes = c.in-Some.nodes; is_lost = c.self.inside.is_lost }))
      (subst (Plans ts) (sym c.self.view_is) plans) (search rules) c.saturating_add.ensures (omega (arith, c.in-Some.ensures, c.size.ensures.value)) (omega (arith, c.in-Some.ensures)) refl;
}
