use Rattle.std.proofs.Common.{rules, sym, subst}
use Rattle.sum_forms.specs.Planned.{Plans}
use Rattle.sum_forms.specs.contracts.terms.Terms.{the_view}
use Rattle.sum_forms.proofs.Lists.{lost-deep, lost-large}
use Rattle.sum_forms.proofs.terms.Terms.fault.Goals as goal

pub returns-in-Some : goal.returns-in-Some
returns-in-Some c names row ts plans =
    lost-deep names row c.args.unit c.args.whole ts (the_view c.self.inside) c.in-Some.nodes (subst (Plans ts) (sym c.self.view_is) plans)
    (search rules) (search rules) (search rules)

pub returns-in-None : goal.returns-in-None
returns-in-None c names row ts plans =
    lost-large names row c.args.unit c.args.whole ts (the_view c.self.inside) (subst (Plans ts) (sym c.self.view_is) plans)
    (search rules) (search rules)
