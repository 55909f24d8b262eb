use Rattle.std.proofs.Common.{rules, ◌≡◌}
use Rattle.std.specs.Prelude.{Some}
use Rattle.builtin_names.specs.Named.{names_in}
use Rattle.sum_forms.specs.Splits.{power_in}
use Rattle.sum_forms.proofs.Shapes.{raised}
use Rattle.sum_forms.proofs.powers.power_of.Goals as goal

pub returns : goal.returns
returns c =
    let names = names_in c.args.names.now in
    let found : power_in names c.args.base.now ≡ Some (record { number = c.in-Some.inner.exponent; rest = c.in-Some.inner.base.now }) = search rules in
    raised names c.args.base.now c.args.exponent (record { number = c.in-Some.inner.exponent; rest = c.in-Some.inner.base.now }) c.in-Ok.product c.in_ok-make.field-0
    found (search rules) (search rules) (search rules) (search rules) (search rules)
