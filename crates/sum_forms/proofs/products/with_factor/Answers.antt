use Rattle.std.proofs.Common.{rules, ◌≡◌, ◌≢◌, pos, sym, subst}
use Rattle.std.specs.Prelude.{Some}
use Rattle.std.specs.Int.{w128, cast_signed, cast_unsigned}
use Rattle.semantics.specs.Numbers.{write_factor}
use Rattle.builtin_names.specs.Named.{names_in}
use Rattle.sum_forms.specs.Planned.{Written, with_one}
use Rattle.sum_forms.proofs.Factors.{factor_tree, write-some, same_part}
use Rattle.sum_forms.proofs.products.with_factor.Goals as goal

pub returns : goal.returns
returns c ts plans =
    let names = names_in c.args.names.now in
    let other : c.args.group.now.number ≢ pos 0 = search rules in
    let some = write-some names c.args.group.now other in
    let number = cast_signed w128 (cast_unsigned w128 c.in-Ok.exponent) in
    let tree = factor_tree names c.args.group.now in
    subst (λ o. Written (with_one ts o) c.with.result) (sym some) (c.with.ensures ts tree plans (c.factor.ensures tree (subst (λ q. write_factor names q ≡ Some tree) (same_part c.args.group.now number c.rest.result.now (search rules) (search rules)) some)))
