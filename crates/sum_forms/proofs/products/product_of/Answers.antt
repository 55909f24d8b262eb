use Rattle.std.proofs.Common.{rules, ◌≡◌, ◌≢◌, pos, sym, subst, true, false, Err}
use Rattle.std.specs.Prelude.{Ok, FitsSigned}
use Rattle.std.specs.Int.{w128}
use Rattle.std.proofs.lemmas.Int.{to_z-of_z}
use Rattle.semantics.specs.declared.builtin.Builtin.{Builtin}
use Rattle.semantics.specs.Steps.{ordered}
use Rattle.sum_forms.specs.Planned.{Written}
use Rattle.sum_forms.proofs.Lists.{written-fault}
use Rattle.expr_tree.specs.Limits.{in_range}
use Rattle.semantics.specs.Worked.{Gives, all_in_range}
use Rattle.semantics.specs.Numbers.{numbers_of, written, write_factor, assembled}
use Rattle.builtin_names.specs.Named.{names_in}
use Rattle.builtin_names.specs.declared.fault.Fault.TheVariants as fa
use Rattle.builtin_names.specs.Results.{Makes, Works}
use Rattle.sum_forms.proofs.Factors.{product-wide, product-parts, product-given}
use Rattle.sum_forms.proofs.products.product_of.Goals as goal

pub returns-in_default : goal.returns-in_default
returns-in_default c z stands =
    let wide : in_range z ≡ false = search (rules, c.judged.ensures z stands) in
    subst (λ w. Works w (Err fa.Range)) (sym (product-wide (names_in c.args.names.now) z c.args.groups.now wide)) (record { by = tt })

pub returns-then-not-are_in_range : goal.returns-then-not-are_in_range
returns-then-not-are_in_range c z stands =
    let fits : in_range z ≡ true = search (rules, c.judged.ensures z stands) in
    let is : c.in-Ok.whole ≡ z = search (rules, c.judged.ensures z stands) in
    let other : z ≢ pos 0 = search rules in
    let wide : all_in_range (numbers_of c.args.groups.now) ≡ false = search rules in
    subst (λ w. Works w (Err fa.Range)) (sym (product-parts (names_in c.args.names.now) z c.args.groups.now other fits wide)) (record { by = tt })

pub returns-in-Ok-factors_of : goal.returns-in-Ok-factors_of
returns-in-Ok-factors_of c z stands =
    let names = names_in c.args.names.now in
    let groups = c.args.groups.now in
    let ts = written (write_factor names) groups in
    let fits : in_range z ≡ true = search (rules, c.judged.ensures z stands) in
    let is : c.in-Ok.whole ≡ z = search (rules, c.judged.ensures z stands) in
    let other : z ≢ pos 0 = search rules in
    let all : all_in_range (numbers_of groups) ≡ true = search rules in
    let done : Written ts (Ok c.in-Ok-factors_of.factors) = subst (Written ts) c.in-Ok-factors_of.is c.factors_of.ensures in
    let whole_fits : FitsSigned w128 c.in-Ok.whole = search rules in
    let made : Makes (assembled names Builtin.Times (pos 1) c.in-Ok.whole (ordered ts)) c.finish.result = simp to_z-of_z at (c.finish.ensures ts done.by) in
    subst (λ w. Works w c.given.result) (sym (product-given names z groups other fits all))
    (subst (λ y. Works (Gives (assembled names Builtin.Times (pos 1) y (ordered ts))) c.given.result) is (c.given.ensures (assembled names Builtin.Times (pos 1) c.in-Ok.whole (ordered ts)) made))

pub returns-in-Err : goal.returns-in-Err
returns-in-Err c z stands =
    let names = names_in c.args.names.now in
    let groups = c.args.groups.now in
    let ts = written (write_factor names) groups in
    let fits : in_range z ≡ true = search (rules, c.judged.ensures z stands) in
    let is : c.in-Ok.whole ≡ z = search (rules, c.judged.ensures z stands) in
    let other : z ≢ pos 0 = search rules in
    let all : all_in_range (numbers_of groups) ≡ true = search rules in
    let failed : Written ts (Err c.in-Err.fault) = subst (Written ts) c.in-Err.is c.factors_of.ensures in
    subst (λ w. Works w (Err c.in-Err.fault)) (sym (product-given names z groups other fits all)) (written-fault names Builtin.Times (pos 1) z ts c.in-Err.fault failed)
