use Rattle.std.proofs.Common.{rules, ◌≡◌, pos, sym, subst, true, Err}
use Rattle.std.specs.Prelude.{Ok, FitsSigned}
use Rattle.std.specs.Int.{w128}
use Rattle.std.proofs.lemmas.Int.{to_z-of_z}
use Rattle.semantics.specs.declared.builtin.Builtin.{Builtin}
use Rattle.semantics.specs.Steps.{ordered}
use Rattle.sum_forms.specs.Planned.{Written}
use Rattle.sum_forms.proofs.Lists.{written-fault}
use Rattle.expr_tree.specs.Limits.{in_range}
use Rattle.semantics.specs.Worked.{Gives, all_in_range}
use Rattle.semantics.specs.Numbers.{numbers_of, written, write_term, assembled}
use Rattle.int_ops.specs.Totals.{total}
use Rattle.builtin_names.specs.Named.{names_in}
use Rattle.builtin_names.specs.Results.{Makes, Works}
use Rattle.sum_forms.proofs.Addends.{sum-given}
use Rattle.sum_forms.proofs.sums.sum_of.Goals as goal

pub returns-in-Ok-terms_of : goal.returns-in-Ok-terms_of
returns-in-Ok-terms_of c =
    let names = names_in c.args.names.now in
    let groups = c.args.groups.now in
    let z = total c.args.numbers.now in
    let ts = written (write_term names) groups in
    let fits : in_range z ≡ true = search rules in
    let is : c.in-Ok.whole ≡ z = search rules in
    let all : all_in_range (numbers_of groups) ≡ true = search rules in
    let done : Written ts (Ok c.in-Ok-terms_of.terms) = subst (Written ts) c.in-Ok-terms_of.is c.terms_of.ensures in
    let whole_fits : FitsSigned w128 c.in-Ok.whole = search rules in
    let made : Makes (assembled names Builtin.Plus (pos 0) c.in-Ok.whole (ordered ts)) c.finish.result = simp to_z-of_z at (c.finish.ensures ts done.by) in
    subst (λ w. Works w c.given.result) (sym (sum-given names z groups fits all))
    (subst (λ y. Works (Gives (assembled names Builtin.Plus (pos 0) y (ordered ts))) c.given.result) is (c.given.ensures (assembled names Builtin.Plus (pos 0) c.in-Ok.whole (ordered ts)) made))

pub returns-in-Err : goal.returns-in-Err
returns-in-Err c =
    let names = names_in c.args.names.now in
    let groups = c.args.groups.now in
    let z = total c.args.numbers.now in
    let ts = written (write_term names) groups in
    let fits : in_range z ≡ true = search rules in
    let all : all_in_range (numbers_of groups) ≡ true = search rules in
    let failed : Written ts (Err c.in-Err.fault) = subst (Written ts) c.in-Err.is c.terms_of.ensures in
    subst (λ w. Works w (Err c.in-Err.fault)) (sym (sum-given names z groups fits all)) (written-fault names Builtin.Plus (pos 0) z ts c.in-Err.fault failed)
