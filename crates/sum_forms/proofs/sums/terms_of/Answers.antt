use Rattle.std.proofs.Common.{◌≡◌, ◌+◌, ◌∷◌, Err, subst, drop, add-one}
use Rattle.semantics.specs.Numbers.{write_term, written}
use Rattle.builtin_names.specs.Named.{names_in}
use Rattle.sum_forms.specs.Planned.{Written, with_one}
use Rattle.sum_forms.proofs.Rests.{cut}
use Rattle.sum_forms.proofs.Lists.{written-whole}
use Rattle.sum_forms.proofs.Addends.{written-next}
use Rattle.sum_forms.proofs.sums.terms_of.Goals as goal

pub returns-in-Err : goal.returns-in-Err
returns-in-Err c =
    let names = names_in c.args.names.now in
    let groups = c.args.groups.now in
    let i = c.loop-group.group-index in
    let done = c.loop-group.invariant.done in
    let next : drop i groups ≡ c.group-item.result ∷ drop (i + 1) groups = rw (add-one i) (cut groups i c.group-item.result c.loop-group-test.true c.group-item.is) in
    let failed : Written (with_one done (write_term names c.group-item.result)) (Err c.in-Err.fault) = subst (Written (with_one done (write_term names c.group-item.result))) c.in-Err.is (c.with_term.ensures done c.loop-group.invariant.plans) in
    written-whole (with_one done (write_term names c.group-item.result)) (written (write_term names) (drop (i + 1) groups)) (written (write_term names) groups) c.in-Err.fault
    (written-next names done c.group-item.result (drop (i + 1) groups) (drop i groups) (written (write_term names) groups) next c.loop-group.invariant.whole) failed
