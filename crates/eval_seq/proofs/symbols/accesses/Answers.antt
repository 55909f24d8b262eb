use Rattle.std.proofs.Common.{rules, ◌≡◌}
use Rattle.expr_tree.specs.Tree.{integer, string, symbol, normal, trees}
use Rattle.eval_seq.proofs.Marking.{accesses_marked, accesses_int, accesses_str, accesses_call}
use Rattle.eval_seq.proofs.symbols.accesses.Goals as goal

pub returns-in-Symbol-clause-accesses : goal.returns-in-Symbol-clause-accesses
returns-in-Symbol-clause-accesses c =
    let e : c.args.head.now ≡ symbol c.in-Symbol.symbol = search rules in
    rw e (accesses_marked c.marks.ensures.marks)

pub returns-in-Normal-clause-accesses : goal.returns-in-Normal-clause-accesses
returns-in-Normal-clause-accesses c =
    let e : c.args.head.now ≡ normal c.in-Normal.field-0.value (trees c.in-Normal.field-1) = search rules in
    rw e (accesses_call c.in-Normal.field-0.value (trees c.in-Normal.field-1))

pub returns-in-Int-clause-accesses : goal.returns-in-Int-clause-accesses
returns-in-Int-clause-accesses c =
    let e : c.args.head.now ≡ integer c.in-Int.field-0 = search rules in
    rw e (accesses_int c.in-Int.field-0)

pub returns-in-Str-clause-accesses : goal.returns-in-Str-clause-accesses
returns-in-Str-clause-accesses c =
    let e : c.args.head.now ≡ string c.in-Str.field-0 = search rules in
    rw e (accesses_str c.in-Str.field-0)
