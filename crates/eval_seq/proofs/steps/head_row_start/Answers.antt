use Rattle.std.proofs.Common.{rules, ◌≡◌, refl}
use Rattle.expr_tree.specs.Tree.{integer, string, symbol, normal, trees}
use Rattle.eval_seq.proofs.Driving.{begins_none}
use Rattle.eval_seq.proofs.steps.head_row_start.Goals as goal

pub returns-in-Symbol-clause-begins : goal.returns-in-Symbol-clause-begins
returns-in-Symbol-clause-begins g c =
    λ n. let e : c.args.head.now ≡ symbol c.in-Symbol.symbol = search rules in
    rw e (c.built_in.ensures.begins n)

pub returns-in-Normal-clause-begins : goal.returns-in-Normal-clause-begins
returns-in-Normal-clause-begins g c =
    λ n. let e : c.args.head.now ≡ normal c.in-Normal.field-0.value (trees c.in-Normal.field-1) = search rules in
    rw e (begins_none (λ rest. refl))

pub returns-in-Int-clause-begins : goal.returns-in-Int-clause-begins
returns-in-Int-clause-begins g c =
    λ n. let e : c.args.head.now ≡ integer c.in-Int.field-0 = search rules in
    rw e (begins_none (λ rest. refl))

pub returns-in-Str-clause-begins : goal.returns-in-Str-clause-begins
returns-in-Str-clause-begins g c =
    λ n. let e : c.args.head.now ≡ string c.in-Str.field-0 = search rules in
    rw e (begins_none (λ rest. refl))
