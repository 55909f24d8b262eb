use Rattle.std.proofs.Common.{rules, ◌≡◌, ◌∙◌, Some, sym}
use Rattle.expr_tree.specs.Shapes.{pair_of}
use Rattle.builtin_names.specs.Named.{names_in}
use Rattle.machine_rules.proofs.RuleStarts.{repeated_starts}
use Rattle.machine_rules.proofs.rule_row.replace_repeated.Goals as goal

pub returns : goal.returns
returns c =
    let found : pair_of c.args.items.now ≡ Some (c.in-Some.subject.now, c.in-Some.set.now) = search rules in
    repeated_starts (names_in c.args.names.now) c.args.items.now c.in-Some.subject.now c.in-Some.set.now found c.in-Some-2.rules c.in_ok-repeated.repeated (sym c.in-Some-2.is ∙ c.in_ok-rules.ensures) c.in_ok-repeated.ensures
