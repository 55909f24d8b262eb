use Rattle.std.proofs.Common.{rules, ◌≡◌, Some, []}
use Rattle.expr_tree.specs.Shapes.{pair_of}
use Rattle.expr_tree.specs.Tree.{normal, trees}
use Rattle.builtin_names.specs.Named.{names_in}
use Rattle.machine_rules.specs.declared.tally.Tally.{Tally}
use Rattle.machine_rules.proofs.PatternStarts.{cases_starts}
use Rattle.machine_rules.proofs.pattern_rows.cases.Goals as goal

pub returns : goal.returns
returns c =
    let found : pair_of c.args.items.now ≡ Some (c.in-Some.list.now, c.in-Some.pattern.now) = search rules in
    let list : c.in-Some.list.now ≡ normal c.in-Normal.head.value (trees c.as_slice.result.now) = search rules in
    let gathers : Tally.Gathers c.in_ok-rules.pick c.in_ok-copy.field-0 c.new.result ≡ Tally.Gathers c.in_ok-rules.pick c.in-Normal.head.value [] = search rules in
    cases_starts (names_in c.args.names.now) c.args.items.now c.in-Some.list.now c.in-Some.pattern.now c.in_ok-rules.rules c.in_ok-rules.pick (Tally.Gathers c.in_ok-rules.pick c.in_ok-copy.field-0 c.new.result)
    c.as_slice.result.now c.scan.result found c.in_ok-rules.ensures c.in-Normal.head.value list gathers c.scan.ensures
