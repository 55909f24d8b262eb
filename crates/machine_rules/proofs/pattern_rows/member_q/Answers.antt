use Rattle.std.proofs.Common.{rules, ◌≡◌, Some}
use Rattle.expr_tree.specs.Shapes.{pair_of}
use Rattle.expr_tree.specs.Tree.{normal, trees}
use Rattle.builtin_names.specs.Named.{names_in}
use Rattle.machine_rules.proofs.PatternStarts.{member_starts}
use Rattle.machine_rules.proofs.pattern_rows.member_q.Goals as goal

pub returns : goal.returns
returns c =
    let found : pair_of c.args.items.now ≡ Some (c.in-Some.list.now, c.in-Some.pattern.now) = search rules in
    let list : c.in-Some.list.now ≡ normal c.in-Normal.field-0.value (trees c.as_slice.result.now) = search rules in
    member_starts (names_in c.args.names.now) c.args.items.now c.in-Some.list.now c.in-Some.pattern.now c.in_ok-rules.rules c.as_slice.result.now c.scan.result found c.in_ok-rules.ensures c.in-Normal.field-0.value list c.scan.ensures
