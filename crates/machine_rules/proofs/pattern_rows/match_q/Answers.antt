use Rattle.std.proofs.Common.{rules, ◌≡◌, Some, [], ◌∷◌}
use Rattle.expr_tree.specs.Shapes.{pair_of}
use Rattle.builtin_names.specs.Named.{names_in}
use Rattle.machine_rules.proofs.PatternStarts.{match_starts}
use Rattle.machine_rules.proofs.pattern_rows.match_q.Goals as goal

pub returns : goal.returns
returns c =
    let found : pair_of c.args.items.now ≡ Some (c.in-Some.subject.now, c.in-Some.pattern.now) = search rules in
    let one : c.as_slice.result.now ≡ c.in-Some.subject.now ∷ [] = search rules in
    match_starts (names_in c.args.names.now) c.args.items.now c.in-Some.subject.now c.in-Some.pattern.now c.in_ok-rules.rules c.as_slice.result.now c.scan.result found c.in_ok-rules.ensures one c.scan.ensures
