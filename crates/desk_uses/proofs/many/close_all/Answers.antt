use Rattle.std.proofs.Common.{rules}
use Rattle.desk_uses.proofs.Joins.{has_all, has_exactly_each}
use Rattle.desk_uses.proofs.many.close_all.Goals as goal

pub close-requires-clause-all : goal.close-requires-clause-all
close-requires-clause-all g c = has_all c.args.pass c.args.passes.items c.join_all-pass.result c.join_all-pass.ensures c.requires.root c.requires.numbered c.requires.made

pub returns-clause-root : goal.returns-clause-root
returns-clause-root g c = (has_exactly_each _ c.args.pass c.args.passes.items c.join_all-pass.result c.join_all-pass.ensures c.close.ensures.own).0

pub returns-clause-each : goal.returns-clause-each
returns-clause-each g c = (has_exactly_each _ c.args.pass c.args.passes.items c.join_all-pass.result c.join_all-pass.ensures c.close.ensures.own).1
