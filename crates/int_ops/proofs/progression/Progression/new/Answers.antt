use Rattle.std.specs.Int.{w128}
use Rattle.std.proofs.lemmas.Int.{to_z-of_z}
use Rattle.int_ops.proofs.Progressing.{few}
use Rattle.int_ops.proofs.progression.Progression.new.Goals as goal

pub returns-clause-bounded : goal.returns-clause-bounded
returns-clause-bounded c = rw (to_z-of_z w128 c.args.from c.ranges.from, to_z-of_z w128 c.args.to c.ranges.to, to_z-of_z w128 c.args.by c.ranges.by) (few c.args.from c.args.to c.args.by c.ranges.from c.ranges.to)
