use Rattle.std.proofs.Common.{arith}
use Rattle.par_plan.proofs.Chunks.{longer_chunk, shorter_chunk, within_longer, within_shorter, none_empty}
use Rattle.par_plan.proofs.chunk.even_chunk.Goals as goal

pub returns-then-index-longer : goal.returns-then-index-longer
returns-then-index-longer c =
    record {
      places = longer_chunk c.args.elements c.args.count c.args.index c.requires.within c.if-index-longer.true;
      bounds = record { some = omega arith; within = within_longer c.args.elements c.args.count c.args.index c.requires.within c.if-index-longer.true };
    }

pub returns-else-index-longer : goal.returns-else-index-longer
returns-else-index-longer c =
    let within = c.requires.within in
    let least = none_empty c.args.elements c.args.count (omega (arith, within)) c.requires.some_each in
    record {
      places = shorter_chunk c.args.elements c.args.count c.args.index c.requires.within c.if-index-longer.false;
      bounds = record { some = omega (arith, least); within = within_shorter c.args.elements c.args.count c.args.index c.requires.within };
    }
