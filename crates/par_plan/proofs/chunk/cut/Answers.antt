use Rattle.std.proofs.Common.{ap, arith}
use Rattle.par_plan.specs.Plan.{method_of}
use Rattle.par_plan.proofs.Chunks.{finest_chunk, finest_within}
use Rattle.par_plan.proofs.chunk.cut.Goals as goal

pub returns-in-Finest : goal.returns-in-Finest
returns-in-Finest c =
    let is = ap method_of c.in-Finest.is in
    record {
      places = finest_chunk (method_of c.args.method) c.args.elements c.args.kernels c.args.index is c.requires.within;
      bounds = record { some = omega arith; within = finest_within (method_of c.args.method) c.args.elements c.args.kernels c.args.index is c.requires.within };
    }
