use Rattle.std.proofs.Common.{◌+◌, ◌*◌, ◌≤◌, arith}
use Rattle.par_plan.proofs.Chunks.{begins_within, whole_chunk, last_chunk}
use Rattle.par_plan.proofs.chunk.chunk_of_size.Goals as goal

pub overflow_mul-from : goal.overflow_mul-from
overflow_mul-from c =
    let within = begins_within c.args.elements c.args.size c.args.index c.requires.size c.requires.within in
    let small = c.ranges.elements.fits in
    omega (arith, within, small)

pub overflow_sub-elements : goal.overflow_sub-elements
overflow_sub-elements c = let within = begins_within c.args.elements c.args.size c.args.index c.requires.size c.requires.within in omega (arith, within)

pub returns-then-elements-from : goal.returns-then-elements-from
returns-then-elements-from c =
    record {
      places = last_chunk c.args.elements c.args.size c.args.index c.requires.size c.requires.within c.if-elements-from.true;
      bounds = record { some = begins_within c.args.elements c.args.size c.args.index c.requires.size c.requires.within; within = omega arith };
    }

pub returns-else-elements-from : goal.returns-else-elements-from
returns-else-elements-from c =
    let begins = begins_within c.args.elements c.args.size c.args.index c.requires.size c.requires.within in
    let more = c.if-elements-from.false in
    let some = c.requires.size in
    let ends : c.args.index * c.args.size + c.args.size ≤ c.args.elements = omega (arith, begins, more) in
    record {
      places = whole_chunk c.args.elements c.args.size c.args.index c.requires.size ends;
      bounds = record { some = omega (arith, some); within = ends };
    }
