use Rattle.std.proofs.Common.{ap, arith}
use Rattle.builtin_names.specs.Named.{names_in}
use Rattle.machine_outward.proofs.Moving.{stepped_as, falls_from}
use Rattle.machine_outward.proofs.Looping.{without_method}
use Rattle.machine_outward.proofs.parallel_loop.LoopState.with_parts.Goals as goal

pub returns-in-None-clause-stepped : goal.returns-in-None-clause-stepped
returns-in-None-clause-stepped c = λ stay d used. stepped_as (without_method (names_in c.args.scene.now.names.now) c.args.call.now c.args.parts c.in-None.is) (c.send.ensures.stepped stay d used)

pub returns-in-None-clause-falls : goal.returns-in-None-clause-falls
returns-in-None-clause-falls c = falls_from c.send.result 2 3 _ (omega arith) c.send.ensures.falls
