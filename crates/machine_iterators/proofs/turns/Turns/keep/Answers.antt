use Rattle.machine_iterators.proofs.Walking.{forgets}
use Rattle.machine_iterators.proofs.turns.Turns.keep.Goals as goal

pub returns-in-Do-clause-kept : goal.returns-in-Do-clause-kept
returns-in-Do-clause-kept c = λ names. forgets names c.args.body.now c.args.self.now c.args.answer c.in-Do.is
