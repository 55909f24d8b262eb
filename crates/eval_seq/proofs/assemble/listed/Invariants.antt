use Rattle.std.proofs.Common.{drop}
use Rattle.semantics.specs.declared.builtin.Builtin.{Builtin}
use Rattle.semantics.specs.Names.{make}
use Rattle.semantics.specs.Program.{Done}
use Rattle.semantics.specs.Assemble.{check_all}
use Rattle.builtin_names.specs.Named.{names_in}
use Rattle.evaluation_steps.specs.Moves.{Shows}
use Rattle.eval_seq.proofs.assemble.listed.Given as goal

abbrev pub invariant-loop-e : goal.invariant-loop-e
invariant-loop-e l = let p = Done (make (names_in l.names) Builtin.List l.fn.each) in Shows l.limits (check_all l.fn.each p) (check_all (drop l.e-index l.fn.each) p)
