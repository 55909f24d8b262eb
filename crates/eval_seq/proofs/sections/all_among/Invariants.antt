use Rattle.std.proofs.Common.{◌≡◌, drop}
use Rattle.semantics.specs.Play.{all_among}
use Rattle.eval_seq.proofs.sections.all_among.Given as goal

abbrev pub invariant-loop-i : goal.invariant-loop-i
invariant-loop-i l = all_among (drop l.i l.locks) l.held ≡ all_among l.locks l.held
