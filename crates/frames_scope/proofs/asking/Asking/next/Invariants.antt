use Rattle.std.proofs.Common.{◌≡◌, ◌≤◌, ◌-◌, length, List, None}
use Rattle.semantics.specs.Program as p
use Rattle.semantics.specs.Program.{Prog}
use Rattle.frames_scope.specs.ScopingLeft.{left_asking}
use Rattle.frames_scope.proofs.asking.Asking.next.Given as goal

abbrev pub decreases-loop-self : goal.decreases-loop-self
decreases-loop-self l = length l.self.locals - l.self.place

abbrev pub invariant-loop-self : goal.invariant-loop-self
invariant-loop-self l = record {
  goes_on : (k : List p.Local → Prog) → left_asking l.fn.self l.fn.answer k ≡ left_asking l.self None k;
  quiet : l.self.asked ≡ None;
  same : l.self.locals ≡ l.fn.self.locals;
  later : l.fn.self.place ≤ l.self.place;
}
