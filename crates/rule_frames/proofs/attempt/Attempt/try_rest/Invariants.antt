use Rattle.std.proofs.Common.{length, ◌-◌, Option}
use Rattle.expr_tree.specs.Tree.{Tree}
use Rattle.semantics.specs.Definitions.{Definitions}
use Rattle.semantics.specs.Program.{Prog}
use Rattle.builtin_names.specs.Named.{names_in}
use Rattle.rule_frames.specs.Reading.{Tells, Shows}
use Rattle.rule_frames.specs.Trials.{left_rules}
use Rattle.rule_frames.proofs.attempt.Attempt.try_rest.Given as goal

abbrev pub invariant-loop-self : goal.invariant-loop-self
invariant-loop-self g l =
    (d : Definitions) → Tells (names_in l.names) d (g.A.AttrSource.told l.attrs)
    → (k : Option Tree → Prog) → Shows (names_in l.names) d l.limits (left_rules (names_in l.names) l.initial.self k) (left_rules (names_in l.names) l.self k)

abbrev pub decreases-loop-self : goal.decreases-loop-self
decreases-loop-self g l = length l.self.rules - l.self.next
