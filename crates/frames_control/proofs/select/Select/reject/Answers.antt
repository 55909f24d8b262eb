use Rattle.std.proofs.Common.{sym, ap, List}
use Rattle.frames_control.proofs.Turns.{moved_as}
use Rattle.builtin_names.specs.Named.{names_in}
use Rattle.expr_tree.specs.Tree.{Tree, call}
use Rattle.semantics.specs.Program.{Done}
use Rattle.semantics.specs.Control.{selected}
use Rattle.frames_control.proofs.Turns.{popped}
use Rattle.frames_control.proofs.select.Select.reject.Goals as goal

pub returns-clause-moved : goal.returns-clause-moved
returns-clause-moved c =
    moved_as
    (ap (λ (k : List Tree). selected (names_in c.args.names.now) c.args.self.now.function c.args.self.now.rest k (λ done. Done (call c.args.self.now.head done))) (sym (popped c.pop.result c.args.self.now.kept c.pop.new.self c.pop.ensures)))
    c.turn.ensures.moved
