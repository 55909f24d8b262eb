-- The forms with iterators.
--     row_of                the row of a form
--     finish                what a form makes of the values of its body
use Rattle.std.specs.Prelude.{List}
use Rattle.expr_tree.specs.Tree.{Tree}
use Rattle.semantics.specs.declared.builtin.Builtin.{Builtin}
use Rattle.semantics.specs.Names.{Names, make}
use Rattle.semantics.specs.Program.{Prog, Done}
use Rattle.semantics.specs.Control.{null}
use Rattle.machine_iterators.specs.declared.body.IterationForm.{IterationForm}

abbrev pub row_of : IterationForm → Builtin
row_of IterationForm.Do = Builtin.Do
row_of IterationForm.Table = Builtin.Table
row_of IterationForm.Sum = Builtin.Sum

abbrev pub finish : Names → IterationForm → List Tree → Prog
finish names IterationForm.Do vs = null names
finish names IterationForm.Table vs = Done (make names Builtin.List vs)
finish names IterationForm.Sum vs = Done (make names Builtin.Plus vs)
