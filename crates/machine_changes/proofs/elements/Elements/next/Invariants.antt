use Rattle.std.proofs.Common.{◌≡◌, ◌≤◌, List, length}
use Rattle.expr_tree.specs.Tree.{Tree}
use Rattle.semantics.specs.Program.{Prog}
use Rattle.semantics.specs.Assemble.{ask_rest}
use Rattle.builtin_names.specs.Attributes.{attributes_in}
use Rattle.builtin_names.specs.Named.{names_in}
use Rattle.machine_changes.proofs.elements.Elements.next.Given as goal

abbrev pub invariant-loop-item : goal.invariant-loop-item
invariant-loop-item l =
    record {
      head : l.self.head ≡ l.initial.self.head;
      attrs : l.self.attrs ≡ l.initial.self.attrs;
      asked : (k : List Tree → Prog) → ask_rest (names_in l.names) (attributes_in l.initial.self.attrs) l.initial.self.rest l.initial.self.done k
          ≡ ask_rest (names_in l.names) (attributes_in l.initial.self.attrs) l.self.rest l.self.done k;
      fewer : length l.self.rest ≤ length l.initial.self.rest;
    }

abbrev pub decreases-loop-item : goal.decreases-loop-item
decreases-loop-item l = length l.self.rest
