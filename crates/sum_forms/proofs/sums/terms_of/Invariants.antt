use Rattle.std.proofs.Common.{◌≡◌, List, ◌++◌, drop, true}
use Rattle.expr_tree.specs.Tree.{Tree}
use Rattle.semantics.specs.Worked.{all_in_range}
use Rattle.semantics.specs.Numbers.{write_term, written, numbers_of}
use Rattle.builtin_names.specs.Named.{names_in}
use Rattle.sum_forms.specs.Planned.{Plans}
use Rattle.sum_forms.proofs.sums.terms_of.Given as goal

abbrev pub invariant-loop-group : goal.invariant-loop-group
invariant-loop-group l = record {
  done : List Tree;
  plans : Plans done l.terms;
  whole : done ++ written (write_term (names_in l.names)) (drop l.group-index l.groups) ≡ written (write_term (names_in l.names)) l.groups;
  range : all_in_range (numbers_of (drop l.group-index l.groups)) ≡ true;
}
