use Rattle.std.proofs.Common.{◌≡◌, drop}
use Rattle.expr_tree.specs.Tree.{Tree}
use Rattle.semantics.specs.Changes.{holding}
use Rattle.builtin_names.specs.Named.{names_in}
use Rattle.kernel_defs.proofs.Runs.{seen_all}
use Rattle.machine_changes.specs.Larger.{IsLarge}
use Rattle.machine_changes.proofs.large.hold_none.Given as goal

abbrev pub invariant-loop-symbol : goal.invariant-loop-symbol
invariant-loop-symbol l =
    (t : Tree) → IsLarge t
    → holding t (seen_all (names_in l.scene.names.now) l.defs (drop l.symbol-index l.symbols)) ≡ holding t (seen_all (names_in l.scene.names.now) l.defs l.symbols)
