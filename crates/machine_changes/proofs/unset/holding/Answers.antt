use Rattle.std.proofs.Common.{◌∙◌, sym}
use Rattle.semantics.specs.Changes.{holds}
use Rattle.semantics.specs.Definitions.{definition_of}
use Rattle.builtin_names.specs.Named.{names_in}
use Rattle.machine_changes.proofs.Unsetting.{none_held, one_held}
use Rattle.machine_changes.proofs.unset.holding.Goals as goal
use Rattle.machine_changes.proofs.unset.holding.Goals.{then-holds+in_ok-push, else-holds}

pub loop-symbol-preserved : goal.loop-symbol-preserved
loop-symbol-preserved c =
    let names = names_in c.args.scene.now.names.now in
    elim c.if-holds.branch [
      | then-holds+in_ok-push w ↦
          one_held (λ s. holds c.args.left.now (definition_of names c.args.defs.now s)) _ _ _ _ _ _ c.as_slice-symbol-items.ensures c.loop-symbol-test.true
          (sym (c.holds.ensures names) ∙ w.if-holds.true) (w.held-is ∙ w.in_ok-push.ensures.ok) c.loop-symbol.invariant
      | else-holds w ↦
          none_held (λ s. holds c.args.left.now (definition_of names c.args.defs.now s)) _ _ _ _ _ _ c.as_slice-symbol-items.ensures c.loop-symbol-test.true
          (sym (c.holds.ensures names) ∙ w.if-holds.false) w.held-is c.loop-symbol.invariant
    ]
