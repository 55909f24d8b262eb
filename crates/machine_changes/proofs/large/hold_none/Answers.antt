use Rattle.std.proofs.Common.{◌≡◌, ◌∙◌, subst, false}
use Rattle.semantics.specs.Rule.{has_left}
use Rattle.builtin_names.specs.Named.{names_in}
use Rattle.machine_changes.proofs.Larger.{held_none}
use Rattle.machine_changes.proofs.large.hold_none.Goals as goal

pub loop-symbol-preserved : goal.loop-symbol-preserved
loop-symbol-preserved c =
    let names = names_in c.args.scene.now.names.now in
    let d = c.args.defs.now in
    let i = c.loop-symbol.symbol-index in
    λ t large.
    held_none names d t c.as_slice-symbol-items.result.now c.args.symbols.now i _ c.as_slice-symbol-items.ensures large c.loop-symbol-test.true
    (subst (λ rs. has_left t rs ≡ false) (c.downs_of.ensures names) (c.are_small.ensures t large))
    (subst (λ rs. has_left t rs ≡ false) (c.ups_of.ensures names) (c.are_small-in-loop-symbol.ensures t large))
    ∙ c.loop-symbol.invariant t large
