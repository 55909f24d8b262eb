use Rattle.std.proofs.Common.{◌∙◌, ap}
use Rattle.semantics.specs.Definitions.{definition_of}
use Rattle.semantics.specs.Play.{written}
use Rattle.builtin_names.specs.Attributes.{attributes_in}
use Rattle.builtin_names.specs.Named.{names_in}
use Rattle.machine_changes.proofs.Flags.{attrs_without}
use Rattle.machine_changes.proofs.Going.{puts}
use Rattle.machine_changes.proofs.single.set_without.Goals as goal

pub returns : goal.returns
returns c =
    let names = names_in c.args.scene.now.names.now in
    let x = definition_of names c.args.defs.now c.args.symbol in
    λ used stay rest.
    rw c.name.ensures
    (puts c.args.symbol _
    (c.in_ok-set_attrs.ensures.ok
    ∙ ap (written names c.args.defs.now c.args.symbol) (attrs_without c.args.old.now (attributes_in c.attrs_of.result) x (attributes_in c.without_those-attrs.result) c.without_those-attrs.ensures c.attrs_of.ensures)))
