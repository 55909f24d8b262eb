use Rattle.std.proofs.Common.{◌∙◌, ap}
use Rattle.semantics.specs.Definitions.{definition_of}
use Rattle.semantics.specs.Play.{written}
use Rattle.builtin_names.specs.Attributes.{attributes_in}
use Rattle.builtin_names.specs.Named.{names_in}
use Rattle.machine_changes.proofs.Flags.{attrs_with}
use Rattle.machine_changes.proofs.Going.{puts}
use Rattle.machine_changes.proofs.single.set_with.Goals as goal

pub returns : goal.returns
returns c =
    let names = names_in c.args.scene.now.names.now in
    let x = definition_of names c.args.defs.now c.args.symbol in
    λ used stay rest.
    rw c.name.ensures
    (puts c.args.symbol _
    (c.in_ok-set_attrs.ensures.ok
    ∙ ap (written names c.args.defs.now c.args.symbol) (attrs_with c.args.new.now (attributes_in c.attrs_of.result) x (attributes_in c.with_those-attrs.result) c.with_those-attrs.ensures c.attrs_of.ensures)))
