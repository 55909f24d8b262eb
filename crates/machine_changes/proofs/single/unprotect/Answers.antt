use Rattle.std.proofs.Common.{sym, ap}
use Rattle.semantics.specs.Changes.{without_attributes}
use Rattle.semantics.specs.Control.{null}
use Rattle.semantics.specs.Definitions.{definition_of}
use Rattle.semantics.specs.Program.{Put}
use Rattle.builtin_names.specs.Named.{names_in}
use Rattle.machine_changes.proofs.Going.{goes_on, same_program}
use Rattle.machine_changes.proofs.single.unprotect.Goals as goal

pub returns : goal.returns
returns c =
    let names = names_in c.args.scene.now.names.now in
    λ used stay rest.
    goes_on _
    (same_program (ap (λ new. Put c.args.symbol (without_attributes new (definition_of names c.args.defs.now c.args.symbol)) (null names)) (sym c.in_ok-names.ensures)))
    (c.set_without.ensures used stay rest)
