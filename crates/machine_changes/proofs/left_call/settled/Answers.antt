use Rattle.std.proofs.Common.{◌∙◌, sym}
use Rattle.builtin_names.specs.Attributes.{attributes_in}
use Rattle.builtin_names.specs.Named.{names_in}
use Rattle.machine_changes.proofs.Larger.{threaded_under}
use Rattle.machine_changes.proofs.left_call.settled.Goals as goal

pub listed-requires : goal.listed-requires
listed-requires c =
    threaded_under (names_in c.args.scene.now.names.now) c.args.head (attributes_in c.args.attrs.now) _ c.in-Some.each c.in-Some-symbol_in.symbol (sym c.in-Some-symbol_in.ensures)
    (sym c.in_ok-each.ensures ∙ c.in-Some.is)
