use Rattle.std.proofs.Common.{◌∙◌, sym}
use Rattle.semantics.specs.Changes.{nothing_left}
use Rattle.semantics.specs.Definitions.{definition_of}
use Rattle.builtin_names.specs.Named.{names_in}
use Rattle.machine_changes.proofs.Going.{writes, writes_not}
use Rattle.machine_changes.proofs.single.clear_all.Goals as goal

pub returns-then-is_protected : goal.returns-then-is_protected
returns-then-is_protected c = λ used stay rest. rw c.name.ensures (writes_not c.args.symbol nothing_left (definition_of (names_in c.args.scene.now.names.now) c.args.defs.now c.args.symbol) (sym c.is_protected.ensures ∙ c.if-is_protected.true))

pub returns : goal.returns
returns c = λ used stay rest. rw c.name-2.ensures (writes c.args.symbol nothing_left (definition_of (names_in c.args.scene.now.names.now) c.args.defs.now c.args.symbol) (sym c.is_protected.ensures ∙ c.if-is_protected.false) c.in_ok-make.ensures.ok)
