use Rattle.std.proofs.Common.{rules, ◌≡◌, None}
use Rattle.journal.specs.declared.item.Status.TheVariants.{Waiting}
use Rattle.master_core.specs.Joined.{item_of, bundle_of}
use Rattle.master_core.proofs.Joins as j
use Rattle.master_core.proofs.state.State.taken.Goals as goal

pub unreachable-requires : goal.unreachable-requires
unreachable-requires c = let none : item_of c.args.self.now c.args.id ≡ None = search rules in j.has_item c.args.self.now c.args.id Waiting c.requires none

pub unreachable-requires-in_default-bundle : goal.unreachable-requires-in_default-bundle
unreachable-requires-in_default-bundle c = let none : bundle_of c.args.self.now c.args.id ≡ None = search rules in j.has_bundle c.args.self.now c.args.id Waiting c.requires none
