use Rattle.std.proofs.Common.{arith}
use Rattle.builtin_names.specs.Attributes.{attributes_in}
use Rattle.builtin_names.specs.Named.{names_in}
use Rattle.machine_steps.specs.Setup.{setting_of}
use Rattle.machine_changes.specs.Assigning.{assembled, reached}
use Rattle.machine_changes.proofs.Going.{asks, goes_on}
use Rattle.machine_changes.proofs.Sides.{falls_within, head_asks, items_asked, items_done}
use Rattle.machine_changes.proofs.assignment.Assignment.with_head.Goals as goal

pub returns-in-Some-clause-stepped : goal.returns-in-Some-clause-stepped
returns-in-Some-clause-stepped c =
    let k = reached (names_in c.args.scene.now.names.now) c.args.self.now.goal in
    let asked = rw c.in-Some.is at c.in_ok-item.ensures.asked in
    λ stay.
    asks
    (head_asks (setting_of c.args.scene.now) c.args.head c.args.items (attributes_in c.attrs_of_head-attrs.result) k _ c.attrs_of_head-attrs.ensures
    (items_asked (names_in c.args.scene.now.names.now) c.first.new.self c.args.head c.attrs_of_head-attrs.result k c.in-Some.item c.in_ok-item.ensures.head c.in_ok-item.ensures.attrs
    (asked (assembled (names_in c.args.scene.now.names.now) c.args.head (attributes_in c.attrs_of_head-attrs.result) k))))

pub returns-in-None-clause-stepped : goal.returns-in-None-clause-stepped
returns-in-None-clause-stepped c =
    let k = reached (names_in c.args.scene.now.names.now) c.args.self.now.goal in
    let asked = rw c.in-None.is at c.in_ok-item.ensures.asked in
    λ stay.
    goes_on _
    (head_asks (setting_of c.args.scene.now) c.args.head c.args.items (attributes_in c.attrs_of_head-attrs.result) k _ c.attrs_of_head-attrs.ensures
    (items_done (names_in c.args.scene.now.names.now) c.first.new.self c.args.head c.attrs_of_head-attrs.result k c.in_ok-item.ensures.head c.in_ok-item.ensures.attrs
    (asked (assembled (names_in c.args.scene.now.names.now) c.args.head (attributes_in c.attrs_of_head-attrs.result) k))))
    (c.assemble.ensures.stepped stay)

pub returns-in-None-clause-falls : goal.returns-in-None-clause-falls
returns-in-None-clause-falls c = falls_within c.assemble.result 1 _ _ (omega arith) c.assemble.ensures.falls
