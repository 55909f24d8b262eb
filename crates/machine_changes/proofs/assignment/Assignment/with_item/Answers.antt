use Rattle.std.proofs.Common.{arith, sym, ap, ◌∙◌}
use Rattle.builtin_names.specs.Attributes.{attributes_in}
use Rattle.builtin_names.specs.Named.{names_in}
use Rattle.semantics.specs.Assemble.{ask_rest}
use Rattle.machine_changes.specs.Assigning.{assembled, reached}
use Rattle.machine_changes.proofs.Going.{asks, goes_on, same_program}
use Rattle.machine_changes.proofs.Sides.{falls_within, items_asked, items_done}
use Rattle.machine_changes.proofs.assignment.Assignment.with_item.Goals as goal

pub returns-in-Some-clause-stepped : goal.returns-in-Some-clause-stepped
returns-in-Some-clause-stepped c =
    let k = reached (names_in c.args.scene.now.names.now) c.args.self.now.goal in
    let asked = rw c.in-Some.is at c.in_ok-item.ensures.asked in
    λ stay.
    asks
    (same_program
    (items_asked (names_in c.args.scene.now.names.now) c.next.new.self c.args.elements.head c.args.elements.attrs k c.in-Some.item c.in_ok-item.ensures.head c.in_ok-item.ensures.attrs
    (ap (λ ds. ask_rest (names_in c.args.scene.now.names.now) (attributes_in c.args.elements.attrs) c.args.elements.rest ds (assembled (names_in c.args.scene.now.names.now) c.args.elements.head (attributes_in c.args.elements.attrs) k)) (sym c.in_ok-push.ensures.ok)
    ∙ asked (assembled (names_in c.args.scene.now.names.now) c.args.elements.head (attributes_in c.args.elements.attrs) k))))

pub returns-in-None-clause-stepped : goal.returns-in-None-clause-stepped
returns-in-None-clause-stepped c =
    let k = reached (names_in c.args.scene.now.names.now) c.args.self.now.goal in
    let asked = rw c.in-None.is at c.in_ok-item.ensures.asked in
    λ stay.
    goes_on _
    (same_program
    (items_done (names_in c.args.scene.now.names.now) c.next.new.self c.args.elements.head c.args.elements.attrs k c.in_ok-item.ensures.head c.in_ok-item.ensures.attrs
    (ap (λ ds. ask_rest (names_in c.args.scene.now.names.now) (attributes_in c.args.elements.attrs) c.args.elements.rest ds (assembled (names_in c.args.scene.now.names.now) c.args.elements.head (attributes_in c.args.elements.attrs) k)) (sym c.in_ok-push.ensures.ok)
    ∙ asked (assembled (names_in c.args.scene.now.names.now) c.args.elements.head (attributes_in c.args.elements.attrs) k))))
    (c.assemble.ensures.stepped stay)

pub returns-in-None-clause-falls : goal.returns-in-None-clause-falls
returns-in-None-clause-falls c = falls_within c.assemble.result 1 _ _ (omega arith) c.assemble.ensures.falls
