use Rattle.std.proofs.Common.{◌∙◌, sym}
use Rattle.builtin_names.specs.Named.{names_in}
use Rattle.machine_steps.specs.Setup.{setting_of}
use Rattle.kernel_defs.specs.Targets.{form_of, why_of}
use Rattle.machine_changes.proofs.Attaching.{shared_is, refuses_item, refuses, attaches}
use Rattle.machine_changes.proofs.assign.assign.Goals as goal

pub returns-then-is_refused : goal.returns-then-is_refused
returns-then-is_refused c =
    refuses_item (setting_of c.args.scene.now) (form_of c.args.form) c.args.left.now c.args.right.now c.attaches_shared-shared.result
    (shared_is (names_in c.args.scene.now.names.now) (form_of c.args.form) c.args.left.now c.args.defs.now _ _ c.attaches_shared-shared.result c.in_ok-targets.ensures c.in_ok-asked.ensures c.attaches_shared-shared.ensures)
    (sym c.is_refused.ensures.refused ∙ c.if-is_refused.true)
    c.is_refused.ensures.used

pub returns-in-Done : goal.returns-in-Done
returns-in-Done c =
    let h = rw c.in-Done.is at c.in_ok-assign.ensures.ok in
    attaches (setting_of c.args.scene.now) (form_of c.args.form) c.args.left.now c.args.right.now c.attaches_shared-shared.result
    (shared_is (names_in c.args.scene.now.names.now) (form_of c.args.form) c.args.left.now c.args.defs.now _ _ c.attaches_shared-shared.result c.in_ok-targets.ensures c.in_ok-asked.ensures c.attaches_shared-shared.ensures)
    (sym c.is_refused.ensures.refused ∙ c.if-is_refused.false)
    c.is_refused.ensures.used
    h.by.0
    h.by.1

pub returns : goal.returns
returns c =
    let h = rw c.in-Refused.is at c.in_ok-assign.ensures.ok in
    refuses (setting_of c.args.scene.now) (form_of c.args.form) c.args.left.now c.args.right.now (why_of c.in-Refused.field-0) c.attaches_shared-shared.result
    (shared_is (names_in c.args.scene.now.names.now) (form_of c.args.form) c.args.left.now c.args.defs.now _ _ c.attaches_shared-shared.result c.in_ok-targets.ensures c.in_ok-asked.ensures c.attaches_shared-shared.ensures)
    (sym c.is_refused.ensures.refused ∙ c.if-is_refused.false)
    c.is_refused.ensures.used
    h.by.0
    h.by.1
