use Rattle.std.proofs.Common.{◌∙◌, sym, Some, None}
use Rattle.semantics.specs.Definitions.{definition_of}
use Rattle.builtin_names.specs.Named.{names_in}
use Rattle.machine_steps.specs.Setup.{setting_of}
use Rattle.machine_changes.specs.Renewing.{given_by, next_of}
use Rattle.machine_changes.proofs.Going.{gives, goes_on, same_program, onward}
use Rattle.machine_changes.proofs.Renewals.{change_refused, change_passes, own_is, check_halts}
use Rattle.machine_changes.proofs.renewal.Renewal.ask.Goals as goal

pub returns-then-is_refused-clause-stepped : goal.returns-then-is_refused-clause-stepped
returns-then-is_refused-clause-stepped c =
    let names = names_in c.args.scene.now.names.now in
    let f = c.args.self.now in
    λ stay.
    rw c.name.ensures
    (gives (change_refused (setting_of c.args.scene.now) f.symbol (next_of names f.row f.operand) (given_by f) c.is_shared-shared.result c.is_shared-shared.ensures (sym c.is_refused.ensures.refused ∙ c.if-is_refused.true) c.is_refused.ensures.used))

pub returns-in_default-clause-stepped : goal.returns-in_default-clause-stepped
returns-in_default-clause-stepped c =
    let names = names_in c.args.scene.now.names.now in
    let f = c.args.self.now in
    λ stay.
    rw c.name-in_default.ensures
    (gives
    (onward (change_passes (setting_of c.args.scene.now) f.symbol (next_of names f.row f.operand) (given_by f) c.is_shared-shared.result c.is_shared-shared.ensures (sym c.is_refused.ensures.refused ∙ c.if-is_refused.false) c.is_refused.ensures.used)
    (same_program (own_is names f.symbol (next_of names f.row f.operand) (given_by f) (definition_of names c.args.defs.now f.symbol) None (c.in_default.ensures names)))))

pub returns-in-Err-clause-stepped : goal.returns-in-Err-clause-stepped
returns-in-Err-clause-stepped c =
    let names = names_in c.args.scene.now.names.now in
    let f = c.args.self.now in
    let h = rw c.in-Err.is at c.next.ensures in
    λ stay.
    goes_on _
    (onward (change_passes (setting_of c.args.scene.now) f.symbol (next_of names f.row f.operand) (given_by f) c.is_shared-shared.result c.is_shared-shared.ensures (sym c.is_refused.ensures.refused ∙ c.if-is_refused.false) c.is_refused.ensures.used)
    (same_program (own_is names f.symbol (next_of names f.row f.operand) (given_by f) (definition_of names c.args.defs.now f.symbol) (Some c.in-Some.old.now) (c.in-Some.ensures names))))
    (check_halts _ _ _ h.by)
