use Rattle.std.proofs.Common.{◌≡◌, ◌∙◌, sym}
use Rattle.builtin_names.specs.Named.{names_in}
use Rattle.frames_scope.specs.ScopingLeft as left
use Rattle.frames_scope.specs.Reading.{locals_in}
use Rattle.machine_rows.specs.Asking.{asks}
use Rattle.machine_rows.specs.declared.block_row.BlockRow.{BlockRow}
use Rattle.machine_rows.proofs.Scopes.{block_falls, block_seen, block_shared}
use Rattle.machine_rows.proofs.block_row.BlockRow.step.Goals as goal

pub returns-then-any_shared-clause-stepped : goal.returns-then-any_shared-clause-stepped
returns-then-any_shared-clause-stepped c = λ stay.
    let is : c.args.self.now ≡ BlockRow.Unseen c.in-Unseen.scope = cc in
    rw (is, c.name.ensures) (block_shared (locals_in c.in-Unseen.scope.locals) c.in-Unseen.scope.body (rw c.shared.ensures at (sym c.any_shared.ensures ∙ c.if-any_shared.true)))

pub returns-in_ok-form-in-Unseen-clause-stepped : goal.returns-in_ok-form-in-Unseen-clause-stepped
returns-in_ok-form-in-Unseen-clause-stepped c = λ stay.
    let is : c.args.self.now ≡ BlockRow.Unseen c.in-Unseen.scope = cc in
    rw is (block_seen c.step_block-result.result (locals_in c.in-Unseen.scope.locals) c.in-Unseen.scope.body (rw c.shared.ensures at (sym c.any_shared.ensures ∙ c.if-any_shared.false))
    (c.in_ok-form-in-Unseen.ensures (names_in c.args.scene.now.names.now)) (c.step_block-result.ensures.stepped stay c.args.used.now))

pub returns-in_ok-form-in-Unseen-clause-falls : goal.returns-in_ok-form-in-Unseen-clause-falls
returns-in_ok-form-in-Unseen-clause-falls c =
    let is : c.args.self.now ≡ BlockRow.Unseen c.in-Unseen.scope = cc in
    rw is (block_falls c.step_block-result.result (λ v. asks (left.left_block (names_in c.args.scene.now.names.now) c.step_block-result.new.form v)) (names_in c.args.scene.now.names.now) _
    (locals_in c.in-Unseen.scope.locals) c.in-Unseen.scope.body (c.in_ok-form-in-Unseen.ensures (names_in c.args.scene.now.names.now)) c.step_block-result.ensures.falls)

pub returns-in-Seen-clause-stepped : goal.returns-in-Seen-clause-stepped
returns-in-Seen-clause-stepped c = λ stay.
    let is : c.args.self.now ≡ BlockRow.Seen c.in-Seen.form = cc in
    rw is (c.step_block.ensures.stepped stay c.args.used.now)
