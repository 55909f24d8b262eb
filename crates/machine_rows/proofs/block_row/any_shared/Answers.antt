use Rattle.std.proofs.Common.{◌≡◌, ◌∙◌, ◌<◌, ◌≤◌, ◌+◌, ◌||◌, length, get_or, drop, sym, ap, arith}
use Rattle.semantics.specs.Scoping.{symbols_of}
use Rattle.frames_scope.specs.Reading.{locals_in}
use Rattle.machine_rows.specs.StepResults.{any_shared}
use Rattle.machine_rows.proofs.Scopes.{shared_more, shared_end}
use Rattle.machine_rows.proofs.block_row.any_shared.Goals as goal

pub returns-then-is_shared : goal.returns-then-is_shared
returns-then-is_shared c =
    let long : c.loop-local.local-index < length c.args.locals.now = omega (arith, ap length c.as_slice-local-items.ensures, c.loop-local-test.true) in
    let here : c.local-item.result ≡ get_or c.args.locals.now c.loop-local.local-index c.local-item.result = rw c.as_slice-local-items.ensures at c.local-item.is in
    sym (sym c.loop-local.invariant ∙ shared_more c.args.shared.now c.args.locals.now c.loop-local.local-index c.local-item.result long here ∙ ap (λ b. b || any_shared c.args.shared.now (symbols_of (locals_in (drop (c.loop-local.local-index + 1) c.args.locals.now)))) (sym c.is_shared.ensures ∙ c.if-is_shared.true))

pub loop-local-preserved : goal.loop-local-preserved
loop-local-preserved c =
    let long : c.loop-local.local-index < length c.args.locals.now = omega (arith, ap length c.as_slice-local-items.ensures, c.loop-local-test.true) in
    let here : c.local-item.result ≡ get_or c.args.locals.now c.loop-local.local-index c.local-item.result = rw c.as_slice-local-items.ensures at c.local-item.is in
    sym (shared_more c.args.shared.now c.args.locals.now c.loop-local.local-index c.local-item.result long here ∙ ap (λ b. b || any_shared c.args.shared.now (symbols_of (locals_in (drop (c.loop-local.local-index + 1) c.args.locals.now)))) (sym c.is_shared.ensures ∙ c.if-is_shared.false)) ∙ c.loop-local.invariant

pub returns : goal.returns
returns c =
    let past : length c.args.locals.now ≤ c.loop-local.local-index = omega (arith, ap length c.as_slice-local-items.ensures, c.loop-local-test.false) in
    sym (shared_end c.args.shared.now c.args.locals.now c.loop-local.local-index past) ∙ c.loop-local.invariant
