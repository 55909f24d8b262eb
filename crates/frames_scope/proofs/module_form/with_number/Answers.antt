use Rattle.std.proofs.Common.{◌≡◌, ◌<◌, length, get_or, ap, ◌∙◌, arith}
use Rattle.frames_scope.proofs.Questions.{numbered_more}
use Rattle.frames_scope.proofs.module_form.with_number.Goals as goal

pub loop-local-preserved : goal.loop-local-preserved
loop-local-preserved c =
    let long : c.loop-local.local-index < length c.args.locals.now = omega (arith, ap length c.as_slice-local-items.ensures, c.loop-local-test.true) in
    let here : c.local-item.result ≡ get_or c.args.locals.now c.loop-local.local-index c.local-item.result = rw c.as_slice-local-items.ensures at c.local-item.is in
    numbered_more c.args.number c.args.locals.now c.loop-local.local-index c.local-item.result (record { symbol = c.renamed.result; value = c.in_ok-value_copied.field-0 })
    c.loop-local.numbered c.push.new.self long here c.renamed.ensures c.in_ok-value_copied.ensures c.in_ok-push.ensures.ok
    ∙ c.loop-local.invariant
