use Rattle.std.proofs.Common.{◌≡◌, ◌<◌, length, get_or, Some, ap, sym, ◌∙◌, arith}
use Rattle.frames_scope.proofs.Withs.{valued_more, valueless}
use Rattle.frames_scope.proofs.with_form.values_of.Goals as goal

pub returns-in-None : goal.returns-in-None
returns-in-None c =
    let long : c.loop-local.local-index < length c.args.locals.now = omega (arith, ap length c.as_slice-local-items.ensures, c.loop-local-test.true) in
    let here : c.local-item.result ≡ get_or c.args.locals.now c.loop-local.local-index c.local-item.result = rw c.as_slice-local-items.ensures at c.local-item.is in
    record { by = valueless c.args.locals.now c.loop-local.local-index c.local-item.result c.loop-local.values long here c.in-None.is c.loop-local.invariant }

pub loop-local-preserved : goal.loop-local-preserved
loop-local-preserved c =
    let long : c.loop-local.local-index < length c.args.locals.now = omega (arith, ap length c.as_slice-local-items.ensures, c.loop-local-test.true) in
    let here : c.local-item.result ≡ get_or c.args.locals.now c.loop-local.local-index c.local-item.result = rw c.as_slice-local-items.ensures at c.local-item.is in
    let copied = c.in_ok-copy-in-Some.ensures in
    let has : c.local-item.result.value ≡ Some c.in_ok-copy-in-Some.field-0 = cc copied in
    c.loop-local.invariant
    ∙ sym (valued_more c.args.locals.now c.loop-local.local-index c.local-item.result c.in_ok-copy-in-Some.field-0 c.loop-local.values c.push.new.self long here has c.in_ok-push-in-Some.ensures.ok)
