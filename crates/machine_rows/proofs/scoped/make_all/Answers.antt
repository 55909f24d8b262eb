use Rattle.std.proofs.Common.{◌≡◌, ◌∙◌, ◌<◌, ◌≤◌, length, get_or, sym, ap, arith}
use Rattle.builtin_names.specs.Named.{names_in}
use Rattle.machine_rows.proofs.Scopes.{made_more, made_end}
use Rattle.machine_rows.proofs.scoped.make_all.Goals as goal

pub loop-local-preserved : goal.loop-local-preserved
loop-local-preserved c =
    let long : c.loop-local.local-index < length c.args.locals.now = omega (arith, ap length c.as_slice-local-items.ensures, c.loop-local-test.true) in
    let here : c.local-item.result ≡ get_or c.args.locals.now c.loop-local.local-index c.local-item.result = rw c.as_slice-local-items.ensures at c.local-item.is in
    made_more (names_in c.args.scene.now.names.now) c.args.locals.now c.loop-local.local-index c.local-item.result _ c.loop-local.defs c.make.new.self long here c.in_ok-value.ensures c.in_ok-make.ensures.ok
    ∙ c.loop-local.invariant

pub returns : goal.returns
returns c =
    let past : length c.args.locals.now ≤ c.loop-local.local-index = omega (arith, ap length c.as_slice-local-items.ensures, c.loop-local-test.false) in
    sym (made_end (names_in c.args.scene.now.names.now) c.args.locals.now c.loop-local.local-index c.loop-local.defs past) ∙ c.loop-local.invariant
