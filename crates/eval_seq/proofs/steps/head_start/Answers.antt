use Rattle.std.proofs.Common.{rules, sym, ◌∙◌, ◌≡◌, refl}
use Rattle.expr_tree.specs.Tree.{integer, string, symbol, normal, trees}
use Rattle.eval_seq.proofs.Driving.{begins_none}
use Rattle.eval_seq.proofs.StepLaws.{head_function, head_other, head_rules_begin}
use Rattle.builtin_names.specs.Named.{names_in}
use Rattle.machine_steps.specs.Setup.{setting_of}
use Rattle.eval_seq.proofs.steps.head_start.Goals as goal

pub returns-then-is_name : goal.returns-then-is_name
returns-then-is_name g c =
    λ n. let e : c.args.head.now ≡ normal c.in-Normal.inner.value (trees c.in-Normal.parts) = search rules in
    rw e
    (head_function c.args.state.now.defs c.in-Normal.inner.value c.in-Normal.parts c.args.items.now c.args.whole.now (rw c.deref.ensures at (sym c.is_name.ensures ∙ c.if-is_name.true)) (rw c.as_slice.ensures at c.function_start.ensures))

pub returns-in-Symbol : goal.returns-in-Symbol
returns-in-Symbol g c =
    λ n. let e : c.args.head.now ≡ symbol c.in-Symbol.symbol = search rules in
    rw e (head_rules_begin c.args.state.now.defs c.in-Symbol.symbol c.args.items.now c.args.whole.now c.downs_of.result.now (c.downs_of.ensures (names_in c.args.scene.now.names.now)) (c.rules_start.ensures (setting_of c.args.scene.now)))

pub returns-else-is_name : goal.returns-else-is_name
returns-else-is_name g c =
    λ n. let e : c.args.head.now ≡ normal c.in-Normal.inner.value (trees c.in-Normal.parts) = search rules in
    rw e (head_other c.args.state.now.defs c.in-Normal.inner.value c.in-Normal.parts c.args.items.now c.args.whole.now (rw c.deref.ensures at (sym c.is_name.ensures ∙ c.if-is_name.false)))

pub returns-in-Int : goal.returns-in-Int
returns-in-Int g c =
    λ n. let e : c.args.head.now ≡ integer c.in-Int.field-0 = search rules in
    rw e (begins_none (λ rest. refl))

pub returns-in-Str : goal.returns-in-Str
returns-in-Str g c =
    λ n. let e : c.args.head.now ≡ string c.in-Str.field-0 = search rules in
    rw e (begins_none (λ rest. refl))
