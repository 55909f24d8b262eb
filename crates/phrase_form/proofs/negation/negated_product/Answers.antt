use Rattle.std.proofs.Common.{◌≡◌, Option, IfOk, sym, ap, ◌∙◌, subst}
use Rattle.expr_tree.specs.Tree.{Tree, normal, trees, call}
use Rattle.expr_tree.specs.View.{tree_of}
use Rattle.syntax.specs.Phrases.{negated_product}
use Rattle.builtin_names.specs.Named.{names_in}
use Rattle.laws_reading.specs.Kept.{cut}
use Rattle.phrase_form.proofs.Negations.{product_of}
use Rattle.phrase_form.proofs.negation.negated_product.Goals as goal

pub returns-in_ok-items-in-Normal : goal.returns-in_ok-items-in-Normal
returns-in_ok-items-in-Normal c =
    let whole : normal c.in-Normal.head.value (trees c.in-Normal.items) ≡ c.args.expr = sym (ap tree_of c.in-Normal.is) ∙ c.in_ok-head.ensures in
    let made = product_of (names_in c.args.names.now) c.in-Normal.head.value c.in-Normal.items c.in_ok-items-in-Normal.items c.args.expr whole (c.in_ok-items-in-Normal.ensures (names_in c.args.names.now)) in
    let same : cut (call c.into_inner.result c.in_ok-items-in-Normal.items) ≡ cut (negated_product (names_in c.args.names.now) c.args.expr) = cc in
    subst (λ (t : Option Tree). IfOk c.assembled.result (λ e. e ≡ t)) same c.assembled.ensures
