use Rattle.std.proofs.Common.{Option, ap, ap₂, ◌∙◌}
use Rattle.expr_tree.specs.Tree.{Tree}
use Rattle.builtin_names.specs.Named.{names_in}
use Rattle.laws_reading.specs.Kept.{negated_one, with_kind}
use Rattle.phrase_form.specs.Words.{kind_in}
use Rattle.phrase_form.proofs.negation.negated.Goals as goal

pub returns : goal.returns
returns c =
    ap₂ with_kind
    (c.of.ensures ∙ c.in_ok-negated.ensures ∙ ap (λ (o : Option Tree). negated_one (names_in c.args.names.now) o (kind_in c.args.x.kind)) c.in_ok-expr.ensures)
    (c.negated_kind.ensures (names_in c.args.names.now))
