use Rattle.std.proofs.Common.{◌≡◌, map, subst, ◌∙◌}
use Rattle.expr_tree.specs.Tree.{call}
use Rattle.expr_tree.proofs.Trees.{elements-trees}
use Rattle.semantics.specs.Worked.{Gives}
use Rattle.builtin_names.specs.Results.{Works}
use Rattle.rows_parts.specs.Cut.{cut}
use Rattle.rows_parts.proofs.pieces.cut_under.Goals as goal

pub returns-in-Ok : goal.returns-in-Ok
returns-in-Ok c =
    let whole = map (call c.args.head.now) (cut c.args.length 0 c.args.items.now) in
    let made : c.in-Ok.made ≡ whole = c.in-Ok.ensures ∙ elements-trees whole in
    subst (λ es. Works (Gives (call c.args.head.now es)) c.under.result) made c.under.ensures
