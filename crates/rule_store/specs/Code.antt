-- How the logic stores a rule.
use Rattle.std.specs.Prelude.{refl}
use Rattle.std.specs.Coded.{Coded, code_by, coded×}
use Rattle.expr_tree.specs.Code.{coded_tree}
use Rattle.expr_tree.specs.Tree.{Tree}
use Rattle.semantics.specs.Rule.{Rule}

abbrev pub coded_rule : Coded Rule
coded_rule = code_by (Tree × Tree) (coded× coded_tree coded_tree) (λ r. (r.left, r.right)) (λ p. record { left = p.0; right = p.1 }) (λ _. refl)
