-- The rules that Cases tries on elements.
--     Picks                 one rule, of which the results are gathered; or a pattern as a rule, and the elements themselves
use Rattle.std.specs.Prelude.{◌≡◌, List, [], ◌∷◌}
use Rattle.expr_tree.specs.Tree.{Tree}
use Rattle.semantics.specs.Names.{Names}
use Rattle.semantics.specs.Replace.{asks, case_rule}
use Rattle.semantics.specs.Rule.{Rule}
use Rattle.machine_rules.specs.declared.tally.Pick.{Pick}

abbrev pub PicksBy : Names → Tree → List Rule → Pick → Type 0
PicksBy names p rs Pick.Result = (r : Rule) × (case_rule names p ≡ r ∷ []) × (rs ≡ r ∷ [])
PicksBy names p rs Pick.Subject = (case_rule names p ≡ []) × (rs ≡ asks names p)

pub record Picks (names : Names) (p : Tree) (rs : List Rule) (pick : Pick) : Type 0 where
  pub by : PicksBy names p rs pick
