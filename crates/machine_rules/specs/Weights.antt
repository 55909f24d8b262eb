-- How far a walk over an expression has still to go.
--     weight, weights       of an expression, and of elements
--     level_weight, levels_weight      of what is left of expressions of which a part is being replaced
--     weight_of             of a walk from its place on
--     IsLighter             where a walk goes on at a place, less is left
use Rattle.std.specs.Prelude.{◌<◌, ℕ, ◌+◌, List, [], ◌∷◌, reverse, Option, None, Some, Result, Ok, Err}
use Rattle.expr_tree.specs.Tree.{Tree, integer, string, symbol, normal, Trees, nil, cons, trees}
use Rattle.evaluation_steps.specs.declared.Halt.{Halt}
use Rattle.machine_rules.specs.declared.level.Level.{Level}
use Rattle.machine_rules.specs.declared.walk.Walk.{Walk}
use Rattle.machine_rules.specs.declared.walk.Walked.{Walked}

abbrev mutual
  pub weight : Tree → ℕ
  weight (integer n) = 1
  weight (string t) = 1
  weight (symbol s) = 1
  weight (normal h es) = weight h + weights es + 1

  pub weights : Trees → ℕ
  weights nil = 0
  weights (cons e es) = weight e + weights es

abbrev pub level_weight : Level → ℕ
level_weight (Level.Head es) = weights (trees es)
level_weight (Level.Element c) = weights (trees c.rest)

abbrev pub levels_weight : List Level → ℕ
levels_weight [] = 0
levels_weight (l ∷ ls) = level_weight l + levels_weight ls

abbrev pub weight_of : Walk → ℕ
weight_of w = weight w.place + levels_weight (reverse w.levels)

abbrev pub IsLighter : Result (Option Walked) Halt → ℕ → ℕ → Type 0
IsLighter (Ok None) new old = new < old
IsLighter (Ok (Some w)) new old = Unit {0}
IsLighter (Err h) new old = Unit {0}
