-- What a walk says of the parts that are done.
--     IsNoHeavier, IsLess   where it goes on at a place, no more is left, or less
--     Rises                 a part is done
--     Enters                no rule applies at the place
use Rattle.std.specs.Prelude.{◌≡◌, ◌<◌, ◌≤◌, ℕ, reverse, Option, Some, None}
use Rattle.expr_tree.specs.Tree.{Tree}
use Rattle.semantics.specs.Names.{Names}
use Rattle.semantics.specs.Program.{Prog}
use Rattle.machine_rules.specs.declared.walk.Walk.{Walk}
use Rattle.machine_rules.specs.Walks.{entered, upward, going}
use Rattle.machine_rules.specs.Weights.{levels_weight, weight_of}

abbrev pub IsNoHeavier : Option Tree → ℕ → ℕ → Type 0
IsNoHeavier None new old = new ≤ old
IsNoHeavier (Some v) new old = Unit {0}

abbrev pub IsLess : Option Tree → ℕ → ℕ → Type 0
IsLess None new old = new < old
IsLess (Some v) new old = Unit {0}

pub record Rises (old : Walk) (part : Tree) (o : Option Tree) (new : Walk) : Type 0 where
  pub goes : (names : Names) (k : Tree → Prog) → upward names old k part ≡ going names new k o
  pub falls : IsNoHeavier o (weight_of new) (levels_weight (reverse old.levels))
  pub rules_stay : new.rules ≡ old.rules

pub record Enters (old : Walk) (o : Option Tree) (new : Walk) : Type 0 where
  pub goes : (names : Names) (k : Tree → Prog) → entered names old.rules old.place (upward names old k) ≡ going names new k o
  pub falls : IsLess o (weight_of new) (weight_of old)
  pub rules_stay : new.rules ≡ old.rules
