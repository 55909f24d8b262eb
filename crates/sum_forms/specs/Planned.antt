-- The elements of an expression to be made, some of which may be too deep to be made themselves.
--     Plan, Plans           what is kept of them: those that were made, their number, and the atoms of all
--     Grows, GrowsBy        one element more, or at most one; Written: all of them
use Rattle.std.specs.Prelude.{◌≡◌, ℕ, ◌<◌, ◌≤◌, List, [], ◌∷◌, ◌++◌, length, Bool, true, false, cond, ltb, Option, None, Some, Result, Ok, Err}
use Rattle.expr_tree.specs.Tree.{Tree, trees, sizes, depths}
use Rattle.builtin_names.specs.declared.fault.Fault.{Fault}
use Rattle.builtin_names.specs.declared.fault.Fault.TheVariants as fa
use Rattle.builtin_names.specs.Results.{IsNoMemory}

pub record Plan : Type 0 where
  pub held : List Tree
  pub count : ℕ
  pub nodes : ℕ
  pub is_lost : Bool

abbrev pub Holds : Bool → List Tree → List Tree → Type 0
Holds false es ts = es ≡ ts
Holds true es ts = 512 < depths (trees ts)

pub record Plans (ts : List Tree) (p : Plan) : Type 0 where
  pub counted : p.count ≡ length ts
  pub atoms : p.nodes ≡ sizes (trees ts)
  pub small : sizes (trees ts) ≤ 4000000
  pub few : length ts ≤ sizes (trees ts)
  pub holds : Holds p.is_lost p.held ts

abbrev pub WrittenBy : List Tree → Result Plan Fault → Type 0
WrittenBy ts (Ok p) = Plans ts p
WrittenBy ts (Err fa.TooLarge) = 4000000 < sizes (trees ts)
WrittenBy ts (Err f) = IsNoMemory f

pub record Written (ts : List Tree) (r : Result Plan Fault) : Type 0 where
  pub by : WrittenBy ts r

abbrev pub with_one : List Tree → Option Tree → List Tree
with_one ts None = ts
with_one ts (Some t) = ts ++ t ∷ []

-- the atoms beside the elements: the head, and an integer that is not the unit
abbrev pub atoms_beside : ℕ → Bool → ℕ
atoms_beside count true = cond (ltb 1 count) 1 0
atoms_beside count false = 2
