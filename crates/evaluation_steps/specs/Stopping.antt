-- Size and Depth of an expression that counts as a result.
--     AreBounded            limits within those of every expression
--     HaltsFor              the halt of an evaluation at an expression that is too large, or for want of memory
--     Checked               an expression within the limits, or its halt
use Rattle.std.specs.Prelude.{◌≡◌, ◌≤◌, Some, None, Result, Ok, Err}
use Rattle.expr_tree.specs.Tree.{Tree}
use Rattle.expr_tree.specs.declared.limits.Limits.{Limits}
use Rattle.semantics.specs.Play.{too_large}
use Rattle.evaluation_steps.specs.declared.Halt.{Halt}

pub record AreBounded (limits : Limits) : Type 0 where
  pub size_is : limits.size ≤ 4000000
  pub depth_is : limits.depth ≤ 512

abbrev pub HaltsBy : Limits → Tree → Halt → Type 0
HaltsBy limits e (Halt.Stopped c) = too_large limits e ≡ Some c
HaltsBy limits e Halt.NoMemory = Unit {0}

pub record HaltsFor (limits : Limits) (e : Tree) (h : Halt) : Type 0 where
  pub by : HaltsBy limits e h

abbrev pub CheckedBy : Limits → Tree → Result Tree Halt → Type 0
CheckedBy limits t (Ok e) = (e ≡ t) × (too_large limits t ≡ None)
CheckedBy limits t (Err h) = HaltsFor limits t h

pub record Checked (limits : Limits) (t : Tree) (r : Result Tree Halt) : Type 0 where
  pub by : CheckedBy limits t r
