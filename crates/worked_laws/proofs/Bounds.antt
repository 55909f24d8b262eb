-- Looser limits; modes and kernel numbers.
use Rattle.std.proofs.Common.{◌≡◌, ℕ, refl, true, false, []}
use Rattle.expr_tree.specs.Tree.{Tree}
use Rattle.expr_tree.specs.declared.limits.Limits.{Limits}
use Rattle.expr_tree.specs.declared.limits.Stop.{Stop}
use Rattle.semantics.specs.declared.builtin.Builtin.{Builtin}
use Rattle.semantics.specs.Definitions.{empty}
use Rattle.semantics.specs.Program.{Mode}
use Rattle.semantics.specs.Eval.{Evaluation, eval}
use Rattle.semantics.specs.Table.{row, worked}
use Rattle.worked_rows.specs.Sample.{setting, in_cell, usual, int, plus, stopped, symbol_of_row, value}

-- 1 + (2 + 3)
abbrev sum : Tree
sum = plus (int 1) (plus (int 2) (int 3))

abbrev with_steps : ℕ → Limits
with_steps n = record { recursion = 256; iteration = 4096; steps = n; size = 4000000; depth = 512 }

abbrev within : ℕ → Evaluation
within n = eval (in_cell (with_steps n)) empty sum []

-- within two steps it ends with 6, and so it does within a thousand
value_within_two : (within 2).outcome ≡ value (int 6)
unfolding eval row worked
value_within_two = refl

same_within_many : within 1000 ≡ within 2
unfolding eval row worked
same_within_many = refl

-- within one step it stops, and within two it does not
stops_within_one : (within 1).outcome ≡ stopped Stop.Steps
unfolding eval row worked
stops_within_one = refl

abbrev by : Mode → ℕ → Tree → Evaluation
by mode kernel e = eval (setting mode kernel usual) empty e []

-- the sum does not look at the mode: it is the same in an item on kernel 3
sum_unused : (by Mode.Cell 0 sum).used ≡ false
unfolding eval row worked
sum_unused = refl

same_in_item : by Mode.Item 3 sum ≡ by Mode.Cell 0 sum
unfolding eval row worked
same_in_item = refl

-- $KernelID does: 0 in a cell and 3 in that item
number_used : (by Mode.Cell 0 (symbol_of_row Builtin.KernelID)).used ≡ true
unfolding eval row worked
number_used = refl

number_in_cell : (by Mode.Cell 0 (symbol_of_row Builtin.KernelID)).outcome ≡ value (int 0)
unfolding eval row worked
number_in_cell = refl

number_in_item : (by Mode.Item 3 (symbol_of_row Builtin.KernelID)).outcome ≡ value (int 3)
unfolding eval row worked
number_in_item = refl
