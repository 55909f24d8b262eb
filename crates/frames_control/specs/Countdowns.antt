-- Counting the turns of a loop down.
use Rattle.std.specs.Prelude.{◌≡◌, ℕ, suc, pos, Bool, true, false, Option, Some, None}
use Rattle.expr_tree.specs.Tree.{Tree, integer}

-- one turn is taken, where one is left
abbrev pub CountsDown : ℕ → Bool → ℕ → Type 0
CountsDown before true after = before ≡ suc after
CountsDown before false after = (before ≡ 0) × (after ≡ 0)

-- the turns that an integer tells
abbrev pub turns_in : Tree → Option ℕ
turns_in (integer (pos n)) = Some n
turns_in _ = None
