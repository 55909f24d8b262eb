-- Laws of reading.
use Rattle.std.specs.Prelude.{◌≡◌, ◌⊎◌, ℕ, List}
use Rattle.expr_tree.specs.Tree.{Tree}
use Rattle.semantics.specs.Names.{Names}
use Rattle.syntax.specs.Reads.{Reads, IsOffset}

-- A cell has at most one reading.
abbrev pub OneReading : Type 0
OneReading = (names : Names) (find : List ℕ → ℕ) (cell : List ℕ) (d e : Tree) → Reads names find cell d → Reads names find cell e → d ≡ e

-- A cell has a reading or a syntax offset.
abbrev pub ReadOrOffset : Type 0
ReadOrOffset =
    (names : Names) (find : List ℕ → ℕ) (cell : List ℕ) → ((e : Tree) × Reads names find cell e) ⊎ ((place : ℕ) × IsOffset names find cell place)

-- It has at most one syntax offset.
abbrev pub OneOffset : Type 0
OneOffset =
    (names : Names) (find : List ℕ → ℕ) (cell : List ℕ) (j k : ℕ) → IsOffset names find cell j → IsOffset names find cell k → j ≡ k
