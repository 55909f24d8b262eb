-- How large a cell is read as, and what a reader may leave out.
--     CellsAreSmall         a cell of the greatest length of an input is read as no more atoms than an expression may have
--     KeptIsCut             from phrases of which what is beyond the limits was left out, the constructs give what they give of the phrases, cut
use Rattle.std.specs.Prelude.{ℕ, ◌≤◌, List, Option, length}
use Rattle.expr_tree.specs.Tree.{Tree, size}
use Rattle.semantics.specs.Names.{Names}
use Rattle.syntax.specs.Terminals.{Phrase, Terminal}
use Rattle.syntax.specs.Phrases.{written}
use Rattle.syntax.specs.Grammar.{WholeOf}
use Rattle.syntax.specs.Reads.{Reads}
use Rattle.laws_reading.specs.Kept.{Kept, KeptList, keep, kept}

abbrev pub CellsAreSmall : Type 0
CellsAreSmall = (names : Names) (find : List ℕ → ℕ) (cell : List ℕ) (e : Tree) → length cell ≤ 1048576 → Reads names find cell e → size e ≤ 4000000

abbrev pub KeptIsCut : Type 0
KeptIsCut =
    (names : Names) (room : ℕ) (ts : List Terminal) (x : Phrase)
    → WholeOf Phrase Tree (List Tree) (written names) room ts x
    → WholeOf Kept (Option Tree) KeptList (kept names) room ts (keep x)
