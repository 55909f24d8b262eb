-- The names of a script.
--     ScriptsHaveRows       no two of their texts are the same, and those of all rows are among them
--     OpeningsHaveNames     so each opening that a run makes of a script has names
use Rattle.std.specs.Prelude.{ℕ, List}
use Rattle.script_text.specs.Laws.{AreDistinct}
use Rattle.semantics.specs.Names.{IsNames}
use Rattle.journal.specs.declared.recover.Recover.{Recover}
use Rattle.journal.specs.Entry.{Text}
use Rattle.journal.specs.Members.{setup_of}
use Rattle.journal.specs.Transcript.{script_names, opening}
use Rattle.laws_members.specs.Listed.{HasRows}

-- of any cells
abbrev pub ScriptsHaveRows : Type 0
ScriptsHaveRows = (cells : List Text) → AreDistinct (script_names cells) × HasRows (script_names cells)

abbrev pub OpeningsHaveNames : Type 0
OpeningsHaveNames = (cells : List Text) (kernels steps : ℕ) (recovery : Recover) → IsNames (setup_of (opening (script_names cells) kernels steps recovery)).names
