-- The bytes that a script and a journal define.
--     script_names          the texts of the bases of a script's symbols, in the order of names
--     opening               what a run begins with, by these texts and the options
--     AreReadings           what the texts of cells are read as
--     line_text             the bytes of a line of a transcript
--     transcript_text       the bytes of a transcript
--     Explains              a legal journal of a script, and its bytes
use Rattle.std.specs.Prelude.{◌≡◌, ℕ, List, [], ◌∷◌, ◌++◌, map, length, Bool, Option, Some}
use Rattle.script_text.specs.Spelling.{by_texts, place_in, bases}
use Rattle.script_text.specs.Cells.{cells}
use Rattle.semantics.specs.Builtin.{rows}
use Rattle.semantics.specs.Texts.{row_text, names_of}
use Rattle.syntax.specs.Tokens.{names_in, lex}
use Rattle.syntax.specs.Reads.{Reads, IsOffset}
use Rattle.syntax.specs.Lines.{out_line, syntax_line, print_line}
use Rattle.journal.specs.Places.{given}
use Rattle.journal.specs.declared.event.Entry.{Entry}
use Rattle.journal.specs.Entry.{Text}
use Rattle.journal.specs.declared.recover.Recover.{Recover}
use Rattle.journal.specs.Core.{Setup}
use Rattle.journal.specs.Follow.{Plan}
use Rattle.journal.specs.Run as Run
use Rattle.journal.specs.Run.{Reading, Unread, Line, Printed, Out, Syntax, Listed, Legal, transcript, written}
use Rattle.journal.specs.Lines.{entry_line}
use Rattle.journal.specs.Members.{Opening, setup_of}

-- the names in the tokens of cells
abbrev pub cell_names : List Text → List Text
cell_names [] = []
cell_names (c ∷ cs) = names_in c (lex c).tokens ++ cell_names cs

-- those of the table, and those of the names in the tokens of all cells
abbrev pub script_names : List Text → List Text
script_names texts = bases (map row_text rows ++ cell_names texts)

-- with so many kernels and steps, and a way of recovery
abbrev pub opening : List Text → ℕ → ℕ → Recover → Opening
opening texts kernels steps recovery =
    record {
      kernels = kernels;
      limits = record { recursion = 256; iteration = 4096; steps = steps; size = 4000000; depth = 512 };
      texts = texts;
      recovery = recovery;
    }

-- ---- reading

-- the expression that a cell is read as, or its syntax offset
abbrev pub IsReading : List Text → Text → Reading → Type 0
IsReading texts cell (Run.Reads e) = Reads (names_of texts) (place_in texts) cell e
IsReading texts cell (Unread place) = IsOffset (names_of texts) (place_in texts) cell place

abbrev pub AreReadings : List Text → List Text → List Reading → Type 0
AreReadings texts [] [] = Unit {0}
AreReadings texts (c ∷ cs) (r ∷ rs) = IsReading texts c r × AreReadings texts cs rs
AreReadings texts _ _ = ⊥

-- ---- lines

abbrev pub line_text : List Text → Line → Text
line_text texts (Printed t) = print_line t
line_text texts (Out n v) = out_line (by_texts texts) (names_of texts) n v
line_text texts (Syntax n place) = syntax_line n place
line_text texts (Listed n entry) = entry_line (by_texts texts) n entry

-- of the first m cells, and after all cells, where they are asked for, the journal's lines
abbrev pub transcript_text : List Text → Setup → Bool → List Reading → List Entry → ℕ → Option Text
transcript_text texts set with_journal readings journal m = given (transcript set with_journal readings journal m) (λ lines. Some (written (line_text texts) lines))

-- ---- a run of a script

-- the journal is one that the script and the options allow, and the bytes are those that script and journal define
pub record Explains (kernels steps : ℕ) (recovery : Recover) (plan : Plan) (with_journal : Bool) (script : Text) (journal : List Entry) (bytes : Text) : Type 0 where
  pub readings : List Reading
  pub read : AreReadings (script_names (cells script)) (cells script) readings
  pub legal : Legal (setup_of (opening (script_names (cells script)) kernels steps recovery)) plan readings journal
  pub bytes_written :
      transcript_text (script_names (cells script)) (setup_of (opening (script_names (cells script)) kernels steps recovery)) with_journal readings journal (length readings) ≡ Some bytes
