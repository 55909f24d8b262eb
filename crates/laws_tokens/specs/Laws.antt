-- Laws of tokens.
--     TokensAreLongest      the tokens of a text are, at each place, the longest
--     TokensAreThese        no other tokens are
--     LexemesAreTokens      each lexeme of a text is a token of its kind
--     TokensAreSpelled      any tokens are the lexemes of a text
--     CellsAreTexts         lexemes that begin a cell begin a text that is read
--     OffsetsAreOfTexts     so the syntax offset speaks of texts
--     FullLinesAreOneCell   a text without a blank line is one cell
--     CellsHaveFullLines    the cells of a script have no blank line
use Rattle.std.specs.Prelude.{◌≡◌, ℕ, List, [], ◌∷◌, take, None}
use Rattle.script_text.specs.Cells.{cells}
use Rattle.semantics.specs.Names.{Names}
use Rattle.syntax.specs.Tokens.{Lexed, lex}
use Rattle.syntax.specs.Leaves.{Lexeme, lexemes}
use Rattle.syntax.specs.Reads.{BeginsCell, IsOffset}
use Rattle.laws_tokens.specs.Longest.{IsCut}
use Rattle.laws_tokens.specs.Spelled.{AreTokens, spelled, HasFullLines, HaveFullLines, BeginsText, IsTextOffset}

abbrev pub TokensAreLongest : Type 0
TokensAreLongest = (text : List ℕ) → IsCut 0 text (lex text)

abbrev pub TokensAreThese : Type 0
TokensAreThese = (text : List ℕ) (l : Lexed) → IsCut 0 text l → l ≡ lex text

abbrev pub LexemesAreTokens : Type 0
LexemesAreTokens = (text : List ℕ) → AreTokens (lexemes text)

abbrev pub TokensAreSpelled : Type 0
TokensAreSpelled = (ls : List Lexeme) → AreTokens ls → ((lex (spelled ls)).fault ≡ None) × (lexemes (spelled ls) ≡ ls)

abbrev pub CellsAreTexts : Type 0
CellsAreTexts =
    (names : Names) (find : List ℕ → ℕ) (cell : List ℕ) (k : ℕ)
    → HasFullLines cell
    → (BeginsCell names find (take k (lexemes cell)) → BeginsText names find (take k (lexemes cell)))
    × (BeginsText names find (take k (lexemes cell)) → BeginsCell names find (take k (lexemes cell)))

abbrev pub OffsetsAreOfTexts : Type 0
OffsetsAreOfTexts =
    (names : Names) (find : List ℕ → ℕ) (cell : List ℕ) (place : ℕ)
    → HasFullLines cell
    → (IsOffset names find cell place → IsTextOffset names find cell place)
    × (IsTextOffset names find cell place → IsOffset names find cell place)

abbrev pub FullLinesAreOneCell : Type 0
FullLinesAreOneCell = (text : List ℕ) → HasFullLines text → cells text ≡ text ∷ []

abbrev pub CellsHaveFullLines : Type 0
CellsHaveFullLines = (script : List ℕ) → HaveFullLines (cells script)
