-- Lists of tokens, and a text of which they are the tokens.
--     AreTokens            each is the text of a token of its kind
--     gap, spelled         a space, with a line feed or not; the tokens, each behind one of these
--     HasFullLines         no line is blank, as in each cell; HaveFullLines of each of some texts
--     BeginsText           some text of one cell that is read begins with these tokens
--     IsTextOffset         where the first token begins up to which no text of one cell that is read begins with the tokens; the end counts as one
use Rattle.std.specs.Prelude.{◌≡◌, ℕ, suc, ◌<◌, ◌≤◌, Bool, true, false, not, ◌&&◌, List, [], ◌∷◌, ◌++◌, length, take, drop}
use Rattle.expr_tree.specs.Tree.{Tree}
use Rattle.semantics.specs.Names.{Names}
use Rattle.script_text.specs.Cells.{Line, lines, is_blank}
use Rattle.syntax.specs.Leaves.{Lexeme, lexemes}
use Rattle.syntax.specs.Tokens.{lex}
use Rattle.syntax.specs.Reads.{Reads, place_of}
use Rattle.laws_tokens.specs.Texts.{Whole, IsPart}

abbrev pub AreTokens : List Lexeme → Type 0
AreTokens [] = Unit {0}
AreTokens (l ∷ ls) = IsPart (Whole l.kind) l.text × AreTokens ls

-- a comment over two lines where the token begins a line
abbrev pub gap : Bool → List ℕ
gap true = 32 ∷ 40 ∷ 42 ∷ 10 ∷ 42 ∷ 41 ∷ []
gap false = 32 ∷ []

abbrev pub spelled : List Lexeme → List ℕ
spelled [] = []
spelled (l ∷ ls) = gap l.after_line ++ (l.text ++ spelled ls)

abbrev pub all_full : List Line → Bool
all_full [] = true
all_full (l ∷ ls) = not (is_blank l) && all_full ls

abbrev pub HasFullLines : List ℕ → Type 0
HasFullLines text = all_full (lines text) ≡ true

abbrev pub HaveFullLines : List (List ℕ) → Type 0
HaveFullLines [] = Unit {0}
HaveFullLines (t ∷ ts) = HasFullLines t × HaveFullLines ts

pub record BeginsText (names : Names) (find : List ℕ → ℕ) (ls : List Lexeme) : Type 0 where
  pub text : List ℕ
  pub full : HasFullLines text
  pub expr : Tree
  pub rest : List Lexeme
  pub begins : lexemes text ≡ ls ++ rest
  pub reads : Reads names find text expr

pub record IsTextOffset (names : Names) (find : List ℕ → ℕ) (cell : List ℕ) (place : ℕ) : Type 0 where
  pub k : ℕ
  pub within : k ≤ length (lexemes cell)
  pub before : BeginsText names find (take k (lexemes cell))
  pub bad : k < length (lexemes cell) → ¬ BeginsText names find (take (suc k) (lexemes cell))
  pub unread : (e : Tree) → ¬ Reads names find cell e
  pub here : place ≡ place_of (length cell) (lex cell).fault (drop k (lex cell).tokens)
