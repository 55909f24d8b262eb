-- The operators and brackets, and how they are written.
--     Sign, sign_text      an operator or bracket, and its bytes
--     signs                all of them, a longer one before each that it begins with
--     sign_of              the one that is written so
use Rattle.std.specs.Prelude.{ℕ, true, false, List, [], ◌∷◌, codes}
use Rattle.std.specs.Ordering.{is_eq}
use Rattle.expr_tree.specs.Order.{text_cmp}

pub data Sign : Type 0 where
  Query At SlashAt AtAt Caret Slash Star Plus Minus : Sign
  EqualEqual BangEqual Less LessEqual Greater GreaterEqual SameSign UnsameSign : Sign
  Bang AndAnd BarBar Bar Colon SlashSemicolon Arrow ColonGreater SlashDot SlashSlashDot : Sign
  PlusEqual MinusEqual StarEqual Ampersand SlashSlash Assign ColonEqual CaretEqual CaretColonEqual : Sign
  AssignDot SlashColon Semicolon PlusPlus MinusMinus : Sign
  OpenParen CloseParen OpenBracket CloseBracket OpenBrace CloseBrace Comma : Sign

abbrev pub sign_text : Sign → List ℕ
sign_text Query = codes "?"
sign_text At = codes "@"
sign_text SlashAt = codes "/@"
sign_text AtAt = codes "@@"
sign_text Caret = codes "^"
sign_text Slash = codes "/"
sign_text Star = codes "*"
sign_text Plus = codes "+"
sign_text Minus = codes "-"
sign_text EqualEqual = codes "=="
sign_text BangEqual = codes "!="
sign_text Less = codes "<"
sign_text LessEqual = codes "<="
sign_text Greater = codes ">"
sign_text GreaterEqual = codes ">="
sign_text SameSign = codes "==="
sign_text UnsameSign = codes "=!="
sign_text Bang = codes "!"
sign_text AndAnd = codes "&&"
sign_text BarBar = codes "||"
sign_text Bar = codes "|"
sign_text Colon = codes ":"
sign_text SlashSemicolon = codes "/;"
sign_text Arrow = codes "->"
sign_text ColonGreater = codes ":>"
sign_text SlashDot = codes "/."
sign_text SlashSlashDot = codes "//."
sign_text PlusEqual = codes "+="
sign_text MinusEqual = codes "-="
sign_text StarEqual = codes "*="
sign_text Ampersand = codes "&"
sign_text SlashSlash = codes "//"
sign_text Assign = codes "="
sign_text ColonEqual = codes ":="
sign_text CaretEqual = codes "^="
sign_text CaretColonEqual = codes "^:="
sign_text AssignDot = codes "=."
sign_text SlashColon = codes "/:"
sign_text Semicolon = codes ";"
sign_text PlusPlus = codes "++"
sign_text MinusMinus = codes "--"
sign_text OpenParen = codes "("
sign_text CloseParen = codes ")"
sign_text OpenBracket = codes "["
sign_text CloseBracket = codes "]"
sign_text OpenBrace = codes "{"
sign_text CloseBrace = codes "}"
sign_text Comma = codes ","

abbrev pub signs : List Sign
signs =
    SameSign ∷ UnsameSign ∷ SlashSlashDot ∷ CaretColonEqual ∷
    PlusPlus ∷ MinusMinus ∷ SlashAt ∷ AtAt ∷ EqualEqual ∷ BangEqual ∷ LessEqual ∷ GreaterEqual ∷ AndAnd ∷ BarBar ∷ SlashSemicolon ∷
    Arrow ∷ ColonGreater ∷ SlashDot ∷ PlusEqual ∷ MinusEqual ∷ StarEqual ∷ SlashSlash ∷ ColonEqual ∷ CaretEqual ∷ AssignDot ∷ SlashColon ∷
    Query ∷ At ∷ Caret ∷ Minus ∷ Slash ∷ Star ∷ Plus ∷ Less ∷ Greater ∷ Bang ∷ Bar ∷ Colon ∷
    Ampersand ∷ Assign ∷ Semicolon ∷ OpenParen ∷ CloseParen ∷ OpenBracket ∷ CloseBracket ∷ OpenBrace ∷ CloseBrace ∷ Comma ∷ []

-- the text of an operator token is always found
abbrev pub sign_in : List Sign → List ℕ → Sign
sign_in [] t = Comma
sign_in (s ∷ ss) t = elim (is_eq (text_cmp (sign_text s) t)) [ true ↦ s | false ↦ sign_in ss t ]

abbrev pub sign_of : List ℕ → Sign
sign_of t = sign_in signs t
