-- What holds of the tokens of a text.
--     is_ascii, slot_number     bytes below 128; the number of a slot
--     Shape                     the bytes of a token of a kind
--     IsBlank, IsQuoted         a blank; a string
--     IsToken, AreTokens        a token behind a place in a text; tokens in order
use Rattle.std.specs.Prelude.{◌≡◌, ℕ, ◌<◌, ◌≤◌, ◌^◌, ◌-◌, Bool, true, false, ltb, List, [], ◌∷◌, length, take, drop, get_or, codes, IsAscii}
use Rattle.script_text.specs.Bytes.{all, begins_with, in_name, number_after, run}
use Rattle.syntax.specs.Tokens.{Kind, Token, token_text}
use Rattle.syntax.specs.Leaves.{number_or_one}

abbrev pub is_ascii : ℕ → Bool
is_ascii c = ltb c 128

abbrev pub slot_number : List ℕ → ℕ
slot_number w = elim (begins_with (codes "##") w) [ true ↦ number_or_one (drop 2 w) | false ↦ number_or_one (drop 1 w) ]

-- a quote at both ends
pub record IsQuoted (w : List ℕ) : Type 0 where
  pub first : get_or w 0 0 ≡ 34
  pub last : get_or w (length w - 1) 0 ≡ 34

-- only a mark alone is one byte long
pub record IsBlank (w : List ℕ) : Type 0 where
  pub ascii : IsAscii w
  pub marked : length w ≡ 1 → run in_name w ≡ 0

abbrev pub Shape : Kind → List ℕ → Type 0
Shape Kind.Number w = number_after 0 w < 2 ^ 127
Shape Kind.Name w = IsAscii w
Shape Kind.Blank w = IsBlank w
Shape Kind.Str w = IsQuoted w
Shape Kind.Slot w = slot_number w < 2 ^ 127
Shape Kind.Operator w = Unit {0}

pub record IsToken (text : List ℕ) (at : ℕ) (t : Token) : Type 0 where
  pub after : at ≤ t.from
  pub some : t.from < t.to
  pub within : t.to ≤ length text
  pub shape : Shape t.kind (token_text text t)

abbrev pub AreTokens : List ℕ → ℕ → List Token → Type 0
AreTokens text at [] = Unit {0}
AreTokens text at (t ∷ ts) = IsToken text at t × AreTokens text t.to ts
