-- Which texts are tokens of a kind, which are passed over, and which are faulty.
--     AreDigits, IsNumber, IsWide          one or more digits; those of an integer; those of a greater number
--     IsOptional, IsMarked                 a name or nothing; one to three `_` between two of these, which is a blank
--     is_escape, Inside                    what stands behind a backslash; what stands between the quotes of a string
--     IsString, IsOpenString, IsBadEscape  a string; one that is open; one that is open, up to a backslash
--     IsHash, is_slot_number, IsHashed     `#` or `##`; nothing or the number of a slot; both together
--     IsSign                               an operator or bracket
--     Nested                               comments are left and begun within comments
--     IsComment, IsOpenComment             a comment; one that is open
--     Part, IsPart                         what a text is cut into
use Rattle.std.specs.Prelude.{◌≡◌, ℕ, suc, ◌<◌, ◌≤◌, ◌^◌, ◌==◌, leb, Bool, true, false, not, ◌&&◌, ◌||◌, List, [], ◌∷◌, ◌++◌, length, codes}
use Rattle.script_text.specs.Bytes.{all, begins_with, is_digit, is_name, is_white, number_after}
use Rattle.syntax.specs.Signs.{Sign, sign_text}
use Rattle.syntax.specs.Tokens.{Kind}

-- ---- numbers

pub record AreDigits (t : List ℕ) : Type 0 where
  pub some : 0 < length t
  pub digits : all is_digit t ≡ true

pub record IsNumber (t : List ℕ) : Type 0 where
  pub digits : AreDigits t
  pub fits : number_after 0 t < 2 ^ 127

pub record IsWide (t : List ℕ) : Type 0 where
  pub digits : AreDigits t
  pub wide : 2 ^ 127 ≤ number_after 0 t

-- ---- names and blanks

abbrev pub IsOptional : List ℕ → Type 0
IsOptional [] = Unit {0}
IsOptional (c ∷ cs) = is_name (c ∷ cs) ≡ true

pub record IsMarked (t : List ℕ) : Type 0 where
  pub before : List ℕ
  pub marks : List ℕ
  pub behind : List ℕ
  pub is : t ≡ before ++ (marks ++ behind)
  pub name : IsOptional before
  pub only : all (λ c. c == 95) marks ≡ true
  pub some : 0 < length marks
  pub few : length marks ≤ 3
  pub head : IsOptional behind

-- ---- strings

abbrev pub is_escape : ℕ → Bool
is_escape c = (c == 34) || ((c == 92) || ((c == 110) || (c == 116)))

-- bytes that are neither a quote nor a backslash, and escapes
pub data Inside : List ℕ → Type 0 where
  nothing : Inside []
  plain : {cs : List ℕ} (c : ℕ) → (c == 34) ≡ false → (c == 92) ≡ false → Inside cs → Inside (c ∷ cs)
  escape : {cs : List ℕ} (c : ℕ) → is_escape c ≡ true → Inside cs → Inside (92 ∷ c ∷ cs)

pub record IsString (t : List ℕ) : Type 0 where
  pub inside : List ℕ
  pub is : t ≡ 34 ∷ (inside ++ (34 ∷ []))
  pub well : Inside inside

pub record IsOpenString (t : List ℕ) : Type 0 where
  pub inside : List ℕ
  pub is : t ≡ 34 ∷ inside
  pub well : Inside inside

pub record IsBadEscape (t : List ℕ) : Type 0 where
  pub inside : List ℕ
  pub is : t ≡ 34 ∷ (inside ++ (92 ∷ []))
  pub well : Inside inside

-- ---- slots

pub data IsHash : List ℕ → Type 0 where
  one : IsHash (codes "#")
  two : IsHash (codes "##")

-- nothing, or one to nine digits of which the first is not 0
abbrev pub is_slot_number : List ℕ → Bool
is_slot_number [] = true
is_slot_number (d ∷ ds) = not (d == 48) && leb (length (d ∷ ds)) 9

-- digits behind the `#`, which are the number of a slot or not
pub record IsHashed (good : Bool) (t : List ℕ) : Type 0 where
  pub marks : List ℕ
  pub number : List ℕ
  pub is : t ≡ marks ++ number
  pub hash : IsHash marks
  pub digits : all is_digit number ≡ true
  pub judged : is_slot_number number ≡ good

-- ---- operators, brackets, and what is passed over

pub record IsSign (t : List ℕ) : Type 0 where
  pub sign : Sign
  pub is : t ≡ sign_text sign

pub record IsSpace (t : List ℕ) : Type 0 where
  pub byte : ℕ
  pub is : t ≡ byte ∷ []
  pub white : is_white byte ≡ true

-- from so many open comments to so many, of which one is open up to the end
pub data Nested : ℕ → List ℕ → ℕ → Type 0 where
  ended : {m : ℕ} → Nested m [] m
  begun : {m n : ℕ} {cs : List ℕ} → Nested (suc (suc m)) cs n → Nested (suc m) (40 ∷ 42 ∷ cs) n
  left : {m n : ℕ} {cs : List ℕ} → Nested m cs n → Nested (suc m) (42 ∷ 41 ∷ cs) n
  byte : {m n : ℕ} {cs : List ℕ} (c : ℕ) → begins_with (codes "(*") (c ∷ cs) ≡ false → begins_with (codes "*)") (c ∷ cs) ≡ false →
      Nested (suc m) cs n → Nested (suc m) (c ∷ cs) n

pub record IsComment (t : List ℕ) : Type 0 where
  pub inside : List ℕ
  pub is : t ≡ codes "(*" ++ inside
  pub ends : Nested 1 inside 0

pub record IsOpenComment (t : List ℕ) : Type 0 where
  pub inside : List ℕ
  pub inner : ℕ
  pub is : t ≡ codes "(*" ++ inside
  pub stays : Nested 1 inside (suc inner)

-- ---- all of them

pub data Part : Type 0 where
  Whole : Kind → Part
  Space Comment : Part
  Wide BadSlot OpenString BadEscape OpenComment : Part

abbrev pub IsPart : Part → List ℕ → Type 0
IsPart (Whole Kind.Number) t = IsNumber t
IsPart (Whole Kind.Name) t = is_name t ≡ true
IsPart (Whole Kind.Blank) t = IsMarked t
IsPart (Whole Kind.Str) t = IsString t
IsPart (Whole Kind.Slot) t = IsHashed true t
IsPart (Whole Kind.Operator) t = IsSign t
IsPart Space t = IsSpace t
IsPart Comment t = IsComment t
IsPart Wide t = IsWide t
IsPart BadSlot t = IsHashed false t
IsPart OpenString t = IsOpenString t
IsPart BadEscape t = IsBadEscape t
IsPart OpenComment t = IsOpenComment t
