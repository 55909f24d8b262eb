-- The tokens of a cell: at each place the longest one, up to the first lexical fault.
--     Kind, Token          a kind of token; a token, which is a part of the text
--     LexFault, Lexed      why no token stands somewhere; the tokens of a text and the first fault
--     Scan, scan           what stands at the front of a text
--     lex, token_text      the tokens of a text; the bytes of one
--     names_in             the names that occur in tokens
use Rattle.std.specs.Prelude.{ℕ, zero, suc, pred, ◌+◌, ◌-◌, ◌^◌, ◌==◌, Bool, true, false, cond, ◌&&◌, ◌||◌, leb, ltb, List, [], ◌∷◌, ◌++◌, length, take, drop, Option, Some, None, codes}
use Rattle.script_text.specs.Bytes.{is_digit, begins_name, in_name, is_white, run, begins_with, number_after}
use Rattle.syntax.specs.Signs.{Sign, sign_text, signs}

pub data Kind : Type 0 where
  Number Name Blank Str Slot Operator : Kind

-- the bytes from `from` up to `to`
pub record Token : Type 0 where
  pub kind : Kind
  pub from : ℕ
  pub to : ℕ

pub data LexFault : Type 0 where
  BadByte OpenString OpenComment WideNumber : ℕ → LexFault

pub record Lexed : Type 0 where
  pub tokens : List Token
  pub fault : Option LexFault

abbrev pub place_of_fault : LexFault → ℕ
place_of_fault (BadByte k) = k
place_of_fault (OpenString k) = k
place_of_fault (OpenComment k) = k
place_of_fault (WideNumber k) = k

-- a token of so many bytes, or so many bytes that are no token, or a fault so many bytes on
pub data Scan : Type 0 where
  Takes : Kind → ℕ → Scan
  Skips : ℕ → Scan
  Faults : (ℕ → LexFault) → ℕ → Scan

-- the first of the signs that the text begins with
abbrev pub operator_in : List Sign → List ℕ → Scan
operator_in [] cs = Faults BadByte 0
operator_in (s ∷ ss) cs = elim (begins_with (sign_text s) cs) [ true ↦ Takes Operator (length (sign_text s)) | false ↦ operator_in ss cs ]

-- behind the quote: the place of a bad escape, or the end; n bytes were passed
abbrev pub string_end : Bool → ℕ → List ℕ → Scan
string_end escaped n [] = elim escaped [ true ↦ Faults BadByte (pred n) | false ↦ Faults OpenString 0 ]
string_end true n (c ∷ cs) =
    elim ((c == 34) || ((c == 92) || ((c == 110) || (c == 116)))) [ true ↦ string_end false (suc n) cs | false ↦ Faults BadByte (pred n) ]
string_end false n (c ∷ cs) =
    elim (c == 34) [ true ↦ Takes Str (suc n) | false ↦ elim (c == 92) [ true ↦ string_end true (suc n) cs | false ↦ string_end false (suc n) cs ] ]

-- within comments that are open, behind a byte that may begin `(*` or `*)`; n bytes were passed
abbrev pub comment_end : ℕ → ℕ → ℕ → List ℕ → Scan
comment_end zero before n cs = Skips n
comment_end (suc depth) before n [] = Faults OpenComment 0
comment_end (suc depth) before n (c ∷ cs) =
    elim ((before == 40) && (c == 42)) [
      | true ↦ comment_end (suc (suc depth)) 0 (suc n) cs
      | false ↦ elim ((before == 42) && (c == 41)) [ true ↦ comment_end depth 0 (suc n) cs | false ↦ comment_end (suc depth) c (suc n) cs ]
    ]

-- the length of the name at the front
abbrev pub name_length : List ℕ → ℕ
name_length [] = zero
name_length (c ∷ cs) = elim (begins_name c) [ true ↦ suc (run in_name cs) | false ↦ zero ]

-- one to three `_`, then an optional name; n bytes were passed
abbrev pub blank_after : ℕ → List ℕ → Scan
blank_after n cs =
    let marks = cond (leb (run (λ c. c == 95) cs) 3) (run (λ c. c == 95) cs) 3 in
    Takes Blank (n + marks + name_length (drop marks cs))

abbrev pub number_scan : List ℕ → Scan
number_scan cs =
    let n = run is_digit cs in
    elim (ltb (number_after 0 (take n cs)) (2 ^ 127)) [ true ↦ Takes Number n | false ↦ Faults WideNumber 0 ]

-- the number behind n signs `#`
abbrev pub slot_number : ℕ → List ℕ → ℕ → Scan
slot_number signs cs zero = Takes Slot signs
slot_number signs cs (suc n) =
    elim (begins_with (48 ∷ []) cs || leb 9 n) [ true ↦ Faults BadByte 0 | false ↦ Takes Slot (signs + suc n) ]

abbrev pub slot_after : ℕ → List ℕ → Scan
slot_after signs cs = slot_number signs cs (run is_digit cs)

-- behind the first `#`
abbrev pub slot_scan : List ℕ → Scan
slot_scan cs = elim (begins_with (35 ∷ []) cs) [ true ↦ slot_after 2 (drop 1 cs) | false ↦ slot_after 1 cs ]

abbrev pub name_scan : List ℕ → Scan
name_scan cs =
    let n = name_length cs in
    elim (begins_with (95 ∷ []) (drop n cs)) [ true ↦ blank_after n (drop n cs) | false ↦ Takes Name n ]

-- what stands at the front of c ∷ cs
abbrev pub scan : ℕ → List ℕ → Scan
scan c cs =
    elim (is_white c) [
      | true ↦ Skips 1
      | false ↦
          elim (begins_with (codes "(*") (c ∷ cs)) [
            | true ↦ comment_end 1 0 2 (drop 1 cs)
            | false ↦
                elim (is_digit c) [
                  | true ↦ number_scan (c ∷ cs)
                  | false ↦
                      elim (begins_name c) [
                        | true ↦ name_scan (c ∷ cs)
                        | false ↦
                            elim (c == 95) [
                              | true ↦ blank_after 0 (c ∷ cs)
                              | false ↦
                                  elim (c == 34) [
                                    | true ↦ string_end false 1 cs
                                    | false ↦
                                        elim (c == 35) [ true ↦ slot_scan cs | false ↦ operator_in signs (c ∷ cs) ]
                                  ]
                            ]
                      ]
                ]
          ]
    ]

abbrev pub and_token : Token → Lexed → Lexed
and_token t l = record l { tokens = t ∷ l.tokens }

-- the text from the place `at` on, of which the first `skip` bytes were taken
abbrev pub lex_from : ℕ → ℕ → List ℕ → Lexed
lex_from at skip [] = record { tokens = []; fault = None }
lex_from at (suc skip) (c ∷ cs) = lex_from (suc at) skip cs
lex_from at zero (c ∷ cs) =
    elim (scan c cs) [
      | Takes kind n ↦ and_token (record { kind = kind; from = at; to = at + n }) (lex_from (suc at) (pred n) cs)
      | Skips n ↦ lex_from (suc at) (pred n) cs
      | Faults fault n ↦ record { tokens = []; fault = Some (fault (at + n)) }
    ]

abbrev pub lex : List ℕ → Lexed
lex text = lex_from 0 0 text

abbrev pub token_text : List ℕ → Token → List ℕ
token_text text t = take (t.to - t.from) (drop t.from text)

-- the text, unless it is empty
abbrev pub nonempty : List ℕ → List (List ℕ)
nonempty [] = []
nonempty (c ∷ cs) = (c ∷ cs) ∷ []

-- the names of a blank, before its `_` and behind them
abbrev pub blank_names : List ℕ → List (List ℕ)
blank_names t =
    let n = run in_name t in
    let rest = drop n t in
    nonempty (take n t) ++ nonempty (drop (run (λ c. c == 95) rest) rest)

abbrev pub token_names : Kind → List ℕ → List (List ℕ)
token_names Name t = t ∷ []
token_names Blank t = blank_names t
token_names _ t = []

-- the names that occur, in the order of their places
abbrev pub names_in : List ℕ → List Token → List (List ℕ)
names_in text [] = []
names_in text (t ∷ ts) = token_names t.kind (token_text text t) ++ names_in text ts
