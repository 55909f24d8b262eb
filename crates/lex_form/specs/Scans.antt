-- What the program's scanners answer, by the definitions of the tokens.
--     in_class                   which bytes a class has
--     kind_of, reason_of, scanned     what the program's words stand for
--     front, marked              what stands at the front of a text; where it is no white space, comment, number or name
--     is_escaped                 the bytes that stand behind a backslash
--     IsWithin                   the bytes that an answer speaks of are in the text
use Rattle.std.specs.Prelude.{ℕ, Bool, true, false, ◌==◌, ◌||◌, ◌<◌, ◌≤◌, List, [], ◌∷◌}
use Rattle.script_text.specs.Bytes.{is_digit, in_name}
use Rattle.syntax.specs.Signs.{signs}
use Rattle.syntax.specs.Tokens as syn
use Rattle.lex_form.specs.declared.classes.Class.{Class}
use Rattle.lex_form.specs.declared.classes.Class.TheVariants.{Digit, InName, Underscore}
use Rattle.lex_form.specs.declared.token.Kind.{Kind}
use Rattle.lex_form.specs.declared.token.Kind.TheVariants as ki
use Rattle.lex_form.specs.declared.scanner.Reason.{Reason}
use Rattle.lex_form.specs.declared.scanner.Reason.TheVariants as re
use Rattle.lex_form.specs.declared.scanner.Scan.{Scan}
use Rattle.lex_form.specs.declared.scanner.Scan.TheVariants.{Takes, Skips, Faults}

abbrev pub in_class : Class → ℕ → Bool
in_class Digit c = is_digit c
in_class InName c = in_name c
in_class Underscore c = c == 95

abbrev pub kind_of : Kind → syn.Kind
kind_of ki.Number = syn.Number
kind_of ki.Name = syn.Name
kind_of ki.Blank = syn.Blank
kind_of ki.Str = syn.Str
kind_of ki.Slot = syn.Slot
kind_of ki.Operator = syn.Operator

abbrev pub reason_of : Reason → ℕ → syn.LexFault
reason_of re.BadByte place = syn.BadByte place
reason_of re.OpenString place = syn.OpenString place
reason_of re.OpenComment place = syn.OpenComment place
reason_of re.WideNumber place = syn.WideNumber place

abbrev pub scanned : Scan → syn.Scan
scanned (Takes kind n) = syn.Takes (kind_of kind) n
scanned (Skips n) = syn.Skips n
scanned (Faults reason n) = syn.Faults (reason_of reason) n

abbrev pub front : List ℕ → syn.Scan
front [] = syn.Skips 0
front (c ∷ cs) = syn.scan c cs

abbrev pub marked : List ℕ → syn.Scan
marked [] = syn.Skips 0
marked (c ∷ cs) =
    elim (c == 95) [
      | true ↦ syn.blank_after 0 (c ∷ cs)
      | false ↦ elim (c == 34) [ true ↦ syn.string_end false 1 cs | false ↦ elim (c == 35) [ true ↦ syn.slot_scan cs | false ↦ syn.operator_in signs (c ∷ cs) ] ]
    ]

abbrev pub is_escaped : ℕ → Bool
is_escaped c = (c == 34) || ((c == 92) || ((c == 110) || (c == 116)))

-- a fault may lie behind the last byte
abbrev pub IsWithin : ℕ → Scan → Type 0
IsWithin len (Takes kind n) = (0 < n) × (n ≤ len)
IsWithin len (Skips n) = (0 < n) × (n ≤ len)
IsWithin len (Faults reason n) = n ≤ len
