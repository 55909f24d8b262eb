-- Cells, tokens and names, computed.
use Rattle.std.proofs.Common.{◌≡◌, refl, ℕ, List, [], ◌∷◌, Option, Some, None}
use Rattle.std.specs.Prelude.{codes}
use Rattle.script_text.specs.Cells.{cells}
use Rattle.syntax.specs.Tokens.{Kind, Number, Name, Blank, Str, Slot, Operator, Token, LexFault, BadByte, OpenString, OpenComment, WideNumber, lex, names_in}
use Rattle.script_text.specs.Spelling.{spelled, bases}

cells_part_at_blank_lines : cells (codes "a\n \t\n\n b\r\nc\n\r\n") ≡ codes "a" ∷ codes " b\r\nc" ∷ []
cells_part_at_blank_lines = refl

no_cells : cells [] ≡ []
no_cells = refl

blank_lines_alone : cells (codes "  \n\n") ≡ []
blank_lines_alone = refl

-- the kinds and ends of tokens that follow one another, and the fault
abbrev told : List Token → List (Kind × ℕ × ℕ)
told [] = []
told (t ∷ ts) = (t.kind, t.from, t.to) ∷ told ts

abbrev tokens : List ℕ → List (Kind × ℕ × ℕ) × Option LexFault
tokens t = let l = lex t in (told l.tokens, l.fault)

longest_signs : tokens (codes "a/@b//@c") ≡ ((Name, 0, 1) ∷ (Operator, 1, 3) ∷ (Name, 3, 4) ∷ (Operator, 4, 6) ∷ (Operator, 6, 7) ∷ (Name, 7, 8) ∷ [], None)
longest_signs = refl

at_most_three_marks : tokens (codes "x____y_h_1") ≡ ((Blank, 0, 4) ∷ (Blank, 4, 6) ∷ (Blank, 6, 8) ∷ (Blank, 8, 9) ∷ (Number, 9, 10) ∷ [], None)
at_most_three_marks = refl

an_unset_before_a_number : tokens (codes "x=.5") ≡ ((Name, 0, 1) ∷ (Operator, 1, 3) ∷ (Number, 3, 4) ∷ [], None)
an_unset_before_a_number = refl

signs_in_a_row : tokens (codes "a--b+++c") ≡ ((Name, 0, 1) ∷ (Operator, 1, 3) ∷ (Name, 3, 4) ∷ (Operator, 4, 6) ∷ (Operator, 6, 7) ∷ (Name, 7, 8) ∷ [], None)
signs_in_a_row = refl

long_signs : tokens (codes "a=!=b===c^:=d") ≡ ((Name, 0, 1) ∷ (Operator, 1, 4) ∷ (Name, 4, 5) ∷ (Operator, 5, 8) ∷ (Name, 8, 9) ∷ (Operator, 9, 12) ∷ (Name, 12, 13) ∷ [], None)
long_signs = refl

nested_comments : tokens (codes "a(* b (* \" *) (*)*)*)c*)") ≡ ((Name, 0, 1) ∷ (Name, 21, 22) ∷ (Operator, 22, 23) ∷ (Operator, 23, 24) ∷ [], None)
nested_comments = refl

an_open_comment : tokens (codes "a (* (* *)") ≡ ((Name, 0, 1) ∷ [], Some (OpenComment 2))
an_open_comment = refl

a_string : tokens (codes "\"a\\\"\\n(*\"b") ≡ ((Str, 0, 9) ∷ (Name, 9, 10) ∷ [], None)
a_string = refl

an_open_string : tokens (codes "a \"b") ≡ ((Name, 0, 1) ∷ [], Some (OpenString 2))
an_open_string = refl

a_bad_escape : tokens (codes "\"ab\\c") ≡ ([], Some (BadByte 3))
a_bad_escape = refl

slots : tokens (codes "#1##2###") ≡ ((Slot, 0, 2) ∷ (Slot, 2, 5) ∷ (Slot, 5, 7) ∷ (Slot, 7, 8) ∷ [], None)
slots = refl

a_slot_with_a_zero : tokens (codes "a ##01") ≡ ((Name, 0, 1) ∷ [], Some (BadByte 2))
a_slot_with_a_zero = refl

a_slot_too_long : tokens (codes "#123456789#1234567890") ≡ ((Slot, 0, 10) ∷ [], Some (BadByte 10))
a_slot_too_long = refl

a_wide_number : tokens (codes "1 170141183460469231731687303715884105728") ≡ ((Number, 0, 1) ∷ [], Some (WideNumber 2))
a_wide_number = refl

the_widest_number : tokens (codes "170141183460469231731687303715884105727") ≡ ((Number, 0, 39) ∷ [], None)
the_widest_number = refl

a_bad_byte : tokens (codes "a.b") ≡ ((Name, 0, 1) ∷ [], Some (BadByte 1))
a_bad_byte = refl

names_that_occur : (let t = codes "x$1_h f[_b, y__] (* z *) \"w\"" in names_in t (lex t).tokens)
    ≡ codes "x$1" ∷ codes "h" ∷ codes "f" ∷ codes "b" ∷ codes "y" ∷ []
names_that_occur = refl

a_number_part : spelled (codes "x$12") ≡ record { base = codes "x"; number = 12 }
a_number_part = refl

the_last_number_part : spelled (codes "a$1$2") ≡ record { base = codes "a$1"; number = 2 }
the_last_number_part = refl

no_leading_zero : spelled (codes "x$012") ≡ record { base = codes "x$012"; number = 0 }
no_leading_zero = refl

no_empty_base : spelled (codes "$12") ≡ record { base = codes "$12"; number = 0 }
no_empty_base = refl

nineteen_digits : spelled (codes "x$1234567890123456789") ≡ record { base = codes "x$1234567890123456789"; number = 0 }
nineteen_digits = refl

eighteen_digits : spelled (codes "x$123456789012345678") ≡ record { base = codes "x"; number = 123456789012345678 }
eighteen_digits = refl

bases_in_order : bases (codes "List" ∷ codes "x$2" ∷ codes "b" ∷ codes "X" ∷ codes "a" ∷ codes "B" ∷ codes "x" ∷ codes "ListQ" ∷ codes "Listable" ∷ codes "$Failed" ∷ codes "a1" ∷ [])
    ≡ codes "$Failed" ∷ codes "a" ∷ codes "a1" ∷ codes "b" ∷ codes "B" ∷ codes "List" ∷ codes "Listable" ∷ codes "ListQ" ∷ codes "x" ∷ codes "X" ∷ []
bases_in_order = refl
