-- What cells are read as, and where the others stop being readable, computed.
use Rattle.std.proofs.Common.{◌≡◌, refl, ℕ, List, [], ◌∷◌, map, Option, Some, None, ap}
use Rattle.std.specs.Prelude.{codes, length, drop}
use Rattle.expr_tree.specs.Tree.{Tree, call}
use Rattle.semantics.specs.declared.builtin.Builtin.{Builtin}
use Rattle.syntax.specs.Tokens.{LexFault, BadByte, WideNumber, lex}
use Rattle.syntax.specs.Leaves.{lexemes}
use Rattle.syntax.specs.Operators.{infix_row, level_of, right_of, gives_of, tags_of, leads_at, trails_at}
use Rattle.syntax.specs.Terminals.{sign_start, sign_next, word_start, word_next, on_line}
use Rattle.syntax.specs.Grammar.{nesting_limit}
use Rattle.syntax.specs.Reads.{Reads, IsOffset, place_of}
use Rattle.syntax.proofs.Reader.{frame_level, level_at, completed, popped, reduce, push, begins, begins_in, only_at, attached, tag_on_top, joined, separated, closes, made, closed_elements, closed_group, closed, goes_on, next_level, follows_phrase, follows_semicolon, part_opened, follows_opening, follows_half, follows, run, finished}
use Rattle.syntax.proofs.Read.{parsed, computed, lexemes_computed, stop_of, computed_offset, fault_offset}
use Rattle.worked_texts.proofs.Sample.{names, find, a', b', c', f', x', y', int, less, of, name, list}

abbrev Row : Type 0
Row = List ℕ × Tree

abbrev AllRead : List Row → Type 0
AllRead [] = Unit {0}
AllRead (r ∷ rs) = Reads names find r.0 r.1 × AllRead rs

abbrev seen : Row → Option LexFault × Option Tree
seen r = ((lex r.0).fault, parsed names find r.0)

abbrev wanted : Row → Option LexFault × Option Tree
wanted r = (None, Some r.1)

abbrev first : Option LexFault × Option Tree → List (Option LexFault × Option Tree) → Option LexFault × Option Tree
first d [] = d
first d (x ∷ xs) = x

abbrev others : List (Option LexFault × Option Tree) → List (Option LexFault × Option Tree)
others [] = []
others (x ∷ xs) = xs

all_read : (rows : List Row) → map seen rows ≡ map wanted rows → AllRead rows
all_read [] e = tt
all_read (r ∷ rs) e =
    let same : seen r ≡ wanted r = ap (first (seen r)) e in
    (computed names find r.0 r.1 (ap (λ (p : Option LexFault × Option Tree). p.0) same) (ap (λ (p : Option LexFault × Option Tree). p.1) same), all_read rs (ap others e))

abbrev arithmetic : List Row
arithmetic =
    (codes "1 + 2", of Builtin.Plus (int 1 ∷ int 2 ∷ []))
    ∷ (codes "a - 2 b", of Builtin.Plus (a' ∷ of Builtin.Times (less 2 ∷ b' ∷ []) ∷ []))
    ∷ (codes "2^-1", of Builtin.Power (int 2 ∷ less 1 ∷ []))
    ∷ (codes "x + y + 2 x", of Builtin.Plus (x' ∷ y' ∷ of Builtin.Times (int 2 ∷ x' ∷ []) ∷ []))
    ∷ (codes "a / b / c", of Builtin.Times (a' ∷ of Builtin.Power (b' ∷ less 1 ∷ []) ∷ of Builtin.Power (c' ∷ less 1 ∷ []) ∷ []))
    ∷ (codes "-x^2", of Builtin.Times (less 1 ∷ of Builtin.Power (x' ∷ int 2 ∷ []) ∷ []))
    ∷ (codes "-(3)", of Builtin.Times (less 1 ∷ int 3 ∷ []))
    ∷ (codes "- -x", of Builtin.Times (less 1 ∷ less 1 ∷ x' ∷ []))
    ∷ []

arithmetic_read : AllRead arithmetic
unfolding frame_level level_at completed popped reduce push begins begins_in only_at attached tag_on_top joined separated closes made closed_elements closed_group closed goes_on next_level follows_phrase follows_semicolon part_opened follows_opening follows_half follows run finished infix_row level_of right_of gives_of tags_of leads_at trails_at sign_start sign_next word_start word_next on_line nesting_limit
arithmetic_read = all_read arithmetic refl

abbrev functions : List Row
functions =
    (codes "f = # + 1 &", of Builtin.Set (f' ∷ of Builtin.Function (of Builtin.Plus (of Builtin.Slot (int 1 ∷ []) ∷ int 1 ∷ []) ∷ []) ∷ []))
    ∷ (codes "# + 1 & /@ {1, 2}", of Builtin.Map (of Builtin.Function (of Builtin.Plus (of Builtin.Slot (int 1 ∷ []) ∷ int 1 ∷ []) ∷ []) ∷ list (int 1 ∷ int 2 ∷ []) ∷ []))
    ∷ (codes "a // f", call f' (a' ∷ []))
    ∷ (codes "f @ a[b]", call f' (call a' (b' ∷ []) ∷ []))
    ∷ []

functions_read : AllRead functions
unfolding frame_level level_at completed popped reduce push begins begins_in only_at attached tag_on_top joined separated closes made closed_elements closed_group closed goes_on next_level follows_phrase follows_semicolon part_opened follows_opening follows_half follows run finished infix_row level_of right_of gives_of tags_of leads_at trails_at sign_start sign_next word_start word_next on_line nesting_limit
functions_read = all_read functions refl

abbrev definitions : List Row
definitions =
    (codes "f[x_] := 1 /; x > 5", of Builtin.SetDelayed (call f' (of Builtin.Pattern (x' ∷ of Builtin.Blank [] ∷ []) ∷ []) ∷ of Builtin.Condition (int 1 ∷ of Builtin.Greater (x' ∷ int 5 ∷ []) ∷ []) ∷ []))
    ∷ (codes "a /: f[a] = 1", of Builtin.TagSet (a' ∷ call f' (a' ∷ []) ∷ int 1 ∷ []))
    ∷ (codes "a = 1; b;", of Builtin.CompoundExpression (of Builtin.Set (a' ∷ int 1 ∷ []) ∷ b' ∷ name Builtin.Null ∷ []))
    ∷ (codes "a /. x_ -> {x}", of Builtin.ReplaceAll (a' ∷ of Builtin.Rule (of Builtin.Pattern (x' ∷ of Builtin.Blank [] ∷ []) ∷ list (x' ∷ []) ∷ []) ∷ []))
    ∷ []

definitions_read : AllRead definitions
unfolding frame_level level_at completed popped reduce push begins begins_in only_at attached tag_on_top joined separated closes made closed_elements closed_group closed goes_on next_level follows_phrase follows_semicolon part_opened follows_opening follows_half follows run finished infix_row level_of right_of gives_of tags_of leads_at trails_at sign_start sign_next word_start word_next on_line nesting_limit
definitions_read = all_read definitions refl

-- read otherwise than one may think
abbrev surprises : List Row
surprises =
    (codes "x=.5", of Builtin.Times (of Builtin.Unset (x' ∷ []) ∷ int 5 ∷ []))
    ∷ (codes "a--b", of Builtin.Times (of Builtin.Decrement (a' ∷ []) ∷ b' ∷ []))
    ∷ (codes "x_1", of Builtin.Times (of Builtin.Pattern (x' ∷ of Builtin.Blank [] ∷ []) ∷ int 1 ∷ []))
    ∷ (codes "a[[]]", of Builtin.Part (a' ∷ []))
    ∷ (codes "a[[1, 2]]", of Builtin.Part (a' ∷ int 1 ∷ int 2 ∷ []))
    ∷ (codes "a\n-b", of Builtin.Plus (a' ∷ of Builtin.Times (less 1 ∷ b' ∷ []) ∷ []))
    ∷ []

surprises_read : AllRead surprises
unfolding frame_level level_at completed popped reduce push begins begins_in only_at attached tag_on_top joined separated closes made closed_elements closed_group closed goes_on next_level follows_phrase follows_semicolon part_opened follows_opening follows_half follows run finished infix_row level_of right_of gives_of tags_of leads_at trails_at sign_start sign_next word_start word_next on_line nesting_limit
surprises_read = all_read surprises refl

no_tokens_are_null : Reads names find (codes "(* a *)") (name Builtin.Null)
no_tokens_are_null = record { no_fault = refl; read = refl }

-- a cell, how many tokens are gone over, and its offset
record Stop : Type 0 where
  cell : List ℕ
  tokens : ℕ
  place : ℕ

abbrev stops : List ℕ → ℕ → ℕ → Stop
stops cell tokens place = record { cell = cell; tokens = tokens; place = place }

abbrev AllStop : List Stop → Type 0
AllStop [] = Unit {0}
AllStop (r ∷ rs) = IsOffset names find r.cell r.place × AllStop rs

abbrev stop_seen : Stop → Option ℕ × ℕ
stop_seen r = (stop_of names find (lexemes r.cell), place_of (length r.cell) (lex r.cell).fault (drop r.tokens (lex r.cell).tokens))

abbrev stop_wanted : Stop → Option ℕ × ℕ
stop_wanted r = (Some r.tokens, r.place)

abbrev first_stop : Option ℕ × ℕ → List (Option ℕ × ℕ) → Option ℕ × ℕ
first_stop d [] = d
first_stop d (x ∷ xs) = x

abbrev other_stops : List (Option ℕ × ℕ) → List (Option ℕ × ℕ)
other_stops [] = []
other_stops (x ∷ xs) = xs

all_stop : (rows : List Stop) → map stop_seen rows ≡ map stop_wanted rows → AllStop rows
all_stop [] e = tt
all_stop (r ∷ rs) e =
    let same : stop_seen r ≡ stop_wanted r = ap (first_stop (stop_seen r)) e in
    (computed_offset names find r.cell r.tokens r.place (ap (λ (p : Option ℕ × ℕ). p.0) same) (ap (λ (p : Option ℕ × ℕ). p.1) same), all_stop rs (ap other_stops e))

abbrev faulty : List Stop
faulty =
    stops (codes "1 +") 2 3
    ∷ stops (codes "a == b < c") 3 7
    ∷ stops (codes "( )") 1 2
    ∷ stops (codes "{1,,2}") 3 3
    ∷ stops (codes "a\n(b)") 1 2
    ∷ stops (codes "a b : c") 2 4
    ∷ stops (codes "a /: b") 3 6
    ∷ stops (codes "f[a") 3 3
    ∷ stops (codes "a ;; b") 2 3
    ∷ []

faulty_stop : AllStop faulty
unfolding frame_level level_at completed popped reduce push begins begins_in only_at attached tag_on_top joined separated closes made closed_elements closed_group closed goes_on next_level follows_phrase follows_semicolon part_opened follows_opening follows_half follows run finished infix_row level_of right_of gives_of tags_of leads_at trails_at sign_start sign_next word_start word_next on_line nesting_limit
faulty_stop = all_stop faulty refl

-- where a token cannot stand
bad_byte_stops : IsOffset names find (codes "x . y") 2
unfolding frame_level level_at completed popped reduce push begins begins_in only_at attached tag_on_top joined separated closes made closed_elements closed_group closed goes_on next_level follows_phrase follows_semicolon part_opened follows_opening follows_half follows run finished infix_row level_of right_of gives_of tags_of leads_at trails_at sign_start sign_next word_start word_next on_line nesting_limit
bad_byte_stops = fault_offset names find (codes "x . y") (BadByte 2) x' refl (lexemes_computed names find (lexemes (codes "x . y")) x' refl)

wide_number_stops : IsOffset names find (codes "170141183460469231731687303715884105728") 0
wide_number_stops = fault_offset names find (codes "170141183460469231731687303715884105728") (WideNumber 0) (name Builtin.Null) refl refl
