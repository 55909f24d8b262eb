-- Expressions whose input form is read again, computed; the least integer, whose input form is not; and a full form that is read otherwise.
use Rattle.std.proofs.Common.{◌≡◌, refl, sym, ◌∙◌, ℕ, ◌+◌, ◌-◌, ◌^◌, List, [], ◌∷◌, ◌++◌, map, Option, Some, None, pos, negsuc}
use Rattle.std.specs.Prelude.{codes, length}
use Rattle.std.specs.Fmt.{digits}
use Rattle.expr_tree.specs.Tree.{Tree, integer, string, symbol, call}
use Rattle.semantics.specs.declared.builtin.Builtin.{Builtin}
use Rattle.semantics.specs.Builtin.{row_number, rows}
use Rattle.semantics.specs.Names.{Names, make}
use Rattle.semantics.specs.Texts.{row_text, names_of}
use Rattle.script_text.specs.Spelling.{by_texts, place_in}
use Rattle.script_text.specs.Full.{full}
use Rattle.laws_readback.specs.Laws.{shown_by}
use Rattle.syntax.specs.Tokens.{LexFault, WideNumber, lex}
use Rattle.syntax.specs.Operators.{infix_row, level_of, right_of, gives_of, tags_of, leads_at, trails_at}
use Rattle.syntax.specs.Terminals.{sign_start, sign_next, word_start, word_next, on_line}
use Rattle.syntax.specs.Grammar.{nesting_limit}
use Rattle.syntax.specs.Reads.{Reads}
use Rattle.syntax.proofs.Reader.{frame_level, level_at, completed, popped, reduce, push, begins, begins_in, only_at, attached, tag_on_top, joined, separated, closes, made, closed_elements, closed_group, closed, goes_on, next_level, follows_phrase, follows_semicolon, part_opened, follows_opening, follows_half, follows, run, finished}
use Rattle.syntax.proofs.Read.{parsed}

abbrev pub texts : List (List ℕ)
texts = map row_text rows ++ (codes "a" ∷ codes "b" ∷ codes "c" ∷ codes "f" ∷ codes "x" ∷ [])

abbrev names : Names
names = names_of texts

abbrev other : ℕ → Tree
other n = symbol (record { base = length rows + n; number = 0 })

abbrev pub a' : Tree
a' = other 0

abbrev pub b' : Tree
b' = other 1

abbrev c' : Tree
c' = other 2

abbrev f' : Tree
f' = other 3

abbrev x' : Tree
x' = other 4

abbrev pub int : ℕ → Tree
int k = integer (pos k)

-- -k
abbrev pub less : ℕ → Tree
less k = integer (negsuc (k - 1))

abbrev pub of : Builtin → List Tree → Tree
of row es = make names row es

abbrev pub text : Tree → List ℕ
text e = shown_by texts e

abbrev again : Tree → Option LexFault × Option Tree
again e = ((lex (text e)).fault, parsed names (place_in texts) (text e))

abbrev as_it_is : Tree → Option LexFault × Option Tree
as_it_is e = (None, Some e)

abbrev negatives : List Tree
negatives =
    of Builtin.Power (less 1 ∷ int 2 ∷ [])
    ∷ of Builtin.Power (int 2 ∷ less 1 ∷ [])
    ∷ of Builtin.Times (a' ∷ less 2 ∷ b' ∷ [])
    ∷ of Builtin.Times (less 1 ∷ int 5 ∷ [])
    ∷ of Builtin.Times (less 1 ∷ a' ∷ [])
    ∷ of Builtin.Times (less 1 ∷ of Builtin.Times (less 1 ∷ a' ∷ []) ∷ [])
    ∷ of Builtin.Times (less 1 ∷ of Builtin.Plus (a' ∷ b' ∷ []) ∷ [])
    ∷ of Builtin.Plus (a' ∷ of Builtin.Times (less 1 ∷ b' ∷ []) ∷ [])
    ∷ of Builtin.Plus (of Builtin.Times (less 1 ∷ a' ∷ b' ∷ []) ∷ less 3 ∷ of Builtin.Times (less 1 ∷ int 2 ∷ c' ∷ []) ∷ of Builtin.Times (less 1 ∷ b' ∷ c' ∷ []) ∷ [])
    ∷ of Builtin.Times (int 0 ∷ less 1 ∷ [])
    ∷ of Builtin.Not (less 1 ∷ [])
    ∷ call (less 1) (less 1 ∷ [])
    ∷ []

abbrev operators : List Tree
operators =
    of Builtin.Condition (of Builtin.Condition (a' ∷ b' ∷ []) ∷ of Builtin.Condition (a' ∷ b' ∷ []) ∷ [])
    ∷ of Builtin.ReplaceAll (of Builtin.ReplaceRepeated (a' ∷ b' ∷ []) ∷ of Builtin.Rule (a' ∷ of Builtin.Rule (b' ∷ c' ∷ []) ∷ []) ∷ [])
    ∷ call (of Builtin.PatternTest (of Builtin.PatternTest (of Builtin.Pattern (x' ∷ of Builtin.Blank (a' ∷ []) ∷ []) ∷ f' ∷ []) ∷ call f' (a' ∷ []) ∷ [])) []
    ∷ of Builtin.Function (of Builtin.Function (of Builtin.Slot (int 1 ∷ []) ∷ []) ∷ [])
    ∷ of Builtin.Set (of Builtin.Set (a' ∷ b' ∷ []) ∷ of Builtin.Set (a' ∷ of Builtin.Function (b' ∷ []) ∷ []) ∷ [])
    ∷ of Builtin.CompoundExpression (a' ∷ of Builtin.CompoundExpression (a' ∷ of Builtin.Null [] ∷ []) ∷ symbol (record { base = row_number Builtin.Null; number = 0 }) ∷ [])
    ∷ of Builtin.Equal (of Builtin.Equal (a' ∷ b' ∷ []) ∷ of Builtin.Plus (a' ∷ b' ∷ []) ∷ c' ∷ [])
    ∷ of Builtin.SameQ (of Builtin.Less (a' ∷ b' ∷ []) ∷ of Builtin.SameQ (a' ∷ b' ∷ []) ∷ c' ∷ [])
    ∷ of Builtin.And (of Builtin.Not (of Builtin.Not (a' ∷ []) ∷ []) ∷ of Builtin.Or (a' ∷ b' ∷ []) ∷ [])
    ∷ of Builtin.Pattern (x' ∷ of Builtin.Alternatives (of Builtin.Pattern (x' ∷ less 1 ∷ []) ∷ of Builtin.Not (a' ∷ []) ∷ []) ∷ [])
    ∷ of Builtin.Hold (of Builtin.Part (a' ∷ less 1 ∷ []) ∷ call (of Builtin.Blank []) [] ∷ [])
    ∷ call (string (34 ∷ 92 ∷ 10 ∷ 9 ∷ 13 ∷ 10 ∷ 10 ∷ 0 ∷ 255 ∷ [])) (symbol (record { base = length rows; number = 12 }) ∷ of Builtin.SlotSequence (int 7 ∷ []) ∷ of Builtin.Slot (int 0 ∷ []) ∷ [])
    ∷ []

negatives_again : map again negatives ≡ map as_it_is negatives
unfolding digits frame_level level_at completed popped reduce push begins begins_in only_at attached tag_on_top joined separated closes made closed_elements closed_group closed goes_on next_level follows_phrase follows_semicolon part_opened follows_opening follows_half follows run finished infix_row level_of right_of gives_of tags_of leads_at trails_at sign_start sign_next word_start word_next on_line nesting_limit
negatives_again = refl

operators_again : map again operators ≡ map as_it_is operators
unfolding digits frame_level level_at completed popped reduce push begins begins_in only_at attached tag_on_top joined separated closes made closed_elements closed_group closed goes_on next_level follows_phrase follows_semicolon part_opened follows_opening follows_half follows run finished infix_row level_of right_of gives_of tags_of leads_at trails_at sign_start sign_next word_start word_next on_line nesting_limit
operators_again = refl

abbrev least : Tree
least = integer (negsuc (2 ^ 127 - 1))

-- the digits behind its sign are too large for a number token
least_faults : (lex (text least)).fault ≡ Some (WideNumber 1)
unfolding digits
least_faults = refl

the_least_integer_is_not_read : (find : List ℕ → ℕ) (e : Tree) → ¬ Reads names find (text least) e
the_least_integer_is_not_read find e r = let q : None ≡ Some (WideNumber 1) = sym r.no_fault ∙ least_faults in cc

-- a minus sign in front of a head is that of the whole
abbrev negative_head : Tree
negative_head = call (less 1) (a' ∷ [])

negative_head_text : full (by_texts texts) negative_head ≡ codes "-1[a]"
unfolding digits
negative_head_text = refl

a_negative_head_is_read_otherwise : parsed names (place_in texts) (codes "-1[a]") ≡ Some (of Builtin.Times (less 1 ∷ call (int 1) (a' ∷ []) ∷ []))
unfolding digits frame_level level_at completed popped reduce push begins begins_in only_at attached tag_on_top joined separated closes made closed_elements closed_group closed goes_on next_level follows_phrase follows_semicolon part_opened follows_opening follows_half follows run finished infix_row level_of right_of gives_of tags_of leads_at trails_at sign_start sign_next word_start word_next on_line nesting_limit
a_negative_head_is_read_otherwise = refl
