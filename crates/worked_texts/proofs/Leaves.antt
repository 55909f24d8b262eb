-- What tokens stand for, computed.
use Rattle.std.proofs.Common.{◌≡◌, refl, ◌+◌, Bool, true, false, List, [], ◌∷◌}
use Rattle.std.specs.Prelude.{codes, length}
use Rattle.expr_tree.specs.Tree.{string, symbol}
use Rattle.semantics.specs.declared.builtin.Builtin.{Builtin}
use Rattle.semantics.specs.Builtin.{rows}
use Rattle.syntax.specs.Leaves.{number_leaf, string_leaf, name_leaf, blank_leaf, slot_leaf, Lexeme, lexemes}
use Rattle.worked_texts.proofs.Sample.{names, find, of, x', h', int}

each_kind_of_leaf :
    number_leaf (codes "12") ∷ name_leaf names find (codes "x") ∷ name_leaf names find (codes "x$3") ∷ blank_leaf names find (codes "x__h")
    ∷ blank_leaf names find (codes "___") ∷ blank_leaf names find (codes "_x") ∷ slot_leaf names find (codes "#") ∷ slot_leaf names find (codes "##7")
    ∷ string_leaf (codes "\"a\\\"\\n\\\\\"") ∷ []
    ≡ int 12 ∷ x' ∷ symbol (record { base = length rows + 9; number = 3 }) ∷ of Builtin.Pattern (x' ∷ of Builtin.BlankSequence (h' ∷ []) ∷ [])
    ∷ of Builtin.BlankNullSequence [] ∷ of Builtin.Blank (x' ∷ []) ∷ of Builtin.Slot (int 1 ∷ []) ∷ of Builtin.SlotSequence (int 7 ∷ [])
    ∷ string (codes "a\"\n\\") ∷ []
each_kind_of_leaf = refl

abbrev begin_lines : List Lexeme → List Bool
begin_lines [] = []
begin_lines (l ∷ ls) = l.after_line ∷ begin_lines ls

line_feeds_in_front : begin_lines (lexemes (codes "a (* \n *) b\n\nc d")) ≡ false ∷ true ∷ true ∷ false ∷ []
line_feeds_in_front = refl
