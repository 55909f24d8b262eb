-- The rows of strings. A string is its bytes in UTF-8; its characters are its Unicode scalar values (`chars`).
--     string_join, string_length, characters, string_reverse      the four rows
use Rattle.std.specs.Prelude.{ℕ, pos, List, [], ◌∷◌, ◌++◌, map, length, reverse, Option, Some, None, chars, encode_utf8, encode_utf8_all}
use Rattle.expr_tree.specs.Tree.{Tree, integer, string}
use Rattle.semantics.specs.declared.builtin.Builtin.{Builtin}
use Rattle.semantics.specs.Names.{Names, make}
use Rattle.semantics.specs.Worked.{Worked, Stays, Gives}

-- the texts one after the other, where all elements are strings
abbrev pub join_texts : List Tree → Option (List ℕ)
join_texts [] = Some []
join_texts (string t ∷ es) = elim (join_texts es) [ None ↦ None | Some u ↦ Some (t ++ u) ]
join_texts (e ∷ es) = None

abbrev pub string_join : List Tree → Worked
string_join es = elim (join_texts es) [ None ↦ Stays | Some t ↦ Gives (string t) ]

abbrev pub string_length : List Tree → Worked
string_length (string t ∷ []) = Gives (integer (pos (length (chars t))))
string_length _ = Stays

-- the List of the strings of one character each
abbrev pub characters : Names → List Tree → Worked
characters names (string t ∷ []) = Gives (make names Builtin.List (map (λ c. string (encode_utf8 c)) (chars t)))
characters names _ = Stays

abbrev pub string_reverse : List Tree → Worked
string_reverse (string t ∷ []) = Gives (string (encode_utf8_all (reverse (chars t))))
string_reverse _ = Stays
