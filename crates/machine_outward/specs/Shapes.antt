-- The shapes of forms that are evaluated, as one test each; in any other shape a form stays.
--     is_normal             whether an expression has elements
--     is_mapping, is_combining, is_trying, is_alone      of ParallelMap, ParallelCombine, ParallelTry, and of the forms with one element
use Rattle.std.specs.Prelude.{List, [], ◌∷◌, length, leb, Bool, true, false, ◌&&◌, not}
use Rattle.expr_tree.specs.Tree.{Tree, normal}
use Rattle.semantics.specs.declared.builtin.Builtin.{Builtin}
use Rattle.semantics.specs.Names.{Names, is_call}
use Rattle.semantics.specs.Sections.{is_option, is_last_option, without_option}

abbrev pub is_normal : Tree → Bool
is_normal (normal h es) = true
is_normal _ = false

abbrev pub is_mapping : Names → List Tree → Bool
is_mapping names (f ∷ l ∷ []) = not (is_option names l)
is_mapping names (f ∷ l ∷ o ∷ []) = is_option names o
is_mapping names _ = false

abbrev pub is_combining : Names → List Tree → Bool
is_combining names (f ∷ normal h es ∷ rest) = leb (length (without_option names rest)) 1 && not (is_last_option names (normal h es) rest)
is_combining names _ = false

abbrev pub is_trying : Names → List Tree → Bool
is_trying names (f ∷ l ∷ []) = is_call names Builtin.List l
is_trying names _ = false

abbrev pub is_alone : List Tree → Bool
is_alone (e ∷ []) = true
is_alone _ = false
