-- What the program keeps of phrases, as the definitions have it.
--     held_tree, kept_in        what is kept of an expression, and of a phrase
--     natural_negated           the negative of an integer that is not negative itself
--     first_negated             that of the first element
--     appended_kept             what is kept of a chain with one more operand
use Rattle.std.specs.Prelude.{pos, List, [], ◌∷◌, Option, Some, None}
use Rattle.expr_tree.specs.Tree.{Tree, integer, call}
use Rattle.semantics.specs.declared.builtin.Builtin.{Builtin}
use Rattle.semantics.specs.Names.{Names}
use Rattle.syntax.specs.Phrases.{appended, minus}
use Rattle.laws_reading.specs.Kept as low
use Rattle.phrase_form.specs.Words.{kind_in}
use Rattle.phrase_form.specs.declared.kept.Held.{Held}
use Rattle.phrase_form.specs.declared.kept.Held.TheVariants as he
use Rattle.phrase_form.specs.declared.kept.Kept.{Kept}

abbrev pub held_tree : Held → Option Tree
held_tree he.LeftOut = None
held_tree (he.Whole e) = Some e
held_tree (he.Chain h es) = low.cut (call h es)

abbrev pub kept_in : Kept → low.Kept
kept_in k = record { expr = held_tree k.held; kind = kind_in k.kind }

-- one more operand of a chain
abbrev pub appended_kept : Names → Builtin → Option Tree → Tree → Option Tree
appended_kept names row None y = None
appended_kept names row (Some a) y = low.cut (appended names row a y)

abbrev pub natural_negated : Tree → Option Tree
natural_negated (integer (pos n)) = Some (integer (minus n))
natural_negated _ = None

abbrev pub first_negated : List Tree → Option Tree
first_negated [] = None
first_negated (e ∷ es) = natural_negated e
