-- The texts of items from a place on.
--     shown_by, all_shown_by, text_by      what is shown of expressions, by the texts of the bases
--     front                what stands in front of the item at a place
--     joined_from, sum_from, negative_from      the items, terms or factors from a place on
--     term_at, factor_at   the term at a place, and the factor at one where the first factor is -1
--     level_at             the level of an expression
use Rattle.std.specs.Prelude.{ℕ, ◌==◌, cond, List, [], ◌++◌, codes}
use Rattle.expr_tree.specs.declared.sym.Sym.{Sym}
use Rattle.expr_tree.specs.Tree.{Tree, Trees, integer, string, symbol, normal}
use Rattle.script_text.specs.Bytes.{joined, each_after}
use Rattle.script_text.specs.Spelling.{by_texts}
use Rattle.syntax.specs.Shapes.{Shape}
use Rattle.syntax.specs.Input.{Shown, shown, all_shown, text, all_at, sum_text, terms_after, term_after, negative_text, factors, integer_level, form_level, form_of}
use Rattle.input_form.specs.Rows.{shapes}

abbrev pub shown_by : List (List ℕ) → Tree → Shown
shown_by texts e = shown (by_texts texts) (shapes texts) e

abbrev pub all_shown_by : List (List ℕ) → Trees → List Shown
all_shown_by texts es = all_shown (by_texts texts) (shapes texts) es

abbrev pub text_by : List (List ℕ) → ℕ → Tree → List ℕ
text_by texts level e = text (by_texts texts) (shapes texts) level e

abbrev pub front : List ℕ → ℕ → List ℕ
front between i = cond (i == 0) [] between

abbrev pub joined_from : List ℕ → ℕ → List (List ℕ) → List ℕ
joined_from between i ts = cond (i == 0) (joined between ts) (each_after between ts)

abbrev pub sum_from : ℕ → List Shown → List ℕ
sum_from i es = cond (i == 0) (sum_text es) (terms_after es)

abbrev pub negative_from : ℕ → List Shown → List ℕ
negative_from i es = cond (i == 0) (negative_text es) (cond (i == 1) (factors es) (each_after (codes "*") (all_at 19 es)))

abbrev pub term_at : ℕ → List ℕ → List ℕ
term_at i t = cond (i == 0) t (term_after t)

abbrev pub factor_at : ℕ → List ℕ → List ℕ → List ℕ
factor_at i first other = cond (i == 0) [] (cond (i == 1) (codes "-" ++ first) (codes "*" ++ other))

abbrev pub level_at : (Sym → Shape) → Tree → ℕ
level_at shape (integer n) = integer_level n
level_at shape (string t) = 27
level_at shape (symbol x) = 27
level_at shape (normal h es) = form_level (form_of shape h es)
