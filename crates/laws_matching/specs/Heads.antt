-- Which patterns are ordinary, and what the bindings of a pattern depend on beside it.
--     OrdinaryElsewhere     a head and items that are no construct are an ordinary pattern
--     HeadsTellAll          what is Flat and Orderless among its heads: two tellings that agree on these have the same bindings
use Rattle.std.specs.Prelude.{◌≡◌, List, true, false}
use Rattle.expr_tree.specs.declared.sym.Sym.{Sym}
use Rattle.expr_tree.specs.Tree.{Tree, normal, Trees}
use Rattle.expr_tree.specs.Substitution.{among}
use Rattle.semantics.specs.Names.{Names}
use Rattle.semantics.specs.Match.{Found, Matching, is_construct, match_normal, how_of, matcher, matchers, matches, heads}

abbrev pub OrdinaryElsewhere : Type 0
OrdinaryElsewhere =
    (names : Names) (A : Sym → Matching) (h : Tree) (ps : Trees) (run : List Tree) (found : Found)
    → is_construct names h ps ≡ false
    → matcher names A (normal h ps) run found ≡ match_normal names (how_of A h) h (matcher names A h) (matchers names A ps) run found

abbrev pub HeadsTellAll : Type 0
HeadsTellAll =
    (names : Names) (A B : Sym → Matching) (p e : Tree)
    → ((s : Sym) → among s (heads names p) ≡ true → A s ≡ B s) → matches names A p e ≡ matches names B p e
