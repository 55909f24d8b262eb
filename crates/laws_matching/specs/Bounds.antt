-- How many elements element patterns can take.
--     fills                 whether a pattern takes no run of none, as its outermost constructs tell
--     short                 whether it takes no run of two or more
--     is_bounded            whether an element pattern takes one element at most: under Flat a single blank takes any number
--     least                 the number of elements that patterns need together
--     all_bounded           whether each of them takes one element at most
--     FewHaveNothing        no binding of fewer elements than are needed
--     ManyHaveNothing       no binding of more elements than patterns of at most one element each
--     LastTakesAll          the last of the patterns takes all that is left
use Rattle.std.specs.Prelude.{◌≡◌, ℕ, ◌+◌, ◌<◌, List, [], ◌∷◌, length, Bool, true, false, ◌&&◌, ◌==◌, leb, if◌then◌else◌}
use Rattle.expr_tree.specs.declared.sym.Sym.{Sym}
use Rattle.expr_tree.specs.Tree.{Tree, integer, string, symbol, normal, Trees, nil, cons, count}
use Rattle.semantics.specs.Names.{Names}
use Rattle.semantics.specs.Match.{Found, Matching, Element, Kind, sequence, null_sequence, pattern, test, condition, alternatives, hold, kind, is_single, wrapped, match_items, matchers}

-- from the kind of a pattern, the number of its items, and whether its first, its second and all of its items are so
abbrev pub fills_by : Kind → ℕ → Bool → Bool → Bool → Bool
fills_by null_sequence n first second all = leb 2 n
fills_by pattern n first second all = elim (n == 2) [ true ↦ second | false ↦ true ]
fills_by test n first second all = elim (n == 2) [ true ↦ first | false ↦ true ]
fills_by condition n first second all = elim (n == 2) [ true ↦ first | false ↦ true ]
fills_by hold n first second all = elim (n == 1) [ true ↦ first | false ↦ true ]
fills_by alternatives n first second all = all
fills_by _ n first second all = true

abbrev pub short_by : Kind → ℕ → Bool → Bool → Bool → Bool
short_by sequence n first second all = leb 2 n
short_by k n first second all = fills_by k n first second all

abbrev mutual
  pub fills : Names → Tree → Bool
  fills names (integer n) = true
  fills names (string t) = true
  fills names (symbol s) = true
  fills names (normal h ps) = fills_by (kind names h) (count ps) (first_fills names ps) (second_fills names ps) (all_fill names ps)

  pub first_fills : Names → Trees → Bool
  first_fills names nil = false
  first_fills names (cons p ps) = fills names p

  pub second_fills : Names → Trees → Bool
  second_fills names nil = false
  second_fills names (cons p ps) = first_fills names ps

  pub all_fill : Names → Trees → Bool
  all_fill names nil = true
  all_fill names (cons p ps) = fills names p && all_fill names ps

abbrev mutual
  pub short : Names → Tree → Bool
  short names (integer n) = true
  short names (string t) = true
  short names (symbol s) = true
  short names (normal h ps) = short_by (kind names h) (count ps) (first_short names ps) (second_short names ps) (all_short names ps)

  pub first_short : Names → Trees → Bool
  first_short names nil = false
  first_short names (cons p ps) = short names p

  pub second_short : Names → Trees → Bool
  second_short names nil = false
  second_short names (cons p ps) = first_short names ps

  pub all_short : Names → Trees → Bool
  all_short names nil = true
  all_short names (cons p ps) = short names p && all_short names ps

abbrev pub is_bounded : Names → Matching → Tree → Bool
is_bounded names how p = if how.flat && is_single names p then false else short names p

abbrev pub least_of : Bool → ℕ
least_of needs = if needs then 1 else 0

abbrev pub least : Names → Trees → ℕ
least names nil = 0
least names (cons p ps) = least_of (fills names p) + least names ps

abbrev pub all_bounded : Names → Matching → Trees → Bool
all_bounded names how nil = true
all_bounded names how (cons p ps) = is_bounded names how p && all_bounded names how ps

abbrev pub FewHaveNothing : Type 0
FewHaveNothing =
    (names : Names) (A : Sym → Matching) (how : Matching) (h : Tree) (ps : Trees) (es : List Tree) (found : Found)
    → length es < least names ps → match_items names how h (matchers names A ps) es found ≡ []

abbrev pub ManyHaveNothing : Type 0
ManyHaveNothing =
    (names : Names) (A : Sym → Matching) (how : Matching) (h : Tree) (ps : Trees) (es : List Tree) (found : Found)
    → all_bounded names how ps ≡ true → count ps < length es → match_items names how h (matchers names A ps) es found ≡ []

abbrev pub LastTakesAll : Type 0
LastTakesAll =
    (names : Names) (how : Matching) (h : Tree) (p : Element) (es : List Tree) (found : Found)
    → match_items names how h (p ∷ []) es found ≡ p.matcher (wrapped names how h p.tree es) found
