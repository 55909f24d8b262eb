-- Which elements can stand in a run that a pattern takes, and to which run a pattern binds a name.
--     fits                  whether an element can stand in such a run, as the outermost constructs of the pattern tell
--     named                 the name that a pattern binds to the whole run, if it does
--     OthersHaveNothing     no binding of a run with an element that cannot stand in it
--     BoundHaveNothing      no binding of a run other than the one that the name has already
use Rattle.std.specs.Prelude.{◌≡◌, ℕ, List, [], ◌∷◌, slice_get, Bool, true, false, ◌||◌, Option, Some, None}
use Rattle.expr_tree.specs.declared.sym.Sym.{Sym}
use Rattle.expr_tree.specs.Tree.{Tree, integer, string, symbol, normal, Trees, nil, cons}
use Rattle.expr_tree.specs.Order.{same}
use Rattle.expr_tree.specs.Substitution.{value_of}
use Rattle.semantics.specs.Names.{Names}
use Rattle.semantics.specs.Match.{Found, Matching, Kind, blank, sequence, null_sequence, pattern, test, condition, alternatives, hold, verbatim, other, kind, have_head, same_run, is_symbol, matcher}

-- whether a head can be that of an ordinary pattern: an atom takes itself alone
abbrev pub head_fits : Tree → Tree → Bool
head_fits (normal h ps) g = true
head_fits h g = same h g

-- whether an ordinary pattern with this head can take an expression
abbrev pub ordinary_fits : Tree → Tree → Bool
ordinary_fits h (normal g es) = head_fits h g
ordinary_fits h _ = false

-- from the kind and the items of a pattern, whether its first, its second and any of its items fit, and whether an ordinary one would
abbrev pub fits_by : Kind → Trees → Tree → Bool → Bool → Bool → Bool → Bool
fits_by blank nil e first second any ordinary = true
fits_by blank (cons h nil) e first second any ordinary = have_head (h ∷ []) (e ∷ [])
fits_by sequence nil e first second any ordinary = true
fits_by sequence (cons h nil) e first second any ordinary = have_head (h ∷ []) (e ∷ [])
fits_by null_sequence nil e first second any ordinary = true
fits_by null_sequence (cons h nil) e first second any ordinary = have_head (h ∷ []) (e ∷ [])
fits_by pattern (cons x (cons p nil)) e first second any ordinary = elim (is_symbol x) [ true ↦ second | false ↦ ordinary ]
fits_by test (cons p (cons t nil)) e first second any ordinary = first
fits_by condition (cons p (cons c nil)) e first second any ordinary = first
fits_by alternatives ps e first second any ordinary = any
fits_by hold (cons p nil) e first second any ordinary = first
fits_by verbatim (cons p nil) e first second any ordinary = same p e
fits_by _ ps e first second any ordinary = ordinary

abbrev mutual
  pub fits : Names → Tree → Tree → Bool
  fits names (integer n) e = same (integer n) e
  fits names (string t) e = same (string t) e
  fits names (symbol s) e = same (symbol s) e
  fits names (normal h ps) e = fits_by (kind names h) ps e (first_fits names ps e) (second_fits names ps e) (any_fits names ps e) (ordinary_fits h e)

  pub first_fits : Names → Trees → Tree → Bool
  first_fits names nil e = false
  first_fits names (cons p ps) e = fits names p e

  pub second_fits : Names → Trees → Tree → Bool
  second_fits names nil e = false
  second_fits names (cons p ps) e = first_fits names ps e

  pub any_fits : Names → Trees → Tree → Bool
  any_fits names nil e = false
  any_fits names (cons p ps) e = fits names p e || any_fits names ps e

abbrev pub OthersHaveNothing : Type 0
OthersHaveNothing =
    (names : Names) (A : Sym → Matching) (p e : Tree) (run : List Tree) (at : ℕ) (found : Found)
    → fits names p e ≡ false → slice_get run at ≡ Some e → matcher names A p run found ≡ []

abbrev pub symbol_at : Tree → Option Sym
symbol_at (symbol s) = Some s
symbol_at _ = None

-- the name of a pattern x:p with a symbol x
abbrev pub name_by : Trees → Option Sym
name_by (cons x (cons p nil)) = symbol_at x
name_by _ = None

-- from the kind and the items of a pattern, and the name of its first item
abbrev pub named_by : Kind → Trees → Option Sym → Option Sym
named_by pattern ps first = name_by ps
named_by test (cons p (cons t nil)) first = first
named_by condition (cons p (cons c nil)) first = first
named_by hold (cons p nil) first = first
named_by _ ps first = None

abbrev mutual
  pub named : Names → Tree → Option Sym
  named names (integer n) = None
  named names (string t) = None
  named names (symbol s) = None
  named names (normal h ps) = named_by (kind names h) ps (first_named names ps)

  pub first_named : Names → Trees → Option Sym
  first_named names nil = None
  first_named names (cons p ps) = named names p

abbrev pub BoundHaveNothing : Type 0
BoundHaveNothing =
    (names : Names) (A : Sym → Matching) (p : Tree) (s : Sym) (old run : List Tree) (found : Found)
    → named names p ≡ Some s → value_of found.binding s ≡ Some old → same_run old run ≡ false → matcher names A p run found ≡ []
