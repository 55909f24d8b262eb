-- A run with an element that cannot stand in it, and a run unfit than the one that a name has already, have no binding.
use Rattle.std.proofs.Common.{◌≡◌, ℕ, zero, suc, List, [], ◌∷◌, ◌++◌, map, slice_get, Bool, true, false, ◌&&◌, Option, Some, None, refl, ap, sym, ◌∙◌}
use Rattle.std.specs.Prelude.{◌||◌}
use Rattle.expr_tree.specs.declared.sym.Sym.{Sym}
use Rattle.expr_tree.specs.Tree.{Tree, integer, string, symbol, normal, Trees, nil, cons, elements}
use Rattle.expr_tree.specs.Order.{same}
use Rattle.expr_tree.specs.Substitution.{value_of}
use Rattle.semantics.specs.Names.{Names}
use Rattle.semantics.specs.Match.{Guard, Found, Matching, Matcher, Element, have_head, guarded, when, is_one, is_some_run, bind, literal, same_run, match_items, match_normal, match_any, match_named, how_of, is_symbol, Kind, blank, sequence, null_sequence, pattern, test, condition, alternatives, hold, verbatim, other, kind, construct, matcher, matchers, Test, Cond, joined}
use Rattle.laws_matching.proofs.Joins.{joined-none}
use Rattle.laws_matching.specs.Places.{head_fits, ordinary_fits, fits_by, fits, first_fits, second_fits, any_fits, OthersHaveNothing, name_by, named_by, named, first_named, BoundHaveNothing}

-- a matcher that has nothing for a run with an element
abbrev Without : Tree → Matcher → Type 0
Without e m = (run : List Tree) (at : ℕ) (found : Found) → slice_get run at ≡ Some e → m run found ≡ []

abbrev AllWithout : Names → (Sym → Matching) → Tree → Trees → Type 0
AllWithout names A e nil = Unit {0}
AllWithout names A e (cons p ps) = (fits names p e ≡ false → Without e (matcher names A p)) × AllWithout names A e ps

not_empty : (run : List Tree) (at : ℕ) (e : Tree) → slice_get run at ≡ Some e → same_run [] run ≡ false
not_empty [] at e is = absurd (cc)
not_empty (x ∷ run) at e is = refl

alone : (p x : Tree) (run : List Tree) → same p x ≡ false → same_run (p ∷ []) (x ∷ run) ≡ false
alone p x run unfit = ap (λ b. elim b [ true ↦ same_run [] run | false ↦ false ]) unfit

behind : (p x : Tree) (run : List Tree) → same_run [] run ≡ false → same_run (p ∷ []) (x ∷ run) ≡ false
behind p x run some = by_same (same p x)
  where
    by_same : (b : Bool) → elim b [ true ↦ same_run [] run | false ↦ false ] ≡ false
    by_same true = some
    by_same false = refl

unlike : (p e : Tree) (run : List Tree) (at : ℕ) → same p e ≡ false → slice_get run at ≡ Some e → same_run (p ∷ []) run ≡ false
unlike p e [] at unfit is = absurd (cc)
unlike p e (x ∷ run) zero unfit is = let here : x ≡ e = cc in alone p x run (ap (λ y. same p y) here ∙ unfit)
unlike p e (x ∷ run) (suc at) unfit is = behind p x run (not_empty run at e is)

when_none : (b : Bool) (found : Found) → b ≡ false → when b found ≡ []
when_none b found e = rw e refl

literal_without : (p e : Tree) → same p e ≡ false → Without e (literal p)
literal_without p e unfit run at found is = when_none (same_run (p ∷ []) run) found (unlike p e run at unfit is)

have_head-first : (h e : Tree) (es : List Tree) → have_head (h ∷ []) (e ∷ es) ≡ (have_head (h ∷ []) (e ∷ []) && have_head (h ∷ []) es)
have_head-first h (integer n) es = refl
have_head-first h (string t) es = refl
have_head-first h (symbol s) es = refl
have_head-first h (normal g ts) es = by_same (same h g)
  where
    by_same : (b : Bool) → elim b [ true ↦ have_head (h ∷ []) es | false ↦ false ] ≡ (elim b [ true ↦ true | false ↦ false ] && have_head (h ∷ []) es)
    by_same true = refl
    by_same false = refl

and_left : (a b : Bool) → a ≡ false → (a && b) ≡ false
and_left a b e = rw e refl

and_right : (a b : Bool) → b ≡ false → (a && b) ≡ false
and_right true b e = e
and_right false b e = refl

headless : (h e : Tree) (run : List Tree) (at : ℕ) → have_head (h ∷ []) (e ∷ []) ≡ false → slice_get run at ≡ Some e → have_head (h ∷ []) run ≡ false
headless h e [] at unfit is = absurd (cc)
headless h e (x ∷ run) zero unfit is =
    let here : x ≡ e = cc in
    have_head-first h x run ∙ and_left (have_head (h ∷ []) (x ∷ [])) (have_head (h ∷ []) run) (ap (λ y. have_head (h ∷ []) (y ∷ [])) here ∙ unfit)
headless h e (x ∷ run) (suc at) unfit is =
    have_head-first h x run ∙ and_right (have_head (h ∷ []) (x ∷ [])) (have_head (h ∷ []) run) (headless h e run at unfit is)

headed_without : (b : List Tree → Bool) (h e : Tree) → have_head (h ∷ []) (e ∷ []) ≡ false → Without e (λ run found. when (b run && have_head (h ∷ []) run) found)
headed_without b h e unfit run at found is =
    when_none (b run && have_head (h ∷ []) run) found (and_right (b run) (have_head (h ∷ []) run) (headless h e run at unfit is))

-- an ordinary pattern
head_without : (names : Names) (A : Sym → Matching) (h g : Tree) (found : Found) → head_fits h g ≡ false → matcher names A h (g ∷ []) found ≡ []
head_without names A (integer n) g found unfit = literal_without (integer n) g unfit (g ∷ []) 0 found refl
head_without names A (string t) g found unfit = literal_without (string t) g unfit (g ∷ []) 0 found refl
head_without names A (symbol s) g found unfit = literal_without (symbol s) g unfit (g ∷ []) 0 found refl
head_without names A (normal h ps) g found unfit = absurd (cc)

joined_nothing : (f : Found → List Found) (fs : List Found) → fs ≡ [] → joined (map f fs) ≡ []
joined_nothing f fs e = rw e refl

normal_without : (names : Names) (A : Sym → Matching) (how : Matching) (h e : Tree) (ps : List Element) → ordinary_fits h e ≡ false → Without e (match_normal names how h (matcher names A h) ps)
normal_without names A how h e ps unfit [] at found is = refl
normal_without names A how h e ps unfit (integer n ∷ run) at found is = refl
normal_without names A how h e ps unfit (string t ∷ run) at found is = refl
normal_without names A how h e ps unfit (symbol s ∷ run) at found is = refl
normal_without names A how h e ps unfit (normal g es ∷ x ∷ run) at found is = refl
normal_without names A how h e ps unfit (normal g es ∷ []) zero found is =
    let here : normal g es ≡ e = cc in
    joined_nothing (match_items names how h ps (elements es)) (matcher names A h (g ∷ []) found) (head_without names A h g found (ap (λ y. ordinary_fits h y) here ∙ unfit))
normal_without names A how h e ps unfit (normal g es ∷ []) (suc at) found is = absurd (cc)

named_without : (x e : Tree) (m ordinary : Matcher) (second plain : Bool) → (second ≡ false → Without e m) → (plain ≡ false → Without e ordinary) → elim (is_symbol x) [ true ↦ second | false ↦ plain ] ≡ false → Without e (match_named x m ordinary)
named_without (integer n) e m ordinary second plain none also unfit run at found is = also unfit run at found is
named_without (string t) e m ordinary second plain none also unfit run at found is = also unfit run at found is
named_without (symbol s) e m ordinary second plain none also unfit run at found is = joined-none (m run) (bind s run found) (λ f. none unfit run at f is)
named_without (normal h ps) e m ordinary second plain none also unfit run at found is = also unfit run at found is

guarded_none : (gs : List Guard) (fs : List Found) → fs ≡ [] → map (guarded gs) fs ≡ []
guarded_none gs fs e = rw e refl

or_left : (a b : Bool) → (a || b) ≡ false → a ≡ false
or_left true b e = absurd (cc)
or_left false b e = refl

or_right : (a b : Bool) → (a || b) ≡ false → b ≡ false
or_right true b e = absurd (cc)
or_right false b e = e

any_without : (names : Names) (A : Sym → Matching) (e : Tree) (ps : Trees) → AllWithout names A e ps → any_fits names ps e ≡ false → Without e (match_any (matchers names A ps))
any_without names A e nil all unfit run at found is = refl
any_without names A e (cons p ps) all unfit run at found is =
    λ i. all.0 (or_left (fits names p e) (any_fits names ps e) unfit) run at found is i ++ any_without names A e ps all.1 (or_right (fits names p e) (any_fits names ps e) unfit) run at found is i

construct_without : (names : Names) (A : Sym → Matching) (k : Kind) (e : Tree) (ps : Trees) → AllWithout names A e ps → (ordinary : Matcher) (plain : Bool) → (plain ≡ false → Without e ordinary) → fits_by k ps e (first_fits names ps e) (second_fits names ps e) (any_fits names ps e) plain ≡ false → Without e (construct names k (matchers names A ps) ordinary)
construct_without names A blank e nil all ordinary plain also unfit run at found is = absurd (cc)
construct_without names A blank e (cons h nil) all ordinary plain also unfit run at found is = headed_without is_one h e unfit run at found is
construct_without names A blank e (cons h (cons p ps)) all ordinary plain also unfit run at found is = also unfit run at found is
construct_without names A sequence e nil all ordinary plain also unfit run at found is = absurd (cc)
construct_without names A sequence e (cons h nil) all ordinary plain also unfit run at found is = headed_without is_some_run h e unfit run at found is
construct_without names A sequence e (cons h (cons p ps)) all ordinary plain also unfit run at found is = also unfit run at found is
construct_without names A null_sequence e nil all ordinary plain also unfit run at found is = absurd (cc)
construct_without names A null_sequence e (cons h nil) all ordinary plain also unfit run at found is = when_none (have_head (h ∷ []) run) found (headless h e run at unfit is)
construct_without names A null_sequence e (cons h (cons p ps)) all ordinary plain also unfit run at found is = also unfit run at found is
construct_without names A pattern e nil all ordinary plain also unfit run at found is = also unfit run at found is
construct_without names A pattern e (cons x nil) all ordinary plain also unfit run at found is = also unfit run at found is
construct_without names A pattern e (cons x (cons p nil)) all ordinary plain also unfit run at found is = named_without x e (matcher names A p) ordinary (fits names p e) plain all.1.0 also unfit run at found is
construct_without names A pattern e (cons x (cons p (cons r ps))) all ordinary plain also unfit run at found is = also unfit run at found is
construct_without names A test e nil all ordinary plain also unfit run at found is = also unfit run at found is
construct_without names A test e (cons p nil) all ordinary plain also unfit run at found is = also unfit run at found is
construct_without names A test e (cons p (cons t nil)) all ordinary plain also unfit run at found is = guarded_none (map (Test t) run) (matcher names A p run found) (all.0 unfit run at found is)
construct_without names A test e (cons p (cons t (cons r ps))) all ordinary plain also unfit run at found is = also unfit run at found is
construct_without names A condition e nil all ordinary plain also unfit run at found is = also unfit run at found is
construct_without names A condition e (cons p nil) all ordinary plain also unfit run at found is = also unfit run at found is
construct_without names A condition e (cons p (cons c nil)) all ordinary plain also unfit run at found is = guarded_none (Cond c ∷ []) (matcher names A p run found) (all.0 unfit run at found is)
construct_without names A condition e (cons p (cons c (cons r ps))) all ordinary plain also unfit run at found is = also unfit run at found is
construct_without names A alternatives e ps all ordinary plain also unfit run at found is = any_without names A e ps all unfit run at found is
construct_without names A hold e nil all ordinary plain also unfit run at found is = also unfit run at found is
construct_without names A hold e (cons p nil) all ordinary plain also unfit run at found is = all.0 unfit run at found is
construct_without names A hold e (cons p (cons r ps)) all ordinary plain also unfit run at found is = also unfit run at found is
construct_without names A verbatim e nil all ordinary plain also unfit run at found is = also unfit run at found is
construct_without names A verbatim e (cons p nil) all ordinary plain also unfit run at found is = literal_without p e unfit run at found is
construct_without names A verbatim e (cons p (cons r ps)) all ordinary plain also unfit run at found is = also unfit run at found is
construct_without names A other e ps all ordinary plain also unfit run at found is = also unfit run at found is

mutual
  without : (names : Names) (A : Sym → Matching) (p e : Tree) → fits names p e ≡ false → Without e (matcher names A p)
  without names A (integer n) e unfit run at found is = literal_without (integer n) e unfit run at found is
  without names A (string t) e unfit run at found is = literal_without (string t) e unfit run at found is
  without names A (symbol s) e unfit run at found is = literal_without (symbol s) e unfit run at found is
  without names A (normal h ps) e unfit run at found is =
      construct_without names A (kind names h) e ps (all_without names A e ps) (match_normal names (how_of A h) h (matcher names A h) (matchers names A ps)) (ordinary_fits h e)
      (normal_without names A (how_of A h) h e (matchers names A ps)) unfit run at found is

  all_without : (names : Names) (A : Sym → Matching) (e : Tree) (ps : Trees) → AllWithout names A e ps
  all_without names A e nil = tt
  all_without names A e (cons p ps) = (without names A p e, all_without names A e ps)

pub others_have_nothing : OthersHaveNothing
others_have_nothing names A p e run at found unfit is = without names A p e unfit run at found is

-- a matcher that has nothing for a run unfit than the one that a name has already
abbrev Keeps : Sym → List Tree → Found → Matcher → Type 0
Keeps s run found m = (old : List Tree) → value_of found.binding s ≡ Some old → same_run old run ≡ false → m run found ≡ []

bind_other : (s : Sym) (run old : List Tree) (found : Found) → value_of found.binding s ≡ Some old → same_run old run ≡ false → bind s run found ≡ []
bind_other s run old found is unfit =
    ap (λ o. elim o [ None ↦ record { binding = found.binding ++ (s, run) ∷ []; guards = found.guards } ∷ [] | Some old ↦ elim (same_run old run) [ true ↦ found ∷ [] | false ↦ [] ] ]) is
    ∙ ap (λ b. elim b [ true ↦ found ∷ [] | false ↦ [] ]) unfit

abbrev first_keeps : (names : Names) (A : Sym → Matching) (s : Sym) (run : List Tree) (found : Found) → Trees → Type 0
first_keeps names A s run found nil = Unit {0}
first_keeps names A s run found (cons p ps) = named names p ≡ Some s → Keeps s run found (matcher names A p)

construct_keeps : (names : Names) (A : Sym → Matching) (k : Kind) (s : Sym) (ps : Trees) (ordinary : Matcher) (run : List Tree) (found : Found) → first_keeps names A s run found ps → named_by k ps (first_named names ps) ≡ Some s → Keeps s run found (construct names k (matchers names A ps) ordinary)
construct_keeps names A blank s ps ordinary run found first e old is unfit = absurd (cc)
construct_keeps names A sequence s ps ordinary run found first e old is unfit = absurd (cc)
construct_keeps names A null_sequence s ps ordinary run found first e old is unfit = absurd (cc)
construct_keeps names A pattern s nil ordinary run found first e old is unfit = absurd (cc)
construct_keeps names A pattern s (cons x nil) ordinary run found first e old is unfit = absurd (cc)
construct_keeps names A pattern s (cons x (cons p (cons q ps))) ordinary run found first e old is unfit = absurd (cc)
construct_keeps names A pattern s (cons (integer n) (cons p nil)) ordinary run found first e old is unfit = absurd (cc)
construct_keeps names A pattern s (cons (string t) (cons p nil)) ordinary run found first e old is unfit = absurd (cc)
construct_keeps names A pattern s (cons (normal h qs) (cons p nil)) ordinary run found first e old is unfit = absurd (cc)
construct_keeps names A pattern s (cons (symbol x) (cons p nil)) ordinary run found first e old is unfit =
    let same : x ≡ s = cc in
    joined_nothing (matcher names A p run) (bind x run found) (ap (λ y. bind y run found) same ∙ bind_other s run old found is unfit)
construct_keeps names A test s nil ordinary run found first e old is unfit = absurd (cc)
construct_keeps names A test s (cons p nil) ordinary run found first e old is unfit = absurd (cc)
construct_keeps names A test s (cons p (cons t nil)) ordinary run found first e old is unfit = guarded_none (map (Test t) run) (matcher names A p run found) (first e old is unfit)
construct_keeps names A test s (cons p (cons t (cons r ps))) ordinary run found first e old is unfit = absurd (cc)
construct_keeps names A condition s nil ordinary run found first e old is unfit = absurd (cc)
construct_keeps names A condition s (cons p nil) ordinary run found first e old is unfit = absurd (cc)
construct_keeps names A condition s (cons p (cons c nil)) ordinary run found first e old is unfit = guarded_none (Cond c ∷ []) (matcher names A p run found) (first e old is unfit)
construct_keeps names A condition s (cons p (cons c (cons r ps))) ordinary run found first e old is unfit = absurd (cc)
construct_keeps names A alternatives s ps ordinary run found first e old is unfit = absurd (cc)
construct_keeps names A hold s nil ordinary run found first e old is unfit = absurd (cc)
construct_keeps names A hold s (cons p nil) ordinary run found first e old is unfit = first e old is unfit
construct_keeps names A hold s (cons p (cons r ps)) ordinary run found first e old is unfit = absurd (cc)
construct_keeps names A verbatim s ps ordinary run found first e old is unfit = absurd (cc)
construct_keeps names A other s ps ordinary run found first e old is unfit = absurd (cc)

mutual
  pub bound_have_nothing : BoundHaveNothing
  bound_have_nothing names A (integer n) s old run found e is unfit = absurd (cc)
  bound_have_nothing names A (string t) s old run found e is unfit = absurd (cc)
  bound_have_nothing names A (symbol x) s old run found e is unfit = absurd (cc)
  bound_have_nothing names A (normal h ps) s old run found e is unfit =
      construct_keeps names A (kind names h) s ps (match_normal names (how_of A h) h (matcher names A h) (matchers names A ps)) run found (keeps_first names A s run found ps) e old is unfit

  keeps_first : (names : Names) (A : Sym → Matching) (s : Sym) (run : List Tree) (found : Found) (ps : Trees) → first_keeps names A s run found ps
  keeps_first names A s run found nil = tt
  keeps_first names A s run found (cons p ps) = λ e old is unfit. bound_have_nothing names A p s old run found e is unfit
