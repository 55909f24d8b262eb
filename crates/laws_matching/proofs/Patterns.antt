-- What a pattern that fills has nothing for, and what a short one has nothing for.
--     takes_some            nothing for no elements
--     takes_one             nothing for two or more
--     needs_one, up_to_one  the same of an element pattern, as its head wraps runs
use Rattle.std.proofs.Common.{◌≡◌, ◌+◌, ◌≤◌, List, [], ◌∷◌, ◌++◌, map, length, Bool, true, false, ◌&&◌, leb, ◌<◌, if◌then◌else◌, refl, ap, ◌∙◌, arith}
use Rattle.expr_tree.specs.declared.sym.Sym.{Sym}
use Rattle.expr_tree.specs.Tree.{Tree, integer, string, symbol, normal, Trees, nil, cons, call, count}
use Rattle.expr_tree.specs.Order.{same}
use Rattle.semantics.specs.Names.{Names}
use Rattle.semantics.specs.Match.{Guard, Found, Matching, Matcher, Element, have_head, guarded, when, is_one, is_some_run, bind, literal, match_normal, match_any, match_named, how_of, Kind, blank, sequence, null_sequence, pattern, test, condition, alternatives, hold, verbatim, other, kind, construct, matcher, matchers, Test, Cond, wrapped, is_single}
use Rattle.laws_matching.proofs.Joins.{joined-none}
use Rattle.laws_matching.specs.Bounds.{fills_by, short_by, fills, first_fills, second_fills, all_fill, is_bounded, short, first_short, second_short, all_short}

abbrev pub Rejects : ((List Tree) → Type 0) → Matcher → Type 0
Rejects P m = (run : List Tree) (found : Found) → P run → m run found ≡ []

abbrev pub IsNone : List Tree → Type 0
IsNone run = length run ≡ 0

abbrev pub IsLong : List Tree → Type 0
IsLong run = 2 ≤ length run

abbrev AllFill : Names → (Sym → Matching) → Trees → Type 0
AllFill names A nil = Unit {0}
AllFill names A (cons p ps) = (fills names p ≡ true → Rejects IsNone (matcher names A p)) × AllFill names A ps

literal_fills : (p : Tree) → Rejects IsNone (literal p)
literal_fills p [] found e = refl
literal_fills p (x ∷ run) found e = absurd (omega (arith, e))

normal_fills : (names : Names) (how : Matching) (h : Tree) (m : Matcher) (ps : List Element) → Rejects IsNone (match_normal names how h m ps)
normal_fills names how h m ps [] found e = refl
normal_fills names how h m ps (x ∷ run) found e = absurd (omega (arith, e))

named_fills : (x : Tree) (m ordinary : Matcher) → Rejects IsNone m → Rejects IsNone ordinary → Rejects IsNone (match_named x m ordinary)
named_fills (integer n) m ordinary none also run found e = also run found e
named_fills (string t) m ordinary none also run found e = also run found e
named_fills (symbol s) m ordinary none also run found e = joined-none (m run) (bind s run found) (λ f. none run f e)
named_fills (normal h ps) m ordinary none also run found e = also run found e

guarded_none : (gs : List Guard) (fs : List Found) → fs ≡ [] → map (guarded gs) fs ≡ []
guarded_none gs fs e = rw e refl

pub first-of : (p q : Bool) → (p && q) ≡ true → p ≡ true
first-of true q e = refl
first-of false q e = absurd (cc)

pub second-of : (p q : Bool) → (p && q) ≡ true → q ≡ true
second-of true q e = e
second-of false q e = absurd (cc)

any_fills : (names : Names) (A : Sym → Matching) (ps : Trees) → AllFill names A ps → all_fill names ps ≡ true → Rejects IsNone (match_any (matchers names A ps))
any_fills names A nil all e run found q = refl
any_fills names A (cons p ps) all e run found q =
    λ i. all.0 (first-of (fills names p) (all_fill names ps) e) run found q i ++ any_fills names A ps all.1 (second-of (fills names p) (all_fill names ps) e) run found q i

when_none : (b : Bool) (found : Found) → b ≡ false → when b found ≡ []
when_none b found e = rw e refl

one_none : (run : List Tree) → IsNone run → is_one run ≡ false
one_none [] e = refl
one_none (x ∷ run) e = absurd (omega (arith, e))

some_none : (run : List Tree) → IsNone run → is_some_run run ≡ false
some_none [] e = refl
some_none (x ∷ run) e = absurd (omega (arith, e))

and_none : (p q : Bool) → p ≡ false → (p && q) ≡ false
and_none p q e = rw e refl

construct_fills : (names : Names) (A : Sym → Matching) (k : Kind) (ps : Trees) → AllFill names A ps → (ordinary : Matcher) → Rejects IsNone ordinary → fills_by k (count ps) (first_fills names ps) (second_fills names ps) (all_fill names ps) ≡ true → Rejects IsNone (construct names k (matchers names A ps) ordinary)
construct_fills names A blank nil all ordinary also e run found q = when_none (is_one run) found (one_none run q)
construct_fills names A blank (cons h nil) all ordinary also e run found q = when_none (is_one run && have_head (h ∷ []) run) found (and_none (is_one run) (have_head (h ∷ []) run) (one_none run q))
construct_fills names A blank (cons h (cons p ps)) all ordinary also e run found q = also run found q
construct_fills names A sequence nil all ordinary also e run found q = when_none (is_some_run run) found (some_none run q)
construct_fills names A sequence (cons h nil) all ordinary also e run found q = when_none (is_some_run run && have_head (h ∷ []) run) found (and_none (is_some_run run) (have_head (h ∷ []) run) (some_none run q))
construct_fills names A sequence (cons h (cons p ps)) all ordinary also e run found q = also run found q
construct_fills names A null_sequence nil all ordinary also e run found q = absurd (cc)
construct_fills names A null_sequence (cons h nil) all ordinary also e run found q = absurd (not_two e)
  where
    not_two : leb 2 (0 + 1) ≡ true → ⊥
    not_two e = absurd (cc)
construct_fills names A null_sequence (cons h (cons p ps)) all ordinary also e run found q = also run found q
construct_fills names A pattern nil all ordinary also e run found q = also run found q
construct_fills names A pattern (cons x nil) all ordinary also e run found q = also run found q
construct_fills names A pattern (cons x (cons p nil)) all ordinary also e run found q = named_fills x (matcher names A p) ordinary (all.1.0 e) also run found q
construct_fills names A pattern (cons x (cons p (cons r ps))) all ordinary also e run found q = also run found q
construct_fills names A test nil all ordinary also e run found q = also run found q
construct_fills names A test (cons p nil) all ordinary also e run found q = also run found q
construct_fills names A test (cons p (cons t nil)) all ordinary also e run found q = guarded_none (map (Test t) run) (matcher names A p run found) (all.0 e run found q)
construct_fills names A test (cons p (cons t (cons r ps))) all ordinary also e run found q = also run found q
construct_fills names A condition nil all ordinary also e run found q = also run found q
construct_fills names A condition (cons p nil) all ordinary also e run found q = also run found q
construct_fills names A condition (cons p (cons c nil)) all ordinary also e run found q = guarded_none (Cond c ∷ []) (matcher names A p run found) (all.0 e run found q)
construct_fills names A condition (cons p (cons c (cons r ps))) all ordinary also e run found q = also run found q
construct_fills names A alternatives ps all ordinary also e run found q = any_fills names A ps all e run found q
construct_fills names A hold nil all ordinary also e run found q = also run found q
construct_fills names A hold (cons p nil) all ordinary also e run found q = all.0 e run found q
construct_fills names A hold (cons p (cons r ps)) all ordinary also e run found q = also run found q
construct_fills names A verbatim nil all ordinary also e run found q = also run found q
construct_fills names A verbatim (cons p nil) all ordinary also e run found q = literal_fills p run found q
construct_fills names A verbatim (cons p (cons r ps)) all ordinary also e run found q = also run found q
construct_fills names A other ps all ordinary also e run found q = also run found q

mutual
  pub takes_some : (names : Names) (A : Sym → Matching) (p : Tree) → fills names p ≡ true → Rejects IsNone (matcher names A p)
  takes_some names A (integer n) e run found q = literal_fills (integer n) run found q
  takes_some names A (string t) e run found q = literal_fills (string t) run found q
  takes_some names A (symbol s) e run found q = literal_fills (symbol s) run found q
  takes_some names A (normal h ps) e run found q =
      construct_fills names A (kind names h) ps (all_takes_some names A ps)
      (match_normal names (how_of A h) h (matcher names A h) (matchers names A ps)) (normal_fills names (how_of A h) h (matcher names A h) (matchers names A ps)) e run found q

  all_takes_some : (names : Names) (A : Sym → Matching) (ps : Trees) → AllFill names A ps
  all_takes_some names A nil = tt
  all_takes_some names A (cons p ps) = (takes_some names A p, all_takes_some names A ps)

abbrev AllShort : Names → (Sym → Matching) → Trees → Type 0
AllShort names A nil = Unit {0}
AllShort names A (cons p ps) = (short names p ≡ true → Rejects IsLong (matcher names A p)) × AllShort names A ps

literal_short : (p : Tree) → Rejects IsLong (literal p)
literal_short p [] found long = absurd (omega (arith, long))
literal_short p (x ∷ []) found long = absurd (omega (arith, long))
literal_short p (x ∷ y ∷ run) found long = by_same (same p x)
  where
    by_same : (b : Bool) → when (elim b [ true ↦ false | false ↦ false ]) found ≡ []
    by_same true = refl
    by_same false = refl

normal_short : (names : Names) (how : Matching) (h : Tree) (m : Matcher) (ps : List Element) → Rejects IsLong (match_normal names how h m ps)
normal_short names how h m ps [] found long = absurd (omega (arith, long))
normal_short names how h m ps (x ∷ []) found long = absurd (omega (arith, long))
normal_short names how h m ps (integer n ∷ y ∷ run) found long = refl
normal_short names how h m ps (string t ∷ y ∷ run) found long = refl
normal_short names how h m ps (symbol s ∷ y ∷ run) found long = refl
normal_short names how h m ps (normal g es ∷ y ∷ run) found long = refl

named_short : (x : Tree) (m ordinary : Matcher) → Rejects IsLong m → Rejects IsLong ordinary → Rejects IsLong (match_named x m ordinary)
named_short (integer n) m ordinary none also run found e = also run found e
named_short (string t) m ordinary none also run found e = also run found e
named_short (symbol s) m ordinary none also run found e = joined-none (m run) (bind s run found) (λ f. none run f e)
named_short (normal h ps) m ordinary none also run found e = also run found e

any_short : (names : Names) (A : Sym → Matching) (ps : Trees) → AllShort names A ps → all_short names ps ≡ true → Rejects IsLong (match_any (matchers names A ps))
any_short names A nil all e run found q = refl
any_short names A (cons p ps) all e run found q =
    λ i. all.0 (first-of (short names p) (all_short names ps) e) run found q i ++ any_short names A ps all.1 (second-of (short names p) (all_short names ps) e) run found q i

one_long : (run : List Tree) → IsLong run → is_one run ≡ false
one_long [] e = refl
one_long (x ∷ []) e = absurd (omega (arith, e))
one_long (x ∷ y ∷ run) e = refl

construct_short : (names : Names) (A : Sym → Matching) (k : Kind) (ps : Trees) → AllShort names A ps → (ordinary : Matcher) → Rejects IsLong ordinary → short_by k (count ps) (first_short names ps) (second_short names ps) (all_short names ps) ≡ true → Rejects IsLong (construct names k (matchers names A ps) ordinary)
construct_short names A blank nil all ordinary also e run found q = when_none (is_one run) found (one_long run q)
construct_short names A blank (cons h nil) all ordinary also e run found q = when_none (is_one run && have_head (h ∷ []) run) found (and_none (is_one run) (have_head (h ∷ []) run) (one_long run q))
construct_short names A blank (cons h (cons p ps)) all ordinary also e run found q = also run found q
construct_short names A sequence nil all ordinary also e run found q = absurd (cc)
construct_short names A sequence (cons h nil) all ordinary also e run found q = absurd (not_two e)
  where
    not_two : leb 2 (0 + 1) ≡ true → ⊥
    not_two e = absurd (cc)
construct_short names A sequence (cons h (cons p ps)) all ordinary also e run found q = also run found q
construct_short names A null_sequence nil all ordinary also e run found q = absurd (cc)
construct_short names A null_sequence (cons h nil) all ordinary also e run found q = absurd (not_two e)
  where
    not_two : leb 2 (0 + 1) ≡ true → ⊥
    not_two e = absurd (cc)
construct_short names A null_sequence (cons h (cons p ps)) all ordinary also e run found q = also run found q
construct_short names A pattern nil all ordinary also e run found q = also run found q
construct_short names A pattern (cons x nil) all ordinary also e run found q = also run found q
construct_short names A pattern (cons x (cons p nil)) all ordinary also e run found q = named_short x (matcher names A p) ordinary (all.1.0 e) also run found q
construct_short names A pattern (cons x (cons p (cons r ps))) all ordinary also e run found q = also run found q
construct_short names A test nil all ordinary also e run found q = also run found q
construct_short names A test (cons p nil) all ordinary also e run found q = also run found q
construct_short names A test (cons p (cons t nil)) all ordinary also e run found q = guarded_none (map (Test t) run) (matcher names A p run found) (all.0 e run found q)
construct_short names A test (cons p (cons t (cons r ps))) all ordinary also e run found q = also run found q
construct_short names A condition nil all ordinary also e run found q = also run found q
construct_short names A condition (cons p nil) all ordinary also e run found q = also run found q
construct_short names A condition (cons p (cons c nil)) all ordinary also e run found q = guarded_none (Cond c ∷ []) (matcher names A p run found) (all.0 e run found q)
construct_short names A condition (cons p (cons c (cons r ps))) all ordinary also e run found q = also run found q
construct_short names A alternatives ps all ordinary also e run found q = any_short names A ps all e run found q
construct_short names A hold nil all ordinary also e run found q = also run found q
construct_short names A hold (cons p nil) all ordinary also e run found q = all.0 e run found q
construct_short names A hold (cons p (cons r ps)) all ordinary also e run found q = also run found q
construct_short names A verbatim nil all ordinary also e run found q = also run found q
construct_short names A verbatim (cons p nil) all ordinary also e run found q = literal_short p run found q
construct_short names A verbatim (cons p (cons r ps)) all ordinary also e run found q = also run found q
construct_short names A other ps all ordinary also e run found q = also run found q

mutual
  pub takes_one : (names : Names) (A : Sym → Matching) (p : Tree) → short names p ≡ true → Rejects IsLong (matcher names A p)
  takes_one names A (integer n) e run found q = literal_short (integer n) run found q
  takes_one names A (string t) e run found q = literal_short (string t) run found q
  takes_one names A (symbol s) e run found q = literal_short (symbol s) run found q
  takes_one names A (normal h ps) e run found q =
      construct_short names A (kind names h) ps (all_takes_one names A ps)
      (match_normal names (how_of A h) h (matcher names A h) (matchers names A ps)) (normal_short names (how_of A h) h (matcher names A h) (matchers names A ps)) e run found q

  all_takes_one : (names : Names) (A : Sym → Matching) (ps : Trees) → AllShort names A ps
  all_takes_one names A nil = tt
  all_takes_one names A (cons p ps) = (takes_one names A p, all_takes_one names A ps)

pub needs_one : (names : Names) (A : Sym → Matching) (how : Matching) (h p : Tree) (run : List Tree) (found : Found) → fills names p ≡ true → length run < 1 → matcher names A p (wrapped names how h p run) found ≡ []
needs_one names A how h p [] found e q = takes_some names A p e [] found refl
needs_one names A how h p (x ∷ run) found e q = absurd (omega (arith, q))

unwrapped : (names : Names) (how : Matching) (h p : Tree) (run : List Tree) → (how.flat && is_single names p) ≡ false → wrapped names how h p run ≡ run
unwrapped names how h p [] e = refl
unwrapped names how h p (x ∷ []) e = refl
unwrapped names how h p (x ∷ y ∷ run) e = ap (λ b. elim b [ true ↦ call h (x ∷ y ∷ run) ∷ [] | false ↦ x ∷ y ∷ run ]) e

pub up_to_one : (names : Names) (A : Sym → Matching) (how : Matching) (h p : Tree) (run : List Tree) (found : Found) → is_bounded names how p ≡ true → 1 < length run → matcher names A p (wrapped names how h p run) found ≡ []
up_to_one names A how h p run found e q = by_wraps (how.flat && is_single names p) refl e
  where
    by_wraps : (b : Bool) → (how.flat && is_single names p) ≡ b → (if b then false else short names p) ≡ true → matcher names A p (wrapped names how h p run) found ≡ []
    by_wraps true plain e = absurd (cc)
    by_wraps false plain e = ap (λ r. matcher names A p r found) (unwrapped names how h p run plain) ∙ takes_one names A p e run found (omega (arith, q))
