-- In another shape than its construct's a pattern is ordinary; the bindings of a pattern depend on what is told of its heads alone.
--     among-left, among-right   a symbol of a list is one of two lists together
--     apart                     where a head and items are a construct, the ordinary pattern with them has no say
--     another_shape_is_ordinary a head and items that are no construct are an ordinary pattern
--     heads_tell_all            tellings that agree on the heads of a pattern have the same bindings
use Rattle.std.proofs.Common.{◌≡◌, ◌≢◌, ℕ, ◌+◌, ◌≤◌, List, [], ◌∷◌, ◌++◌, Bool, true, false, ◌&&◌, ◌==◌, leb, leb-true, refl, ap, ◌∙◌, arith, eqb-true}
use Rattle.std.specs.Prelude.{◌||◌}
use Rattle.expr_tree.specs.declared.sym.Sym.{Sym}
use Rattle.expr_tree.specs.Tree.{Tree, integer, string, symbol, normal, Trees, nil, cons, count}
use Rattle.expr_tree.specs.Same.{symbol_eq}
use Rattle.expr_tree.specs.Substitution.{among}
use Rattle.expr_tree.proofs.Same.{symbol_eq-Decides}
use Rattle.semantics.specs.Names.{Names}
use Rattle.semantics.specs.Match.{Found, Matching, Matcher, Kind, blank, sequence, null_sequence, pattern, test, condition, alternatives, hold, verbatim, other, kind, has_shape, first_is_symbol, is_construct, construct, match_normal, how_of, matcher, matchers, matches, asked, heads, heads_in, nothing_found}
use Rattle.laws_matching.proofs.Patterns.{first-of, second-of}
use Rattle.laws_matching.specs.Heads.{HeadsTellAll, OrdinaryElsewhere}

among-append : (s : Sym) (ss ts : List Sym) → among s (ss ++ ts) ≡ (among s ss || among s ts)
among-append s [] ts = refl
among-append s (t ∷ ss) ts = by_test (symbol_eq s t) (among-append s ss ts)
  where
    by_test : (c : Bool) → among s (ss ++ ts) ≡ (among s ss || among s ts) → (c || among s (ss ++ ts)) ≡ ((c || among s ss) || among s ts)
    by_test true e = refl
    by_test false e = e

pub or_left : (b c : Bool) → b ≡ true → (b || c) ≡ true
or_left b c e = rw e refl

or_right : (b c : Bool) → c ≡ true → (b || c) ≡ true
or_right true c e = refl
or_right false c e = e

pub among-left : (s : Sym) (ss ts : List Sym) → among s ss ≡ true → among s (ss ++ ts) ≡ true
among-left s ss ts e = among-append s ss ts ∙ or_left (among s ss) (among s ts) e

pub among-right : (s : Sym) (ss ts : List Sym) → among s ts ≡ true → among s (ss ++ ts) ≡ true
among-right s ss ts e = among-append s ss ts ∙ or_right (among s ss) (among s ts) e

many : (n : ℕ) → leb (n + 1 + 1) 1 ≡ true → ⊥
many n e = let q : n + 1 + 1 ≤ 1 = leb-true (n + 1 + 1) 1 e in absurd (omega (arith, q))

another : (n k : ℕ) → n ≢ k → (n == k) ≡ true → ⊥
another n k p e = p (eqb-true n k e)

-- two ordinary patterns give the same under a kind and items
abbrev Alike : Names → (Sym → Matching) → Kind → Trees → Matcher → Matcher → Type 0
Alike names A k ps m n = (run : List Tree) (found : Found) → construct names k (matchers names A ps) m run found ≡ construct names k (matchers names A ps) n run found

named_apart : (names : Names) (A : Sym → Matching) (x p : Tree) (m n : Matcher) → first_is_symbol (cons x (cons p nil)) ≡ true → Alike names A pattern (cons x (cons p nil)) m n
named_apart names A (integer i) p m n e run found = absurd (cc)
named_apart names A (string t) p m n e run found = absurd (cc)
named_apart names A (symbol s) p m n e run found = refl
named_apart names A (normal h es) p m n e run found = absurd (cc)

apart : (names : Names) (A : Sym → Matching) (k : Kind) (ps : Trees) (m n : Matcher) → has_shape k (count ps) (first_is_symbol ps) ≡ true → Alike names A k ps m n
apart names A blank nil m n e run found = refl
apart names A blank (cons h nil) m n e run found = refl
apart names A blank (cons h (cons p ps)) m n e run found = absurd (many (count ps) e)
apart names A sequence nil m n e run found = refl
apart names A sequence (cons h nil) m n e run found = refl
apart names A sequence (cons h (cons p ps)) m n e run found = absurd (many (count ps) e)
apart names A null_sequence nil m n e run found = refl
apart names A null_sequence (cons h nil) m n e run found = refl
apart names A null_sequence (cons h (cons p ps)) m n e run found = absurd (many (count ps) e)
apart names A pattern nil m n e run found = absurd (cc)
apart names A pattern (cons x nil) m n e run found = absurd (another (0 + 1) 2 (λ q. absurd (omega (arith, q))) (first-of (count (cons x nil) == 2) (first_is_symbol (cons x nil)) e))
apart names A pattern (cons x (cons p nil)) m n e run found = named_apart names A x p m n (second-of (count (cons x (cons p nil)) == 2) (first_is_symbol (cons x (cons p nil))) e) run found
apart names A pattern (cons x (cons p (cons r ps))) m n e run found =
    absurd (another (count ps + 1 + 1 + 1) 2 (λ q. absurd (omega (arith, q))) (first-of (count (cons x (cons p (cons r ps))) == 2) (first_is_symbol (cons x (cons p (cons r ps)))) e))
apart names A test nil m n e run found = absurd (cc)
apart names A test (cons p nil) m n e run found = absurd (another (0 + 1) 2 (λ q. absurd (omega (arith, q))) e)
apart names A test (cons p (cons t nil)) m n e run found = refl
apart names A test (cons p (cons t (cons r ps))) m n e run found = absurd (another (count ps + 1 + 1 + 1) 2 (λ q. absurd (omega (arith, q))) e)
apart names A condition nil m n e run found = absurd (cc)
apart names A condition (cons p nil) m n e run found = absurd (another (0 + 1) 2 (λ q. absurd (omega (arith, q))) e)
apart names A condition (cons p (cons c nil)) m n e run found = refl
apart names A condition (cons p (cons c (cons r ps))) m n e run found = absurd (another (count ps + 1 + 1 + 1) 2 (λ q. absurd (omega (arith, q))) e)
apart names A alternatives ps m n e run found = refl
apart names A hold nil m n e run found = absurd (cc)
apart names A hold (cons p nil) m n e run found = refl
apart names A hold (cons p (cons r ps)) m n e run found = absurd (another (count ps + 1 + 1) 1 (λ q. absurd (omega (arith, q))) e)
apart names A verbatim nil m n e run found = absurd (cc)
apart names A verbatim (cons p nil) m n e run found = refl
apart names A verbatim (cons p (cons r ps)) m n e run found = absurd (another (count ps + 1 + 1) 1 (λ q. absurd (omega (arith, q))) e)
apart names A other ps m n e run found = absurd (cc)

leb_one : leb (0 + 1) 1 ≡ false → ⊥
leb_one e = absurd (cc)

is_one_item : ((0 + 1) == 1) ≡ false → ⊥
is_one_item e = absurd (cc)

is_two_items : ((0 + 1 + 1) == 2) ≡ false → ⊥
is_two_items e = absurd (cc)

is_named : ((0 + 1 + 1 == 2) && true) ≡ false → ⊥
is_named e = absurd (cc)

unnamed : (names : Names) (A : Sym → Matching) (x p : Tree) (m : Matcher) (run : List Tree) (found : Found) → has_shape pattern (count (cons x (cons p nil))) (first_is_symbol (cons x (cons p nil))) ≡ false
    → construct names pattern (matchers names A (cons x (cons p nil))) m run found ≡ m run found
unnamed names A (integer n) p m run found e = refl
unnamed names A (string t) p m run found e = refl
unnamed names A (symbol s) p m run found e = absurd (is_named e)
unnamed names A (normal h es) p m run found e = refl

ordinary : (names : Names) (A : Sym → Matching) (k : Kind) (ps : Trees) (m : Matcher) (run : List Tree) (found : Found) → has_shape k (count ps) (first_is_symbol ps) ≡ false
    → construct names k (matchers names A ps) m run found ≡ m run found
ordinary names A blank nil m run found e = absurd (cc)
ordinary names A blank (cons h nil) m run found e = absurd (leb_one e)
ordinary names A blank (cons h (cons p ps)) m run found e = refl
ordinary names A sequence nil m run found e = absurd (cc)
ordinary names A sequence (cons h nil) m run found e = absurd (leb_one e)
ordinary names A sequence (cons h (cons p ps)) m run found e = refl
ordinary names A null_sequence nil m run found e = absurd (cc)
ordinary names A null_sequence (cons h nil) m run found e = absurd (leb_one e)
ordinary names A null_sequence (cons h (cons p ps)) m run found e = refl
ordinary names A pattern nil m run found e = refl
ordinary names A pattern (cons x nil) m run found e = refl
ordinary names A pattern (cons x (cons p nil)) m run found e = unnamed names A x p m run found e
ordinary names A pattern (cons x (cons p (cons r ps))) m run found e = refl
ordinary names A test nil m run found e = refl
ordinary names A test (cons p nil) m run found e = refl
ordinary names A test (cons p (cons t nil)) m run found e = absurd (is_two_items e)
ordinary names A test (cons p (cons t (cons r ps))) m run found e = refl
ordinary names A condition nil m run found e = refl
ordinary names A condition (cons p nil) m run found e = refl
ordinary names A condition (cons p (cons c nil)) m run found e = absurd (is_two_items e)
ordinary names A condition (cons p (cons c (cons r ps))) m run found e = refl
ordinary names A alternatives ps m run found e = absurd (cc)
ordinary names A hold nil m run found e = refl
ordinary names A hold (cons p nil) m run found e = absurd (is_one_item e)
ordinary names A hold (cons p (cons r ps)) m run found e = refl
ordinary names A verbatim nil m run found e = refl
ordinary names A verbatim (cons p nil) m run found e = absurd (is_one_item e)
ordinary names A verbatim (cons p (cons r ps)) m run found e = refl
ordinary names A other ps m run found e = refl

pub another_shape_is_ordinary : OrdinaryElsewhere
another_shape_is_ordinary names A h ps run found e = ordinary names A (kind names h) ps (match_normal names (how_of A h) h (matcher names A h) (matchers names A ps)) run found e

-- tellings that agree on some symbols
abbrev AgreeOn : (Sym → Matching) → (Sym → Matching) → List Sym → Type 0
AgreeOn A B ss = (s : Sym) → among s ss ≡ true → A s ≡ B s

how_same : (names : Names) (A B : Sym → Matching) (h : Tree) (ps : Trees) → is_construct names h ps ≡ false → AgreeOn A B (asked names h ps) → how_of A h ≡ how_of B h
how_same names A B (integer n) ps e agree = refl
how_same names A B (string t) ps e agree = refl
how_same names A B (normal g es) ps e agree = refl
how_same names A B (symbol s) ps e agree =
    agree s (ap (λ b. among s (elim b [ true ↦ [] | false ↦ s ∷ [] ])) e ∙ or_left (symbol_eq s s) false ((symbol_eq-Decides s s).1 refl))

-- a construct has no use for what is told of its head, and of the head of an ordinary pattern the same is told
head_same : (names : Names) (A B : Sym → Matching) (h : Tree) (ps : Trees) → AgreeOn A B (asked names h ps)
    → construct names (kind names h) (matchers names B ps) (match_normal names (how_of A h) h (matcher names B h) (matchers names B ps))
    ≡ construct names (kind names h) (matchers names B ps) (match_normal names (how_of B h) h (matcher names B h) (matchers names B ps))
head_same names A B h ps agree = by_shape (is_construct names h ps) refl
  where
    by_shape : (b : Bool) → is_construct names h ps ≡ b
        → construct names (kind names h) (matchers names B ps) (match_normal names (how_of A h) h (matcher names B h) (matchers names B ps))
        ≡ construct names (kind names h) (matchers names B ps) (match_normal names (how_of B h) h (matcher names B h) (matchers names B ps))
    by_shape true e = λ i run found. apart names B (kind names h) ps (match_normal names (how_of A h) h (matcher names B h) (matchers names B ps)) (match_normal names (how_of B h) h (matcher names B h) (matchers names B ps)) e run found i
    by_shape false e = ap (λ how. construct names (kind names h) (matchers names B ps) (match_normal names how h (matcher names B h) (matchers names B ps))) (how_same names A B h ps e agree)

mutual
  matcher_same : (names : Names) (A B : Sym → Matching) (p : Tree) → AgreeOn A B (heads names p) → matcher names A p ≡ matcher names B p
  matcher_same names A B (integer n) agree = refl
  matcher_same names A B (string t) agree = refl
  matcher_same names A B (symbol s) agree = refl
  matcher_same names A B (normal h ps) agree =
      let later : AgreeOn A B (heads names h ++ heads_in names ps) = λ s e. agree s (among-right s (asked names h ps) (heads names h ++ heads_in names ps) e) in
      let head : matcher names A h ≡ matcher names B h = matcher_same names A B h (λ s e. later s (among-left s (heads names h) (heads_in names ps) e)) in
      let items : matchers names A ps ≡ matchers names B ps = matchers_same names A B ps (λ s e. later s (among-right s (heads names h) (heads_in names ps) e)) in
      (λ i. construct names (kind names h) (items i) (match_normal names (how_of A h) h (head i) (items i)))
      ∙ head_same names A B h ps (λ s e. agree s (among-left s (asked names h ps) (heads names h ++ heads_in names ps) e))

  matchers_same : (names : Names) (A B : Sym → Matching) (ps : Trees) → AgreeOn A B (heads_in names ps) → matchers names A ps ≡ matchers names B ps
  matchers_same names A B nil agree = refl
  matchers_same names A B (cons p ps) agree =
      λ i. record { tree = p; matcher = matcher_same names A B p (λ s e. agree s (among-left s (heads names p) (heads_in names ps) e)) i }
      ∷ matchers_same names A B ps (λ s e. agree s (among-right s (heads names p) (heads_in names ps) e)) i

pub heads_tell_all : HeadsTellAll
unfolding matches
heads_tell_all names A B p e agree = ap (λ m. m (e ∷ []) nothing_found) (matcher_same names A B p agree)
