-- How many elements patterns can take: the program's count is that of the definition.
use Rattle.std.proofs.Common.{◌≡◌, ℕ, zero, suc, ◌+◌, ◌-◌, List, [], ◌∷◌, length, drop, Bool, true, false, ◌&&◌, ◌==◌, leb, if◌then◌else◌, refl, ap, sym, ◌∙◌, arith, ne_eqb, le-leb}
use Rattle.expr_tree.specs.declared.sym.Sym.{Sym}
use Rattle.expr_tree.specs.Tree.{Tree, integer, string, symbol, normal, Trees, nil, cons, trees, count}
use Rattle.expr_tree.proofs.Callers.{tree_steps}
use Rattle.semantics.specs.Names.{Names}
use Rattle.semantics.specs.Match.{Kind, blank, sequence, null_sequence, pattern, test, condition, alternatives, hold, verbatim, other, kind, Matching}
use Rattle.laws_matching.specs.Bounds as law
use Rattle.match_seq.specs.declared.constructs.Constructs.{Constructs}
use Rattle.match_seq.specs.declared.constructs.Form.{Form}
use Rattle.match_seq.specs.declared.constructs.Form.TheVariants as form
use Rattle.match_seq.specs.declared.extent.Extent.{Extent}
use Rattle.match_seq.specs.Forms.{zero_or_one}
use Rattle.match_seq.specs.Origin.{constructs_of}
use Rattle.match_seq.specs.Search.{exactly_one, both, extent_form, extent, first_extent, second_extent, all_extent, least_of, fewest, is_bounded, all_bounded, trees_of, parts}
use Rattle.match_seq.proofs.KindForms.{form_by, form_is, single_is}

-- what the definition tells of a pattern
abbrev told : Names → Tree → Extent
told names p = record { fills = law.fills names p; short = law.short names p }

abbrev told_by : Kind → ℕ → Extent → Extent → Extent → Extent
told_by k n first second all = record { fills = law.fills_by k n first.fills second.fills all.fills; short = law.short_by k n first.short second.short all.short }

by_test : (b : Bool) (e : Extent) (f : Form) (first second all : Extent) → extent_form f first second all ≡ e → extent_form (if b then f else form.Ordinary) first second all ≡ record { fills = elim b [ true ↦ e.fills | false ↦ true ]; short = elim b [ true ↦ e.short | false ↦ true ] }
by_test true e f first second all is = is
by_test false e f first second all is = refl

more : (n : ℕ) (a b : Form) → zero_or_one (suc (suc n)) a b ≡ form.Ordinary
more n a b = rw (ne_eqb (suc (suc n)) 0 (λ e. absurd (omega arith)), ne_eqb (suc (suc n)) 1 (λ e. absurd (omega arith))) refl

two : (n : ℕ) → leb 2 (suc (suc n)) ≡ true
two n = le-leb 2 (suc (suc n)) (omega arith)

extent_forms : (k : Kind) (n : ℕ) (first second all : Extent) → extent_form (form_by k n) first second all ≡ told_by k n first second all
extent_forms blank zero first second all = refl
extent_forms blank (suc zero) first second all = refl
extent_forms blank (suc (suc n)) first second all = ap (λ f. extent_form f first second all) (more n form.One form.OneOf)
extent_forms sequence zero first second all = refl
extent_forms sequence (suc zero) first second all = refl
extent_forms sequence (suc (suc n)) first second all =
    ap (λ f. extent_form f first second all) (more n form.Some form.SomeOf) ∙ (λ i. record { fills = true; short = sym (two n) i })
extent_forms null_sequence zero first second all = refl
extent_forms null_sequence (suc zero) first second all = refl
extent_forms null_sequence (suc (suc n)) first second all =
    ap (λ f. extent_form f first second all) (more n form.Any form.AnyOf) ∙ (λ i. record { fills = sym (two n) i; short = sym (two n) i })
extent_forms pattern n first second all = by_test (n == 2) second form.Named first second all refl
extent_forms test n first second all = by_test (n == 2) first form.Tested first second all refl
extent_forms condition n first second all = by_test (n == 2) first form.Conditioned first second all refl
extent_forms alternatives n first second all = refl
extent_forms hold n first second all = by_test (n == 1) first form.Held first second all refl
extent_forms verbatim n first second all = by_test (n == 1) exactly_one form.Verbatim first second all refl ∙ same (n == 1)
  where
    same : (b : Bool) → ◌≡◌ {A = Extent} (record { fills = elim b [ true ↦ true | false ↦ true ]; short = elim b [ true ↦ true | false ↦ true ] }) exactly_one
    same true = refl
    same false = refl
extent_forms other n first second all = refl

-- what it tells of the first, the second and all of some items
abbrev first_told : Names → Trees → Extent
first_told names ps = record { fills = law.first_fills names ps; short = law.first_short names ps }

abbrev second_told : Names → Trees → Extent
second_told names ps = record { fills = law.second_fills names ps; short = law.second_short names ps }

abbrev all_told : Names → Trees → Extent
all_told names ps = record { fills = law.all_fill names ps; short = law.all_short names ps }

mutual
  pub extent_is : (names : Names) (p : Tree) → extent (constructs_of names) p ≡ told names p
  extent_is names (integer n) = refl
  extent_is names (string t) = refl
  extent_is names (symbol s) = refl
  extent_is names (normal h ps) =
      (λ i. extent_form (form_is names h (count ps) i) (first_extent_is names ps i) (second_extent_is names ps i) (all_extent_is names ps i))
      ∙ extent_forms (kind names h) (count ps) (first_told names ps) (second_told names ps) (all_told names ps)

  first_extent_is : (names : Names) (ps : Trees) → first_extent (constructs_of names) ps ≡ first_told names ps
  first_extent_is names nil = refl
  first_extent_is names (cons p ps) = extent_is names p

  second_extent_is : (names : Names) (ps : Trees) → second_extent (constructs_of names) ps ≡ second_told names ps
  second_extent_is names nil = refl
  second_extent_is names (cons p ps) = first_extent_is names ps

  all_extent_is : (names : Names) (ps : Trees) → all_extent (constructs_of names) ps ≡ all_told names ps
  all_extent_is names nil = refl
  all_extent_is names (cons p ps) = λ i. both (extent_is names p i) (all_extent_is names ps i)

pub fewest_is : (names : Names) (ps : Trees) → fewest (constructs_of names) ps ≡ law.least names ps
fewest_is names nil = refl
fewest_is names (cons p ps) = λ i. least_of (extent_is names p i) + fewest_is names ps i

pub bounded_is : (names : Names) (how : Matching) (p : Tree) → is_bounded (constructs_of names) how p ≡ law.is_bounded names how p
bounded_is names how p = λ i. if how.flat && single_is names p i then false else (extent_is names p i).short

pub all_bounded_is : (names : Names) (how : Matching) (ps : Trees) → all_bounded (constructs_of names) how ps ≡ law.all_bounded names how ps
all_bounded_is names how nil = refl
all_bounded_is names how (cons p ps) = λ i. bounded_is names how p i && all_bounded_is names how ps i

pub trees_of-parts : (cs : Constructs) (A : Sym → Matching) (ps : Trees) → trees_of (parts cs A ps) ≡ ps
trees_of-parts cs A nil = refl
trees_of-parts cs A (cons p ps) = ap (λ qs. cons p qs) (trees_of-parts cs A ps)

-- in code
and-assoc : (a b c : Bool) → ((a && b) && c) ≡ (a && (b && c))
and-assoc true b c = refl
and-assoc false b c = refl

and-true : (a : Bool) → (a && true) ≡ a
and-true true = refl
and-true false = refl

pub both-assoc : (a b c : Extent) → both (both a b) c ≡ both a (both b c)
both-assoc a b c = λ i. record { fills = and-assoc a.fills b.fills c.fills i; short = and-assoc a.short b.short c.short i }

pub both-one : (a : Extent) → both a exactly_one ≡ a
both-one a = λ i. record { fills = and-true a.fills i; short = and-true a.short i }

pub count-behind : (xs : List Tree) (n : ℕ) → count (trees (drop n xs)) ≡ length xs - n
count-behind [] zero = refl
count-behind [] (suc n) = omega arith
count-behind (x ∷ xs) zero = let e : count (trees xs) ≡ length xs - 0 = count-behind xs zero in omega (arith, e)
count-behind (x ∷ xs) (suc n) = let e : count (trees (drop n xs)) ≡ length xs - n = count-behind xs n in omega (arith, e)

pub ruleset extent_steps = (tree_steps, both-assoc, both-one)

pub ruleset window_steps = (count-behind)
