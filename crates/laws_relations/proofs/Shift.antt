-- The shift of numbers from a bound on is a relation as `Relation` wants it.
use Rattle.std.proofs.Common.{◌≡◌, refl, sym, ap, ◌∙◌, ℕ, ◌+◌, ◌<◌, ◌≤◌, Bool, true, false, cond, ltb, arith, ltb-true, ltb-false, lt-ltb, le-ltb, eq-eqb, ne_eqb, eqb-true, Option}
use Rattle.std.specs.Prelude.{◌==◌, ◌&&◌}
use Rattle.std.specs.declared.cmp.Ordering.{Ordering}
use Rattle.std.specs.declared.cmp.Ordering.TheVariants.{Less, Equal, Greater}
use Rattle.std.specs.Ordering.{nat_cmp, ordering_then, MatchOrdering}
use borrow.Author.Tests.{eqb-false}
use Rattle.std.specs.Cmp.{ranked, nat_cmp_is}
use Rattle.expr_tree.specs.declared.sym.Sym.{Sym}
use Rattle.expr_tree.specs.Order.{symbol_cmp}
use Rattle.semantics.specs.declared.builtin.Builtin.{Builtin}
use Rattle.semantics.specs.Names.{Names}
use Rattle.laws_relations.specs.Order.{shifted_symbol, ShiftKeepsOrder}
use Rattle.laws_relations.proofs.Relate.{branch}
use Rattle.laws_relations.proofs.Relation.{Faithful}

module _ (from by : ℕ) where
  -- numbers below the bound stay, the others grow
  pub shifted : ℕ → ℕ
  shifted n = cond (ltb n from) n (n + by)

  -- the order is kept
  rises : (m n : ℕ) → m < n → shifted m < shifted n
  unfolding shifted
  rises m n less = go (ltb m from) (ltb n from) refl refl
    where
      go : (a b : Bool) → ltb m from ≡ a → ltb n from ≡ b → shifted m < shifted n
      go true true e f = rw (e, f) less
      go true false e f = rw (e, f) (omega arith)
      go false true e f = absurd (omega (arith, ltb-true n from f, ltb-false m from e))
      go false false e f = rw (e, f) (omega arith)

  same_order : (m n : ℕ) → nat_cmp m n ≡ nat_cmp (shifted m) (shifted n)
  same_order m n = nat_cmp_is (shifted m) (shifted n) (nat_cmp m n) (go (nat_cmp m n) (ranked m n (nat_cmp m n) refl))
    where
      go : (r : Ordering) → MatchOrdering r (m < n) (m ≡ n) (n < m) → MatchOrdering r (shifted m < shifted n) (shifted m ≡ shifted n) (shifted n < shifted m)
      go Less less = rises m n less
      go Equal e = ap shifted e
      go Greater cons = rises n m cons

  abbrev pub moved : Sym → Sym
  moved s = record { base = s.base; number = shifted s.number }

  abbrev pub Shifted : Sym → Sym → Type 0
  Shifted s t = t ≡ moved s

  pub moved_is_shifted : (s : Sym) → moved s ≡ shifted_symbol from by s
  unfolding shifted
  moved_is_shifted s = refl

  pub shifted_above : (n : ℕ) → from ≤ n → shifted n ≡ n + by
  unfolding shifted
  shifted_above n le = ap (λ b. cond b n (n + by)) (le-ltb n from le)

  order_kept : (a b : Sym) → symbol_cmp a b ≡ symbol_cmp (moved a) (moved b)
  order_kept a b = ap (ordering_then (nat_cmp a.base b.base)) (same_order a.number b.number)

  -- equal numbers are shifted to equal ones alone
  stays_apart : (m n : ℕ) → ¬ (m ≡ n) → ¬ (shifted m ≡ shifted n)
  stays_apart m n other e = go (nat_cmp m n) (ranked m n (nat_cmp m n) refl)
    where
      go : (r : Ordering) → MatchOrdering r (m < n) (m ≡ n) (n < m) → ⊥
      go Less less = omega (arith, rises m n less, e)
      go Equal equal = other equal
      go Greater less = omega (arith, rises n m less, e)

  equals_kept : (m n : ℕ) → (m == n) ≡ (shifted m == shifted n)
  equals_kept m n = go (m == n) refl
    where
      go : (b : Bool) → (m == n) ≡ b → (m == n) ≡ (shifted m == shifted n)
      go true e = e ∙ sym (eq-eqb (shifted m) (shifted n) (ap shifted (eqb-true m n e)))
      go false e = e ∙ sym (ne_eqb (shifted m) (shifted n) (stays_apart m n (eqb-false m n e)))

  -- a bound above 0 leaves the plain names, the rows of the table among them
  module _ (names : Names) (plain : 0 < from) where
    shifted-zero : shifted 0 ≡ 0
    unfolding shifted
    shifted-zero = rw (lt-ltb 0 from plain) refl

    zero_kept : (n : ℕ) → (n == 0) ≡ (shifted n == 0)
    zero_kept n = go (n == 0) refl
      where
        at_zero : n ≡ 0 → shifted n ≡ 0
        at_zero e = ap shifted e ∙ shifted-zero

        above : ¬ (n ≡ 0) → ¬ (shifted n ≡ 0)
        above apart e = not_below (shifted n) e (rw shifted-zero at (rises 0 n (positive n apart)))
          where
            not_below : (m : ℕ) → m ≡ 0 → ¬ (0 < m)
            not_below m e less = omega arith

            positive : (m : ℕ) → ¬ (m ≡ 0) → 0 < m
            positive m apart = omega arith

        go : (b : Bool) → (n == 0) ≡ b → (n == 0) ≡ (shifted n == 0)
        go true e = e ∙ sym (eq-eqb (shifted n) 0 (at_zero (eqb-true n 0 e)))
        go false e = e ∙ sym (ne_eqb (shifted n) 0 (above (eqb-false n 0 e)))

    pub shift_is_faithful : Faithful Shifted names
    shift_is_faithful =
        record {
          order = λ a b c d e f. rw (e, f) (order_kept a c);
          equals = λ a b c d e f. rw (e, f) (ap (λ z. (a.base == c.base) && z) (equals_kept a.number c.number));
          rows = λ row a b e. rw e (ap (λ z. z && (a.base == names.place row)) (zero_kept a.number));
          roles = λ a b e. rw e (branch (◌≡◌ {A = Option Builtin}) (zero_kept a.number) refl refl);
          knows = λ row. ap (λ z. record { base = names.place row; number = z }) (sym shifted-zero);
        }

pub shift_keeps_order : ShiftKeepsOrder
unfolding shifted
shift_keeps_order from by s t = order_kept from by s t
