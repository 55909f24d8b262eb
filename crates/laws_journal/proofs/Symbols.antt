-- A list of symbols in strict order is told by its members; what is put in leaves it one.
use Rattle.std.proofs.Common.{◌≡◌, refl, sym, ap, subst, ◌∙◌, ℕ, zero, suc, Bool, true, false, List, [], ◌∷◌, ◌++◌, length, Option, Some, None, true≢false, inl, inr}
use Rattle.std.specs.Prelude.{◌||◌, ◌⊎◌}
use Rattle.std.specs.Cmp.{IsTotalOrder}
use Rattle.std.specs.Ordering.{is_lt, ordering_reverse}
use Rattle.std.specs.declared.cmp.Ordering.{Ordering}
use Rattle.std.specs.declared.cmp.Ordering.TheVariants.{Less, Equal, Greater}
use Rattle.std.proofs.lemmas.Cmp.{nat_cmp_total, on_total, then_total}
use Rattle.expr_tree.specs.declared.sym.Sym.{Sym}
use Rattle.expr_tree.specs.Order.{symbol_cmp, same_symbol}
use Rattle.expr_tree.specs.Substitution.{among}
use Rattle.semantics.specs.Names.{Names}
use Rattle.semantics.specs.Definitions.{Definitions}
use Rattle.journal.specs.Closure.{stored_symbols, Reach, put_symbol, put_symbols, reach_of, next_followed, grown, defined, nothing_reached}
use Rattle.laws_journal.specs.Symbols.{AllAbove, Ascends, MembersTell, ClosuresAscend}
use Rattle.laws_journal.proofs.Tables.{either, or_left, same_symbol-eq, same_symbol-self}

in_order : IsTotalOrder symbol_cmp
in_order = then_total (on_total (λ s. s.base) nat_cmp_total) (on_total (λ s. s.number) nat_cmp_total)

turned : (s t : Sym) → symbol_cmp s t ≡ Greater → symbol_cmp t s ≡ Less
turned s t e = in_order.antisymm t s ∙ ap ordering_reverse e

not_both : (s t : Sym) → symbol_cmp s t ≡ Less → symbol_cmp t s ≡ Less → ⊥
not_both s t e f = true≢false (ap is_lt (sym e ∙ in_order.antisymm s t ∙ ap ordering_reverse f))

-- ---- members

first : (s : Sym) (ss : List Sym) → among s (s ∷ ss) ≡ true
first s ss = or_left (same_symbol s s) (among s ss) (same_symbol-self s)

above : (s t : Sym) (ts : List Sym) → AllAbove s ts → among t ts ≡ true → symbol_cmp s t ≡ Less
above s t [] a h = absurd (true≢false (sym h))
above s t (u ∷ us) a h =
    elim (either (same_symbol t u) (among t us) h) [
      | inl l ↦ subst (λ x. symbol_cmp s x ≡ Less) (sym (same_symbol-eq t u l)) a.0
      | inr r ↦ above s t us a.1 r
    ]

not_above_self : (s : Sym) (ss : List Sym) → AllAbove s ss → among s ss ≡ false
not_above_self s ss a = go (among s ss) refl
  where
    go : (b : Bool) → among s ss ≡ b → among s ss ≡ false
    go true e = absurd (not_both s s (above s s ss a e) (above s s ss a e))
    go false e = e

-- a member is the first, or comes after it
from_first : (s t : Sym) (ss : List Sym) → AllAbove s ss → among t (s ∷ ss) ≡ true → (t ≡ s) ⊎ (symbol_cmp s t ≡ Less)
from_first s t ss a h = elim (either (same_symbol t s) (among t ss) h) [ inl l ↦ inl (same_symbol-eq t s l) | inr r ↦ inr (above s t ss a r) ]

firsts_same : (s t : Sym) (ss ts : List Sym) → AllAbove s ss → AllAbove t ts → among t (s ∷ ss) ≡ true → among s (t ∷ ts) ≡ true → s ≡ t
firsts_same s t ss ts a b h g =
    elim (from_first s t ss a h) [
      | inl e ↦ sym e
      | inr after ↦ elim (from_first t s ts b g) [ inl e ↦ e | inr before ↦ absurd (not_both s t after before) ]
    ]

rests_same : (s : Sym) (ss ts : List Sym) → AllAbove s ss → AllAbove s ts → ((x : Sym) → among x (s ∷ ss) ≡ among x (s ∷ ts)) → (x : Sym) → among x ss ≡ among x ts
rests_same s ss ts a b same x = go (same_symbol x s) refl (same x)
  where
    go : (k : Bool) → same_symbol x s ≡ k → (k || among x ss) ≡ (k || among x ts) → among x ss ≡ among x ts
    go true e h =
        let is : s ≡ x = sym (same_symbol-eq x s e) in
        subst (λ y. among y ss ≡ false) is (not_above_self s ss a) ∙ sym (subst (λ y. among y ts ≡ false) is (not_above_self s ts b))
    go false e h = h

pub members_tell : MembersTell
members_tell [] [] a b same = refl
members_tell [] (t ∷ ts) a b same = absurd (true≢false (sym (same t ∙ first t ts)))
members_tell (s ∷ ss) [] a b same = absurd (true≢false (sym (first s ss) ∙ same s))
members_tell (s ∷ ss) (t ∷ ts) a b same =
    let heads : s ≡ t = firsts_same s t ss ts a.0 b.0 (same t ∙ first t ts) (sym (same s) ∙ first s ss) in
    let beyond : AllAbove s ts = subst (λ x. AllAbove x ts) (sym heads) b.0 in
    let alike : (x : Sym) → among x (s ∷ ss) ≡ among x (s ∷ ts) = λ x. same x ∙ ap (λ y. among x (y ∷ ts)) (sym heads) in
    λ i. heads i ∷ members_tell ss ts a.1 b.1 (rests_same s ss ts a.0 beyond alike) i

-- ---- putting in

above_chain : (s t : Sym) (ts : List Sym) → symbol_cmp s t ≡ Less → AllAbove t ts → AllAbove s ts
above_chain s t [] e a = tt
above_chain s t (u ∷ us) e a = (in_order.trans s t u e a.0, above_chain s t us e a.1)

above_put : (t s : Sym) (ts : List Sym) → symbol_cmp t s ≡ Less → AllAbove t ts → AllAbove t (put_symbol s ts)
above_put t s [] e a = (e, tt)
above_put t s (u ∷ us) e a = go (symbol_cmp s u) (above_put t s us e a.1)
  where
    go : (o : Ordering) → AllAbove t (put_symbol s us) → AllAbove t (elim o [ Less ↦ s ∷ u ∷ us | Equal ↦ u ∷ us | Greater ↦ u ∷ put_symbol s us ])
    go Less later = (e, a)
    go Equal later = a
    go Greater later = (a.0, later)

put_ascends : (s : Sym) (ts : List Sym) → Ascends ts → Ascends (put_symbol s ts)
put_ascends s [] a = (tt, tt)
put_ascends s (t ∷ ts) a = go (symbol_cmp s t) refl (put_ascends s ts a.1)
  where
    go : (o : Ordering) → symbol_cmp s t ≡ o → Ascends (put_symbol s ts) → Ascends (elim o [ Less ↦ s ∷ t ∷ ts | Equal ↦ t ∷ ts | Greater ↦ t ∷ put_symbol s ts ])
    go Less e later = ((e, above_chain s t ts e a.0), a)
    go Equal e later = a
    go Greater e later = (above_put t s ts (turned s t e) a.0, later)

puts_ascend : (ss set : List Sym) → Ascends set → Ascends (put_symbols ss set)
puts_ascend [] set a = a
puts_ascend (s ∷ ss) set a = puts_ascend ss (put_symbol s set) (put_ascends s set a)

abbrev InOrder : Reach → Type 0
InOrder r = Ascends r.symbols

grown_ascends : (n : ℕ) (names : Names) (d : Definitions) (ss : List Sym) (r : Reach) → InOrder r → InOrder (grown n names d ss r)
grown_ascends zero names d ss r a = a
grown_ascends (suc n) names d ss r a =
    go (next_followed names d r ss) (λ p. grown_ascends n names d p.1 (reach_of names d r (stored_symbols d p.0)) (puts_ascend (stored_symbols d p.0) r.symbols a))
  where
    go : (o : Option (Sym × List Sym)) → ((p : Sym × List Sym) → InOrder (grown n names d p.1 (reach_of names d r (stored_symbols d p.0))))
        → InOrder (elim o [ None ↦ r | Some p ↦ grown n names d p.1 (reach_of names d r (stored_symbols d p.0)) ])
    go None later = a
    go (Some p) later = later p

pub closures_ascend : ClosuresAscend
closures_ascend = (
  puts_ascend,
  (λ names d seeds.
      let first : Reach = reach_of names d nothing_reached (seeds ++ d.named) in
      grown_ascends (length (defined d)) names d (defined d) first (puts_ascend (seeds ++ d.named) [] tt)),
)
