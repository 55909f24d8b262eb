-- The canonical order is a total order, and expressions that compare equal are equal.
use Rattle.std.proofs.Common.{◌≡◌, ◌≢◌, ℕ, ◌+◌, ◌<◌, ◌≤◌, List, refl, ap, sym, ◌∙◌, arith, subst}
use Rattle.std.specs.Cmp.{IsTotalOrder}
use Rattle.std.specs.Cmp.Lexicographic.{slice_cmp}
use Rattle.std.specs.Ordering.{nat_cmp, int_cmp, ordering_then, ordering_reverse}
use Rattle.std.specs.declared.cmp.Ordering.{Ordering}
use Rattle.std.specs.declared.cmp.Ordering.TheVariants.{Less, Equal, Greater}
use Rattle.std.proofs.lemmas.Cmp.{nat_cmp_total, int_cmp_total, nat_list_cmp_total, then_total, on_total}
use Rattle.std.specs.Cmp.{then_flip}
use Rattle.expr_tree.specs.declared.sym.Sym.{Sym}
use Rattle.expr_tree.specs.Tree.{Tree, Trees, integer, string, symbol, normal, nil, cons, count}
use Rattle.expr_tree.specs.Order.{symbol_cmp, tree_cmp, trees_cmp}
use Rattle.std.proofs.lemmas.Map.Lookups.{exact_signed, exact_unsigned, exact_bytes}

symbols_total : IsTotalOrder symbol_cmp
symbols_total = then_total (on_total (λ s. s.base) nat_cmp_total) (on_total (λ s. s.number) nat_cmp_total)

then_equal : (p q : Ordering) → ordering_then p q ≡ Equal → (p ≡ Equal) × (q ≡ Equal)
then_equal Less q e = (e, absurd (cc))
then_equal Equal q e = (refl, e)
then_equal Greater q e = (e, absurd (cc))

-- one step of a chain x < y < z: p, q and r compare x with y, y with z and x with z
then_chain : (p q r p2 q2 r2 : Ordering) → (p ≡ Less → q ≡ Less → r ≡ Less) → (p ≡ Equal → r ≡ q) → (q ≡ Equal → r ≡ p) → (p2 ≡ Less → q2 ≡ Less → r2 ≡ Less) → ordering_then p p2 ≡ Less → ordering_then q q2 ≡ Less → ordering_then r r2 ≡ Less
then_chain Less Less r p2 q2 r2 chain left right further a b = rw (chain refl refl)
then_chain Less Equal r p2 q2 r2 chain left right further a b = rw (right refl)
then_chain Less Greater r p2 q2 r2 chain left right further a b = absurd (cc)
then_chain Equal Less r p2 q2 r2 chain left right further a b = rw (left refl)
then_chain Equal Equal r p2 q2 r2 chain left right further a b = rw (left refl) (further a b)
then_chain Equal Greater r p2 q2 r2 chain left right further a b = absurd (cc)
then_chain Greater q r p2 q2 r2 chain left right further a b = absurd (cc)

mutual
  pub tree_flip : (a b : Tree) → tree_cmp a b ≡ ordering_reverse (tree_cmp b a)
  tree_flip (integer m) (integer n) = int_cmp_total.antisymm m n
  tree_flip (integer m) (string s) = refl
  tree_flip (integer m) (symbol s) = refl
  tree_flip (integer m) (normal h ts) = refl
  tree_flip (string s) (integer n) = refl
  tree_flip (string s) (string r) = nat_list_cmp_total.antisymm s r
  tree_flip (string s) (symbol r) = refl
  tree_flip (string s) (normal h ts) = refl
  tree_flip (symbol s) (integer n) = refl
  tree_flip (symbol s) (string r) = refl
  tree_flip (symbol s) (symbol r) = symbols_total.antisymm s r
  tree_flip (symbol s) (normal h ts) = refl
  tree_flip (normal h ts) (integer n) = refl
  tree_flip (normal h ts) (string r) = refl
  tree_flip (normal h ts) (symbol r) = refl
  tree_flip (normal h ts) (normal k us) =
      (λ i. ordering_then (nat_cmp_total.antisymm (count ts) (count us) i) (((λ j. ordering_then (tree_flip h k j) (trees_flip ts us j)) ∙ then_flip (tree_cmp k h) (trees_cmp us ts)) i))
      ∙ then_flip (nat_cmp (count us) (count ts)) (ordering_then (tree_cmp k h) (trees_cmp us ts))

  pub trees_flip : (ts us : Trees) → trees_cmp ts us ≡ ordering_reverse (trees_cmp us ts)
  trees_flip nil nil = refl
  trees_flip nil (cons u us) = refl
  trees_flip (cons t ts) nil = refl
  trees_flip (cons t ts) (cons u us) = (λ i. ordering_then (tree_flip t u i) (trees_flip ts us i)) ∙ then_flip (tree_cmp u t) (trees_cmp us ts)

symbol_exact : (s r : Sym) → symbol_cmp s r ≡ Equal → s ≡ r
symbol_exact s r e =
    let parts = then_equal (nat_cmp s.base r.base) (nat_cmp s.number r.number) e in
    λ i. record { base = exact_unsigned s.base r.base parts.0 i; number = exact_unsigned s.number r.number parts.1 i }

mutual
  pub tree_exact : (a b : Tree) → tree_cmp a b ≡ Equal → a ≡ b
  tree_exact (integer m) (integer n) e = ap integer (exact_signed m n e)
  tree_exact (string s) (string r) e = ap string (exact_bytes s r e)
  tree_exact (symbol s) (symbol r) e = ap symbol (symbol_exact s r e)
  tree_exact (normal h ts) (normal k us) e =
      let counts = then_equal (nat_cmp (count ts) (count us)) (ordering_then (tree_cmp h k) (trees_cmp ts us)) e in
      let parts = then_equal (tree_cmp h k) (trees_cmp ts us) counts.1 in
      λ i. normal (tree_exact h k parts.0 i) (trees_exact ts us parts.1 i)
  tree_exact _ _ e = absurd (cc)

  pub trees_exact : (ts us : Trees) → trees_cmp ts us ≡ Equal → ts ≡ us
  trees_exact nil nil e = refl
  trees_exact nil (cons u us) e = absurd (cc)
  trees_exact (cons t ts) nil e = absurd (cc)
  trees_exact (cons t ts) (cons u us) e =
      let parts = then_equal (tree_cmp t u) (trees_cmp ts us) e in
      λ i. cons (tree_exact t u parts.0 i) (trees_exact ts us parts.1 i)

-- integers, texts, symbols and normal expressions, in this order
abbrev rank : Tree → ℕ
rank (integer n) = 0
rank (string s) = 1
rank (symbol s) = 2
rank (normal h ts) = 3

rank_at_most : (a : Tree) → rank a ≤ 3
rank_at_most (integer n) = omega arith
rank_at_most (string s) = omega arith
rank_at_most (symbol s) = omega arith
rank_at_most (normal h ts) = omega arith

by_rank : (a b : Tree) → rank a < rank b → tree_cmp a b ≡ Less
by_rank (integer m) (integer n) p = absurd (omega arith)
by_rank (integer m) _ p = refl
by_rank (string s) (symbol r) p = refl
by_rank (string s) (normal k us) p = refl
by_rank (symbol s) (normal k us) p = refl
by_rank _ b p = absurd (omega (arith, rank_at_most b))

rank_below : (a b : Tree) → tree_cmp a b ≡ Less → rank a ≤ rank b
rank_below (integer m) _ e = omega arith
rank_below (string s) (integer n) e = absurd (cc)
rank_below (string s) _ e = omega arith
rank_below (symbol s) (symbol r) e = omega arith
rank_below (symbol s) (normal k us) e = omega arith
rank_below (symbol s) _ e = absurd (cc)
rank_below (normal h ts) (normal k us) e = omega arith
rank_below (normal h ts) _ e = absurd (cc)

mutual
  pub tree_chain : (a b c : Tree) → tree_cmp a b ≡ Less → tree_cmp b c ≡ Less → tree_cmp a c ≡ Less
  tree_chain (integer l) (integer m) (integer n) p q = int_cmp_total.trans l m n p q
  tree_chain (string s) (string r) (string u) p q = nat_list_cmp_total.trans s r u p q
  tree_chain (symbol s) (symbol r) (symbol u) p q = symbols_total.trans s r u p q
  tree_chain (normal h ts) (normal k us) (normal l vs) p q =
      then_chain (nat_cmp (count ts) (count us)) (nat_cmp (count us) (count vs)) (nat_cmp (count ts) (count vs))
      (ordering_then (tree_cmp h k) (trees_cmp ts us)) (ordering_then (tree_cmp k l) (trees_cmp us vs)) (ordering_then (tree_cmp h l) (trees_cmp ts vs))
      (nat_cmp_total.trans (count ts) (count us) (count vs)) (nat_cmp_total.congr (count ts) (count us) (count vs))
      (λ e. ap (nat_cmp (count ts)) (sym (exact_unsigned (count us) (count vs) e)))
      (then_chain (tree_cmp h k) (tree_cmp k l) (tree_cmp h l) (trees_cmp ts us) (trees_cmp us vs) (trees_cmp ts vs)
      (tree_chain h k l) (λ e. ap (λ z. tree_cmp z l) (tree_exact h k e)) (λ e. ap (tree_cmp h) (sym (tree_exact k l e))) (trees_chain ts us vs))
      p q
  tree_chain a b c p q = by_rank a c (omega (arith, rank_below a b p, rank_below b c q))

  pub trees_chain : (ts us vs : Trees) → trees_cmp ts us ≡ Less → trees_cmp us vs ≡ Less → trees_cmp ts vs ≡ Less
  trees_chain nil nil nil p q = absurd (cc)
  trees_chain nil (cons u us) nil p q = absurd (cc)
  trees_chain nil _ (cons v vs) p q = refl
  trees_chain (cons t ts) nil _ p q = absurd (cc)
  trees_chain (cons t ts) (cons u us) nil p q = absurd (cc)
  trees_chain (cons t ts) (cons u us) (cons v vs) p q =
      then_chain (tree_cmp t u) (tree_cmp u v) (tree_cmp t v) (trees_cmp ts us) (trees_cmp us vs) (trees_cmp ts vs)
      (tree_chain t u v) (λ e. ap (λ z. tree_cmp z v) (tree_exact t u e)) (λ e. ap (tree_cmp t) (sym (tree_exact u v e))) (trees_chain ts us vs) p q

its_own_reverse : (o : Ordering) → o ≡ ordering_reverse o → o ≡ Equal
its_own_reverse Less e = absurd (cc)
its_own_reverse Equal e = refl
its_own_reverse Greater e = absurd (cc)

pub tree_itself : (a b : Tree) → a ≡ b → tree_cmp a b ≡ Equal
tree_itself a b e = ap (tree_cmp a) (sym e) ∙ its_own_reverse (tree_cmp a a) (tree_flip a a)

pub tree_cmp_total : IsTotalOrder tree_cmp
tree_cmp_total = record {
  antisymm = tree_flip;
  trans = tree_chain;
  congr = λ a b c e. ap (λ z. tree_cmp z c) (tree_exact a b e);
}
