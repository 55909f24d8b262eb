-- What a step does to the numbers of passes.
use Rattle.std.proofs.Common.{◌≡◌, ℕ, ◌+◌, ◌<◌, ◌≤◌, ◌≢◌, ◌^◌, List, [], ◌∷◌, ◌++◌, set, cond, eqb, sym, refl, ap, ◌∙◌, ⊎_elim, arith, subst, length-append, length-set}
use mathlib.Core.Logic.{dite}
use mathlib.Core.Option.{some}
use native.Mathlib.Decide.{ℕ_discrete, dec_lt}
use lib.ListN.{get_elem?}
use Rattle.atomic_table.proofs.Lists.{at_snoc}
use Rattle.turn_desk.specs.declared.view.View.{View}
use Rattle.turn_desk.specs.Lists.{total, times}
use Rattle.turn_desk.specs.Invariant.{times_in, Numbers}
use Rattle.turn_desk.specs.Plays.{parent, child, joined_view, spent}
use Rattle.turn_desk.proofs.Sums.{total-append, total-set, total-same, term_le, terms_le, each_set}
use Rattle.turn_desk.proofs.Entries.{equal, unequal, times-here, times-append}

module _ {E : Type 0} where
  abbrev pub first_number : List (ℕ × List E) → ℕ
  first_number [] = 0
  first_number (x ∷ xs) = x.0

  abbrev pub Root : ℕ → View E → Type 0
  Root made v = (own : List E) (more : List (ℕ × List E)) → v.by_number ≡ (0, own) ∷ more → v.made ≡ made

  module _ (made : ℕ) (views : List (View E)) (ss : Numbers made views) where
    pub once : (k : ℕ) → total (times_in k) views ≤ 1
    once k = dite (dec_lt k made) (λ lt. omega (arith, ss.each k lt)) (λ ge. omega (arith, ss.others k (omega arith)))

    pub numbers_stay : (id : ℕ) (v w : View E) → get_elem? views id ≡ some v → ((k : ℕ) → times k w.by_number ≡ times k v.by_number) → Root made w → Numbers made (set views id w)
    numbers_stay id v w at same root = record {
      each = λ k lt. total-same (times_in k) views id v w at (same k) ∙ ss.each k lt;
      others = λ k ge. total-same (times_in k) views id v w at (same k) ∙ ss.others k ge;
      root = each_set (Root made) views id w (λ j u apart there. ss.root j u there) root;
      count = omega (arith, length-set views id w, ss.count);
      bound = ss.bound;
    }

    pub numbers_same : (id : ℕ) (v w : View E) → get_elem? views id ≡ some v → w.by_number ≡ v.by_number → w.made ≡ v.made → Numbers made (set views id w)
    numbers_same id v w at held count = numbers_stay id v w at (λ k. ap (times k) held) (λ own more e. count ∙ ss.root id v at own more (sym held ∙ e))

    pub numbers_split : (id : ℕ) (v : View E) (own : List E) (more : List (ℕ × List E)) → get_elem? views id ≡ some v → v.by_number ≡ (0, own) ∷ more → v.made + 1 < 2 ^ 32 → Numbers (made + 1) (set views id (parent v) ++ child v ∷ [])
    numbers_split id v own more at held bound =
        let is : v.made ≡ made = ss.root id v at own more held in
        let after : List (View E) = set views id (parent v) in
        let zeroth : 1 ≤ times 0 v.by_number = omega (arith, ap (times 0) held, times-here 0 own more) in
        let some_made : 0 < made = dite (dec_lt 0 made) (λ lt. lt) (λ ge. absurd (omega (arith, ss.others 0 (omega arith), term_le (times_in 0) views id v at))) in
        let sum : (k : ℕ) → total (times_in k) (after ++ child v ∷ []) ≡ total (times_in k) views + cond {A = ℕ} (eqb v.made k) 1 0 = λ k. omega (arith, total-append (times_in k) after (child v ∷ []), total-same (times_in k) views id v (parent v) at refl) in
        record {
          each = λ k lt. dite (ℕ_discrete v.made k) (λ e. omega (arith, sum k, equal v.made k e, ss.others k (omega arith))) (λ n. omega (arith, sum k, unequal v.made k n, ss.each k (omega arith)));
          others = λ k ge. omega (arith, sum k, unequal v.made k (λ e. omega arith), ss.others k (omega arith));
          root = λ j u e. ⊎_elim
              (λ (there : get_elem? after j ≡ some u). each_set (Root (made + 1)) views id (parent v)
              (λ i y apart at' own' more' held'. absurd (omega (arith, terms_le (times_in 0) views id i v y apart at at', once 0, zeroth, ap (times 0) held', times-here 0 own' more')))
              (λ own' more' held'. ap (λ n. n + 1) is) j u there)
              (λ (same : child v ≡ u). subst (Root (made + 1)) same (λ own' more' held'. let z : v.made ≡ 0 = ap first_number held' in absurd (omega arith)))
              (at_snoc after (child v) u j e);
          count = omega (arith, length-append after (child v ∷ []), length-set views id (parent v), ss.count);
          bound = omega arith;
        }

    pub numbers_join : (id other : ℕ) (v w : View E) (number : ℕ) (own : List E) (more : List (ℕ × List E)) → get_elem? views id ≡ some v → other ≢ id → get_elem? (set views id (joined_view v w)) other ≡ some w → v.by_number ≡ (number, own) ∷ more
        → Numbers made (set (set views id (joined_view v w)) other spent)
    numbers_join id other v w number own more at apart there held =
        let both : List (View E) = set views id (joined_view v w) in
        let sum : (k : ℕ) → total (times_in k) (set both other spent) ≡ total (times_in k) views = λ k. omega (arith, total-set (times_in k) views id v (joined_view v w) at, total-set (times_in k) both other w spent there, times-append k v.by_number w.by_number) in
        record {
          each = λ k lt. sum k ∙ ss.each k lt;
          others = λ k ge. sum k ∙ ss.others k ge;
          root = each_set (Root made) both other spent
              (λ j u _ e. each_set (Root made) views id (joined_view v w) (λ i y _ e'. ss.root i y e')
              (λ own' more' held'. let joined : (number, own) ∷ (more ++ w.by_number) ≡ (0, own') ∷ more' = ap (λ h. h ++ w.by_number) (sym held) ∙ held' in let z : number ≡ 0 = ap first_number joined in ss.root id v at own more (held ∙ ap (λ n. (n, own) ∷ more) z)) j u e)
              (λ own' more' held'. absurd (cc (held')));
          count = omega (arith, length-set both other spent, length-set views id (joined_view v w), ss.count);
          bound = ss.bound;
        }
