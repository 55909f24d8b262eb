-- What the comparisons call the same is equal.
use Rattle.std.proofs.Common.{◌≡◌, refl, sym, ap, subst, ℕ, Bool, true, false, List, [], ◌∷◌, T, true≢false, eqb-true}
use Rattle.std.specs.Prelude.{◌==◌}
use Rattle.std.specs.declared.cmp.Ordering.TheVariants.{Less, Equal, Greater}
use Rattle.std.specs.Ordering.{is_eq, nat_cmp}
use Rattle.std.specs.Cmp.{ranked}
use Rattle.expr_tree.specs.declared.sym.Sym.{Sym}
use Rattle.expr_tree.specs.Tree.{Tree}
use Rattle.expr_tree.specs.Order.{text_cmp, same, same_symbol}
use Rattle.expr_tree.proofs.Same.{tree_eq-true}
use Rattle.semantics.specs.Eval.{same_symbols}
use Rattle.journal.specs.declared.event.Wait.{Wait}
use Rattle.journal.specs.declared.event.Event.{Event}
use Rattle.journal.specs.Run.{same_ids, same_wait, is_event}
use Rattle.laws_journal.proofs.Tables.{both, second_equal, is_equal, same_symbol-eq}

less_not : Less ≡ Equal → ⊥
less_not e = subst (λ o. T (is_eq o)) (sym e) tt

greater_not : Greater ≡ Equal → ⊥
greater_not e = subst (λ o. T (is_eq o)) (sym e) tt

nats : (m n : ℕ) → nat_cmp m n ≡ Equal → m ≡ n
nats m n e = ranked m n Equal (sym e)

texts : (s t : List ℕ) → text_cmp s t ≡ Equal → s ≡ t
texts [] [] e = refl
texts [] (d ∷ t) e = absurd (less_not e)
texts (c ∷ s) [] e = absurd (greater_not e)
texts (c ∷ s) (d ∷ t) e =
    let parts = second_equal (nat_cmp c d) (text_cmp s t) e in
    let rest = texts s t parts.1 in
    λ i. nats c d parts.0 i ∷ rest i

pub same-eq : (a b : Tree) → same a b ≡ true → a ≡ b
same-eq a b e = tree_eq-true a b e

pub same_text-eq : (s t : List ℕ) → is_eq (text_cmp s t) ≡ true → s ≡ t
same_text-eq s t e = texts s t (is_equal (text_cmp s t) e)

pub same_symbols-eq : (ss ts : List Sym) → same_symbols ss ts ≡ true → ss ≡ ts
same_symbols-eq [] [] e = refl
same_symbols-eq [] (t ∷ ts) e = absurd (true≢false (sym e))
same_symbols-eq (s ∷ ss) [] e = absurd (true≢false (sym e))
same_symbols-eq (s ∷ ss) (t ∷ ts) e =
    let parts = both (same_symbol s t) (same_symbols ss ts) e in
    let first = same_symbol-eq s t parts.0 in
    let rest = same_symbols-eq ss ts parts.1 in
    λ i. first i ∷ rest i

same_ids-eq : (ms ns : List ℕ) → same_ids ms ns ≡ true → ms ≡ ns
same_ids-eq [] [] e = refl
same_ids-eq [] (n ∷ ns) e = absurd (true≢false (sym e))
same_ids-eq (m ∷ ms) [] e = absurd (true≢false (sym e))
same_ids-eq (m ∷ ms) (n ∷ ns) e = go (m == n) refl e (same_ids-eq ms ns)
  where
    go : (a : Bool) → (m == n) ≡ a → elim a [ true ↦ same_ids ms ns | false ↦ false ] ≡ true → (same_ids ms ns ≡ true → ms ≡ ns) → ◌≡◌ {A = List ℕ} (m ∷ ms) (n ∷ ns)
    go true a h next = λ i. eqb-true m n a i ∷ next h i
    go false a h next = absurd (true≢false (sym h))

same_wait-eq : (v w : Wait) → same_wait v w ≡ true → v ≡ w
same_wait-eq (Wait.All is) (Wait.All js) e = ap Wait.All (same_ids-eq is js e)
same_wait-eq (Wait.Next is) (Wait.Next js) e = ap Wait.Next (same_ids-eq is js e)
same_wait-eq (Wait.Try is) (Wait.Try js) e = ap Wait.Try (same_ids-eq is js e)
same_wait-eq (Wait.Locks ls) (Wait.Locks ms) e = ap Wait.Locks (same_symbols-eq ls ms e)
same_wait-eq _ _ e = absurd (true≢false (sym e))

pub is_event-eq : (e f : Event) → is_event e f ≡ true → e ≡ f
is_event-eq (Event.Submit i) (Event.Submit j) e = ap Event.Submit (eqb-true i j e)
is_event-eq (Event.Yield v) (Event.Yield w) e = ap Event.Yield (same_wait-eq v w e)
is_event-eq Event.Resume Event.Resume e = refl
is_event-eq (Event.Ask m) (Event.Ask n) e = ap Event.Ask (eqb-true m n e)
is_event-eq (Event.Print t) (Event.Print u) e = ap Event.Print (same_text-eq t u e)
is_event-eq (Event.Enter ls) (Event.Enter ms) e = ap Event.Enter (same_symbols-eq ls ms e)
is_event-eq Event.Leave Event.Leave e = refl
is_event-eq Event.Close Event.Close e = refl
is_event-eq _ _ e = absurd (true≢false (sym e))
