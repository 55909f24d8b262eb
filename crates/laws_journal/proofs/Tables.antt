-- Truth values, symbols, and lists read and written by place.
use Rattle.std.proofs.Common.{◌≡◌, refl, sym, ap, subst, ◌∙◌, ℕ, zero, suc, ◌+◌, Bool, true, false, List, [], ◌∷◌, Option, Some, None, T, true≢false, eq-eqb, eqb-true, arith, inl, inr}
use Rattle.std.specs.Prelude.{◌&&◌, ◌||◌, not, ◌==◌, ◌⊎◌}
use Rattle.std.specs.declared.cmp.Ordering.{Ordering}
use Rattle.std.specs.declared.cmp.Ordering.TheVariants.{Less, Equal, Greater}
use Rattle.std.specs.Ordering.{is_eq, nat_cmp, ordering_then}
use Rattle.std.specs.Cmp.{ranked}
use Rattle.expr_tree.specs.declared.sym.Sym.{Sym}
use Rattle.expr_tree.specs.Order.{symbol_cmp, same_symbol}
use Rattle.journal.specs.Places.{nth, change_at, each_from, is_some, given, when}

pub both : (a b : Bool) → (a && b) ≡ true → (a ≡ true) × (b ≡ true)
both true true e = (refl, refl)
both true false e = absurd (true≢false (sym e))
both false b e = absurd (true≢false (sym e))

pub either : (a b : Bool) → (a || b) ≡ true → (a ≡ true) ⊎ (b ≡ true)
either true b e = inl refl
either false b e = inr e

pub or_left : (a b : Bool) → a ≡ true → (a || b) ≡ true
or_left a b e = subst (λ x. (x || b) ≡ true) (sym e) refl

pub or_right : (a b : Bool) → b ≡ true → (a || b) ≡ true
or_right true b e = refl
or_right false b e = e

pub is_not : (a : Bool) → not a ≡ true → a ≡ false
is_not true e = absurd (true≢false (sym e))
is_not false e = refl

pub none≢some : {A : Type 0} {a : A} → ◌≡◌ {A = Option A} None (Some a) → ⊥
none≢some e = true≢false (sym (ap is_some e))

pub some_is : {A : Type 0} {a b : A} → ◌≡◌ {A = Option A} (Some a) (Some b) → a ≡ b
some_is {a = a} e = ap (λ o. elim o [ None ↦ a | Some x ↦ x ]) e

pub opened : {A B : Type 0} (o : Option A) (k : A → Option B) (b : B) → given o k ≡ Some b → (a : A) × (o ≡ Some a) × (k a ≡ Some b)
opened None k b e = absurd (none≢some e)
opened (Some a) k b e = (a, refl, e)

pub when_some : {A : Type 0} (b : Bool) (o : Option A) (a : A) → when b o ≡ Some a → (b ≡ true) × (o ≡ Some a)
when_some true o a e = (refl, e)
when_some false o a e = absurd (none≢some e)

-- what was allowed
pub split : {A : Type 0} (b : Bool) (x : Option A) (y : A) → elim b [ true ↦ x | false ↦ None ] ≡ Some y → (b ≡ true) × (x ≡ Some y)
split true x y e = (refl, e)
split false x y e = absurd (none≢some e)

pub apart : (m n : ℕ) → (m == n) ≡ false → m ≡ n → ⊥
apart m n e same = true≢false (sym (eq-eqb m n same) ∙ e)

-- ---- symbols

pub second_equal : (a b : Ordering) → ordering_then a b ≡ Equal → (a ≡ Equal) × (b ≡ Equal)
second_equal Less b e = absurd (subst (λ o. T (is_eq o)) (sym e) tt)
second_equal Equal b e = (refl, e)
second_equal Greater b e = absurd (subst (λ o. T (is_eq o)) (sym e) tt)

pub is_equal : (o : Ordering) → is_eq o ≡ true → o ≡ Equal
is_equal Less e = absurd (true≢false (sym e))
is_equal Equal e = refl
is_equal Greater e = absurd (true≢false (sym e))

pub same_symbol-eq : (s t : Sym) → same_symbol s t ≡ true → s ≡ t
same_symbol-eq s t e =
    let parts = both (s.base == t.base) (s.number == t.number) e in
    λ i. record { base = eqb-true s.base t.base parts.0 i; number = eqb-true s.number t.number parts.1 i }

pub same_symbol-self : (s : Sym) → same_symbol s s ≡ true
same_symbol-self s = ap (λ b. b && (s.number == s.number)) (eq-eqb s.base s.base refl) ∙ eq-eqb s.number s.number refl

pub equal_symbols : (s t : Sym) → symbol_cmp s t ≡ Equal → s ≡ t
equal_symbols s t e =
    let parts = second_equal (nat_cmp s.base t.base) (nat_cmp s.number t.number) e in
    λ i. record { base = ranked s.base t.base Equal (sym parts.0) i; number = ranked s.number t.number Equal (sym parts.1) i }

-- ---- places

pub change_other : {A : Type 0} (j k : ℕ) (f : A → A) (xs : List A) → (j ≡ k → ⊥) → nth (change_at j f xs) k ≡ nth xs k
change_other j k f [] ne = refl
change_other zero zero f (x ∷ xs) ne = absurd (ne refl)
change_other zero (suc k) f (x ∷ xs) ne = refl
change_other (suc j) zero f (x ∷ xs) ne = refl
change_other (suc j) (suc k) f (x ∷ xs) ne = change_other j k f xs (λ e. ne (ap suc e))

pub change_same : {A : Type 0} (k : ℕ) (f : A → A) (xs : List A) (x : A) → nth xs k ≡ Some x → nth (change_at k f xs) k ≡ Some (f x)
change_same k f [] x e = absurd (none≢some e)
change_same zero f (y ∷ xs) x e = ap (λ o. elim o [ None ↦ None | Some z ↦ Some (f z) ]) e
change_same (suc k) f (y ∷ xs) x e = change_same k f xs x e

pub each_nth : {A : Type 0} (n m : ℕ) (f : ℕ → A → A) (xs : List A) → nth (each_from n f xs) m ≡ elim (nth xs m) [ None ↦ None | Some x ↦ Some (f (n + m) x) ]
each_nth n m f [] = refl
each_nth n zero f (x ∷ xs) = ap (λ k. Some (f k x)) (omega arith)
each_nth n (suc m) f (x ∷ xs) = each_nth (suc n) m f xs ∙ ap (λ k. elim (nth xs m) [ None ↦ None | Some y ↦ Some (f k y) ]) (omega arith)
