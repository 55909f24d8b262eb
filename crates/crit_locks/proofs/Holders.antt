-- Who is said to hold a lock holds it.
use Rattle.std.proofs.Common.{◌≡◌, refl, ap, ◌∙◌, ℕ, Bool, true, false, List, [], ◌∷◌, Option, Some, None, eq-eqb}
use Rattle.std.specs.Prelude.{◌==◌, ◌||◌, MatchOption}
use Rattle.expr_tree.specs.declared.sym.Sym.{Sym}
use Rattle.expr_tree.specs.Same.{symbol_eq}
use Rattle.expr_tree.specs.Substitution.{among}
use Rattle.crit_locks.specs.declared.held.Held.{Held}
use Rattle.crit_locks.specs.Holdings.{locks_by, holder_of}

-- the answer is right
abbrev Tells : List Held → Sym → Option ℕ → Type 0
Tells hs l o = MatchOption o ((k : ℕ) → among l (locks_by k hs) ≡ false) (λ k. among l (locks_by k hs) ≡ true)

passed : (b : Bool) (l m : Sym) (xs : List Sym) → symbol_eq l m ≡ false → among l (elim b as (λ _. List Sym) [ true ↦ m ∷ xs | false ↦ xs ]) ≡ among l xs
passed true l m xs e = ap (λ s. s || among l xs) e
passed false l m xs e = refl

found : (l : Sym) (h : Held) (hs : List Held) → symbol_eq l h.lock ≡ true → among l (locks_by h.by (h ∷ hs)) ≡ true
found l h hs e =
    ap (λ b. among l (elim b as (λ _. List Sym) [ true ↦ h.lock ∷ locks_by h.by hs | false ↦ locks_by h.by hs ])) (eq-eqb h.by h.by refl)
    ∙ ap (λ s. s || among l (locks_by h.by hs)) e

later : (l : Sym) (h : Held) (hs : List Held) (o : Option ℕ) → symbol_eq l h.lock ≡ false → Tells hs l o → Tells (h ∷ hs) l o
later l h hs None e t = λ k. passed (h.by == k) l h.lock (locks_by k hs) e ∙ t k
later l h hs (Some k) e t = passed (h.by == k) l h.lock (locks_by k hs) e ∙ t

step : (l : Sym) (h : Held) (hs : List Held) (b : Bool) (o : Option ℕ) → symbol_eq l h.lock ≡ b → Tells hs l o
    → Tells (h ∷ hs) l (elim b as (λ _. Option ℕ) [ true ↦ Some h.by | false ↦ o ])
step l h hs true o e t = found l h hs e
step l h hs false o e t = later l h hs o e t

pub holder_is_told : (hs : List Held) (l : Sym)
    → MatchOption (holder_of hs l) ((k : ℕ) → among l (locks_by k hs) ≡ false) (λ k. among l (locks_by k hs) ≡ true)
holder_is_told [] l = λ k. refl
holder_is_told (h ∷ hs) l = step l h hs (symbol_eq l h.lock) (holder_of hs l) refl (holder_is_told hs l)
