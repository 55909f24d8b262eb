-- What is left when the locks of a kernel are free.
use Rattle.std.proofs.Common.{◌≡◌, refl, sym, ap, ◌∙◌, ℕ, Bool, true, false, List, [], ◌∷◌, true≢false, eqb-true, eq-eqb}
use Rattle.std.specs.Prelude.{filter, not, cond, ◌==◌}
use Rattle.expr_tree.specs.declared.sym.Sym.{Sym}
use Rattle.crit_locks.specs.declared.held.Held.{Held}
use Rattle.crit_locks.specs.Holdings.{Holdings, locks_by, without}

step : (b : Bool) (h : Held) (xs ys : List Held) → xs ≡ ys → cond (not b) (h ∷ xs) xs ≡ elim b [ true ↦ ys | false ↦ h ∷ ys ]
step true h xs ys e = e
step false h xs ys e = ap (λ hs. h ∷ hs) e

pub left_by_filter : (k : ℕ) (hs : List Held) → filter (λ h. not (h.by == k)) hs ≡ without k hs
left_by_filter k [] = refl
left_by_filter k (h ∷ hs) = step (h.by == k) h (filter (λ x. not (x.by == k)) hs) (without k hs) (left_by_filter k hs)

-- a: the entry is the kernel's; b: the kernel is asked for; c: the entry is that of who is asked for
one : (a b c : Bool) (j : ℕ) (h : Held) (rest hs : List Held) → (h.by == j) ≡ c → (a ≡ true → c ≡ b) → (a ≡ false → b ≡ true → c ≡ false)
    → locks_by j rest ≡ elim b [ true ↦ [] | false ↦ locks_by j hs ]
    → locks_by j (elim a [ true ↦ rest | false ↦ h ∷ rest ])
    ≡ elim b [ true ↦ [] | false ↦ elim c [ true ↦ h.lock ∷ locks_by j hs | false ↦ locks_by j hs ] ]
one true true c j h rest hs is f g e = e
one true false true j h rest hs is f g e = absurd (true≢false (f refl))
one true false false j h rest hs is f g e = e
one false true true j h rest hs is f g e = absurd (true≢false (g refl refl))
one false true false j h rest hs is f g e = ap (λ b. elim b as (λ _. List Sym) [ true ↦ h.lock ∷ locks_by j rest | false ↦ locks_by j rest ]) is ∙ e
one false false c j h rest hs is f g e =
    ap (λ b. elim b as (λ _. List Sym) [ true ↦ h.lock ∷ locks_by j rest | false ↦ locks_by j rest ]) is
    ∙ ap (λ xs. elim c as (λ _. List Sym) [ true ↦ h.lock ∷ xs | false ↦ xs ]) e

other : (i j k : ℕ) → (i == k) ≡ false → (k == j) ≡ true → (c : Bool) → (i == j) ≡ c → c ≡ false
other i j k ne is false e = refl
other i j k ne is true e = absurd (true≢false (sym (eq-eqb i k (eqb-true i j e ∙ sym (eqb-true k j is))) ∙ ne))

pub left_by_each : (k j : ℕ) (hs : List Held) → locks_by j (without k hs) ≡ elim (k == j) [ true ↦ [] | false ↦ locks_by j hs ]
left_by_each k j [] = none (k == j)
  where
    none : (b : Bool) → ◌≡◌ {A = List Sym} [] (elim b [ true ↦ [] | false ↦ [] ])
    none true = refl
    none false = refl
left_by_each k j (h ∷ hs) =
    one (h.by == k) (k == j) (h.by == j) j h (without k hs) hs refl
    (λ is. ap (λ i. i == j) (eqb-true h.by k is))
    (λ ne is. other h.by j k ne is (h.by == j) refl)
    (left_by_each k j hs)

-- what is kept, where it is seen as h
pub left_as_seen : (k : ℕ) (hs gs : List Held) (room after : ℕ) (h : Holdings) → record { held = hs; room = room } ≡ h → gs ≡ without k hs → after ≡ room
    → ◌≡◌ {A = Holdings} (record { held = gs; room = after }) (record { held = without k h.held; room = h.room })
left_as_seen k hs gs room after h is rest same =
    λ i. record { held = (rest ∙ ap (λ x. without k x.held) is) i; room = (same ∙ ap (λ x. x.room) is) i }

pub left_by_each_as_seen : (k : ℕ) (hs gs : List Held) (room : ℕ) (h : Holdings) → record { held = hs; room = room } ≡ h → gs ≡ without k hs
    → (j : ℕ) → locks_by j gs ≡ elim (k == j) [ true ↦ [] | false ↦ locks_by j h.held ]
left_by_each_as_seen k hs gs room h is rest j = ap (locks_by j) (rest ∙ ap (λ x. without k x.held) is) ∙ left_by_each k j h.held
