-- Whether all of some locks are held.
use Rattle.std.proofs.Common.{◌≡◌, ◌∙◌, ℕ, suc, ◌+◌, ◌<◌, ◌≤◌, ◌&&◌, length, drop, get_or, drop-cons, arith, true, false, List, sym, ap, refl}
use Rattle.std.proofs.lemmas.List.{drop_all}
use Rattle.expr_tree.specs.declared.sym.Sym.{Sym}
use Rattle.expr_tree.specs.Substitution.{among}
use Rattle.semantics.specs.Play.{all_among}

next_is : (locks held : List Sym) (i : ℕ) (lock : Sym) → i < length locks → all_among (drop i locks) held ≡ (among (get_or locks i lock) held && all_among (drop (i + 1) locks) held)
next_is locks held i lock within =
    let one : i + 1 ≡ suc i = omega arith in
    rw (one, drop-cons locks i lock within) refl

pub held_next : (locks held : List Sym) (i : ℕ) (lock : Sym) → i < length locks → among (get_or locks i lock) held ≡ true → all_among (drop i locks) held ≡ all_among locks held
    → all_among (drop (i + 1) locks) held ≡ all_among locks held
held_next locks held i lock within is so = ap (λ b. b && all_among (drop (i + 1) locks) held) (sym is) ∙ (sym (next_is locks held i lock within) ∙ so)

pub not_held : (locks held : List Sym) (i : ℕ) (lock : Sym) → i < length locks → among (get_or locks i lock) held ≡ false → all_among (drop i locks) held ≡ all_among locks held
    → false ≡ all_among locks held
not_held locks held i lock within is so = ap (λ b. b && all_among (drop (i + 1) locks) held) (sym is) ∙ (sym (next_is locks held i lock within) ∙ so)

pub all_held : (locks held : List Sym) (i : ℕ) → length locks ≤ i → all_among (drop i locks) held ≡ all_among locks held → true ≡ all_among locks held
all_held locks held i past so = ap (λ xs. all_among xs held) (sym (drop_all i locks past)) ∙ so
