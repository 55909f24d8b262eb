-- What is told of heads, in parts.
use Rattle.std.proofs.Common.{◌≡◌, ◌∙◌, ℕ, zero, suc, ◌<◌, List, [], ◌∷◌, ◌++◌, length, drop, get_or, true, if◌then◌else◌, ap, sym, refl, append_assoc, append-nil, arith}
use Rattle.expr_tree.specs.Same.{symbol_eq}
use Rattle.expr_tree.specs.declared.sym.Sym.{Sym}
use Rattle.expr_tree.specs.declared.attrs.Attrs.{Attrs}
use Rattle.expr_tree.proofs.Callers.{tree_steps}
use Rattle.rule_frames.specs.Told.{attrs_in, told_of}

pub told-append : (A : Sym → Attrs) (ss ts : List Sym) → told_of A (ss ++ ts) ≡ told_of A ss ++ told_of A ts
told-append A [] ts = refl
told-append A (s ∷ ss) ts = ap (λ xs. (s, A s) ∷ xs) (told-append A ss ts)

pub ruleset head_steps = (tree_steps, told-append, append_assoc, append-nil)

-- the first that is told of a symbol
pub attrs_found : (xs : List (Sym × Attrs)) (i : ℕ) (d : Sym × Attrs) (s : Sym) → i < length xs → symbol_eq (get_or xs i d).0 s ≡ true → (get_or xs i d).1 ≡ attrs_in (drop i xs) s
attrs_found [] i d s inside e = absurd (omega (arith, inside))
attrs_found (x ∷ xs) zero d s inside e = sym (ap (λ b. if b then x.1 else attrs_in xs s) e)
attrs_found (x ∷ xs) (suc i) d s inside e = attrs_found xs i d s (omega (arith, inside)) e

-- the same, of a list that is equal
pub attrs_found_in : (xs ys : List (Sym × Attrs)) (i : ℕ) (d : Sym × Attrs) (s : Sym) → ys ≡ xs → i < length ys → symbol_eq (get_or ys i d).0 s ≡ true → (get_or ys i d).1 ≡ attrs_in (drop i xs) s
attrs_found_in xs ys i d s is inside e = attrs_found ys i d s inside e ∙ ap (λ zs. attrs_in (drop i zs) s) is
