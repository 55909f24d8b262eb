-- Elements that are symbols, one after the other.
use Rattle.std.proofs.Common.{◌≡◌, ℕ, suc, ◌+◌, ◌<◌, refl, ap, sym, ◌∙◌, Bool, true, false, List, [], ◌∷◌, ◌++◌, Option, Some, None, length, get_or, drop, drop-cons, add-one, append_assoc, append-nil}
use Rattle.expr_tree.specs.declared.sym.Sym.{Sym}
use Rattle.expr_tree.specs.Tree.{Tree, symbol, integer, string, normal}
use Rattle.expr_tree.proofs.Callers.{tree_steps}
use Rattle.semantics.specs.Scoping.{symbols_in}

-- what was made, before what the rest makes
abbrev pub behind : {X : Type 0} → List X → Option (List X) → Option (List X)
behind done None = None
behind done (Some more) = Some (done ++ more)

pub behind_nothing : {X : Type 0} (o : Option (List X)) → behind [] o ≡ o
behind_nothing None = refl
behind_nothing (Some more) = refl

pub behind_last : {X : Type 0} (done : List X) → behind done (Some []) ≡ Some done
behind_last done = ap Some (append-nil done)

pub next : {X : Type 0} (xs : List X) (i : ℕ) (x : X) → i < length xs → x ≡ get_or xs i x → drop i xs ≡ x ∷ drop (i + 1) xs
next xs i x p is = rw (drop-cons xs i x p, add-one) (ap (λ u. u ∷ drop (suc i) xs) (sym is))

pub one_more : {X : Type 0} (done : List X) (x : X) (o : Option (List X)) → behind done (elim o as (λ _. Option (List X)) [ None ↦ None | Some more ↦ Some (x ∷ more) ]) ≡ behind (done ++ x ∷ []) o
one_more done x None = refl
one_more done x (Some more) = ap Some (sym (append_assoc done (x ∷ []) more))

pub symbols_more : (items : List Tree) (i : ℕ) (e : Tree) (s : Sym) (done : List Sym) → i < length items → e ≡ get_or items i e → symbol s ≡ e
    → behind done (symbols_in (drop i items)) ≡ behind (done ++ s ∷ []) (symbols_in (drop (i + 1) items))
symbols_more items i e s done inside is named =
    ap (λ es. behind done (symbols_in es)) (next items i e inside is) ∙ ap (λ f. behind done (symbols_in (f ∷ drop (i + 1) items))) (sym named)
    ∙ one_more done s (symbols_in (drop (i + 1) items))

abbrev pub is_symbol : Tree → Bool
is_symbol (symbol s) = true
is_symbol e = false

pub symbols_stop : (items : List Tree) (i : ℕ) (e : Tree) (done : List Sym) → i < length items → e ≡ get_or items i e → is_symbol e ≡ false → behind done (symbols_in (drop i items)) ≡ None
symbols_stop items i e done inside is other = ap (λ es. behind done (symbols_in es)) (next items i e inside is) ∙ stops e other
  where
    stops : (e : Tree) → is_symbol e ≡ false → behind done (symbols_in (e ∷ drop (i + 1) items)) ≡ None
    stops (integer n) p = refl
    stops (string t) p = refl
    stops (symbol s) p = cc
    stops (normal h es) p = refl

pub ruleset symbol_steps = (tree_steps, behind_nothing, behind_last, symbols_more, symbols_stop)
