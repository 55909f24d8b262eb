-- The shapes of an iterator, and of forms.
use Rattle.std.proofs.Common.{◌≡◌, ◌∙◌, ◌<◌, ◌≤◌, refl, ap, subst, sym, ℕ, zero, suc, ◌+◌, ◌-◌, ℤ, pos, take, Bool, true, false, length-drop, List, [], ◌∷◌, ◌++◌, drop, drop-cons, add-one, get_or, length, Option, Some, None, arith}
use Rattle.std.specs.Prelude.{◌==◌, not, is_some}
use Rattle.std.specs.Ordering.{int_eq}
use Rattle.std.proofs.lemmas.Bool.{false≢true}
use Rattle.std.proofs.lemmas.List.{take_all}
use Rattle.expr_tree.specs.declared.sym.Sym.{Sym}
use Rattle.expr_tree.specs.Tree.{Tree, Trees, integer, string, symbol, normal, trees}
use Rattle.semantics.specs.Names.{Names}
use Rattle.semantics.specs.Program.{Prog, Ask}
use Rattle.semantics.specs.Scoping.{symbols_in}
use Rattle.semantics.specs.Control.{Values, iterator_parts, bound_or_list, unless_zero, unless_shared}
use Rattle.semantics.specs.Sections.{are_symbols, is_object}
use Rattle.machine_outward.specs.Loops.{opened, answered, asks, last_part, numbered}

flips : (b : Bool) (x y : Prog) → (elim b as (λ _. Prog) [ true ↦ x | false ↦ y ]) ≡ (elim (not b) as (λ _. Prog) [ true ↦ y | false ↦ x ])
flips true x y = refl
flips false x y = refl

module _ (names : Names) (i : Sym) (k : List Tree → Prog) (stay : Prog) where
  only : (v : Tree) → bound_or_list names v (λ values. k (symbol i ∷ v ∷ [])) stay ≡ last_part names (Some i) [] v k stay
  only (integer n) = refl
  only (string t) = refl
  only (symbol s) = refl
  only (normal h es) = refl

  second : (m : ℤ) (v : Tree) → numbered v (λ n. k (symbol i ∷ integer m ∷ integer n ∷ [])) stay ≡ last_part names (Some i) (integer m ∷ []) v k stay
  second m (integer n) = refl
  second m (string t) = refl
  second m (symbol s) = refl
  second m (normal h es) = refl

  third : (m n : ℤ) (v : Tree) → numbered v (λ by. unless_zero by (k (symbol i ∷ integer m ∷ integer n ∷ integer by ∷ [])) stay) stay ≡ last_part names (Some i) (integer m ∷ integer n ∷ []) v k stay
  third m n (integer d) = flips (int_eq d (pos 0)) stay (k (symbol i ∷ integer m ∷ integer n ∷ integer d ∷ []))
  third m n (string t) = refl
  third m n (symbol s) = refl
  third m n (normal h es) = refl

  after_symbol : (es : List Tree) → 0 < length es → length es ≤ 3 → iterator_parts names (symbol i ∷ es) (λ i values parts. k parts) stay ≡ opened names (Some i) (asks names (Some i) [] es k stay)
  after_symbol [] m l = absurd (omega arith)
  after_symbol (a ∷ []) m l = λ j. unless_shared names i (Ask a (λ v. only v j))
  after_symbol (a ∷ b ∷ []) m l = λ j. unless_shared names i (Ask a (λ v. numbered v (λ m. Ask b (λ w. second m w j)) stay))
  after_symbol (a ∷ b ∷ d ∷ []) m l = λ j. unless_shared names i (Ask a (λ v. numbered v (λ m. Ask b (λ w. numbered w (λ n. Ask d (λ x. third m n x j)) stay)) stay))
  after_symbol (a ∷ b ∷ d ∷ f ∷ es) m l = absurd (omega arith)

-- the symbol is the first
symbol_first : (es : List Tree) (e : Tree) (i : Sym) → 1 < length es → length es ≤ 4 → e ≡ get_or es 0 e → e ≡ symbol i → (names : Names) (k : List Tree → Prog) (stay : Prog) →
    iterator_parts names es (λ i values parts. k parts) stay ≡ opened names (Some i) (asks names (Some i) [] (drop 1 es) k stay)
symbol_first [] e i m l at is names k stay = absurd (omega arith)
symbol_first (x ∷ es) e i m l at is names k stay =
    subst (λ (y : Tree). iterator_parts names (y ∷ es) (λ i values parts. k parts) stay ≡ opened names (Some i) (asks names (Some i) [] es k stay)) (sym is ∙ at) (after_symbol names i k stay es (omega arith) (omega arith))

pub symbol_parts : (es ps : List Tree) (e : Tree) (i : Sym) → 1 < length es → length es ≤ 4 → e ≡ get_or es 0 e → e ≡ symbol i → ps ≡ drop 1 es → (names : Names) (k : List Tree → Prog) (stay : Prog) →
    iterator_parts names es (λ i values parts. k parts) stay ≡ opened names (Some i) (asks names (Some i) [] ps k stay)
symbol_parts es ps e i m l at is behind names k stay =
    symbol_first es e i m l at is names k stay ∙ ap (λ (xs : List Tree). opened names (Some i) (asks names (Some i) [] xs k stay)) (sym behind)

pub nonempty : (n : ℕ) → false ≡ (n == 0) → 0 < n
nonempty zero h = absurd (false≢true h)
nonempty (suc n) h = omega arith

-- all behind the first n
pub rest_of : (n : ℕ) (es : List Tree) → take (length es - n) (drop n es) ≡ drop n es
rest_of n es = take_all (length es - n) (drop n es) (omega (arith, length-drop n es))

-- ---- elements that are symbols

symbols_cons : (s : Sym) (es : List Tree) (o : Option (List Sym)) → is_some (elim o as (λ _. Option (List Sym)) [ None ↦ None | Some ss ↦ Some (s ∷ ss) ]) ≡ is_some o
symbols_cons s es None = refl
symbols_cons s es (Some ss) = refl

next : (xs : List Tree) (i : ℕ) (x : Tree) → i < length xs → x ≡ get_or xs i x → drop i xs ≡ x ∷ drop (i + 1) xs
next xs i x p is = rw (drop-cons xs i x p, add-one) (ap (λ u. u ∷ drop (suc i) xs) (sym is))

pub symbols_more : (items : List Tree) (i : ℕ) (e : Tree) (s : Sym) → i < length items → e ≡ get_or items i e → e ≡ symbol s → are_symbols (drop i items) ≡ are_symbols (drop (i + 1) items)
symbols_more items i e s inside is named =
    ap are_symbols (next items i e inside is) ∙ ap (λ f. are_symbols (f ∷ drop (i + 1) items)) named ∙ symbols_cons s (drop (i + 1) items) (symbols_in (drop (i + 1) items))

abbrev is_symbol : Tree → Bool
is_symbol (symbol s) = true
is_symbol e = false

pub symbols_stop : (items : List Tree) (i : ℕ) (e : Tree) → i < length items → e ≡ get_or items i e → is_symbol e ≡ false → are_symbols (drop i items) ≡ false
symbols_stop items i e inside is other = ap are_symbols (next items i e inside is) ∙ stops e other
  where
    stops : (e : Tree) → is_symbol e ≡ false → are_symbols (e ∷ drop (i + 1) items) ≡ false
    stops (integer n) p = refl
    stops (string t) p = refl
    stops (symbol s) p = cc
    stops (normal h es) p = refl

pub ruleset symbol_steps = (symbols_more, symbols_stop)

-- ---- the number of elements of an object

pub many_no_object : (names : Names) (h : Tree) (es : List Tree) → 2 ≤ length es → is_object names h (trees es) ≡ false
many_no_object names h [] many = absurd (omega (arith, many))
many_no_object names h (x ∷ []) many = absurd (omega (arith, many))
many_no_object names h (integer n ∷ y ∷ es) many = refl
many_no_object names h (string t ∷ y ∷ es) many = refl
many_no_object names h (symbol s ∷ y ∷ es) many = refl
many_no_object names h (normal g fs ∷ y ∷ es) many = refl

-- ---- a number, where parts are left

pub number_goes : (names : Names) (i : Option Sym) (known next es : List Tree) (v : Tree) (z : ℤ) (k : List Tree → Prog) (stay : Prog) → (es ≡ [] → ⊥) → v ≡ integer z → next ≡ known ++ v ∷ [] →
    answered names i known es v k stay ≡ asks names i next es k stay
number_goes names i known next [] v z k stay some is more = absurd (some refl)
number_goes names i known next (f ∷ es) v z k stay some is more =
    ap (λ (t : Tree). numbered t (λ n. asks names i (known ++ integer n ∷ []) (f ∷ es) k stay) stay) is
    ∙ (λ j. asks names i (known ++ sym is j ∷ []) (f ∷ es) k stay) ∙ ap (λ q. asks names i q (f ∷ es) k stay) (sym more)
