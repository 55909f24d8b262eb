-- The shapes of an iterator.
use Rattle.std.proofs.Common.{◌≡◌, ◌∙◌, ◌<◌, ◌≤◌, refl, ap, subst, sym, ℕ, zero, suc, ◌-◌, take, false, length-drop, List, [], ◌∷◌, drop, get_or, length, Option, Some, arith}
use Rattle.std.specs.Prelude.{◌==◌}
use Rattle.std.proofs.lemmas.Bool.{false≢true}
use Rattle.std.proofs.lemmas.List.{take_all}
use Rattle.expr_tree.specs.declared.sym.Sym.{Sym}
use Rattle.expr_tree.specs.Tree.{Tree, symbol}
use Rattle.semantics.specs.Names.{Names}
use Rattle.semantics.specs.Program.{Prog}
use Rattle.semantics.specs.Control.{Values, iterator_parts}
use Rattle.machine_iterators.specs.declared.parts.Known.{Known}
use Rattle.machine_iterators.specs.PartsAsked.{opened, asks}

after_symbol : (i : Sym) (es : List Tree) → 0 < length es → length es ≤ 3 → (names : Names) (k : Option Sym → Values → Prog) (stay : Prog) →
    iterator_parts names (symbol i ∷ es) (λ i values parts. k i values) stay ≡ opened names (Some i) (asks names (Some i) Known.Nothing es (k (Some i)) stay)
after_symbol i [] m l names k stay = absurd (omega arith)
after_symbol i (a ∷ []) m l names k stay = refl
after_symbol i (a ∷ b ∷ []) m l names k stay = refl
after_symbol i (a ∷ b ∷ d ∷ []) m l names k stay = refl
after_symbol i (a ∷ b ∷ d ∷ f ∷ es) m l names k stay = absurd (omega arith)

-- the symbol is the first
symbol_first : (es : List Tree) (e : Tree) (i : Sym) → 1 < length es → length es ≤ 4 → e ≡ get_or es 0 e → e ≡ symbol i → (names : Names) (k : Option Sym → Values → Prog) (stay : Prog) →
    iterator_parts names es (λ i values parts. k i values) stay ≡ opened names (Some i) (asks names (Some i) Known.Nothing (drop 1 es) (k (Some i)) stay)
symbol_first [] e i m l at is names k stay = absurd (omega arith)
symbol_first (x ∷ es) e i m l at is names k stay =
    subst (λ (y : Tree). iterator_parts names (y ∷ es) (λ i values parts. k i values) stay ≡ opened names (Some i) (asks names (Some i) Known.Nothing es (k (Some i)) stay)) (sym is ∙ at) (after_symbol i es (omega arith) (omega arith) names k stay)

pub symbol_parts : (es ps : List Tree) (e : Tree) (i : Sym) → 1 < length es → length es ≤ 4 → e ≡ get_or es 0 e → e ≡ symbol i → ps ≡ drop 1 es → (names : Names) (k : Option Sym → Values → Prog) (stay : Prog) →
    iterator_parts names es (λ i values parts. k i values) stay ≡ opened names (Some i) (asks names (Some i) Known.Nothing ps (k (Some i)) stay)
symbol_parts es ps e i m l at is behind names k stay =
    symbol_first es e i m l at is names k stay ∙ ap (λ (xs : List Tree). opened names (Some i) (asks names (Some i) Known.Nothing xs (k (Some i)) stay)) (sym behind)

pub nonempty : (n : ℕ) → false ≡ (n == 0) → 0 < n
nonempty zero h = absurd (false≢true h)
nonempty (suc n) h = omega arith

-- all behind the first n
pub rest_of : (n : ℕ) (es : List Tree) → take (length es - n) (drop n es) ≡ drop n es
rest_of n es = take_all (length es - n) (drop n es) (omega (arith, length-drop n es))
