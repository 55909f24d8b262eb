-- The parts of an iterator, one at a time.
use Rattle.std.proofs.Common.{◌≡◌, ◌∙◌, refl, sym, ap, ℤ, pos, Bool, true, false, List, [], ◌∷◌, Option, Some, None}
use Rattle.std.specs.Ordering.{int_eq}
use Rattle.expr_tree.specs.declared.sym.Sym.{Sym}
use Rattle.expr_tree.specs.Tree.{Tree, integer}
use Rattle.semantics.specs.Names.{Names}
use Rattle.semantics.specs.Program.{Prog}
use Rattle.semantics.specs.Control.{Values, up_to, unless_zero}
use Rattle.machine_iterators.specs.declared.parts.Known.{Known}
use Rattle.machine_iterators.specs.PartsAsked.{numbered, bound, and_then, asks, answered}

pub bound_number : (names : Names) (i : Option Sym) (z : ℤ) (k : Values → Prog) (stay : Prog) → bound names i (integer z) k stay ≡ k (up_to z)
bound_number names None z k stay = refl
bound_number names (Some i) z k stay = refl

pub step_goes : (d : ℤ) (k stay : Prog) → int_eq d (pos 0) ≡ false → unless_zero d k stay ≡ k
step_goes d k stay h = ap (λ (t : Bool). elim t as (λ _. Prog) [ true ↦ stay | false ↦ k ]) h

-- a number, where parts are left
pub number_goes : (names : Names) (i : Option Sym) (known next : Known) (es : List Tree) (v : Tree) (z : ℤ) (k : Values → Prog) (stay : Prog) → (es ≡ [] → ⊥) → v ≡ integer z → next ≡ and_then known z →
    answered names i known es v k stay ≡ asks names i next es k stay
number_goes names i known next [] v z k stay h is more = absurd (h refl)
number_goes names i known next (f ∷ es) v z k stay h is more =
    ap (λ (t : Tree). numbered t (λ n. asks names i (and_then known n) (f ∷ es) k stay) stay) is ∙ ap (λ (q : Known). asks names i q (f ∷ es) k stay) (sym more)
