-- The values of an iterator whose last part is a number.
use Rattle.std.proofs.Common.{◌≡◌, ◌∙◌, ap, subst, sym, refl, ℤ, pos, Bool, true, false, [], Option, None}
use Rattle.std.specs.Prelude.{IfOk, Result}
use Rattle.std.specs.declared.alloc.AllocError.{AllocError}
use Rattle.std.specs.Ordering.{int_eq}
use Rattle.std.proofs.lemmas.Bool.Decides.{Decides-int_eq}
use Rattle.expr_tree.specs.Tree.{Tree, integer}
use Rattle.semantics.specs.Names.{Names}
use Rattle.semantics.specs.Program.{Prog}
use Rattle.semantics.specs.Control.{From, steps_to}
use Rattle.semantics.specs.Lists.{count_up}
use Rattle.machine_iterators.specs.declared.body.Body.{Body}
use Rattle.machine_iterators.specs.declared.iterator_values.IteratorValues.{IteratorValues}
use Rattle.machine_iterators.specs.declared.parts.Known.{Known}
use Rattle.machine_iterators.specs.PartsAsked.{last_part}
use Rattle.machine_iterators.specs.IterationLeft.{values_in, goes, left_turns}
use Rattle.machine_iterators.specs.declared.parts.Found.{Found}
use Rattle.machine_iterators.specs.Found.{Finds}
use Rattle.machine_iterators.proofs.Walking.{walks_numbers}
use Rattle.machine_iterators.proofs.Asking.{bound_number, step_goes}

pub from_one : (names : Names) (b : Body) (known : Known) (z y : ℤ) (stay : Prog) (w : IteratorValues) → known ≡ Known.Nothing → y ≡ z → values_in w ≡ count_up (pos 1) (pos 1) (steps_to (pos 1) y (pos 1)) →
    last_part names b.symbol known (integer z) (goes names b) stay ≡ left_turns names b (record { values = w; done = [] }) None
from_one names b known z y stay w is same vals =
    ap (λ (k : Known). last_part names b.symbol k (integer z) (goes names b) stay) is
    ∙ (bound_number names b.symbol z (goes names b) stay ∙ walks_numbers names b w (pos 1) (pos 1) (steps_to (pos 1) z (pos 1)) (vals ∙ ap (λ (x : ℤ). count_up (pos 1) (pos 1) (steps_to (pos 1) x (pos 1))) same))

pub from_start : (names : Names) (b : Body) (known : Known) (a x z y : ℤ) (stay : Prog) (w : IteratorValues) → known ≡ Known.Start a → x ≡ a → y ≡ z → values_in w ≡ count_up x (pos 1) (steps_to x y (pos 1)) →
    last_part names b.symbol known (integer z) (goes names b) stay ≡ left_turns names b (record { values = w; done = [] }) None
from_start names b known a x z y stay w is at same vals =
    ap (λ (k : Known). last_part names b.symbol k (integer z) (goes names b) stay) is
    ∙ walks_numbers names b w a (pos 1) (steps_to a z (pos 1)) (vals ∙ (λ i. count_up (at i) (pos 1) (steps_to (at i) (same i) (pos 1))))

pub by_steps : (names : Names) (b : Body) (known : Known) (a x e y d z : ℤ) (stay : Prog) (w : IteratorValues) → known ≡ Known.Span a e → x ≡ a → y ≡ e → z ≡ d → int_eq d (pos 0) ≡ false → values_in w ≡ count_up x z (steps_to x y z) →
    last_part names b.symbol known (integer d) (goes names b) stay ≡ left_turns names b (record { values = w; done = [] }) None
by_steps names b known a x e y d z stay w is at to by not_zero vals =
    ap (λ (k : Known). last_part names b.symbol k (integer d) (goes names b) stay) is
    ∙ (step_goes d (goes names b (From a d (steps_to a e d))) stay not_zero
    ∙ walks_numbers names b w a d (steps_to a e d) (vals ∙ (λ i. count_up (at i) (by i) (steps_to (at i) (to i) (by i)))))

fails : {P : Type 0} (t : Bool) → (t ≡ true → P) → (P → ⊥) → t ≡ false
fails true f h = absurd (h (f refl))
fails false f h = refl

pub not_zero : (d : ℤ) → (d ≡ pos 0 → ⊥) → int_eq d (pos 0) ≡ false
not_zero d h = fails (int_eq d (pos 0)) (Decides-int_eq d (pos 0)).0 h

pub finds_as : {names : Names} {b : Body} {p q stay : Prog} {f : Found} {rest : Option Tree → Prog} → p ≡ q → Finds names b q stay f rest → Finds names b p stay f rest
finds_as {names = names} {b = b} {stay = stay} {f = f} {rest = rest} e s = subst (λ (x : Prog). Finds names b x stay f rest) (sym e) s

pub found_as : (names : Names) (b : Body) (p q stay : Prog) (r : Result Found AllocError) (rest : Option Tree → Prog) → p ≡ q → IfOk r (λ f. Finds names b q stay f rest) → IfOk r (λ f. Finds names b p stay f rest)
found_as names b p q stay r rest e s = subst (λ (x : Prog). IfOk r (λ f. Finds names b x stay f rest)) (sym e) s
