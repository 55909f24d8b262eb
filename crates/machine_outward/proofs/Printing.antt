-- What Print shows, one value after the other.
use Rattle.std.proofs.Common.{◌≡◌, ℕ, suc, ◌<◌, ◌+◌, Bool, true, false, refl, ap, sym, ◌∙◌, List, [], ◌∷◌, ◌++◌, length, get_or, drop, drop-cons, ◌≤◌, add-one, append_assoc, append-nil}
use Rattle.expr_tree.specs.Tree.{Tree, integer, string, symbol, normal}
use Rattle.expr_tree.proofs.Callers.{tree_steps}
use Rattle.semantics.specs.Sections.{printed}
use Rattle.machine_outward.specs.Printing.{printed_one}

printed_cons : (shown : Tree → List ℕ) (e : Tree) (es : List Tree) → printed shown (e ∷ es) ≡ printed_one shown e ++ printed shown es
printed_cons shown (integer n) es = refl
printed_cons shown (string t) es = refl
printed_cons shown (symbol s) es = refl
printed_cons shown (normal h fs) es = refl

pub printed_more : (shown : Tree → List ℕ) (items : List Tree) (i : ℕ) (e : Tree) (done : List ℕ) → i < length items → e ≡ get_or items i e
    → done ++ printed shown (drop i items) ≡ (done ++ printed_one shown e) ++ printed shown (drop (i + 1) items)
printed_more shown items i e done inside is =
    rw (drop-cons items i e inside, add-one)
    (ap (λ x. done ++ printed shown (x ∷ drop (suc i) items)) (sym is) ∙ ap (λ t. done ++ t) (printed_cons shown e (drop (suc i) items)) ∙ sym (append_assoc done (printed_one shown e) (printed shown (drop (suc i) items))))

pub printed_text : (shown : Tree → List ℕ) (e : Tree) (t : List ℕ) → e ≡ string t → printed_one shown e ≡ t
printed_text shown e t is = ap (printed_one shown) is

abbrev is_text : Tree → Bool
is_text (string t) = true
is_text e = false

pub printed_shown : (shown : Tree → List ℕ) (e : Tree) → is_text e ≡ false → printed_one shown e ≡ shown e
printed_shown shown (integer n) other = refl
printed_shown shown (string t) other = cc
printed_shown shown (symbol s) other = refl
printed_shown shown (normal h es) other = refl

pub ruleset printed_steps = (tree_steps, printed_more, printed_text, printed_shown)
