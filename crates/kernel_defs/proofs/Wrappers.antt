-- Left sides that stand for their first item, by the number of their items.
use Rattle.std.proofs.Common.{◌≡◌, ◌≢◌, ◌∙◌, refl, sym, ap, List, [], ◌∷◌, ◌≤◌, length, get_or, arith, true, false}
use Rattle.expr_tree.specs.Tree.{Tree, normal, trees}
use Rattle.semantics.specs.declared.builtin.Builtin.{Builtin}
use Rattle.semantics.specs.Names.{Names, is_name}
use Rattle.semantics.specs.Assign.{is_wrapper, inner, inner_first}

pub wrapper_of_one : (names : Names) (h : Tree) (ts : List Tree) → length ts ≡ 1 → is_wrapper names h (trees ts) ≡ is_name names Builtin.HoldPattern h
wrapper_of_one names h [] p = absurd (omega arith)
wrapper_of_one names h (t ∷ []) p = refl
wrapper_of_one names h (t ∷ u ∷ us) p = absurd (omega (arith, p))

pub wrapper_of_two : (names : Names) (h : Tree) (ts : List Tree) → length ts ≡ 2 → is_wrapper names h (trees ts) ≡ is_name names Builtin.Condition h
wrapper_of_two names h [] p = absurd (omega arith)
wrapper_of_two names h (t ∷ []) p = absurd (omega arith)
wrapper_of_two names h (t ∷ u ∷ []) p = refl
wrapper_of_two names h (t ∷ u ∷ v ∷ us) p = absurd (omega (arith, p))

pub wrapper_of_others : (names : Names) (h : Tree) (ts : List Tree) → length ts ≢ 1 → length ts ≢ 2 → is_wrapper names h (trees ts) ≡ false
wrapper_of_others names h [] p q = refl
wrapper_of_others names h (t ∷ []) p q = absurd (p refl)
wrapper_of_others names h (t ∷ u ∷ []) p q = absurd (q refl)
wrapper_of_others names h (t ∷ u ∷ v ∷ us) p q = refl

pub inner_of_wrapper : (names : Names) (h : Tree) (ts : List Tree) (e : Tree) → is_wrapper names h (trees ts) ≡ true → 1 ≤ length ts → e ≡ get_or ts 0 e
    → inner names (normal h (trees ts)) ≡ inner names e
inner_of_wrapper names h [] e w p is = absurd (omega (arith, p))
inner_of_wrapper names h (t ∷ ts) e w p is =
    let same : e ≡ t = is in
    ap (λ b. elim b [ true ↦ inner names t | false ↦ normal h (trees (t ∷ ts)) ]) w ∙ ap (inner names) (sym same)

pub inner_of_other : (names : Names) (h : Tree) (ts : List Tree) → is_wrapper names h (trees ts) ≡ false → inner names (normal h (trees ts)) ≡ normal h (trees ts)
inner_of_other names h ts w = ap (λ b. elim b [ true ↦ inner_first names h (trees ts) | false ↦ normal h (trees ts) ]) w

pub ruleset wrapper_steps = (wrapper_of_one, wrapper_of_two, wrapper_of_others, inner_of_wrapper, inner_of_other)
