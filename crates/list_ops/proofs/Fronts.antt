-- All elements but the last.
use Rattle.std.proofs.Common.{◌≡◌, ℕ, zero, suc, ◌-◌, ◌≤◌, refl, ap, sym, subst, List, [], ◌∷◌, Some, None, length, take, arith}
use Rattle.expr_tree.specs.Tree.{Tree, Trees, normal, nil, cons, elements, call}
use Rattle.expr_tree.proofs.Callers.{tree_steps}
use Rattle.semantics.specs.Worked.{Stays, Gives}
use Rattle.semantics.specs.Lists.{but_last, most}
use Rattle.list_ops.specs.Fronts.{front_of}

shorter : (es : List Tree) (n : ℕ) → length es ≡ suc n → take n es ≡ but_last es
shorter [] n l = absurd (omega (arith, l))
shorter (a ∷ []) zero l = refl
shorter (a ∷ []) (suc n) l = absurd (omega (arith, l))
shorter (a ∷ b ∷ es) zero l = absurd (omega (arith, l))
shorter (a ∷ b ∷ es) (suc n) l = ap (λ xs. a ∷ xs) (shorter (b ∷ es) n (omega (arith, l)))

pub front_some : (es : List Tree) → 1 ≤ length es → front_of es ≡ Some (take (length es - 1) es)
front_some [] l = absurd (omega (arith, l))
front_some (a ∷ es) l = ap Some (sym (shorter (a ∷ es) (length (a ∷ es) - 1) (omega arith)))

pub front_none : (es : List Tree) → length es ≡ 0 → front_of es ≡ None
front_none [] l = refl
front_none (a ∷ es) l = absurd (omega (arith, l))

most_of : (h : Tree) (ts : Trees) (xs : List Tree) → front_of (elements ts) ≡ Some xs → most (normal h ts ∷ []) ≡ Gives (call h xs)
most_of h nil xs p = absurd (cc (p))
most_of h (cons a ts) xs p = ap Gives (ap (λ o. elim o as (λ _. Tree) [ None ↦ h | Some ys ↦ call h ys ]) p)

none_of : (h : Tree) (ts : Trees) → front_of (elements ts) ≡ None → most (normal h ts ∷ []) ≡ Stays
none_of h nil p = refl
none_of h (cons a ts) p = absurd (cc (p))

pub most_some : (e h : Tree) (ts : Trees) (xs : List Tree) → normal h ts ≡ e → front_of (elements ts) ≡ Some xs → most (e ∷ []) ≡ Gives (call h xs)
most_some e h ts xs is p = subst (λ t. most (t ∷ []) ≡ Gives (call h xs)) is (most_of h ts xs p)

pub most_none : (e h : Tree) (ts : Trees) → normal h ts ≡ e → front_of (elements ts) ≡ None → most (e ∷ []) ≡ Stays
most_none e h ts is p = subst (λ t. most (t ∷ []) ≡ Stays) is (none_of h ts p)

pub ruleset front_steps = (front_some, front_none)

pub ruleset most_steps = (tree_steps, most_some, most_none)
