-- The part that a number names.
use Rattle.std.proofs.Common.{◌≡◌, ◌≢◌, ℕ, zero, suc, ◌-◌, ◌<◌, ◌≤◌, refl, ap, sym, ◌∙◌, List, [], ◌∷◌, Some, None, length, get_or, arith}
use Rattle.std.specs.Prelude.{ℤ, pos, negsuc, nat_abs, reverse, ◌<ℤ◌, ◌≤ℤ◌}
use Rattle.std.proofs.lemmas.Int.{ints}
use Rattle.std.proofs.lemmas.List.{length-reverse, get_or-reverse}
use Rattle.expr_tree.specs.Tree.{Tree, call}
use Rattle.expr_tree.proofs.Callers.{tree_steps}
use Rattle.expr_tree.proofs.Trees.{elements-trees}
use Rattle.semantics.specs.Lists.{at, part_at}

pub at_within : (es : List Tree) (n : ℕ) (x : Tree) → n < length es → x ≡ get_or es n x → at es n ≡ Some x
at_within [] n x p is = absurd (omega (arith, p))
at_within (e ∷ es) zero x p is = ap Some (sym is)
at_within (e ∷ es) (suc n) x p is = at_within es n x (omega (arith, p)) is

pub at_past : (es : List Tree) (n : ℕ) → length es ≤ n → at es n ≡ None
at_past [] n p = refl
at_past (e ∷ es) zero p = absurd (omega (arith, p))
at_past (e ∷ es) (suc n) p = at_past es n (omega (arith, p))

pub head_part : (h : Tree) (es : List Tree) (z : ℤ) → nat_abs z ≡ 0 → part_at (call h es) z ≡ Some h
head_part h es (pos zero) p = refl
head_part h es (pos (suc n)) p = absurd (omega (arith, p))
head_part h es (negsuc n) p = absurd (omega (arith, p))

pub far_part : (h : Tree) (es : List Tree) (z : ℤ) → length es < nat_abs z → part_at (call h es) z ≡ None
far_part h es (pos zero) p = absurd (omega (arith, p))
far_part h es (pos (suc n)) p = ap (λ fs. at fs n) (elements-trees es) ∙ at_past es n (omega (arith, p))
far_part h es (negsuc n) p =
    ap (λ fs. at (reverse fs) n) (elements-trees es)
    ∙ at_past (reverse es) n (let e : length (reverse es) ≡ length es = length-reverse es in omega (arith, p, e))

pub front_part : (h : Tree) (es : List Tree) (z : ℤ) (x : Tree) → pos 0 <ℤ z → nat_abs z ≤ length es → x ≡ get_or es (nat_abs z - 1) x → part_at (call h es) z ≡ Some x
front_part h es (pos zero) x up p is = absurd (omega (arith, ints, up))
front_part h es (pos (suc n)) x up p is =
    let place : suc n - 1 ≡ n = omega arith in
    ap (λ fs. at fs n) (elements-trees es) ∙ at_within es n x (omega (arith, p)) (is ∙ ap (λ k. get_or es k x) place)
front_part h es (negsuc n) x up p is = absurd (omega (arith, ints, up))

pub back_part : (h : Tree) (es : List Tree) (z : ℤ) (x : Tree) → z ≤ℤ pos 0 → nat_abs z ≢ 0 → nat_abs z ≤ length es → x ≡ get_or es (length es - nat_abs z) x → part_at (call h es) z ≡ Some x
back_part h es (pos zero) x down some p is = absurd (some refl)
back_part h es (pos (suc n)) x down some p is = absurd (omega (arith, ints, down))
back_part h es (negsuc n) x down some p is =
    let long : length (reverse es) ≡ length es = length-reverse es in
    let place : length es - suc n ≡ length es - 1 - n = omega arith in
    ap (λ fs. at (reverse fs) n) (elements-trees es)
    ∙ at_within (reverse es) n x (omega (arith, long, p)) (is ∙ ap (λ k. get_or es k x) place ∙ sym (get_or-reverse es n x (omega (arith, p))))

pub ruleset level_steps = (tree_steps, head_part, far_part, front_part, back_part)
