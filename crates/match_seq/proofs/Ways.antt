-- The ways of an element pattern, one step at a time.
use Rattle.std.proofs.Common.{◌≡◌, ◌≢◌, ℕ, zero, suc, ◌+◌, ◌-◌, ◌<◌, ◌≤◌, List, [], ◌∷◌, ◌++◌, length, take, drop, slice_get, Option, Some, None, refl, ap, sym, ◌∙◌, arith, add-one, drop-cons, take-suc, take_all, drop_of_length-le, length-drop, Bool, true, false, ◌==◌, ltb, lt-ltb, ne_eqb}
use Rattle.std.proofs.lemmas.Bool.{le-ltb, eq-eqb}
use Rattle.expr_tree.specs.Tree.{Tree}
use Rattle.semantics.specs.Match.{Found}
use Rattle.match_seq.specs.Search.{step, dead, fork, Use, Next, find_runs, find_sizes, find_choices, find_end}
use Rattle.match_seq.proofs.Extents.{trees_of-parts}
use Rattle.match_seq.proofs.Steps.{form_steps}

pub drop_some : (xs : List Tree) (i : ℕ) (x : Tree) → slice_get xs i ≡ Some x → drop i xs ≡ x ∷ drop (i + 1) xs
drop_some [] i x e = absurd (cc)
drop_some (y ∷ ys) zero x e = let f : y ≡ x = cc in rw f refl
drop_some (y ∷ ys) (suc i) x e = rw add-one (drop_some ys i x e ∙ rw add-one refl)

pub drop_none : (xs : List Tree) (i : ℕ) → slice_get xs i ≡ None → drop i xs ≡ []
drop_none [] zero e = refl
drop_none [] (suc i) e = refl
drop_none (y ∷ ys) zero e = absurd (cc)
drop_none (y ∷ ys) (suc i) e = drop_none ys i e

drop_at : (xs : List Tree) (i : ℕ) → i < length xs → (x : Tree) × (drop i xs ≡ x ∷ drop (suc i) xs) × (take (suc i) xs ≡ take i xs ++ x ∷ [])
drop_at [] i p = absurd (omega (arith, p))
drop_at (y ∷ ys) zero p = (y, refl, refl)
drop_at (y ∷ ys) (suc i) p = let (x, d, t) = drop_at ys i (omega (arith, p)) in (x, d, ap (λ zs. y ∷ zs) t)

pub end_other : (es : List Tree) (next : Next) (found : Found) → es ≢ [] → find_end es next found ≡ step dead
end_other [] next found other = absurd (other refl)
end_other (e ∷ es) next found other = refl

pub runs-fork : (fit : Use) (size end : ℕ) (es : List Tree) → size < end → size < length es → find_runs fit (end - size) (take size es) (drop size es) ≡ fork (fit (take size es) (drop size es)) (find_runs fit (end - (size + 1)) (take (size + 1) es) (drop (size + 1) es))
runs-fork fit size end es p q =
    let (x, d, t) = drop_at es size q in
    let m : end - size ≡ suc (end - suc size) = omega (arith, p) in
    rw (add-one, m, t, d) refl

runs_one : (fit : Use) (more : ℕ) (taken : List Tree) → find_runs fit more taken [] ≡ step (fit taken [])
runs_one fit zero taken = refl
runs_one fit (suc more) taken = refl

pub runs-last : (fit : Use) (size end : ℕ) (es : List Tree) → end ≤ size → find_runs fit (end - size) (take size es) (drop size es) ≡ step (fit (take size es) (drop size es))
runs-last fit size end es p = let m : end - size ≡ 0 = omega (arith, p) in rw m refl

pub runs-all : (fit : Use) (size end : ℕ) (es : List Tree) → length es ≤ size → find_runs fit (end - size) (take size es) (drop size es) ≡ step (fit (take size es) (drop size es))
runs-all fit size end es p = rw (drop_of_length-le es p) (runs_one fit (end - size) (take size es))

pub sizes-fork : (fit : Use) (size end : ℕ) (es : List Tree) → size < end → find_sizes fit size (end - size) es ≡ fork (find_choices fit size [] [] es) (find_sizes fit (size + 1) (end - (size + 1)) es)
sizes-fork fit size end es p =
    let m : end - size ≡ suc (end - suc size) = omega (arith, p) in
    rw (add-one, m) refl

pub sizes-last : (fit : Use) (size end : ℕ) (es : List Tree) → end ≤ size → find_sizes fit size (end - size) es ≡ step (find_choices fit size [] [] es)
sizes-last fit size end es p = let m : end - size ≡ 0 = omega (arith, p) in rw m refl

pub choices-done : (fit : Use) (n : ℕ) (taken left es : List Tree) → n ≡ 0 → find_choices fit n taken left es ≡ step (fit taken (left ++ es))
choices-done fit n taken left es e = rw e refl

choices-few : (fit : Use) (n : ℕ) (taken left es : List Tree) → n ≢ 0 → length es < n → find_choices fit n taken left es ≡ step dead
choices-few fit zero taken left es other p = absurd (other refl)
choices-few fit (suc n) taken left [] other p = refl
choices-few fit (suc n) taken left (e ∷ es) other p =
    let few : ltb (length es) n ≡ true = lt-ltb (length es) n (omega (arith, p)) in
    rw few refl

choices-all : (fit : Use) (n : ℕ) (taken left es : List Tree) → n ≢ 0 → length es ≡ n → find_choices fit n taken left es ≡ step (fit (taken ++ es) left)
choices-all fit zero taken left es other p = absurd (other refl)
choices-all fit (suc n) taken left [] other p = absurd (omega (arith, p))
choices-all fit (suc n) taken left (e ∷ es) other p =
    let few : ltb (length es) n ≡ false = le-ltb (length es) n (omega (arith, p)) in
    let all : (length es == n) ≡ true = eq-eqb (length es) n (omega (arith, p)) in
    rw (few, all) refl

choices-fork : (fit : Use) (n : ℕ) (taken left es fs : List Tree) (e : Tree) → n ≢ 0 → n < length es → es ≡ e ∷ fs → find_choices fit n taken left es ≡ fork (find_choices fit (n - 1) (taken ++ e ∷ []) left fs) (find_choices fit n taken (left ++ e ∷ []) fs)
choices-fork fit zero taken left es fs e other p is = absurd (other refl)
choices-fork fit (suc n) taken left es fs e other p is =
    let m : suc n - 1 ≡ n = omega arith in
    let size : length es ≡ length (e ∷ fs) = ap length is in
    let few : ltb (length fs) n ≡ false = le-ltb (length fs) n (omega (arith, p, size)) in
    let all : (length fs == n) ≡ false = ne_eqb (length fs) n (λ q. absurd (omega (arith, p, size, q))) in
    rw (is, m, few, all) refl

pub choices-few_at : (fit : Use) (n : ℕ) (taken left xs : List Tree) (i : ℕ) → n ≢ 0 → length xs - i < n → find_choices fit n taken left (drop i xs) ≡ step dead
choices-few_at fit n taken left xs i other p = choices-few fit n taken left (drop i xs) other (omega (arith, p, length-drop i xs))

pub choices-all_at : (fit : Use) (n : ℕ) (taken left xs : List Tree) (i : ℕ) → n ≢ 0 → length xs - i ≡ n → find_choices fit n taken left (drop i xs) ≡ step (fit (taken ++ drop i xs) left)
choices-all_at fit n taken left xs i other p = choices-all fit n taken left (drop i xs) other (omega (arith, p, length-drop i xs))

pub choices-fork_at : (fit : Use) (n : ℕ) (taken left xs : List Tree) (i : ℕ) (e : Tree) → n ≢ 0 → n < length xs - i → slice_get xs i ≡ Some e → find_choices fit n taken left (drop i xs) ≡ fork (find_choices fit (n - 1) (taken ++ e ∷ []) left (drop (i + 1) xs)) (find_choices fit n taken (left ++ e ∷ []) (drop (i + 1) xs))
choices-fork_at fit n taken left xs i e other p is =
    choices-fork fit n taken left (drop i xs) (drop (i + 1) xs) e other (omega (arith, p, length-drop i xs)) (drop_some xs i e is)

pub ruleset choose_steps = (choices-done, choices-few_at, choices-all_at, choices-fork_at)

pub ruleset part_steps = (take_all, drop_of_length-le)

pub ruleset fill_steps = (form_steps, end_other, trees_of-parts)

pub ruleset run_steps = (form_steps, runs-fork, runs-last, runs-all)

pub ruleset way_steps = (form_steps, drop_some, drop_none, runs-fork, runs-last, runs-all, sizes-fork, sizes-last, choices-done)
