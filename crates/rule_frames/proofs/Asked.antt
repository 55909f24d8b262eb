-- The programs of trials, by their heads.
use Rattle.std.proofs.Common.{◌≡◌, ◌∙◌, ℕ, zero, suc, ◌+◌, ◌<◌, ◌≤◌, List, [], ◌∷◌, ◌++◌, length, drop, get_or, map, Bool, true, false, Option, Some, None, refl, ap, sym, arith}
use Rattle.expr_tree.specs.Tree.{Tree}
use Rattle.expr_tree.specs.Substitution.{Binding}
use Rattle.semantics.specs.declared.builtin.Builtin.{Builtin}
use Rattle.semantics.specs.Names.{Names, is_name}
use Rattle.semantics.specs.InPlace.{put_in_place}
use Rattle.semantics.specs.Match.{Guard, Cond, Found, guard_expression}
use Rattle.semantics.specs.Rule.{condition_of, result_of}
use Rattle.semantics.specs.Attempt.{try_guards, try_binding, try_bindings}
use Rattle.semantics.specs.Program.{Prog, Ask, Check}
use Rattle.evaluation_steps.specs.Moves.{turning}
use Rattle.rule_frames.specs.Rules.{asked_by}

pub drop_at : {X : Type 0} (xs : List X) (i : ℕ) (x : X) → i < length xs → x ≡ get_or xs i x → drop i xs ≡ x ∷ drop (i + 1) xs
drop_at xs i x inside is =
    let next : suc i ≡ i + 1 = omega arith in
    drop_next xs i x inside is ∙ ap (λ n. x ∷ drop n xs) next
  where
    drop_next : {X : Type 0} (xs : List X) (i : ℕ) (x : X) → i < length xs → x ≡ get_or xs i x → drop i xs ≡ x ∷ drop (suc i) xs
    drop_next [] i x inside is = absurd (omega (arith, inside))
    drop_next (y ∷ xs) zero x inside is = ap (λ z. z ∷ xs) (sym is)
    drop_next (y ∷ xs) (suc i) x inside is = drop_next xs i x (omega (arith, inside)) is

pub drop_past : {X : Type 0} (xs : List X) (i : ℕ) → length xs ≤ i → drop i xs ≡ []
drop_past [] zero e = refl
drop_past [] (suc i) e = refl
drop_past (x ∷ xs) zero e = absurd (omega (arith, e))
drop_past (x ∷ xs) (suc i) e = drop_past xs i (omega (arith, e))

asked_first : (names : Names) (turn : Bool) (b : Binding) (g : Guard) (hs : List Guard) (pass fail : Prog)
    → asked_by turn names b (g ∷ hs) pass fail
    ≡ Check (guard_expression names b g) (turning turn (Ask (guard_expression names b g) (λ v. elim (is_name names Builtin.True v) as (λ _. Prog) [ true ↦ try_guards names b hs pass fail | false ↦ fail ])))
asked_first names true b g hs pass fail = refl
asked_first names false b g hs pass fail = refl

pub asked_guard : (names : Names) (turn : Bool) (b : Binding) (gs hs : List Guard) (g : Guard) (pass fail : Prog) → gs ≡ g ∷ hs
    → asked_by turn names b gs pass fail
    ≡ Check (guard_expression names b g) (turning turn (Ask (guard_expression names b g) (λ v. elim (is_name names Builtin.True v) as (λ _. Prog) [ true ↦ try_guards names b hs pass fail | false ↦ fail ])))
asked_guard names turn b gs hs g pass fail e = ap (λ xs. asked_by turn names b xs pass fail) e ∙ asked_first names turn b g hs pass fail

asked_last : (names : Names) (turn : Bool) (b : Binding) (pass fail : Prog) → asked_by turn names b [] pass fail ≡ pass
asked_last names true b pass fail = refl
asked_last names false b pass fail = refl

pub asked_none : (names : Names) (turn : Bool) (b : Binding) (gs : List Guard) (pass fail : Prog) → gs ≡ [] → asked_by turn names b gs pass fail ≡ pass
asked_none names turn b gs pass fail e = ap (λ xs. asked_by turn names b xs pass fail) e ∙ asked_last names turn b pass fail

pub none_left : (names : Names) (right : Tree) (fs : List Found) (gives : Tree → Prog) (otherwise : Prog) → fs ≡ [] → try_bindings names right fs gives otherwise ≡ otherwise
none_left names right fs gives otherwise e = ap (λ xs. try_bindings names right xs gives otherwise) e

-- the next binding, with its guards
pub first_asked : (names : Names) (right side : Tree) (fs later : List Found) (f : Found) (b : Binding) (guards : List Guard) (k : Option Tree → Prog)
    → fs ≡ f ∷ later → b ≡ f.binding → guards ≡ f.guards ++ map Cond (condition_of names right) → side ≡ right
    → try_bindings names right fs (λ v. k (Some v)) (k None)
    ≡ asked_by true names b guards (k (Some (put_in_place names b (result_of names side)))) (try_bindings names side later (λ v. k (Some v)) (k None))
first_asked names right side fs later f b guards k e eb eg er =
    ap (λ xs. try_bindings names right xs (λ v. k (Some v)) (k None)) e
    ∙ sym (λ i. try_binding names (eb i) (eg i) (k (Some (put_in_place names (eb i) (result_of names (er i))))) (try_bindings names (er i) later (λ v. k (Some v)) (k None)))
