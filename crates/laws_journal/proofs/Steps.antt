-- A journal that grows by one entry: the core makes one step, and each kernel's view one.
use Rattle.std.proofs.Common.{◌≡◌, refl, ap, ◌∙◌, ℕ, Bool, true, false, List, [], ◌∷◌, ◌++◌, Option, Some, None}
use Rattle.journal.specs.Places.{given}
use Rattle.journal.specs.Entry.{Posted}
use Rattle.journal.specs.Core.{Setup, Core, start, step, allowed, effect, replay, replay_from}
use Rattle.journal.specs.Follow.{Plan, View, watch, watch_from, first_view, kernel_run}
use Rattle.laws_journal.proofs.Tables.{some_is, split, opened}

chosen : {A : Type 0} (b : Bool) (x y : Option A) → b ≡ true → elim b [ true ↦ x | false ↦ y ] ≡ x
chosen b x y e = ap (λ c. elim c [ true ↦ x | false ↦ y ]) e

core_steps : (set : Setup) (c z : Core) (ps : List Posted) (p : Posted) → replay_from set c ps ≡ Some z → replay_from set c (ps ++ p ∷ []) ≡ step set z p
core_steps set c z [] p r = ap (λ x. step set x p) (some_is r)
core_steps set c z (q ∷ qs) p r =
    let parts = split (allowed set c q) (replay_from set (effect set c q) qs) z r in
    chosen (allowed set c q) (replay_from set (effect set c q) (qs ++ p ∷ [])) None parts.0 ∙ core_steps set (effect set c q) z qs p parts.1

goes_on : {A : Type 0} (o : Option A) → given o (λ a. Some a) ≡ o
goes_on None = refl
goes_on (Some a) = refl

view_steps : (set : Setup) (plan : Plan) (k : ℕ) (v z : View) (ps : List Posted) (p : Posted) → watch_from set plan k v ps ≡ Some z → watch_from set plan k v (ps ++ p ∷ []) ≡ watch set plan k z p
view_steps set plan k v z [] p r = goes_on (watch set plan k v p) ∙ ap (λ x. watch set plan k x p) (some_is r)
view_steps set plan k v z (q ∷ qs) p r =
    let s = opened (watch set plan k v q) (λ w. watch_from set plan k w qs) z r in
    ap (λ o. given o (λ w. watch_from set plan k w (qs ++ p ∷ []))) s.1 ∙ view_steps set plan k s.0 z qs p s.2

pub steps_core : (set : Setup) (ps : List Posted) (p : Posted) (c : Core) → replay set ps ≡ Some c → replay set (ps ++ p ∷ []) ≡ step set c p
steps_core set ps p c r = core_steps set (start set) c ps p r

pub steps_view : (set : Setup) (plan : Plan) (k : ℕ) (ps : List Posted) (p : Posted) (v : View) → kernel_run set plan k ps ≡ Some v → kernel_run set plan k (ps ++ p ∷ []) ≡ watch set plan k v p
steps_view set plan k ps p v r = view_steps set plan k first_view v ps p r
