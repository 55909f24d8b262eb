-- What entries do to locks.
use Rattle.std.proofs.Common.{◌≡◌, refl, sym, ap, subst, ◌∙◌, ℕ, ◌<◌, ◌≤◌, List, [], ◌∷◌, length, Bool, true, false, true≢false, Option, Some, None, is_none, arith}
use Rattle.std.proofs.lemmas.Bool.{ne_eqb}
use Rattle.std.specs.Prelude.{◌==◌, MatchOption}
use Rattle.expr_tree.specs.Substitution.{among}
use Rattle.expr_tree.specs.declared.sym.Sym.{Sym}
use Rattle.semantics.specs.Definitions.{is_empty}
use Rattle.journal.specs.Places.{nth, change_at, is_some}
use Rattle.journal.specs.declared.event.Event.{Event}
use Rattle.journal.specs.declared.loss.Loss.{Loss}
use Rattle.journal.specs.Core.{Core, Kernel, kernel_after, locks_of, held_by_some, holds_nothing, all_free}
use Rattle.crit_locks.proofs.Frees.{are_free_alike}
use Rattle.crit_locks.proofs.Holders.{holder_is_told}
use Rattle.crit_locks.specs.declared.held.Held.{Held}
use Rattle.crit_locks.specs.Holdings.{locks_by, locks_after, holder_of, first_held, held_by, HeldAfter}
use Rattle.master_core.specs.Joined.{kernels_in}
use Rattle.master_core.specs.Waits.{first_taken}
use Rattle.master_core.proofs.Joins.{change_none, joined}
use Rattle.master_core.proofs.Crew as crew

-- other locks alone
pub locks_set : (e : Event) (k : ℕ) (bs : List Bool) (os : List (Option ℕ)) (hs is : List Held) → HeldAfter e k hs is → length os ≡ length bs
    → ((b : Bool) (o : Option ℕ) (ls : List Sym) → kernel_after e (record { lives = b; attempt = o; locks = ls }) ≡ record { lives = b; attempt = o; locks = locks_after e ls })
    → kernels_in 0 bs os is ≡ change_at k (kernel_after e) (kernels_in 0 bs os hs)
locks_set e k bs os hs is held long after =
    ap (λ xs. kernels_in 0 xs os is) (change_none (λ b. b) k bs (λ b. refl))
    ∙ ap (λ xs. kernels_in 0 (change_at k (λ b. b) bs) xs is) (change_none (λ o. o) k os (λ o. refl))
    ∙ joined e (λ b. b) (λ o. o) k hs is held after bs os long

left_or : (b : Bool) (ls : List Sym) → ls ≡ [] → elim b as (λ _. List Sym) [ true ↦ [] | false ↦ ls ] ≡ []
left_or true ls e = refl
left_or false ls e = e

pub leave_within : (k m : ℕ) (hs is : List Held) → HeldAfter Event.Leave k hs is → ((j : ℕ) → m ≤ j → locks_by j hs ≡ []) → (j : ℕ) → m ≤ j → locks_by j is ≡ []
leave_within k m hs is held within j far = held j ∙ left_or (k == j) (locks_by j hs) (within j far)

pub lose_within : (cause : Loss) (k m : ℕ) (hs is : List Held) → HeldAfter (Event.Lose cause) k hs is → ((j : ℕ) → m ≤ j → locks_by j hs ≡ []) → (j : ℕ) → m ≤ j → locks_by j is ≡ []
lose_within cause k m hs is held within j far = held j ∙ left_or (k == j) (locks_by j hs) (within j far)

-- ---- a section that is entered

pub enter_within : (ls : List Sym) (k m : ℕ) (hs is : List Held) → HeldAfter (Event.Enter ls) k hs is → k < m → ((j : ℕ) → m ≤ j → locks_by j hs ≡ []) → (j : ℕ) → m ≤ j → locks_by j is ≡ []
enter_within ls k m hs is held lt within j far =
    held j ∙ ap (λ b. elim b as (λ _. List Sym) [ true ↦ ls | false ↦ locks_by j hs ]) (ne_eqb k j (λ q. omega (arith, lt, far, q))) ∙ within j far

empty_is : (ls : List Sym) → is_empty ls ≡ true → ls ≡ []
empty_is [] e = refl
empty_is (l ∷ ls) e = absurd (true≢false (sym e))

module _ (bs : List Bool) (os : List (Option ℕ)) (hs : List Held) (within : (k : ℕ) → length bs ≤ k → locks_by k hs ≡ []) (c : Core) (is : kernels_in 0 bs os hs ≡ c.kernels) where
  agrees : (k : ℕ) → locks_by k hs ≡ locks_of c k
  agrees k = crew.locks_are bs os hs within k ∙ ap (λ (xs : List Kernel). elim (nth xs k) as (λ _. List Sym) [ None ↦ [] | Some x ↦ x.locks ]) is

  pub holds_none : (k : ℕ) → holds_nothing c k ≡ true → locks_by k hs ≡ []
  holds_none k e = empty_is (locks_by k hs) (ap is_empty (agrees k) ∙ e)

  pub free_is : (ls : List Sym) → first_held hs ls ≡ None → all_free c ls ≡ true
  free_is ls e = are_free_alike c hs ls agrees ∙ ap (λ (o : Option Held). is_none o) e

  some_held : (l : Sym) (o : Option ℕ) → MatchOption o ((k : ℕ) → among l (locks_by k hs) ≡ false) (λ k. among l (locks_by k hs) ≡ true) → held_by_some c.kernels l ≡ is_some o
  some_held l o m = ap (λ xs. held_by_some xs l) (sym is) ∙ sym (crew.held_is bs os hs within l o m)

  pub first_is : (ls : List Sym) (h : Held) → first_held hs ls ≡ Some h → (first_taken c ls ≡ Some h.lock) × (among h.lock (locks_of c h.by) ≡ true)
  first_is [] h e = let no : None ≡ Some h = e in cc
  first_is (l ∷ ls) h e = go (holder_of hs l) (holder_is_told hs l) e (λ f. first_is ls h f)
    where
      go : (o : Option ℕ) → MatchOption o ((k : ℕ) → among l (locks_by k hs) ≡ false) (λ k. among l (locks_by k hs) ≡ true)
          → elim o as (λ _. Option Held) [ None ↦ first_held hs ls | Some k ↦ Some (held_by k l) ] ≡ Some h
          → (first_held hs ls ≡ Some h → (first_taken c ls ≡ Some h.lock) × (among h.lock (locks_of c h.by) ≡ true))
          → (first_taken c (l ∷ ls) ≡ Some h.lock) × (among h.lock (locks_of c h.by) ≡ true)
      go None m f later =
          let rest = later f in
          (ap (λ b. elim b as (λ _. Option Sym) [ true ↦ Some l | false ↦ first_taken c ls ]) (some_held l None m) ∙ rest.0, rest.1)
      go (Some k) m f later =
          let same : held_by k l ≡ h = cc in
          let first : first_taken c (l ∷ ls) ≡ Some l = ap (λ b. elim b as (λ _. Option Sym) [ true ↦ Some l | false ↦ first_taken c ls ]) (some_held l (Some k) m) in
          let there : among l (locks_of c k) ≡ true = ap (among l) (sym (agrees k)) ∙ m in
          subst (λ (x : Held). (first_taken c (l ∷ ls) ≡ Some x.lock) × (among x.lock (locks_of c x.by) ≡ true)) same (first, there)
