-- Free locks, as they are told by who holds which and by the kernels of a core.
use Rattle.std.proofs.Common.{◌≡◌, refl, sym, ap, ◌∙◌, ℕ, zero, suc, Bool, true, false, List, [], ◌∷◌, Option, Some, None}
use Rattle.std.specs.Prelude.{◌&&◌, ◌||◌, not, is_none, is_some, MatchOption}
use Rattle.expr_tree.specs.declared.sym.Sym.{Sym}
use Rattle.expr_tree.specs.Substitution.{among}
use Rattle.journal.specs.Places.{nth}
use Rattle.journal.specs.Core.{Core, Kernel, locks_of, held_by_some, all_free}
use Rattle.crit_locks.specs.declared.held.Held.{Held}
use Rattle.crit_locks.specs.Holdings.{locks_by, holder_of, first_held, held_by}
use Rattle.crit_locks.specs.Agreeing.{AgreesWith}
use Rattle.crit_locks.proofs.Holders.{holder_is_told}

abbrev locks_in : Option Kernel → List Sym
locks_in None = []
locks_in (Some x) = x.locks

or_true : (a b : Bool) → b ≡ true → (a || b) ≡ true
or_true true b e = refl
or_true false b e = e

held_there : (ks : List Kernel) (k : ℕ) (l : Sym) → among l (locks_in (nth ks k)) ≡ true → held_by_some ks l ≡ true
held_there [] k l e = e
held_there (x ∷ ks) zero l e = ap (λ b. b || held_by_some ks l) e
held_there (x ∷ ks) (suc k) l e = or_true (among l x.locks) (held_by_some ks l) (held_there ks k l e)

held_nowhere : (ks : List Kernel) (l : Sym) → ((k : ℕ) → among l (locks_in (nth ks k)) ≡ false) → held_by_some ks l ≡ false
held_nowhere [] l e = refl
held_nowhere (x ∷ ks) l e = ap (λ b. b || held_by_some ks l) (e 0) ∙ held_nowhere ks l (λ k. e (suc k))

as_read : (c : Core) (k : ℕ) → locks_of c k ≡ locks_in (nth c.kernels k)
as_read c k = go (nth c.kernels k)
  where
    go : (o : Option Kernel) → elim o as (λ _. List Sym) [ None ↦ [] | Some x ↦ x.locks ] ≡ locks_in o
    go None = refl
    go (Some x) = refl

held_alike : (c : Core) (hs : List Held) (l : Sym) → AgreesWith c hs → held_by_some c.kernels l ≡ is_some (holder_of hs l)
held_alike c hs l agrees = go (holder_of hs l) (holder_is_told hs l)
  where
    read : (k : ℕ) → locks_in (nth c.kernels k) ≡ locks_by k hs
    read k = sym (agrees k ∙ as_read c k)

    go : (o : Option ℕ) → MatchOption o ((k : ℕ) → among l (locks_by k hs) ≡ false) (λ k. among l (locks_by k hs) ≡ true) → held_by_some c.kernels l ≡ is_some o
    go None t = held_nowhere c.kernels l (λ k. ap (among l) (read k) ∙ t k)
    go (Some k) t = held_there c.kernels k l (ap (among l) (read k) ∙ t)

next : (l : Sym) (o : Option ℕ) (b : Bool) (rest : Option Held) → b ≡ is_none rest
    → (not (is_some o) && b) ≡ is_none (elim o as (λ _. Option Held) [ None ↦ rest | Some k ↦ Some (held_by k l) ])
next l None b rest e = e
next l (Some k) b rest e = refl

pub are_free_alike : (c : Core) (hs : List Held) (ls : List Sym) → AgreesWith c hs → all_free c ls ≡ is_none (first_held hs ls)
are_free_alike c hs [] agrees = refl
are_free_alike c hs (l ∷ ls) agrees =
    ap (λ b. not b && all_free c ls) (held_alike c hs l agrees)
    ∙ next l (holder_of hs l) (all_free c ls) (first_held hs ls) (are_free_alike c hs ls agrees)
