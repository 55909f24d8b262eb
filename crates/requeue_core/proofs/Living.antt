-- How many kernels live.
use Rattle.std.proofs.Common.{◌≡◌, refl, sym, ap, ℕ, zero, suc, List, [], ◌∷◌, map, replicate, Bool, true, false, true≢false}
use Rattle.std.specs.Prelude.{slice_set}
use Rattle.journal.specs.Places.{change_at}
use Rattle.journal.specs.Core.{new_kernel, count_living}
use Rattle.requeue_core.specs.Losses.{lives_in}

pub all_live : (n : ℕ) → count_living (map new_kernel (replicate n true)) ≡ n
all_live zero = refl
all_live (suc n) = ap suc (all_live n)

counted : (b : Bool) (m n : ℕ) → n ≡ suc m → elim b as (λ _. ℕ) [ true ↦ suc n | false ↦ n ] ≡ suc (elim b as (λ _. ℕ) [ true ↦ suc m | false ↦ m ])
counted true m n e = ap suc e
counted false m n e = e

pub one_less : (ks : List Bool) (k : ℕ) → lives_in ks k ≡ true
    → count_living (map new_kernel ks) ≡ suc (count_living (map new_kernel (slice_set ks k false)))
one_less [] k e = absurd (true≢false (sym e))
one_less (b ∷ bs) zero e = ap (λ c. elim c as (λ _. ℕ) [ true ↦ suc (count_living (map new_kernel bs)) | false ↦ count_living (map new_kernel bs) ]) e
one_less (b ∷ bs) (suc k) e = counted b (count_living (map new_kernel (slice_set bs k false))) (count_living (map new_kernel bs)) (one_less bs k e)

pub no_longer : (ks : List Bool) (k : ℕ) → slice_set ks k false ≡ change_at k (λ _. false) ks
no_longer [] k = refl
no_longer (b ∷ bs) zero = refl
no_longer (b ∷ bs) (suc k) = ap (λ xs. b ∷ xs) (no_longer bs k)
