-- Lists cut into chunks.
use Rattle.std.proofs.Common.{◌≡◌, refl, ℕ, [], ◌∷◌}
use Rattle.journal.specs.Cuts.{Coarsest, Finest, Per, lengths, cut, places_from}

coarsest : lengths Coarsest 5 2 ≡ 3 ∷ 2 ∷ []
coarsest = refl

coarsest_few : lengths Coarsest 2 4 ≡ 1 ∷ 1 ∷ []
coarsest_few = refl

coarsest_alone : lengths Coarsest 5 0 ≡ 5 ∷ []
coarsest_alone = refl

coarsest_none : lengths Coarsest 0 3 ≡ []
coarsest_none = refl

finest : lengths Finest 3 2 ≡ 1 ∷ 1 ∷ 1 ∷ []
finest = refl

per : lengths (Per 2) 5 1 ≡ 2 ∷ 2 ∷ 1 ∷ []
per = refl

chunks : cut {A = ℕ} Coarsest 2 (1 ∷ 2 ∷ 3 ∷ 4 ∷ 5 ∷ []) ≡ (1 ∷ 2 ∷ 3 ∷ []) ∷ (4 ∷ 5 ∷ []) ∷ []
chunks = refl

places : places_from 0 (lengths Coarsest 5 2) ≡ (0, 3) ∷ (3, 5) ∷ []
places = refl
