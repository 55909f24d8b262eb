-- Commas and brackets where no frame of theirs is innermost.
use Rattle.std.proofs.Common.{◌≡◌, false, List, [], ◌∷◌, None, refl}
use Rattle.semantics.specs.Names.{Names}
use Rattle.syntax.specs.Terminals as ter
use Rattle.syntax.proofs.Reader as r
use Rattle.laws_reading.specs.Kept as low
use Rattle.phrase_form.specs.Levels.{top_of, is_group, is_elements, is_outer}
use Rattle.phrase_form.specs.States.{frames_in}
use Rattle.phrase_form.specs.Steps as s
use Rattle.phrase_form.specs.declared.frame.Frame.{Frame}
use Rattle.phrase_form.specs.declared.frame.Frame.TheVariants as fr

pub separated_none : (N : Names) (K : List Frame) (x : low.Kept) → is_elements (top_of K) ≡ false → s.separated N (frames_in N K) x ≡ None
unfolding r.separated
separated_none N [] x h0 = refl
separated_none N (fr.Group ∷ K) x h0 = refl
separated_none N (fr.Elements opening xs ∷ K) x h0 = cc
separated_none N (fr.Leads op ∷ K) x h0 = refl
separated_none N (fr.Joins op y ∷ K) x h0 = refl
separated_none N (fr.Beside y ∷ K) x h0 = refl
separated_none N (fr.Tag y ∷ K) x h0 = refl
separated_none N (fr.Outer e ∷ K) x h0 = refl
separated_none N (fr.Tagged row y z ∷ K) x h0 = refl

pub closed_none : (N : Names) (K : List Frame) (c : ter.Bracket) (x : low.Kept) → is_group (top_of K) ≡ false → is_elements (top_of K) ≡ false → s.closed N c (frames_in N K) x ≡ None
unfolding r.closed
closed_none N [] c x h0 h1 = refl
closed_none N (fr.Group ∷ K) c x h0 h1 = cc
closed_none N (fr.Elements opening xs ∷ K) c x h0 h1 = cc
closed_none N (fr.Leads op ∷ K) c x h0 h1 = refl
closed_none N (fr.Joins op y ∷ K) c x h0 h1 = refl
closed_none N (fr.Beside y ∷ K) c x h0 h1 = refl
closed_none N (fr.Tag y ∷ K) c x h0 h1 = refl
closed_none N (fr.Outer e ∷ K) c x h0 h1 = refl
closed_none N (fr.Tagged row y z ∷ K) c x h0 h1 = refl

pub half_none : (N : Names) (K : List Frame) (xs : low.KeptList) → is_outer (top_of K) ≡ false → s.follows_half N (ter.Closes ter.Square) (frames_in N K) xs ≡ None
unfolding r.follows_half
half_none N [] xs h0 = refl
half_none N (fr.Group ∷ K) xs h0 = refl
half_none N (fr.Elements opening ys ∷ K) xs h0 = refl
half_none N (fr.Leads op ∷ K) xs h0 = refl
half_none N (fr.Joins op y ∷ K) xs h0 = refl
half_none N (fr.Beside y ∷ K) xs h0 = refl
half_none N (fr.Tag y ∷ K) xs h0 = refl
half_none N (fr.Outer e ∷ K) xs h0 = cc
half_none N (fr.Tagged row y z ∷ K) xs h0 = refl
