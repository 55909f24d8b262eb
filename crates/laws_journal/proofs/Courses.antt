-- Runs that come to their end.
use Rattle.std.proofs.Common.{◌≡◌, refl, ap, Bool, true, false, List, [], ◌∷◌, Option, Some, None}
use Rattle.journal.specs.declared.event.Entry.{Entry}
use Rattle.journal.specs.Core.{Core}
use Rattle.journal.specs.Run.{Walk, Course, Goes, UsedUp, Differs, going, or_differs, no_entry, arrived}
use Rattle.laws_journal.proofs.Tables.{none≢some, some_is}

pub arrived_is : {A : Type 0} (o : Course A) (a : A) → arrived o ≡ Some a → o ≡ Goes a
arrived_is (Goes b) a e = ap Goes (some_is e)
arrived_is (UsedUp w) a e = absurd (none≢some e)
arrived_is Differs a e = absurd (none≢some e)

pub goes_is : {A : Type 0} {a b : A} → ◌≡◌ {A = Course A} (Goes a) (Goes b) → a ≡ b
goes_is e = some_is (ap arrived e)

pub used≢goes : {A : Type 0} {w : Walk} {a : A} → ◌≡◌ {A = Course A} (UsedUp w) (Goes a) → ⊥
used≢goes e = none≢some (ap arrived e)

pub differs≢goes : {A : Type 0} {a : A} → ◌≡◌ {A = Course A} Differs (Goes a) → ⊥
differs≢goes e = none≢some (ap arrived e)

pub no_entry≢goes : {A : Type 0} (w : Walk) (es : List Entry) (a : A) → no_entry w es ≡ Goes a → ⊥
no_entry≢goes w [] a e = used≢goes e
no_entry≢goes w (x ∷ xs) a e = differs≢goes e

pub gone : {A B : Type 0} (o : Course A) (k : A → Course B) (b : B) → going o k ≡ Goes b → (a : A) × (o ≡ Goes a) × (k a ≡ Goes b)
gone (Goes a) k b e = (a, refl, e)
gone (UsedUp w) k b e = absurd (used≢goes e)
gone Differs k b e = absurd (differs≢goes e)

pub goes_so : {A : Type 0} (b : Bool) (o : Course A) (a : A) → or_differs b o ≡ Goes a → (b ≡ true) × (o ≡ Goes a)
goes_so true o a e = (refl, e)
goes_so false o a e = absurd (differs≢goes e)

abbrev pub on_step : Option Core → (Core → Walk) → Course Walk
on_step o f = elim o [ None ↦ Differs | Some c ↦ Goes (f c) ]

-- what was posted was permitted
pub one_step : (o : Option Core) (f : Core → Walk) (v : Walk) → on_step o f ≡ Goes v → (c : Core) × (o ≡ Some c) × (f c ≡ v)
one_step None f v e = absurd (differs≢goes e)
one_step (Some c) f v e = (c, refl, goes_is e)
