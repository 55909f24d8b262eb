-- Lists of an opening and of entries: what they tell, and what one that grows keeps.
use Rattle.std.proofs.Common.{◌≡◌, refl, ap, subst, ◌∙◌, ℕ, suc, List, [], ◌∷◌, ◌++◌, map, Bool, true, false, Option, Some, inl, inr, eqb-true, arith}
use Rattle.std.specs.Prelude.{◌⊎◌, ◌==◌, cond}
use Rattle.turn_desk.specs.Lists.{entries_under}
use Rattle.journal.specs.Entry.{Posted}
use Rattle.journal.specs.Members.{Opening, Member, Opens, Posts, under_kernel, members, opening_of, posted_of}
use Rattle.laws_journal.specs.Laws.{entries_of}
use Rattle.laws_journal.specs.Views.{own_entries}
use Rattle.laws_members.specs.Listed.{IsOpening, IsEntry, AreEntries, IsListed, ListedAreMembers, PartsAreTold, EntriesAdded, BeginningsKept, KernelsEntries}

-- ---- which lists

are_entries : (ps : List Posted) → AreEntries (map under_kernel ps)
are_entries [] = tt
are_entries (p ∷ ps) = (refl, are_entries ps)

entries_made : (ms : List (ℕ × Member)) → AreEntries ms → (ps : List Posted) × (ms ≡ map under_kernel ps)
entries_made [] a = ([], refl)
entries_made (m ∷ ms) a = go m.0 m.1 a.0 (entries_made ms a.1)
  where
    go : (k : ℕ) (x : Member) → IsEntry k x → (ps : List Posted) × (ms ≡ map under_kernel ps) → (qs : List Posted) × ((k, x) ∷ ms ≡ map under_kernel qs)
    go k (Opens o) e more = absurd e
    go k (Posts p) e more = (p ∷ more.0, λ i. (e i, Posts p) ∷ more.1 i)

list_made : (ms : List (ℕ × Member)) → IsListed ms → (o : Opening) × (ps : List Posted) × (ms ≡ members o ps)
list_made [] l = absurd l
list_made (m ∷ ms) l = go m.0 m.1 l.0 (entries_made ms l.1)
  where
    go : (k : ℕ) (x : Member) → IsOpening k x → (ps : List Posted) × (ms ≡ map under_kernel ps) → (o : Opening) × (qs : List Posted) × ((k, x) ∷ ms ≡ members o qs)
    go k (Opens o) e more = (o, more.0, λ i. (e i, Opens o) ∷ more.1 i)
    go k (Posts p) e more = absurd e

pub listed_are_members : ListedAreMembers
listed_are_members = ((λ o ps. (refl, are_entries ps)), list_made)

-- ---- what a list tells

entries_told : (ps : List Posted) → posted_of (map under_kernel ps) ≡ ps
entries_told [] = refl
entries_told (p ∷ ps) = ap (λ qs. p ∷ qs) (entries_told ps)

entries_mapped : (ps : List Posted) → map (λ p. p.entry) ps ≡ entries_of ps
entries_mapped [] = refl
entries_mapped (p ∷ ps) = ap (λ es. p.entry ∷ es) (entries_mapped ps)

pub parts_told : PartsAreTold
parts_told o ps = (refl, entries_told ps, ap (λ qs. map (λ p. p.entry) qs) (entries_told ps) ∙ entries_mapped ps)

-- ---- lists that grow

map_append : (ps more : List Posted) → map under_kernel ps ++ map under_kernel more ≡ map under_kernel (ps ++ more)
map_append [] more = refl
map_append (p ∷ ps) more = ap (λ ms. under_kernel p ∷ ms) (map_append ps more)

pub entries_added : EntriesAdded
entries_added o ps more = ap (λ ms. (0, Opens o) ∷ ms) (map_append ps more)

posted_append : (ms rest : List (ℕ × Member)) → posted_of (ms ++ rest) ≡ posted_of ms ++ posted_of rest
posted_append [] rest = refl
posted_append (m ∷ ms) rest = go m.1 (posted_append ms rest)
  where
    go : (x : Member) → posted_of (ms ++ rest) ≡ posted_of ms ++ posted_of rest
        → elim x [ Opens o ↦ posted_of (ms ++ rest) | Posts p ↦ p ∷ posted_of (ms ++ rest) ] ≡ elim x [ Opens o ↦ posted_of ms | Posts p ↦ p ∷ posted_of ms ] ++ posted_of rest
    go (Opens o) e = e
    go (Posts p) e = ap (λ ps. p ∷ ps) e

opening_stays : (ms rest : List (ℕ × Member)) → IsListed ms → opening_of (ms ++ rest) ≡ opening_of ms
opening_stays [] rest l = absurd l
opening_stays (m ∷ ms) rest l = go m.1 l.0
  where
    go : (x : Member) → IsOpening m.0 x → ◌≡◌ {A = Option Opening} (elim x [ Opens o ↦ Some o | Posts p ↦ opening_of (ms ++ rest) ]) (elim x [ Opens o ↦ Some o | Posts p ↦ opening_of ms ])
    go (Opens o) e = refl
    go (Posts p) e = absurd e

first_entries : (ms rest : List (ℕ × Member)) → AreEntries (ms ++ rest) → AreEntries ms
first_entries [] rest a = tt
first_entries (m ∷ ms) rest a = (a.0, first_entries ms rest a.1)

first_listed : (ms rest : List (ℕ × Member)) → IsListed (ms ++ rest) → (ms ≡ []) ⊎ IsListed ms
first_listed [] rest l = inl refl
first_listed (m ∷ ms) rest l = inr (l.0, first_entries ms rest l.1)

pub beginnings_kept : BeginningsKept
beginnings_kept ms ns begins = (
  (posted_of begins.0, ap posted_of begins.1 ∙ posted_append ms begins.0),
  (λ l. ap opening_of begins.1 ∙ opening_stays ms begins.0 l),
  (λ l. first_listed ms begins.0 (subst IsListed begins.1 l)),
)

-- ---- the entries of a kernel

under : (k : ℕ) (ps : List Posted) → entries_under k (map under_kernel ps) ≡ map Posts (own_entries k ps)
under k [] = refl
under k (p ∷ ps) = go (p.entry.kernel == k) (under k ps)
  where
    go : (b : Bool) → entries_under k (map under_kernel ps) ≡ map Posts (own_entries k ps)
        → cond b (Posts p ∷ entries_under k (map under_kernel ps)) (entries_under k (map under_kernel ps)) ≡ map Posts (elim b [ true ↦ p ∷ own_entries k ps | false ↦ own_entries k ps ])
    go true e = ap (λ ms. Posts p ∷ ms) e
    go false e = e

-- the opening is under no number but 0
opening_elsewhere : (k : ℕ) (o : Opening) (ms : List (ℕ × Member)) → entries_under (suc k) ((0, Opens o) ∷ ms) ≡ entries_under (suc k) ms
opening_elsewhere k o ms = go (0 == suc k) refl
  where
    go : (b : Bool) → (0 == suc k) ≡ b → cond b (Opens o ∷ entries_under (suc k) ms) (entries_under (suc k) ms) ≡ entries_under (suc k) ms
    go true e = let never : 0 ≡ suc k = eqb-true 0 (suc k) e in absurd (omega (arith, never))
    go false e = refl

pub kernels_entries : KernelsEntries
kernels_entries o ps = ((λ k. opening_elsewhere k o (map under_kernel ps) ∙ under (suc k) ps), ap (λ ms. Opens o ∷ ms) (under 0 ps))
