-- The list behind the desk of turns.
--     IsListed               one opening in front, under 0, and then entries, each under its kernel
--     ListedAreMembers       so is the list of an opening and of entries, and no other
--     PartsAreTold           that list tells both, and its journal
--     EntriesAdded           further entries, each under its kernel, are entries of the list
--     BeginningsKept         what begins a list has entries that begin the list's, and its opening
--     KernelsEntries         under a number stand the entries of that kernel, under 0 behind the opening
--     HasRows, OpensNames    texts with those of all rows; an opening with such texts, no two alike, has names
use Rattle.std.specs.Prelude.{◌≡◌, ℕ, suc, ◌<◌, List, [], ◌∷◌, ◌++◌, map, length, ◌⊎◌, Some}
use Rattle.turn_desk.specs.Lists.{IsPrefix, entries_under}
use Rattle.script_text.specs.Spelling.{place_in}
use Rattle.script_text.specs.Laws.{AreDistinct}
use Rattle.semantics.specs.declared.builtin.Builtin.{Builtin}
use Rattle.semantics.specs.Names.{IsNames}
use Rattle.semantics.specs.Texts.{row_text}
use Rattle.journal.specs.Entry.{Text, Posted}
use Rattle.journal.specs.Members.{Opening, Member, Opens, Posts, setup_of, under_kernel, members, opening_of, posted_of, journal_of}
use Rattle.laws_journal.specs.Laws.{entries_of}
use Rattle.laws_journal.specs.Views.{own_entries}

abbrev pub IsOpening : ℕ → Member → Type 0
IsOpening k (Opens o) = k ≡ 0
IsOpening k (Posts p) = ⊥

abbrev pub IsEntry : ℕ → Member → Type 0
IsEntry k (Opens o) = ⊥
IsEntry k (Posts p) = k ≡ p.entry.kernel

abbrev pub AreEntries : List (ℕ × Member) → Type 0
AreEntries [] = Unit {0}
AreEntries (m ∷ ms) = IsEntry m.0 m.1 × AreEntries ms

abbrev pub IsListed : List (ℕ × Member) → Type 0
IsListed [] = ⊥
IsListed (m ∷ ms) = IsOpening m.0 m.1 × AreEntries ms

abbrev pub ListedAreMembers : Type 0
ListedAreMembers =
    ((o : Opening) (ps : List Posted) → IsListed (members o ps))
    × ((ms : List (ℕ × Member)) → IsListed ms → (o : Opening) × (ps : List Posted) × (ms ≡ members o ps))

abbrev pub PartsAreTold : Type 0
PartsAreTold =
    (o : Opening) (ps : List Posted) → (opening_of (members o ps) ≡ Some o) × (posted_of (members o ps) ≡ ps) × (journal_of (members o ps) ≡ entries_of ps)

abbrev pub EntriesAdded : Type 0
EntriesAdded = (o : Opening) (ps more : List Posted) → members o ps ++ map under_kernel more ≡ members o (ps ++ more)

-- the entries of any list; of a list that is one, what begins it is empty or one
abbrev pub BeginningsKept : Type 0
BeginningsKept =
    (ms ns : List (ℕ × Member)) → IsPrefix ms ns
    → IsPrefix (posted_of ms) (posted_of ns)
    × (IsListed ms → opening_of ns ≡ opening_of ms)
    × (IsListed ns → (ms ≡ []) ⊎ IsListed ms)

abbrev pub KernelsEntries : Type 0
KernelsEntries =
    (o : Opening) (ps : List Posted)
    → ((k : ℕ) → entries_under (suc k) (members o ps) ≡ map Posts (own_entries (suc k) ps))
    × (entries_under 0 (members o ps) ≡ Opens o ∷ map Posts (own_entries 0 ps))

-- ---- names

abbrev pub HasRows : List Text → Type 0
HasRows texts = (row : Builtin) → place_in texts (row_text row) < length texts

abbrev pub OpensNames : Type 0
OpensNames = (o : Opening) → AreDistinct o.texts → HasRows o.texts → IsNames (setup_of o).names
