-- What the search for a closure has found, and what is left to be done.
use Rattle.std.proofs.Common.{◌≡◌, refl, sym, ap, subst, ◌∙◌, ℕ, zero, suc, ◌<◌, ◌≤◌, Bool, true, false, List, [], ◌∷◌, ◌++◌, map, length, get_or, Option, Some, None, true≢false, inl, inr, arith}
use Rattle.std.specs.Prelude.{◌⊎◌, ◌==◌, ◌+◌}
use Rattle.std.proofs.lemmas.List.{length-append}
use Rattle.std.proofs.lemmas.Bool.{ltb-true, eqb-true}
use Rattle.expr_tree.specs.declared.sym.Sym.{Sym}
use Rattle.expr_tree.specs.Substitution.{among}
use Rattle.semantics.specs.declared.builtin.Builtin.{Builtin}
use Rattle.semantics.specs.Builtin.{rows, row_number, row_count}
use Rattle.semantics.specs.Names.{Names, IsNames, known}
use Rattle.semantics.specs.Definitions.{Definitions}
use Rattle.journal.specs.Places.{is_some}
use Rattle.journal.specs.Closure.{is_row, is_shared, stored_symbols, put_symbol, closure}
use Rattle.laws_journal.specs.Symbols.{Ascends, MembersTell, ClosuresAscend}
use Rattle.builtin_names.proofs.Places.{row_here}
use Rattle.dist_bundle.specs.Search.{Search, nothing, found, added, added_all, stored_added, followed, row_symbols, table_followed, turn}
use Rattle.dist_bundle.proofs.Least.{Among, first, among_rest, among_cases, among_at, among_left, among_right, among_either, put_there, put_keeps, put_from, IsBelow, Opens, StoredIn, Covers, closure_covers, closure_is}

-- ---- what is missing of a list

abbrev pub missing : List Sym → List Sym → ℕ
missing [] ss = 0
missing (t ∷ ts) ss = elim (among t ss) [ true ↦ missing ts ss | false ↦ suc (missing ts ss) ]

abbrev IsIn : List Sym → List Sym → Type 0
IsIn ss ts = (s : Sym) → Among s ss → Among s ts

missing_less : (c ss ts : List Sym) → IsIn ss ts → missing c ts ≤ missing c ss
missing_less [] ss ts within = omega arith
missing_less (t ∷ c) ss ts within = go (among t ss) (among t ts) (within t) (missing_less c ss ts within)
  where
    go : (a b : Bool) → (a ≡ true → b ≡ true) → missing c ts ≤ missing c ss → elim b [ true ↦ missing c ts | false ↦ suc (missing c ts) ] ≤ elim a [ true ↦ missing c ss | false ↦ suc (missing c ss) ]
    go true true f le = le
    go true false f le = absurd (true≢false (sym (f refl)))
    go false true f le = omega arith
    go false false f le = omega arith

missing_put : (c ss : List Sym) (s : Sym) → Among s c → among s ss ≡ false → suc (missing c (put_symbol s ss)) ≤ missing c ss
missing_put [] ss s there new = absurd (true≢false (sym there))
missing_put (t ∷ c) ss s there new = go (among t ss) (among t (put_symbol s ss)) refl refl (λ r. missing_put c ss s r new)
  where
    less : missing c (put_symbol s ss) ≤ missing c ss
    less = missing_less c ss (put_symbol s ss) (λ x h. put_keeps x s ss h)

    later : (Among s c → suc (missing c (put_symbol s ss)) ≤ missing c ss) → (s ≡ t → ⊥) → suc (missing c (put_symbol s ss)) ≤ missing c ss
    later again differs = elim (among_cases s t c there) [ inl e ↦ absurd (differs e) | inr r ↦ again r ]

    go : (a b : Bool) → among t ss ≡ a → among t (put_symbol s ss) ≡ b → (Among s c → suc (missing c (put_symbol s ss)) ≤ missing c ss)
        → suc (elim b [ true ↦ missing c (put_symbol s ss) | false ↦ suc (missing c (put_symbol s ss)) ]) ≤ elim a [ true ↦ missing c ss | false ↦ suc (missing c ss) ]
    go true true e f again = later again (λ same. true≢false (sym (subst (λ x. among x ss ≡ true) (sym same) e) ∙ new))
    go true false e f again = absurd (true≢false (sym (put_keeps t s ss e) ∙ f))
    go false true e f again = omega (arith, less)
    go false false e f again =
        let rest : suc (missing c (put_symbol s ss)) ≤ missing c ss = later again (λ same. true≢false (sym (subst (λ x. Among x (put_symbol s ss)) same (put_there s ss)) ∙ f)) in
        omega (arith, rest)

-- ---- more is found

abbrev pub weight : List Sym → Search → ℕ
weight c x = missing c x.symbols + length x.waiting

abbrev Lists : Sym → Search → Type 0
Lists s x = Among s x.symbols

-- y has what x has, and what is new waits in it
pub record Adds (x y : Search) : Type 0 where
  pub keeps : IsIn x.symbols y.symbols
  pub waits : IsIn x.waiting y.waiting
  pub new : (t : Sym) → Among t y.symbols → Among t x.symbols ⊎ Among t y.waiting
  pub known : IsIn x.waiting x.symbols → IsIn y.waiting y.symbols
  pub ascends : ClosuresAscend → Ascends x.symbols → Ascends y.symbols
  pub table : y.table ≡ x.table
  pub weighs : (c : List Sym) → IsIn y.symbols c → weight c y ≤ weight c x

adds_none : (x : Search) → Adds x x
adds_none x =
    record {
      keeps = λ s h. h;
      waits = λ s h. h;
      new = λ s h. inl h;
      known = λ f. f;
      ascends = λ law a. a;
      table = refl;
      weighs = λ c f. omega arith;
    }

adds_both : (x y z : Search) → Adds x y → Adds y z → Adds x z
adds_both x y z a b =
    record {
      keeps = λ s h. b.keeps s (a.keeps s h);
      waits = λ s h. b.waits s (a.waits s h);
      new = λ t h. elim (b.new t h) [ inl l ↦ elim (a.new t l) [ inl m ↦ inl m | inr w ↦ inr (b.waits t w) ] | inr w ↦ inr w ];
      known = λ f. b.known (a.known f);
      ascends = λ law i. b.ascends law (a.ascends law i);
      table = b.table ∙ a.table;
      weighs = λ c f.
          let one : weight c z ≤ weight c y = b.weighs c f in
          let two : weight c y ≤ weight c x = a.weighs c (λ s h. f s (b.keeps s h)) in
          omega (arith, one, two);
    }

adds_one : (s : Sym) (x : Search) → Adds x (added s x)
adds_one s x = go (among s x.symbols) refl
  where
    more : Search
    more = record x { symbols = put_symbol s x.symbols; waiting = x.waiting ++ s ∷ [] }

    go : (b : Bool) → among s x.symbols ≡ b → Adds x (elim b [ true ↦ x | false ↦ more ])
    go true e = adds_none x
    go false e =
        record {
          keeps = λ t h. put_keeps t s x.symbols h;
          waits = λ t h. among_left t x.waiting (s ∷ []) h;
          new = λ t h. elim (put_from t s x.symbols h) [ inl same ↦ inr (among_right t x.waiting (s ∷ []) (among_at t s [] same)) | inr old ↦ inl old ];
          known = λ f t h.
              elim (among_either t x.waiting (s ∷ []) h) [
                | inl old ↦ put_keeps t s x.symbols (f t old)
                | inr one ↦ elim (among_cases t s [] one) [ inl same ↦ subst (λ y. Among y (put_symbol s x.symbols)) (sym same) (put_there s x.symbols) | inr none ↦ absurd (true≢false (sym none)) ]
              ];
          ascends = λ law a. law.0 (s ∷ []) x.symbols a;
          table = refl;
          weighs = λ c f.
              let less : suc (missing c (put_symbol s x.symbols)) ≤ missing c x.symbols = missing_put c x.symbols s (f s (put_there s x.symbols)) e in
              let more_waiting : length (x.waiting ++ s ∷ []) ≡ length x.waiting + 1 = length-append x.waiting (s ∷ []) in
              omega (arith, less, more_waiting);
        }

added_there : (s : Sym) (x : Search) → Among s (added s x).symbols
added_there s x = go (among s x.symbols) refl
  where
    more : Search
    more = record x { symbols = put_symbol s x.symbols; waiting = x.waiting ++ s ∷ [] }

    go : (b : Bool) → among s x.symbols ≡ b → Lists s (elim b [ true ↦ x | false ↦ more ])
    go true e = e
    go false e = put_there s x.symbols

added_from : (t s : Sym) (x : Search) → Among t (added s x).symbols → (t ≡ s) ⊎ Among t x.symbols
added_from t s x h = go (among s x.symbols) h
  where
    more : Search
    more = record x { symbols = put_symbol s x.symbols; waiting = x.waiting ++ s ∷ [] }

    go : (b : Bool) → Lists t (elim b [ true ↦ x | false ↦ more ]) → (t ≡ s) ⊎ Among t x.symbols
    go true h' = inr h'
    go false h' = put_from t s x.symbols h'

adds_all : (ss : List Sym) (x : Search) → Adds x (added_all ss x)
adds_all [] x = adds_none x
adds_all (s ∷ ss) x = adds_both x (added s x) (added_all ss (added s x)) (adds_one s x) (adds_all ss (added s x))

all_there : (ss : List Sym) (x : Search) → IsIn ss (added_all ss x).symbols
all_there [] x t h = absurd (true≢false (sym h))
all_there (s ∷ ss) x t h =
    elim (among_cases t s ss h) [
      | inl e ↦ (adds_all ss (added s x)).keeps t (subst (λ y. Among y (added s x).symbols) (sym e) (added_there s x))
      | inr r ↦ all_there ss (added s x) t r
    ]

all_from : (ss : List Sym) (x : Search) (t : Sym) → Among t (added_all ss x).symbols → Among t ss ⊎ Among t x.symbols
all_from [] x t h = inr h
all_from (s ∷ ss) x t h =
    elim (all_from ss (added s x) t h) [
      | inl l ↦ inl (among_rest t s ss l)
      | inr m ↦ elim (added_from t s x m) [ inl e ↦ inl (among_at t s ss e) | inr old ↦ inr old ]
    ]

pub added_append : (ss ts : List Sym) (x : Search) → added_all (ss ++ ts) x ≡ added_all ts (added_all ss x)
added_append [] ts x = refl
added_append (s ∷ ss) ts x = added_append ss ts (added s x)

-- ---- some symbols are followed

module _ (d : Definitions) where
  adds_stored : (s : Sym) (x : Search) → Adds x (stored_added d s x)
  adds_stored s x = go (is_shared d s)
    where
      go : (b : Bool) → Adds x (elim b [ true ↦ x | false ↦ added_all (stored_symbols d s) x ])
      go true = adds_none x
      go false = adds_all (stored_symbols d s) x

  stored_there : (s : Sym) (x : Search) → is_shared d s ≡ false → StoredIn d (stored_added d s x).symbols s
  stored_there s x unshared t h = subst (λ b. Lists t (elim b [ true ↦ x | false ↦ added_all (stored_symbols d s) x ])) (sym unshared) (all_there (stored_symbols d s) x t h)

  stored_from : (s : Sym) (x : Search) (t : Sym) → Among t (stored_added d s x).symbols → ((is_shared d s ≡ false) × Among t (stored_symbols d s)) ⊎ Among t x.symbols
  stored_from s x t h = go (is_shared d s) refl h
    where
      go : (b : Bool) → is_shared d s ≡ b → Lists t (elim b [ true ↦ x | false ↦ added_all (stored_symbols d s) x ]) → ((is_shared d s ≡ false) × Among t (stored_symbols d s)) ⊎ Among t x.symbols
      go true e h' = inr h'
      go false e h' = elim (all_from (stored_symbols d s) x t h') [ inl l ↦ inl (e, l) | inr old ↦ inr old ]

  adds_followed : (ss : List Sym) (x : Search) → Adds x (followed d ss x)
  adds_followed [] x = adds_none x
  adds_followed (s ∷ ss) x = adds_both x (stored_added d s x) (followed d ss (stored_added d s x)) (adds_stored s x) (adds_followed ss (stored_added d s x))

  followed_there : (ss : List Sym) (x : Search) (s : Sym) → Among s ss → is_shared d s ≡ false → StoredIn d (followed d ss x).symbols s
  followed_there [] x s h unshared t at = absurd (true≢false (sym h))
  followed_there (r ∷ ss) x s h unshared t at =
      elim (among_cases s r ss h) [
        | inl e ↦
            (adds_followed ss (stored_added d r x)).keeps t
            (stored_there r x (subst (λ y. is_shared d y ≡ false) e unshared) t (subst (λ y. Among t (stored_symbols d y)) e at))
        | inr later ↦ followed_there ss (stored_added d r x) s later unshared t at
      ]

  -- what is found is in c, where what is stored for each of the symbols is
  followed_in : (ss : List Sym) (x : Search) (c : List Sym) → IsIn x.symbols c → ((s : Sym) → Among s ss → is_shared d s ≡ false → StoredIn d c s) → IsIn (followed d ss x).symbols c
  followed_in [] x c before stored = before
  followed_in (r ∷ ss) x c before stored =
      followed_in ss (stored_added d r x) c
      (λ t h. elim (stored_from r x t h) [ inl l ↦ stored r (first r ss) l.0 t l.1 | inr old ↦ before t old ])
      (λ s h unshared. stored s (among_rest s r ss h) unshared)

-- ---- the rows

some_here : (o : Option Builtin) → is_some o ≡ true → (row : Builtin) × (o ≡ Some row)
some_here None e = absurd (true≢false (sym e))
some_here (Some row) e = (row, refl)

among_mapped : (f : Builtin → Sym) (bs : List Builtin) (i : ℕ) (e : Builtin) → i < length bs → Among (f (get_or bs i e)) (map f bs)
among_mapped f [] i e h = absurd (omega arith)
among_mapped f (b ∷ bs) zero e h = first (f b) (map f bs)
among_mapped f (b ∷ bs) (suc i) e h = among_rest (f (get_or bs i e)) (f b) (map f bs) (among_mapped f bs i e (omega arith))

from_mapped : (f : Builtin → Sym) (bs : List Builtin) (s : Sym) → Among s (map f bs) → (row : Builtin) × (s ≡ f row)
from_mapped f [] s h = absurd (true≢false (sym h))
from_mapped f (b ∷ bs) s h = elim (among_cases s (f b) (map f bs) h) [ inl e ↦ (b, e) | inr r ↦ from_mapped f bs s r ]

module _ (names : Names) (are : IsNames names) where
  row_is : (s : Sym) → is_row names s ≡ true → (row : Builtin) × (s ≡ known names row)
  row_is s h = go (s.number == 0) refl h
    where
      go : (b : Bool) → (s.number == 0) ≡ b → is_some (elim b [ true ↦ names.role s.base | false ↦ None ]) ≡ true → (row : Builtin) × (s ≡ known names row)
      go true e h' =
          let here = some_here (names.role s.base) h' in
          let base : names.place here.0 ≡ s.base = are.only s.base here.0 here.1 in
          (here.0, λ i. record { base = sym base i; number = eqb-true s.number 0 e i })
      go false e h' = absurd (true≢false (sym h'))

  pub row_among : (s : Sym) → is_row names s ≡ true → Among s (row_symbols names)
  row_among s h =
      let row = row_is s h in
      let here = row_here row.0 in
      let there : Among (known names (get_or rows (row_number row.0) Builtin.Plus)) (row_symbols names) = among_mapped (known names) rows (row_number row.0) Builtin.Plus (ltb-true (row_number row.0) row_count here.1) in
      subst (λ x. Among x (row_symbols names)) (sym row.1) (subst (λ b. Among (known names b) (row_symbols names)) here.0 there)

  pub among_row : (s : Sym) → Among s (row_symbols names) → is_row names s ≡ true
  among_row s h =
      let row = from_mapped (known names) rows s h in
      subst (λ x. is_row names x ≡ true) (sym row.1) (ap is_some (are.found row.0))

-- ---- the search

pub record Searching (names : Names) (d : Definitions) (seeds : List Sym) (x : Search) : Type 0 where
  pub ascends : Ascends x.symbols
  pub below : IsBelow (found x) (closure names d seeds)
  pub begun : IsIn (seeds ++ d.named) x.symbols
  pub known : IsIn x.waiting x.symbols
  pub done : (s : Sym) → Among s x.symbols → is_shared d s ≡ false → Among s x.waiting ⊎ StoredIn d x.symbols s
  pub opens : (s : Sym) → Among s x.symbols → Opens names d s → Among s x.waiting ⊎ (x.table ≡ true)
  pub rows : (s : Sym) → x.table ≡ true → Opens names d s → StoredIn d x.symbols s

module _ (names : Names) (d : Definitions) (seeds : List Sym) (law : ClosuresAscend) where
  abbrev Whole : List Sym
  Whole = (closure names d seeds).symbols

  covered : Covers names d seeds (closure names d seeds)
  covered = closure_covers names d seeds

  pub begun_search : Searching names d seeds (added_all (seeds ++ d.named) nothing)
  begun_search =
      let x : Search = added_all (seeds ++ d.named) nothing in
      let adds : Adds nothing x = adds_all (seeds ++ d.named) nothing in
      record {
        ascends = adds.ascends law tt;
        below = ((λ s h. elim (all_from (seeds ++ d.named) nothing s h) [ inl l ↦ covered.begun s l | inr none ↦ absurd (true≢false (sym none)) ]), (λ t. absurd (true≢false (sym t ∙ adds.table))));
        begun = all_there (seeds ++ d.named) nothing;
        known = adds.known (λ s none. absurd (true≢false (sym none)));
        done = λ s h unshared. elim (adds.new s h) [ inl none ↦ absurd (true≢false (sym none)) | inr w ↦ inl w ];
        opens = λ s h o. elim (adds.new s h) [ inl none ↦ absurd (true≢false (sym none)) | inr w ↦ inl w ];
        rows = λ s t o. absurd (true≢false (sym t ∙ adds.table));
      }

  -- the search with the symbol that was taken from it
  abbrev pub With : Sym → Search → Search
  With s y = record y { waiting = y.waiting ++ s ∷ [] }

  weighs_less : (s : Sym) (y z : Search) (b : Bool) → Adds (record y { table = b }) z → IsIn z.symbols Whole → weight Whole z < weight Whole (With s y)
  weighs_less s y z b adds within =
      let le : weight Whole z ≤ weight Whole (record y { table = b }) = adds.weighs Whole within in
      let more : length (y.waiting ++ s ∷ []) ≡ length y.waiting + 1 = length-append y.waiting (s ∷ []) in
      omega (arith, le, more)

  -- what was waiting waits, or is the symbol that was taken
  still : (s t : Sym) (y z : Search) → IsIn y.waiting z.waiting → Among t (y.waiting ++ s ∷ []) → (t ≡ s) ⊎ Among t z.waiting
  still s t y z waits h =
      elim (among_either t y.waiting (s ∷ []) h) [
        | inl old ↦ inr (waits t old)
        | inr one ↦ elim (among_cases t s [] one) [ inl same ↦ inl same | inr none ↦ absurd (true≢false (sym none)) ]
      ]

  record Turned (s : Sym) (y : Search) (z : Search) : Type 0 where
    flag : Bool
    adds : Adds (record y { table = flag }) z
    kept : y.table ≡ true → flag ≡ true
    allowed : flag ≡ true → (closure names d seeds).table ≡ true
    within : IsIn z.symbols Whole
    here : is_shared d s ≡ false → StoredIn d z.symbols s
    opens : Opens names d s → flag ≡ true
    rows : (r : Sym) → flag ≡ true → Opens names d r → StoredIn d z.symbols r

  turned_search : (s : Sym) (y z : Search) → Searching names d seeds (With s y) → Turned s y z → Searching names d seeds z
  turned_search s y z before turned =
      let adds : Adds (record y { table = turned.flag }) z = turned.adds in
      record {
        ascends = adds.ascends law before.ascends;
        below = (turned.within, (λ t. turned.allowed (sym adds.table ∙ t)));
        begun = λ t h. adds.keeps t (before.begun t h);
        known = adds.known (λ t h. before.known t (among_left t y.waiting (s ∷ []) h));
        done = λ t h unshared.
            elim (adds.new t h) [
              | inl old ↦ elim (before.done t old unshared) [
                | inl waits ↦ elim (still s t y z adds.waits waits) [
                  | inl same ↦ inr (subst (λ r. StoredIn d z.symbols r) (sym same) (turned.here (subst (λ r. is_shared d r ≡ false) same unshared)))
                  | inr w ↦ inl w
                ]
                | inr all ↦ inr (λ r at. adds.keeps r (all r at))
              ]
              | inr w ↦ inl w
            ];
        opens = λ t h o.
            elim (adds.new t h) [
              | inl old ↦ elim (before.opens t old o) [
                | inl waits ↦ elim (still s t y z adds.waits waits) [
                  | inl same ↦ inr (adds.table ∙ turned.opens (subst (λ r. Opens names d r) same o))
                  | inr w ↦ inl w
                ]
                | inr open_before ↦ inr (adds.table ∙ turned.kept open_before)
              ]
              | inr w ↦ inl w
            ];
        rows = λ t h o. turned.rows t (sym adds.table ∙ h) o;
      }

  module _ (are : IsNames names) (s : Sym) (y : Search) (before : Searching names d seeds (With s y)) where
    taken : Among s (closure names d seeds).symbols
    taken = before.below.0 s (before.known s (among_right s y.waiting (s ∷ []) (first s [])))

    -- nothing is done
    passed : is_shared d s ≡ true ⊎ (is_row names s ≡ true) × (y.table ≡ true) → Turned s y y
    passed why =
        record {
          flag = y.table;
          adds = adds_none y;
          kept = λ h. h;
          allowed = before.below.1;
          within = before.below.0;
          here = λ unshared. elim why [ inl is ↦ absurd (true≢false (sym is ∙ unshared)) | inr p ↦ before.rows s p.1 (record { row = p.0; unshared = unshared }) ];
          opens = λ o. elim why [ inl is ↦ absurd (true≢false (sym is ∙ o.unshared)) | inr p ↦ p.1 ];
          rows = before.rows;
        }

    turned_table : is_row names s ≡ true → is_shared d s ≡ false → Turned s y (table_followed names d y)
    turned_table row unshared = go y.table refl
      where
        open_now : Search
        open_now = record y { table = true }

        whole_table : (closure names d seeds).table ≡ true
        whole_table = covered.opens s taken (record { row = row; unshared = unshared })

        go : (b : Bool) → y.table ≡ b → Turned s y (elim b [ true ↦ y | false ↦ followed d (row_symbols names) open_now ])
        go true e = passed (inr (row, e))
        go false e =
            record {
              flag = true;
              adds = adds_followed d (row_symbols names) open_now;
              kept = λ h. refl;
              allowed = λ h. whole_table;
              within = followed_in d (row_symbols names) open_now Whole before.below.0 (λ r h u. covered.rows r whole_table (record { row = among_row names are r h; unshared = u }));
              here = λ u. followed_there d (row_symbols names) open_now s (row_among names are s row) u;
              opens = λ o. refl;
              rows = λ r h o. followed_there d (row_symbols names) open_now r (row_among names are r o.row) o.unshared;
            }

    turned_other : is_row names s ≡ false → is_shared d s ≡ false → Turned s y (added_all (stored_symbols d s) y)
    turned_other other unshared =
        let adds : Adds y (added_all (stored_symbols d s) y) = adds_all (stored_symbols d s) y in
        record {
          flag = y.table;
          adds = adds;
          kept = λ h. h;
          allowed = before.below.1;
          within = λ t h. elim (all_from (stored_symbols d s) y t h) [ inl new ↦ covered.listed s taken unshared t new | inr old ↦ before.below.0 t old ];
          here = λ u. all_there (stored_symbols d s) y;
          opens = λ o. absurd (true≢false (sym o.row ∙ other));
          rows = λ r h o t at. adds.keeps t (before.rows r h o t at);
        }

    turned_by : Turned s y (turn names d s y)
    turned_by = go (is_shared d s) (is_row names s) refl refl
      where
        go : (a b : Bool) → is_shared d s ≡ a → is_row names s ≡ b
            → Turned s y (elim a [ true ↦ y | false ↦ elim b [ true ↦ table_followed names d y | false ↦ added_all (stored_symbols d s) y ] ])
        go true b e f = passed (inl e)
        go false true e f = turned_table f e
        go false false e f = turned_other f e

    pub turn_keeps : Searching names d seeds (turn names d s y)
    turn_keeps = turned_search s y (turn names d s y) before turned_by

    pub turn_less : weight Whole (turn names d s y) < weight Whole (With s y)
    turn_less = weighs_less s y (turn names d s y) turned_by.flag turned_by.adds turned_by.within

  pub search_ends : MembersTell → (x : Search) → Searching names d seeds x → x.waiting ≡ [] → found x ≡ closure names d seeds
  search_ends tell x at ended =
      closure_is tell law names d seeds (found x) at.ascends
      (record {
        begun = at.begun;
        listed = λ s h unshared. elim (at.done s h unshared) [ inl waits ↦ absurd (idle s waits) | inr all ↦ all ];
        rows = at.rows;
        opens = λ s h o. elim (at.opens s h o) [ inl waits ↦ absurd (idle s waits) | inr open_now ↦ open_now ];
      })
      at.below
    where
      idle : (s : Sym) → Among s x.waiting → ⊥
      idle s h = true≢false (sym (subst (λ ss. Among s ss) ended h))
