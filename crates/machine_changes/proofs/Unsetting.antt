-- Unset as a program, from what its parts tell.
use Rattle.std.proofs.Common.{◌≡◌, ◌∙◌, ◌≤◌, ◌<◌, ◌+◌, refl, sym, ap, subst, ℕ, suc, Bool, true, false, List, [], ◌∷◌, ◌++◌, append_assoc, length, drop, drop-cons, get_or, Option, Some, None, cond, arith, true≢false}
use Rattle.std.specs.Prelude.{◌||◌}
use Rattle.std.specs.List.{filter}
use Rattle.expr_tree.specs.declared.sym.Sym.{Sym}
use Rattle.expr_tree.specs.Order.{same_symbol}
use Rattle.expr_tree.specs.Shapes.{symbol_of}
use Rattle.expr_tree.specs.Substitution.{among}
use Rattle.expr_tree.specs.Tree.{Tree}
use Rattle.semantics.specs.Names.{Names, items_of}
use Rattle.semantics.specs.Assign.{add_symbol, inner, item_symbols}
use Rattle.semantics.specs.Changes.{any_protected, any_shared, holders, holding, holds, take_away, unless_item, unset_from, without_left}
use Rattle.semantics.specs.Control.{failed, null}
use Rattle.semantics.specs.Definitions.{Definition, Definitions, Shared, add_entry, definition_of, drop_entry, is_first, look_up, put, shared_as, stored}
use Rattle.semantics.specs.Program.{Prog, Seen}
use Rattle.semantics.specs.Play.{Evaluator, Setting, State, run, seen, with_definitions, written}
use Rattle.machine_steps.specs.Steps.{state_at}
use Rattle.kernel_defs.specs.Locals.{or_first}
use Rattle.kernel_defs.proofs.Entries.{added_other, apart_back, dropped_other}
use Rattle.kernel_defs.proofs.Runs.{seen_all, see_all_runs}
use Rattle.machine_changes.specs.Effects.{is_refused}
use Rattle.machine_changes.specs.Unsetting.{is_kept, taken_away, unset_at}
use Rattle.machine_changes.proofs.Going.{Leads, fails_item, passes_item}

-- ---- symbols, each once

abbrev AreApart : List Sym → Type 0
AreApart [] = Unit {0}
AreApart (s ∷ ss) = (among s ss ≡ false) × AreApart ss

or_left : (a b : Bool) → (a || b) ≡ false → a ≡ false
or_left true b h = h
or_left false b h = refl

or_right : (a b : Bool) → (a || b) ≡ false → b ≡ false
or_right true b h = absurd (true≢false h)
or_right false b h = h

neither : (a b : Bool) → a ≡ false → b ≡ false → (a || b) ≡ false
neither true b h g = h
neither false b h g = g

absent_behind : (s t : Sym) (ss : List Sym) → among t ss ≡ false → same_symbol t s ≡ false → among t (ss ++ s ∷ []) ≡ false
absent_behind s t [] h g = neither (same_symbol t s) false g refl
absent_behind s t (x ∷ ss) h g =
    neither (same_symbol t x) (among t (ss ++ s ∷ [])) (or_left (same_symbol t x) (among t ss) h) (absent_behind s t ss (or_right (same_symbol t x) (among t ss) h) g)

apart_behind : (s : Sym) (ss : List Sym) → AreApart ss → among s ss ≡ false → AreApart (ss ++ s ∷ [])
apart_behind s [] apart h = (refl, tt)
apart_behind s (t ∷ ss) apart h = (
  absent_behind s t ss apart.0 (apart_back s t (or_left (same_symbol s t) (among s ss) h)),
  apart_behind s ss apart.1 (or_right (same_symbol s t) (among s ss) h),
)

apart_added : (o : Option Sym) (ss : List Sym) → AreApart ss → AreApart (add_symbol o ss)
apart_added None ss apart = apart
apart_added (Some s) ss apart = go (among s ss) refl
  where
    go : (b : Bool) → among s ss ≡ b → AreApart (elim b [ true ↦ ss | false ↦ ss ++ s ∷ [] ])
    go true h = apart
    go false h = apart_behind s ss apart h

apart_items : (es : List Tree) (ss : List Sym) → AreApart ss → AreApart (item_symbols es ss)
apart_items [] ss apart = apart
apart_items (e ∷ es) ss apart = apart_items es (add_symbol (symbol_of e) ss) (apart_added (symbol_of e) ss apart)

apart_holders : (names : Names) (left : Tree) → AreApart (holders names left)
apart_holders names left =
    apart_items (items_of (inner names left)) (add_symbol (symbol_of (inner names left)) []) (apart_added (symbol_of (inner names left)) [] tt)

absent_kept : (test : Sym → Bool) (s : Sym) (ss : List Sym) → among s ss ≡ false → among s (filter test ss) ≡ false
absent_kept test s [] h = refl
absent_kept test s (t ∷ ss) h = go (test t) (absent_kept test s ss (or_right (same_symbol s t) (among s ss) h))
  where
    go : (b : Bool) → among s (filter test ss) ≡ false → among s (cond b (t ∷ filter test ss) (filter test ss)) ≡ false
    go true rest = neither (same_symbol s t) (among s (filter test ss)) (or_left (same_symbol s t) (among s ss) h) rest
    go false rest = rest

apart_kept : (test : Sym → Bool) (ss : List Sym) → AreApart ss → AreApart (filter test ss)
apart_kept test [] apart = tt
apart_kept test (s ∷ ss) apart = go (test s) (apart_kept test ss apart.1)
  where
    go : (b : Bool) → AreApart (filter test ss) → AreApart (cond b (s ∷ filter test ss) (filter test ss))
    go true rest = (absent_kept test s ss apart.0, rest)
    go false rest = rest

-- ---- what is seen of other symbols than the one that is written

stored_other : (names : Names) (d : Definitions) (s t : Sym) (x : Definition) → same_symbol s t ≡ false → stored names (put names d s x) t ≡ stored names d t
stored_other names d s t x apart = go (is_first names s x)
  where
    go : (b : Bool) → or_first names t (look_up (elim b [ true ↦ drop_entry d.entries s | false ↦ add_entry (drop_entry d.entries s) s x ]) t) ≡ or_first names t (look_up d.entries t)
    go true = ap (or_first names t) (dropped_other d.entries s t apart)
    go false = ap (or_first names t) (added_other (drop_entry d.entries s) s t x apart ∙ dropped_other d.entries s t apart)

abbrev seen_from : Option Shared → Definition → Seen
seen_from shared x =
    record {
      definition = elim shared [ None ↦ x | Some e ↦ record x { attributes = e.attributes } ];
      shared = elim shared [ None ↦ None | Some e ↦ Some e.kind ];
    }

seen_other : (names : Names) (d : Definitions) (s t : Sym) (x : Definition) → same_symbol s t ≡ false → seen names (written names d s x) t ≡ seen names d t
seen_other names d s t x apart =
    ap (seen_from (shared_as d.shared t)) (stored_other names d s t (elim (shared_as d.shared s) [ None ↦ x | Some e ↦ record x { attributes = (stored names d s).attributes } ]) apart)

others_seen : (names : Names) (d : Definitions) (s : Sym) (ss : List Sym) (x : Definition) → among s ss ≡ false → seen_all names (written names d s x) ss ≡ seen_all names d ss
others_seen names d s [] x h = refl
others_seen names d s (t ∷ ss) x h =
    λ i. (t, seen_other names d s t x (or_left (same_symbol s t) (among s ss) h) i) ∷ others_seen names d s ss x (or_right (same_symbol s t) (among s ss) h) i

-- ---- the symbols that hold something

-- one symbol more, which holds something or not; `xs` are the symbols as a slice
held_more : (test : Sym → Bool) (held xs : List Sym) (i : ℕ) (d : Sym) → i < length xs → test (get_or xs i d) ≡ true
    → (held ++ get_or xs i d ∷ []) ++ filter test (drop (i + 1) xs) ≡ held ++ filter test (drop i xs)
held_more test held xs i d p h =
    let e : i + 1 ≡ suc i = omega arith in
    ap (λ k. (held ++ get_or xs i d ∷ []) ++ filter test (drop k xs)) e
    ∙ append_assoc held (get_or xs i d ∷ []) (filter test (drop (suc i) xs))
    ∙ ap (λ b. held ++ cond b (get_or xs i d ∷ filter test (drop (suc i) xs)) (filter test (drop (suc i) xs))) (sym h)
    ∙ ap (λ ys. held ++ filter test ys) (sym (drop-cons xs i d p))

held_less : (test : Sym → Bool) (held xs : List Sym) (i : ℕ) (d : Sym) → i < length xs → test (get_or xs i d) ≡ false
    → held ++ filter test (drop (i + 1) xs) ≡ held ++ filter test (drop i xs)
held_less test held xs i d p h =
    let e : i + 1 ≡ suc i = omega arith in
    ap (λ k. held ++ filter test (drop k xs)) e
    ∙ ap (λ b. held ++ cond b (get_or xs i d ∷ filter test (drop (suc i) xs)) (filter test (drop (suc i) xs))) (sym h)
    ∙ ap (λ ys. held ++ filter test ys) (sym (drop-cons xs i d p))

pub one_held : (test : Sym → Bool) (held next xs ss : List Sym) (i : ℕ) (d : Sym) → xs ≡ ss → i < length xs → test (get_or xs i d) ≡ true → next ≡ held ++ get_or xs i d ∷ []
    → held ++ filter test (drop i ss) ≡ filter test ss → next ++ filter test (drop (i + 1) ss) ≡ filter test ss
one_held test held next xs ss i d s p h n before =
    ap (λ ys. ys ++ filter test (drop (i + 1) ss)) n
    ∙ ap (λ ys. (held ++ get_or xs i d ∷ []) ++ filter test (drop (i + 1) ys)) (sym s)
    ∙ held_more test held xs i d p h
    ∙ ap (λ ys. held ++ filter test (drop i ys)) s
    ∙ before

pub none_held : (test : Sym → Bool) (held next xs ss : List Sym) (i : ℕ) (d : Sym) → xs ≡ ss → i < length xs → test (get_or xs i d) ≡ false → next ≡ held
    → held ++ filter test (drop i ss) ≡ filter test ss → next ++ filter test (drop (i + 1) ss) ≡ filter test ss
none_held test held next xs ss i d s p h n before =
    ap (λ ys. ys ++ filter test (drop (i + 1) ss)) n
    ∙ ap (λ ys. held ++ filter test (drop (i + 1) ys)) (sym s)
    ∙ held_less test held xs i d p h
    ∙ ap (λ ys. held ++ filter test (drop i ys)) s
    ∙ before

pub kept_some : (names : Names) (d : Definitions) (ss : List Sym) → 1 ≤ length ss → any_protected (seen_all names d ss) ≡ is_kept (seen_all names d ss)
kept_some names d [] p = absurd (omega (arith, p))
kept_some names d (s ∷ ss) p = refl

-- ---- the program

abbrev held_by : Names → Definitions → Tree → List Sym → List Sym
held_by names d left ss = filter (λ s. holds left (definition_of names d s)) ss

holding_seen : (names : Names) (d : Definitions) (left : Tree) (ss : List Sym) → holding left (seen_all names d ss) ≡ seen_all names d (held_by names d left ss)
holding_seen names d left [] = refl
holding_seen names d left (s ∷ ss) = go (holds left (definition_of names d s)) (holding_seen names d left ss)
  where
    go : (b : Bool) → holding left (seen_all names d ss) ≡ seen_all names d (held_by names d left ss)
        → elim b [ true ↦ (s, seen names d s) ∷ holding left (seen_all names d ss) | false ↦ holding left (seen_all names d ss) ]
        ≡ seen_all names d (cond b (s ∷ held_by names d left ss) (held_by names d left ss))
    go true rest = ap (λ es. (s, seen names d s) ∷ es) rest
    go false rest = rest

take_away_runs : (set : Setting) (ev : Evaluator) (left : Tree) (ss : List Sym) (p : Prog) (st : State) → AreApart ss
    → run set ev (take_away left (seen_all set.names st.definitions ss) p) st ≡ run set ev p (with_definitions (taken_away set.names left ss st.definitions) st)
take_away_runs set ev left [] p st apart = refl
take_away_runs set ev left (s ∷ ss) p st apart =
    let x = without_left left (definition_of set.names st.definitions s) in
    let after = with_definitions (written set.names st.definitions s x) st in
    ap (λ es. run set ev (take_away left es p) after) (sym (others_seen set.names st.definitions s ss x apart.0))
    ∙ take_away_runs set ev left ss p after apart.1

-- what follows, once it is known what is shared and held
abbrev seen_on : Names → Tree → List (Sym × Seen) → Prog
seen_on names left seen = unless_item names (any_shared seen) (unset_from names left (holding left seen))

shared_is : (names : Names) (left : Tree) (d : Definitions) (ss : List Sym) (b : Bool) → ss ≡ holders names left → b ≡ any_shared (seen_all names d ss)
    → b ≡ any_shared (seen_all names d (holders names left))
shared_is names left d ss b s e = e ∙ ap (λ xs. any_shared (seen_all names d xs)) s

pub unset_refused : (set : Setting) (left : Tree) (ss : List Sym) (b : Bool) {d : Definitions} {used used' : Bool} → ss ≡ holders set.names left → b ≡ any_shared (seen_all set.names d ss)
    → is_refused set.mode b ≡ true → used' ≡ (b || used) → Leads set (unset_at set.names left) d used (failed set.names) d used'
unset_refused set left ss b {d = d} {used = used} s e r u =
    let after = unset_from set.names left (holding left (seen_all set.names d (holders set.names left))) in
    record {
      by = λ ev steps o.
          see_all_runs set ev (holders set.names left) (seen_on set.names left) (state_at d used steps o)
          ∙ ap (λ c. run set ev (unless_item set.names c after) (state_at d used steps o)) (sym (shared_is set.names left d ss b s e))
          ∙ (fails_item set b after {d = d} {used = used} r).by ev steps o
          ∙ ap (λ v. run set ev (failed set.names) (state_at d v steps o)) (sym u);
    }

pub unset_passes : (set : Setting) (left : Tree) (ss hs : List Sym) (b : Bool) {d : Definitions} {used used' : Bool} → ss ≡ holders set.names left → b ≡ any_shared (seen_all set.names d ss)
    → is_refused set.mode b ≡ false → used' ≡ (b || used) → hs ≡ held_by set.names d left ss
    → Leads set (unset_at set.names left) d used (unset_from set.names left (seen_all set.names d hs)) d used'
unset_passes set left ss hs b {d = d} {used = used} {used' = used'} s e r u h =
    let after = unset_from set.names left (holding left (seen_all set.names d (holders set.names left))) in
    let held : holding left (seen_all set.names d (holders set.names left)) ≡ seen_all set.names d hs =
    holding_seen set.names d left (holders set.names left) ∙ ap (λ xs. seen_all set.names d (held_by set.names d left xs)) (sym s) ∙ ap (seen_all set.names d) (sym h) in
    record {
      by = λ ev steps o.
          see_all_runs set ev (holders set.names left) (seen_on set.names left) (state_at d used steps o)
          ∙ ap (λ c. run set ev (unless_item set.names c after) (state_at d used steps o)) (sym (shared_is set.names left d ss b s e))
          ∙ (passes_item set b after {d = d} {used = used} r).by ev steps o
          ∙ ap (λ v. run set ev after (state_at d v steps o)) (sym u)
          ∙ ap (λ es. run set ev (unset_from set.names left es) (state_at d used' steps o)) held;
    }

pub kept_fails : (names : Names) (left : Tree) (es : List (Sym × Seen)) → is_kept es ≡ true → unset_from names left es ≡ failed names
kept_fails names left [] h = refl
kept_fails names left (e ∷ es) h = ap (λ (b : Bool). elim b as (λ _. Prog) [ true ↦ failed names | false ↦ take_away left (e ∷ es) (null names) ]) h

free_goes : (names : Names) (left : Tree) (es : List (Sym × Seen)) → is_kept es ≡ false → unset_from names left es ≡ take_away left es (null names)
free_goes names left [] h = absurd (true≢false h)
free_goes names left (e ∷ es) h = ap (λ (b : Bool). elim b as (λ _. Prog) [ true ↦ failed names | false ↦ take_away left (e ∷ es) (null names) ]) h

apart_held : (names : Names) (d : Definitions) (left : Tree) (ss hs : List Sym) → ss ≡ holders names left → hs ≡ held_by names d left ss → AreApart hs
apart_held names d left ss hs s h =
    subst AreApart (sym (h ∙ ap (held_by names d left) s)) (apart_kept (λ x. holds left (definition_of names d x)) (holders names left) (apart_holders names left))

pub takes_away : (set : Setting) (left : Tree) (ss hs : List Sym) {d d' : Definitions} {used : Bool} → ss ≡ holders set.names left → hs ≡ held_by set.names d left ss
    → is_kept (seen_all set.names d hs) ≡ false → d' ≡ taken_away set.names left hs d
    → Leads set (unset_from set.names left (seen_all set.names d hs)) d used (null set.names) d' used
takes_away set left ss hs {d = d} {used = used} s h f t =
    record {
      by = λ ev steps o.
          ap (λ q. run set ev q (state_at d used steps o)) (free_goes set.names left (seen_all set.names d hs) f)
          ∙ take_away_runs set ev left hs (null set.names) (state_at d used steps o) (apart_held set.names d left ss hs s h)
          ∙ ap (λ x. run set ev (null set.names) (state_at x used steps o)) (sym t);
    }
