-- The computed closure covers its seeds, and is below every set that covers them; so it is the only one of both kinds.
--     Covers                the seeds are in, and what is stored for each symbol that is followed; a name of the table opens it
--     IsBelow               no symbol but those of another set, and no open table but beside an open one
use Rattle.std.proofs.Common.{◌≡◌, refl, sym, ap, subst, ◌∙◌, ℕ, zero, suc, Bool, true, false, List, [], ◌∷◌, ◌++◌, map, length, Option, Some, None, true≢false, inl, inr, arith}
use Rattle.std.specs.Prelude.{◌&&◌, not, ◌⊎◌, ◌≤◌}
use Rattle.std.specs.declared.cmp.Ordering.{Ordering}
use Rattle.std.specs.declared.cmp.Ordering.TheVariants.{Less, Equal, Greater}
use Rattle.expr_tree.specs.declared.sym.Sym.{Sym}
use Rattle.expr_tree.specs.Order.{symbol_cmp, same_symbol}
use Rattle.expr_tree.specs.Same.{symbol_eq}
use Rattle.semantics.specs.Names.{Names}
use Rattle.expr_tree.specs.Substitution.{among}
use Rattle.semantics.specs.Definitions.{Definition, Definitions, look_up}
use Rattle.journal.specs.Closure.{is_row, is_shared, stored_symbols, symbols_of_definition, Reach, reaches, put_symbol, put_symbols, opens_table, reach_of, is_followed, set_aside, next_followed, grown, defined, nothing_reached, closure}
use Rattle.laws_journal.specs.Symbols.{Ascends, MembersTell, ClosuresAscend}
use Rattle.laws_journal.proofs.Tables.{both, either, or_left, or_right, is_not, none≢some, some_is, same_symbol-eq, same_symbol-self, equal_symbols}

-- ---- lists of symbols

abbrev pub Among : Sym → List Sym → Type 0
Among s ss = among s ss ≡ true

pub first : (s : Sym) (ss : List Sym) → Among s (s ∷ ss)
first s ss = or_left (symbol_eq s s) (among s ss) (same_symbol-self s)

-- after t, or t itself
pub among_rest : (s t : Sym) (ts : List Sym) → Among s ts → Among s (t ∷ ts)
among_rest s t ts h = or_right (symbol_eq s t) (among s ts) h

pub among_cases : (s t : Sym) (ts : List Sym) → Among s (t ∷ ts) → (s ≡ t) ⊎ Among s ts
among_cases s t ts h = elim (either (symbol_eq s t) (among s ts) h) [ inl l ↦ inl (same_symbol-eq s t l) | inr r ↦ inr r ]

pub among_at : (s t : Sym) (ts : List Sym) → s ≡ t → Among s (t ∷ ts)
among_at s t ts e = subst (λ x. Among s (x ∷ ts)) e (first s ts)

pub among_left : (s : Sym) (ss ts : List Sym) → Among s ss → Among s (ss ++ ts)
among_left s [] ts h = absurd (true≢false (sym h))
among_left s (x ∷ ss) ts h = elim (among_cases s x ss h) [ inl e ↦ among_at s x (ss ++ ts) e | inr r ↦ among_rest s x (ss ++ ts) (among_left s ss ts r) ]

pub among_right : (s : Sym) (ss ts : List Sym) → Among s ts → Among s (ss ++ ts)
among_right s [] ts h = h
among_right s (x ∷ ss) ts h = among_rest s x (ss ++ ts) (among_right s ss ts h)

pub among_either : (s : Sym) (ss ts : List Sym) → Among s (ss ++ ts) → Among s ss ⊎ Among s ts
among_either s [] ts h = inr h
among_either s (x ∷ ss) ts h =
    elim (among_cases s x (ss ++ ts) h) [
      | inl e ↦ inl (among_at s x ss e)
      | inr r ↦ elim (among_either s ss ts r) [ inl l ↦ inl (among_rest s x ss l) | inr m ↦ inr m ]
    ]

-- the symbol that is put in is there
pub put_there : (s : Sym) (ts : List Sym) → Among s (put_symbol s ts)
put_there s [] = first s []
put_there s (t ∷ ts) = go (symbol_cmp s t) refl (put_there s ts)
  where
    go : (o : Ordering) → symbol_cmp s t ≡ o → Among s (put_symbol s ts) → Among s (elim o [ Less ↦ s ∷ t ∷ ts | Equal ↦ t ∷ ts | Greater ↦ t ∷ put_symbol s ts ])
    go Less e later = first s (t ∷ ts)
    go Equal e later = among_at s t ts (equal_symbols s t e)
    go Greater e later = among_rest s t (put_symbol s ts) later

-- and what was there
pub put_keeps : (x s : Sym) (ts : List Sym) → Among x ts → Among x (put_symbol s ts)
put_keeps x s [] h = absurd (true≢false (sym h))
put_keeps x s (t ∷ ts) h = go (symbol_cmp s t) (λ r. put_keeps x s ts r)
  where
    go : (o : Ordering) → (Among x ts → Among x (put_symbol s ts)) → Among x (elim o [ Less ↦ s ∷ t ∷ ts | Equal ↦ t ∷ ts | Greater ↦ t ∷ put_symbol s ts ])
    go Less later = among_rest x s (t ∷ ts) h
    go Equal later = h
    go Greater later = elim (among_cases x t ts h) [ inl e ↦ among_at x t (put_symbol s ts) e | inr r ↦ among_rest x t (put_symbol s ts) (later r) ]

-- and nothing else
pub put_from : (x s : Sym) (ts : List Sym) → Among x (put_symbol s ts) → (x ≡ s) ⊎ Among x ts
put_from x s [] h = among_cases x s [] h
put_from x s (t ∷ ts) h = go (symbol_cmp s t) h (λ r. put_from x s ts r)
  where
    go : (o : Ordering) → Among x (elim o [ Less ↦ s ∷ t ∷ ts | Equal ↦ t ∷ ts | Greater ↦ t ∷ put_symbol s ts ]) → (Among x (put_symbol s ts) → (x ≡ s) ⊎ Among x ts)
        → (x ≡ s) ⊎ Among x (t ∷ ts)
    go Less h' later = among_cases x s (t ∷ ts) h'
    go Equal h' later = inr h'
    go Greater h' later =
        elim (among_cases x t (put_symbol s ts) h') [
          | inl e ↦ inr (among_at x t ts e)
          | inr r ↦ elim (later r) [ inl e ↦ inl e | inr m ↦ inr (among_rest x t ts m) ]
        ]

puts_keep : (x : Sym) (ss set : List Sym) → Among x set → Among x (put_symbols ss set)
puts_keep x [] set h = h
puts_keep x (s ∷ ss) set h = puts_keep x ss (put_symbol s set) (put_keeps x s set h)

puts_there : (x : Sym) (ss set : List Sym) → Among x ss → Among x (put_symbols ss set)
puts_there x [] set h = absurd (true≢false (sym h))
puts_there x (s ∷ ss) set h =
    elim (among_cases x s ss h) [
      | inl e ↦ puts_keep x ss (put_symbol s set) (subst (λ y. Among y (put_symbol s set)) (sym e) (put_there s set))
      | inr r ↦ puts_there x ss (put_symbol s set) r
    ]

puts_from : (x : Sym) (ss set : List Sym) → Among x (put_symbols ss set) → Among x ss ⊎ Among x set
puts_from x [] set h = inr h
puts_from x (s ∷ ss) set h =
    elim (puts_from x ss (put_symbol s set) h) [
      | inl l ↦ inl (among_rest x s ss l)
      | inr m ↦ elim (put_from x s set m) [ inl e ↦ inl (among_at x s ss e) | inr r ↦ inr r ]
    ]

-- ---- sets

abbrev pub IsBelow : Reach → Reach → Type 0
IsBelow a b = ((s : Sym) → Among s a.symbols → Among s b.symbols) × (a.table ≡ true → b.table ≡ true)

-- a name of the table that is not shared
pub record Opens (names : Names) (d : Definitions) (s : Sym) : Type 0 where
  pub row : is_row names s ≡ true
  pub unshared : is_shared d s ≡ false

-- what is stored for s is in the set
abbrev pub StoredIn : Definitions → List Sym → Sym → Type 0
StoredIn d symbols s = (t : Sym) → Among t (stored_symbols d s) → Among t symbols

pub record Covers (names : Names) (d : Definitions) (seeds : List Sym) (r : Reach) : Type 0 where
  pub begun : (s : Sym) → Among s (seeds ++ d.named) → Among s r.symbols
  pub listed : (s : Sym) → Among s r.symbols → is_shared d s ≡ false → StoredIn d r.symbols s
  pub rows : (s : Sym) → r.table ≡ true → Opens names d s → StoredIn d r.symbols s
  pub opens : (s : Sym) → Among s r.symbols → Opens names d s → r.table ≡ true

module _ (names : Names) (d : Definitions) where
  abbrev Reaches : Reach → Sym → Type 0
  Reaches r s = reaches names r s ≡ true

  reaches_listed : (r : Reach) (s : Sym) → Among s r.symbols → Reaches r s
  reaches_listed r s h = ap (λ b. elim b [ true ↦ true | false ↦ r.table && is_row names s ]) h

  reaches_row : (r : Reach) (s : Sym) → r.table ≡ true → is_row names s ≡ true → Reaches r s
  reaches_row r s t h = go (among s r.symbols)
    where
      go : (b : Bool) → elim b [ true ↦ true | false ↦ r.table && is_row names s ] ≡ true
      go true = refl
      go false = ap (λ x. x && is_row names s) t ∙ h

  reaches_cases : (r : Reach) (s : Sym) → Reaches r s → Among s r.symbols ⊎ ((r.table ≡ true) × (is_row names s ≡ true))
  reaches_cases r s h = go (among s r.symbols) refl h
    where
      go : (b : Bool) → among s r.symbols ≡ b → elim b [ true ↦ true | false ↦ r.table && is_row names s ] ≡ true → Among s r.symbols ⊎ ((r.table ≡ true) × (is_row names s ≡ true))
      go true e h' = inl e
      go false e h' = inr (both r.table (is_row names s) h')

  opens_there : (s : Sym) (ss : List Sym) → Opens names d s → Among s ss → opens_table names d ss ≡ true
  opens_there s [] o h = absurd (true≢false (sym h))
  opens_there s (t ∷ ts) o h =
      elim (among_cases s t ts h) [
        | inl e ↦ or_left (is_row names t && not (is_shared d t)) (opens_table names d ts) (subst (λ x. (is_row names x && not (is_shared d x)) ≡ true) e here)
        | inr r ↦ or_right (is_row names t && not (is_shared d t)) (opens_table names d ts) (opens_there s ts o r)
      ]
    where
      here : (is_row names s && not (is_shared d s)) ≡ true
      here = ap (λ b. b && not (is_shared d s)) o.row ∙ ap not o.unshared

  opens_from : (ss : List Sym) → opens_table names d ss ≡ true → (s : Sym) × Among s ss × Opens names d s
  opens_from [] h = absurd (true≢false (sym h))
  opens_from (t ∷ ts) h =
      elim (either (is_row names t && not (is_shared d t)) (opens_table names d ts) h) [
        | inl l ↦ let parts = both (is_row names t) (not (is_shared d t)) l in (t, first t ts, record { row = parts.0; unshared = is_not (is_shared d t) parts.1 })
        | inr r ↦ let found = opens_from ts r in (found.0, among_rest found.0 t ts found.1, found.2)
      ]

  -- ---- the next symbol to follow

  record Picked (r : Reach) (ss : List Sym) (p : Sym × List Sym) : Type 0 where
    follows : is_followed names d r p.0 ≡ true
    shorter : suc (length p.1) ≡ length ss
    rest : (s : Sym) → Among s ss → (s ≡ p.0) ⊎ Among s p.1

  picked : (r : Reach) (ss : List Sym) (p : Sym × List Sym) → next_followed names d r ss ≡ Some p → Picked r ss p
  picked r [] p q = absurd (none≢some q)
  picked r (t ∷ ts) p q = go (is_followed names d r t) refl q (λ x e. picked r ts x e)
    where
      later : (o : Option (Sym × List Sym)) → next_followed names d r ts ≡ o → set_aside t o ≡ Some p → ((x : Sym × List Sym) → next_followed names d r ts ≡ Some x → Picked r ts x) → Picked r (t ∷ ts) p
      later None e q' again = absurd (none≢some q')
      later (Some x) e q' again =
          let inner = again x e in
          subst (Picked r (t ∷ ts)) (some_is q') (record {
            follows = inner.follows;
            shorter = ap suc inner.shorter;
            rest = λ s h.
                elim (among_cases s t ts h) [
                  | inl e' ↦ inr (among_at s t x.1 e')
                  | inr r' ↦ elim (inner.rest s r') [ inl e' ↦ inl e' | inr m ↦ inr (among_rest s t x.1 m) ]
                ];
          })

      go : (b : Bool) → is_followed names d r t ≡ b → elim b [ true ↦ Some (t, ts) | false ↦ set_aside t (next_followed names d r ts) ] ≡ Some p → ((x : Sym × List Sym) → next_followed names d r ts ≡ Some x → Picked r ts x) → Picked r (t ∷ ts) p
      go true e q' again = subst (Picked r (t ∷ ts)) (some_is q') (record { follows = e; shorter = refl; rest = λ s h. among_cases s t ts h })
      go false e q' again = later (next_followed names d r ts) refl q' again

  none_followed : (r : Reach) (ss : List Sym) → next_followed names d r ss ≡ None → (s : Sym) → Among s ss → is_followed names d r s ≡ false
  none_followed r [] q s h = absurd (true≢false (sym h))
  none_followed r (t ∷ ts) q s h = go (is_followed names d r t) refl q (λ e m. none_followed r ts e s m)
    where
      later : (o : Option (Sym × List Sym)) → next_followed names d r ts ≡ o → is_followed names d r t ≡ false → set_aside t o ≡ None → (next_followed names d r ts ≡ None → Among s ts → is_followed names d r s ≡ false) → is_followed names d r s ≡ false
      later None e not_here q' again = elim (among_cases s t ts h) [ inl e' ↦ subst (λ x. is_followed names d r x ≡ false) (sym e') not_here | inr r' ↦ again e r' ]
      later (Some x) e not_here q' again = absurd (none≢some (sym q'))

      go : (b : Bool) → is_followed names d r t ≡ b → ◌≡◌ {A = Option (Sym × List Sym)} (elim b [ true ↦ Some (t, ts) | false ↦ set_aside t (next_followed names d r ts) ]) None → (next_followed names d r ts ≡ None → Among s ts → is_followed names d r s ≡ false) → is_followed names d r s ≡ false
      go true e q' again = absurd (none≢some (sym q'))
      go false e q' again = later (next_followed names d r ts) refl e q' again

  -- ---- what is computed is below every set that covers the seeds

  below_of : (r x : Reach) (ss : List Sym) → IsBelow r x → ((s : Sym) → Among s ss → Among s x.symbols) → ((s : Sym) → Among s x.symbols → Opens names d s → x.table ≡ true)
      → IsBelow (reach_of names d r ss) x
  below_of r x ss below new opens = (
    (λ s h. elim (puts_from s ss r.symbols h) [ inl l ↦ new s l | inr m ↦ below.0 s m ]),
    (λ h.
        elim (either r.table (opens_table names d ss) h) [
          | inl l ↦ below.1 l
          | inr m ↦ let found = opens_from ss m in opens found.0 (new found.0 found.1) found.2
        ]),
  )

  module _ (seeds : List Sym) (x : Reach) (covers : Covers names d seeds x) where
    stored_below : (r : Reach) (s : Sym) → IsBelow r x → is_followed names d r s ≡ true → StoredIn d x.symbols s
    stored_below r s below f =
        let parts = both (reaches names r s) (not (is_shared d s)) f in
        let unshared : is_shared d s ≡ false = is_not (is_shared d s) parts.1 in
        elim (reaches_cases r s parts.0) [
          | inl l ↦ covers.listed s (below.0 s l) unshared
          | inr p ↦ covers.rows s (below.1 p.0) (record { row = p.1; unshared = unshared })
        ]

    below_grown : (n : ℕ) (ss : List Sym) (r : Reach) → IsBelow r x → IsBelow (grown n names d ss r) x
    below_grown zero ss r below = below
    below_grown (suc n) ss r below = go (next_followed names d r ss) refl (λ ts y h. below_grown n ts y h)
      where
        go : (o : Option (Sym × List Sym)) → next_followed names d r ss ≡ o → ((ts : List Sym) (y : Reach) → IsBelow y x → IsBelow (grown n names d ts y) x)
            → IsBelow (elim o [ None ↦ r | Some p ↦ grown n names d p.1 (reach_of names d r (stored_symbols d p.0)) ]) x
        go None e again = below
        go (Some p) e again =
            again p.1 (reach_of names d r (stored_symbols d p.0))
            (below_of r x (stored_symbols d p.0) below (stored_below r p.0 below (picked r ss p e).follows) covers.opens)

    pub closure_below : IsBelow (closure names d seeds) x
    closure_below =
        below_grown (length (defined d)) (defined d) (reach_of names d nothing_reached (seeds ++ d.named))
        (below_of nothing_reached x (seeds ++ d.named) ((λ s h. absurd (true≢false (sym h))), (λ h. absurd (true≢false (sym h)))) covers.begun covers.opens)

  -- ---- what is computed covers the seeds

  -- each symbol is still to be followed, or what is stored for it is in the set
  record Followed (ss : List Sym) (r : Reach) : Type 0 where
    opened : (s : Sym) → Among s r.symbols → Opens names d s → r.table ≡ true
    done : (s : Sym) → Among s ss ⊎ StoredIn d r.symbols s

  record Closed (r : Reach) : Type 0 where
    opens : (s : Sym) → Among s r.symbols → Opens names d s → r.table ≡ true
    holds : (s : Sym) → Reaches r s → is_shared d s ≡ false → StoredIn d r.symbols s

  opened_of : (r : Reach) (ss : List Sym) → ((s : Sym) → Among s r.symbols → Opens names d s → r.table ≡ true)
      → (s : Sym) → Among s (reach_of names d r ss).symbols → Opens names d s → (reach_of names d r ss).table ≡ true
  opened_of r ss before s h o =
      elim (puts_from s ss r.symbols h) [
        | inl new ↦ or_right r.table (opens_table names d ss) (opens_there s ss o new)
        | inr old ↦ or_left r.table (opens_table names d ss) (before s old o)
      ]

  is_followed_there : (r : Reach) (s : Sym) → Reaches r s → is_shared d s ≡ false → is_followed names d r s ≡ true
  is_followed_there r s h unshared = ap (λ b. b && not (is_shared d s)) h ∙ ap not unshared

  closed_at : (r : Reach) (ss : List Sym) → Followed ss r → ((s : Sym) → Among s ss → is_followed names d r s ≡ false) → Closed r
  closed_at r ss f none =
      record {
        opens = f.opened;
        holds = λ s h unshared.
            elim (f.done s) [
              | inl waits ↦ absurd (true≢false (sym (is_followed_there r s h unshared) ∙ none s waits))
              | inr all ↦ all
            ];
      }

  closed_grown : (n : ℕ) (ss : List Sym) (r : Reach) → length ss ≤ n → Followed ss r → Closed (grown n names d ss r)
  closed_grown zero [] r h f = closed_at r [] f (λ s e. absurd (true≢false (sym e)))
  closed_grown zero (t ∷ ts) r h f = absurd (omega arith)
  closed_grown (suc n) ss r h f = go (next_followed names d r ss) refl (λ ts x e g. closed_grown n ts x e g)
    where
      go : (o : Option (Sym × List Sym)) → next_followed names d r ss ≡ o → ((ts : List Sym) (x : Reach) → length ts ≤ n → Followed ts x → Closed (grown n names d ts x))
          → Closed (elim o [ None ↦ r | Some p ↦ grown n names d p.1 (reach_of names d r (stored_symbols d p.0)) ])
      go None e again = closed_at r ss f (none_followed r ss e)
      go (Some p) e again =
          let here = picked r ss p e in
          let shorter : suc (length p.1) ≡ length ss = here.shorter in
          let fresh : List Sym = stored_symbols d p.0 in
          again p.1 (reach_of names d r fresh) (omega arith) (record {
            opened = opened_of r fresh f.opened;
            done = λ s.
                elim (f.done s) [
                  | inl waits ↦ elim (here.rest s waits) [
                    | inl e' ↦ inr (λ t at. puts_there t fresh r.symbols (subst (λ x. Among t (stored_symbols d x)) e' at))
                    | inr m ↦ inl m
                  ]
                  | inr all ↦ inr (λ t at. puts_keep t fresh r.symbols (all t at))
                ];
          })

  abbrev Lists : Reach → Sym → Type 0
  Lists r s = Among s r.symbols

  grown_keeps : (n : ℕ) (ss : List Sym) (r : Reach) (s : Sym) → Lists r s → Lists (grown n names d ss r) s
  grown_keeps zero ss r s h = h
  grown_keeps (suc n) ss r s h = go (next_followed names d r ss) (λ ts x e. grown_keeps n ts x s e)
    where
      go : (o : Option (Sym × List Sym)) → ((ts : List Sym) (x : Reach) → Lists x s → Lists (grown n names d ts x) s)
          → Lists (elim o [ None ↦ r | Some p ↦ grown n names d p.1 (reach_of names d r (stored_symbols d p.0)) ]) s
      go None again = h
      go (Some p) again = again p.1 (reach_of names d r (stored_symbols d p.0)) (puts_keep s (stored_symbols d p.0) r.symbols h)

  -- what has no definition of its own has no symbols stored
  defined_or_none : (entries : List (Sym × Definition)) (s : Sym) → Among s (map (λ e. e.0) entries) ⊎ (look_up entries s ≡ None)
  defined_or_none [] s = inr refl
  defined_or_none (e ∷ es) s = go (same_symbol e.0 s) refl (defined_or_none es s)
    where
      go : (b : Bool) → same_symbol e.0 s ≡ b → Among s (map (λ x. x.0) es) ⊎ (look_up es s ≡ None) → Among s (e.0 ∷ map (λ x. x.0) es) ⊎ (elim b [ true ↦ Some e.1 | false ↦ look_up es s ] ≡ None)
      go true q later = inl (among_at s e.0 (map (λ x. x.0) es) (sym (same_symbol-eq e.0 s q)))
      go false q later = elim later [ inl l ↦ inl (among_rest s e.0 (map (λ x. x.0) es) l) | inr m ↦ inr m ]

  module _ (seeds : List Sym) where
    closed_closure : Closed (closure names d seeds)
    closed_closure =
        closed_grown (length (defined d)) (defined d) (reach_of names d nothing_reached (seeds ++ d.named)) (omega arith) (record {
          opened = opened_of nothing_reached (seeds ++ d.named) (λ s h o. absurd (true≢false (sym h)));
          done = λ s.
              elim (defined_or_none d.entries s) [
                | inl l ↦ inl l
                | inr none ↦ inr (λ t at. absurd (true≢false (sym (subst (λ o. among t (elim o [ None ↦ [] | Some x ↦ symbols_of_definition x ]) ≡ true) none at))))
              ];
        })

    pub closure_covers : Covers names d seeds (closure names d seeds)
    closure_covers =
        record {
          begun = λ s h. grown_keeps (length (defined d)) (defined d) (reach_of names d nothing_reached (seeds ++ d.named)) s (puts_there s (seeds ++ d.named) [] h);
          listed = λ s h unshared. closed_closure.holds s (reaches_listed (closure names d seeds) s h) unshared;
          rows = λ s t o. closed_closure.holds s (reaches_row (closure names d seeds) s t o.row) o.unshared;
          opens = closed_closure.opens;
        }

-- ---- the only one

pub same_truth : (a b : Bool) → (a ≡ true → b ≡ true) → (b ≡ true → a ≡ true) → a ≡ b
same_truth true b f g = sym (f refl)
same_truth false true f g = g refl
same_truth false false f g = refl

pub closure_is : MembersTell → ClosuresAscend → (names : Names) (d : Definitions) (seeds : List Sym) (r : Reach) → Ascends r.symbols → Covers names d seeds r → IsBelow r (closure names d seeds) → r ≡ closure names d seeds
closure_is tell ascend names d seeds r in_order covers below =
    let c : Reach = closure names d seeds in
    let back : IsBelow c r = closure_below names d seeds r covers in
    let symbols : r.symbols ≡ c.symbols = tell r.symbols c.symbols in_order (ascend.1 names d seeds) (λ s. same_truth (among s r.symbols) (among s c.symbols) (below.0 s) (back.0 s)) in
    let table : r.table ≡ c.table = same_truth r.table c.table below.1 back.1 in
    λ i. record { symbols = symbols i; table = table i }
