-- A table of chains, as the entries that are in it.
use Rattle.std.proofs.Common.{◌≡◌, ℕ, zero, suc, ◌+◌, ◌<◌, refl, sym, ap, subst, ◌∙◌, arith, Bool, true, false, List, [], ◌∷◌, ◌++◌, length, get_or, Option, Some, None}
use Rattle.std.proofs.lemmas.List.{set-get_or, get_or-set_same}
use Rattle.std.proofs.Math.ListN.{length-set}
use Rattle.std.specs.Prelude.{slice_set}
use Rattle.expr_tree.specs.declared.sym.Sym.{Sym}
use Rattle.expr_tree.specs.Order.{same_symbol}
use Rattle.semantics.specs.Definitions.{Definition, look_up, drop_entry, add_entry}
use Rattle.kernel_defs.specs.Table.{slot, adding, entries_in, IsChain, IsTable, AreEmpty, Ascends}
use Rattle.kernel_defs.specs.Chains.{without_first}
use Rattle.kernel_defs.proofs.Entries.{Entries, same-eq, apart_back, swapped, found_first, found_later, absent_apart, absent_later, added_other, added_same, drops_first, drops_later, dropped_same, dropped_other, dropped_added, dropped_absent, ascends_added}

-- ---- one chain over other entries

-- what is added below comes up
pub added_below : (c base : Entries) (s : Sym) (d : Definition) → look_up c s ≡ None → adding c (add_entry base s d) ≡ add_entry (adding c base) s d
added_below [] base s d p = refl
added_below (e ∷ es) base s d p =
    ap (λ xs. add_entry xs e.0 e.1) (added_below es base s d (absent_later e es s p))
    ∙ swapped (adding es base) s e.0 d e.1 (apart_back e.0 s (absent_apart e es s p))

pub absent_above : (c base : Entries) (s : Sym) → look_up c s ≡ None → look_up base s ≡ None → look_up (adding c base) s ≡ None
absent_above [] base s p q = q
absent_above (e ∷ es) base s p q = added_other (adding es base) e.0 s e.1 (absent_apart e es s p) ∙ absent_above es base s (absent_later e es s p) q

pub taken : (k : ℕ) (c base : Entries) (s : Sym) (d : Definition) → IsChain k c → look_up c s ≡ Some d → adding c base ≡ add_entry (adding (drop_entry c s) base) s d
taken k [] base s d is p = absurd (cc)
taken k (e ∷ es) base s d is p = go (same_symbol e.0 s) refl (taken k es base s d is.2)
  where
    go : (b : Bool) → same_symbol e.0 s ≡ b → (look_up es s ≡ Some d → adding es base ≡ add_entry (adding (drop_entry es s) base) s d) → adding (e ∷ es) base ≡ add_entry (adding (drop_entry (e ∷ es) s) base) s d
    go true q next =
        let there : Some e.1 ≡ Some d = sym (found_first e es s q) ∙ p in
        let this : e.1 ≡ d = cc in
        let gone : drop_entry (e ∷ es) s ≡ es = drops_first e es s q ∙ dropped_absent es s (subst (λ x. look_up es x ≡ None) (same-eq e.0 s q) is.1) in
        ap (λ x. add_entry (adding es base) x e.1) (same-eq e.0 s q)
        ∙ ap (λ x. add_entry (adding es base) s x) this
        ∙ ap (λ xs. add_entry (adding xs base) s d) (sym gone)
    go false q next =
        ap (λ xs. add_entry xs e.0 e.1) (next (sym (found_later e es s q) ∙ p))
        ∙ swapped (adding (drop_entry es s) base) s e.0 d e.1 (apart_back e.0 s q)
        ∙ ap (λ xs. add_entry (adding xs base) s d) (sym (drops_later e es s q))

-- ---- chains

pub elsewhere : (k : ℕ) (c : Entries) (s : Sym) → IsChain k c → (slot s ≡ k → ⊥) → look_up c s ≡ None
elsewhere k [] s is p = refl
elsewhere k (e ∷ es) s is p = go (same_symbol e.0 s) refl (elsewhere k es s is.2 p)
  where
    go : (b : Bool) → same_symbol e.0 s ≡ b → look_up es s ≡ None → look_up (e ∷ es) s ≡ None
    go true q rest = absurd (p (sym (ap slot (same-eq e.0 s q)) ∙ is.0))
    go false q rest = found_later e es s q ∙ rest

pub chain_without : (k : ℕ) (c : Entries) (s : Sym) → IsChain k c → IsChain k (drop_entry c s)
chain_without k [] s is = is
chain_without k (e ∷ es) s is = go (same_symbol e.0 s) refl (chain_without k es s is.2)
  where
    go : (b : Bool) → same_symbol e.0 s ≡ b → IsChain k (drop_entry es s) → IsChain k (drop_entry (e ∷ es) s)
    go true q rest = subst (IsChain k) (sym (drops_first e es s q)) rest
    go false q rest =
        subst (IsChain k) (sym (drops_later e es s q))
        (is.0, dropped_other es s e.0 (apart_back e.0 s q) ∙ is.1, rest)

pub chain_with : (k : ℕ) (c : Entries) (s : Sym) (d : Definition) → IsChain k c → slot s ≡ k → look_up c s ≡ None → IsChain k ((s, d) ∷ c)
chain_with k c s d is p q = (p, q, is)

-- ---- tables

pub chain_at : (k : ℕ) (cs : List Entries) (i : ℕ) (d : Entries) → IsTable k cs → i < length cs → IsChain (k + i) (get_or cs i d)
chain_at k [] i d is p = absurd (omega (arith, p))
chain_at k (c ∷ cs) zero d is p = subst (λ n. IsChain n c) (omega arith) is.0
chain_at k (c ∷ cs) (suc i) d is p = subst (λ n. IsChain n (get_or cs i d)) (omega arith) (chain_at (suc k) cs i d is.1 (omega (arith, p)))

pub table_with : (k : ℕ) (cs : List Entries) (i : ℕ) (c : Entries) → IsTable k cs → IsChain (k + i) c → IsTable k (slice_set cs i c)
table_with k [] i c is p = is
table_with k (x ∷ cs) zero c is p = (subst (λ n. IsChain n c) (omega arith) p, is.1)
table_with k (x ∷ cs) (suc i) c is p = (is.0, table_with (suc k) cs i c is.1 (subst (λ n. IsChain n c) (omega arith) p))

pub absent_behind : (k : ℕ) (cs : List Entries) (s : Sym) → IsTable k cs → slot s < k → look_up (entries_in cs) s ≡ None
absent_behind k [] s is p = refl
absent_behind k (c ∷ cs) s is p =
    absent_above c (entries_in cs) s (elsewhere k c s is.0 (λ q. absurd (omega (arith, q, p)))) (absent_behind (suc k) cs s is.1 (omega (arith, p)))

pub absent_in : (k : ℕ) (cs : List Entries) (i : ℕ) (d : Entries) (s : Sym) → IsTable k cs → slot s ≡ k + i → i < length cs → look_up (get_or cs i d) s ≡ None
    → look_up (entries_in cs) s ≡ None
absent_in k [] i d s is p q r = refl
absent_in k (c ∷ cs) zero d s is p q r = absent_above c (entries_in cs) s r (absent_behind (suc k) cs s is.1 (omega (arith, p)))
absent_in k (c ∷ cs) (suc i) d s is p q r =
    absent_above c (entries_in cs) s (elsewhere k c s is.0 (λ e. absurd (omega (arith, e, p))))
    (absent_in (suc k) cs i d s is.1 (p ∙ omega arith) (omega (arith, q)) r)

-- an entry in front of the chain where its symbol belongs
pub added_in : (k : ℕ) (cs : List Entries) (i : ℕ) (o : Entries) (s : Sym) (d : Definition) → IsTable k cs → slot s ≡ k + i → i < length cs
    → entries_in (slice_set cs i ((s, d) ∷ get_or cs i o)) ≡ add_entry (entries_in cs) s d
added_in k [] i o s d is p q = absurd (omega (arith, q))
added_in k (c ∷ cs) zero o s d is p q = refl
added_in k (c ∷ cs) (suc i) o s d is p q =
    ap (adding c) (added_in (suc k) cs i o s d is.1 (p ∙ omega arith) (omega (arith, q)))
    ∙ added_below c (entries_in cs) s d (elsewhere k c s is.0 (λ e. absurd (omega (arith, e, p))))

-- an entry taken out of that chain
pub taken_in : (k : ℕ) (cs : List Entries) (i : ℕ) (o : Entries) (s : Sym) (d : Definition) → IsTable k cs → slot s ≡ k + i → i < length cs → look_up (get_or cs i o) s ≡ Some d
    → entries_in cs ≡ add_entry (entries_in (slice_set cs i (drop_entry (get_or cs i o) s))) s d
taken_in k [] i o s d is p q r = absurd (omega (arith, q))
taken_in k (c ∷ cs) zero o s d is p q r = taken k c (entries_in cs) s d is.0 r
taken_in k (c ∷ cs) (suc i) o s d is p q r =
    ap (adding c) (taken_in (suc k) cs i o s d is.1 (p ∙ omega arith) (omega (arith, q)) r)
    ∙ added_below c (entries_in (slice_set cs i (drop_entry (get_or cs i o) s))) s d (elsewhere k c s is.0 (λ e. absurd (omega (arith, e, p))))

-- ---- the order of a table's entries

ascends_chain : (k : ℕ) (c base : Entries) → IsChain k c → Ascends base → ((s : Sym) → slot s ≡ k → look_up base s ≡ None) → Ascends (adding c base)
ascends_chain k [] base is p q = p
ascends_chain k (e ∷ es) base is p q =
    ascends_added (adding es base) e.0 e.1 (ascends_chain k es base is.2 p q) (absent_above es base e.0 is.1 (q e.0 is.0))

pub ascends_in : (k : ℕ) (cs : List Entries) → IsTable k cs → Ascends (entries_in cs)
ascends_in k [] is = tt
ascends_in k (c ∷ cs) is =
    ascends_chain k c (entries_in cs) is.0 (ascends_in (suc k) cs is.1) (λ s p. absent_behind (suc k) cs s is.1 (omega (arith, p)))

-- ---- chains without an entry

pub empty_table : (k : ℕ) (cs : List Entries) → AreEmpty cs → IsTable k cs
empty_table k [] p = tt
empty_table k (c ∷ cs) p = (subst (IsChain k) (sym p.0) tt, empty_table (suc k) cs p.1)

pub empty_entries : (cs : List Entries) → AreEmpty cs → entries_in cs ≡ []
empty_entries [] p = refl
empty_entries (c ∷ cs) p = ap (λ x. adding x (entries_in cs)) p.0 ∙ empty_entries cs p.1

pub empty_more : (cs : List Entries) → AreEmpty cs → AreEmpty (cs ++ [] ∷ [])
empty_more [] p = (refl, tt)
empty_more (c ∷ cs) p = (p.0, empty_more cs p.1)

-- ---- the first entry of a symbol is the only one

pub once : (k : ℕ) (c : Entries) (s : Sym) → IsChain k c → without_first c s ≡ drop_entry c s
once k [] s is = refl
once k (e ∷ es) s is = go (same_symbol e.0 s) refl (once k es s is.2)
  where
    go : (b : Bool) → same_symbol e.0 s ≡ b → without_first es s ≡ drop_entry es s
        → ◌≡◌ {A = Entries} (elim b [ true ↦ es | false ↦ e ∷ without_first es s ]) (elim b [ true ↦ drop_entry es s | false ↦ e ∷ drop_entry es s ])
    go true q rest = sym (dropped_absent es s (subst (λ x. look_up es x ≡ None) (same-eq e.0 s q) is.1))
    go false q rest = ap (λ xs. e ∷ xs) rest

-- ---- the chain of a symbol tells of the whole table

gone_in : (cs : List Entries) (i : ℕ) (s : Sym) → IsTable 0 cs → slot s ≡ i → i < length cs → look_up (entries_in (slice_set cs i (drop_entry (get_or cs i []) s))) s ≡ None
gone_in cs i s is p q =
    let c : Entries = drop_entry (get_or cs i []) s in
    let chain : IsChain (0 + i) c = chain_without (0 + i) (get_or cs i []) s (chain_at 0 cs i [] is q) in
    absent_in 0 (slice_set cs i c) i [] s (table_with 0 cs i c is chain) (omega (arith, p)) (omega (arith, q, length-set cs i c))
    (ap (λ x. look_up x s) (get_or-set_same cs i c [] q) ∙ dropped_same (get_or cs i []) s)

pub found_in : (cs : List Entries) (i : ℕ) (s : Sym) → IsTable 0 cs → slot s ≡ i → i < length cs → look_up (entries_in cs) s ≡ look_up (get_or cs i []) s
found_in cs i s is p q = go (look_up (get_or cs i []) s) refl
  where
    go : (o : Option Definition) → look_up (get_or cs i []) s ≡ o → look_up (entries_in cs) s ≡ o
    go None r = absent_in 0 cs i [] s is (omega (arith, p)) q r
    go (Some d) r =
        ap (λ es. look_up es s) (taken_in 0 cs i [] s d is (omega (arith, p)) q r)
        ∙ added_same (entries_in (slice_set cs i (drop_entry (get_or cs i []) s))) s d (gone_in cs i s is p q)

pub back_in : (cs : List Entries) (i : ℕ) (s : Sym) (d : Definition) → IsTable 0 cs → slot s ≡ i → i < length cs → look_up (get_or cs i []) s ≡ Some d
    → entries_in cs ≡ add_entry (entries_in (slice_set cs i (drop_entry (get_or cs i []) s))) s d
back_in cs i s d is p q r = taken_in 0 cs i [] s d is (omega (arith, p)) q r

pub without_in : (cs : List Entries) (i : ℕ) (s : Sym) → IsTable 0 cs → slot s ≡ i → i < length cs
    → entries_in (slice_set cs i (drop_entry (get_or cs i []) s)) ≡ drop_entry (entries_in cs) s
without_in cs i s is p q = go (look_up (get_or cs i []) s) refl
  where
    go : (o : Option Definition) → look_up (get_or cs i []) s ≡ o → entries_in (slice_set cs i (drop_entry (get_or cs i []) s)) ≡ drop_entry (entries_in cs) s
    go None r =
        ap (λ c. entries_in (slice_set cs i c)) (dropped_absent (get_or cs i []) s r)
        ∙ ap entries_in (set-get_or cs i [])
        ∙ sym (dropped_absent (entries_in cs) s (absent_in 0 cs i [] s is (omega (arith, p)) q r))
    go (Some d) r =
        sym (
        ap (λ es. drop_entry es s) (back_in cs i s d is p q r)
        ∙ dropped_added (entries_in (slice_set cs i (drop_entry (get_or cs i []) s))) s d
        ∙ dropped_absent (entries_in (slice_set cs i (drop_entry (get_or cs i []) s))) s (gone_in cs i s is p q)
        )
