-- Entries that are added to a list, dropped from it and looked up.
use Rattle.std.proofs.Common.{◌≡◌, ℕ, arith, ltb-true, ltb-false, ◌∙◌, refl, sym, ap, subst, Bool, true, false, List, [], ◌∷◌, Some, None, true≢false}
use Rattle.std.proofs.lemmas.Cmp.{nat_cmp_total, on_total, then_total}
use Rattle.std.specs.Cmp.{IsTotalOrder}
use Rattle.std.specs.Ordering.{is_lt, nat_cmp, ordering_then, ordering_reverse}
use Rattle.std.specs.declared.cmp.Ordering.{Ordering}
use Rattle.std.specs.declared.cmp.Ordering.TheVariants.{Less, Equal, Greater}
use Rattle.expr_tree.proofs.Same.{symbol_eq-Decides}
use Rattle.expr_tree.specs.declared.sym.Sym.{Sym}
use Rattle.expr_tree.specs.Order.{symbol_cmp, same_symbol}
use Rattle.semantics.specs.Definitions.{Definition, look_up, drop_entry, add_entry}
use Rattle.kernel_defs.specs.Table.{AllAbove, Ascends}

abbrev pub Entries : Type 0
Entries = List (Sym × Definition)

-- ---- symbols

pub same_itself : (s : Sym) → same_symbol s s ≡ true
same_itself s = (symbol_eq-Decides s s).1 refl

pub same-eq : (s t : Sym) → same_symbol s t ≡ true → s ≡ t
same-eq s t = (symbol_eq-Decides s t).0

pub apart_back : (s t : Sym) → same_symbol s t ≡ false → same_symbol t s ≡ false
apart_back s t p = go (same_symbol t s) refl
  where
    go : (b : Bool) → same_symbol t s ≡ b → same_symbol t s ≡ false
    go false q = q
    go true q = absurd (true≢false (sym (same_itself s) ∙ subst (λ x. same_symbol s x ≡ false) (same-eq t s q) p))

in_order : IsTotalOrder symbol_cmp
in_order = then_total (on_total (λ s. s.base) nat_cmp_total) (on_total (λ s. s.number) nat_cmp_total)

-- ---- one entry added

abbrev less_or : {A : Type 0} → Ordering → A → A → A
less_or o x y = elim o [ Less ↦ x | _ ↦ y ]

less-is : (o : Ordering) → is_lt o ≡ true → o ≡ Less
less-is Less p = refl
less-is Equal p = absurd (true≢false (sym p))
less-is Greater p = absurd (true≢false (sym p))

past : {A : Type 0} (o : Ordering) (x y : A) → is_lt o ≡ false → less_or o x y ≡ y
past Less x y p = absurd (true≢false p)
past Equal x y p = refl
past Greater x y p = refl

add_before : (e : Sym × Definition) (es : Entries) (s : Sym) (d : Definition) → symbol_cmp s e.0 ≡ Less → add_entry (e ∷ es) s d ≡ (s, d) ∷ e ∷ es
add_before e es s d p = ap (λ o. less_or o ((s, d) ∷ e ∷ es) (e ∷ add_entry es s d)) p

add_past : (e : Sym × Definition) (es : Entries) (s : Sym) (d : Definition) → is_lt (symbol_cmp s e.0) ≡ false → add_entry (e ∷ es) s d ≡ e ∷ add_entry es s d
add_past e es s d p = past (symbol_cmp s e.0) ((s, d) ∷ e ∷ es) (e ∷ add_entry es s d) p

-- ---- two entries added

not_less : (s t : Sym) → symbol_cmp t s ≡ Less → is_lt (symbol_cmp s t) ≡ false
not_less s t p = go (symbol_cmp s t) (in_order.antisymm s t ∙ ap ordering_reverse p)
  where
    go : (o : Ordering) → o ≡ Greater → is_lt o ≡ false
    go Less q = absurd (cc)
    go Equal q = refl
    go Greater q = refl

swapped_after : (es : Entries) (s t : Sym) (d e : Definition) → symbol_cmp t s ≡ Less → add_entry (add_entry es s d) t e ≡ add_entry (add_entry es t e) s d
swapped_after [] s t d e p = add_before (s, d) [] t e p ∙ sym (add_past (t, e) [] s d (not_less s t p))
swapped_after (x ∷ es) s t d e p = go (is_lt (symbol_cmp s x.0)) refl (is_lt (symbol_cmp t x.0)) refl (swapped_after es s t d e p)
  where
    go : (b : Bool) → is_lt (symbol_cmp s x.0) ≡ b → (c : Bool) → is_lt (symbol_cmp t x.0) ≡ c
        → add_entry (add_entry es s d) t e ≡ add_entry (add_entry es t e) s d
        → add_entry (add_entry (x ∷ es) s d) t e ≡ add_entry (add_entry (x ∷ es) t e) s d
    go true q c r next =
        let first = less-is (symbol_cmp s x.0) q in
        ap (λ xs. add_entry xs t e) (add_before x es s d first)
        ∙ add_before (s, d) (x ∷ es) t e p
        ∙ sym (
        ap (λ xs. add_entry xs s d) (add_before x es t e (in_order.trans t s x.0 p first))
        ∙ add_past (t, e) (x ∷ es) s d (not_less s t p)
        ∙ ap (λ xs. (t, e) ∷ xs) (add_before x es s d first)
        )
    go false q true r next =
        ap (λ xs. add_entry xs t e) (add_past x es s d q)
        ∙ add_before x (add_entry es s d) t e (less-is (symbol_cmp t x.0) r)
        ∙ sym (
        ap (λ xs. add_entry xs s d) (add_before x es t e (less-is (symbol_cmp t x.0) r))
        ∙ add_past (t, e) (x ∷ es) s d (not_less s t p)
        ∙ ap (λ xs. (t, e) ∷ xs) (add_past x es s d q)
        )
    go false q false r next =
        ap (λ xs. add_entry xs t e) (add_past x es s d q)
        ∙ add_past x (add_entry es s d) t e r
        ∙ ap (λ xs. x ∷ xs) next
        ∙ sym (ap (λ xs. add_entry xs s d) (add_past x es t e r) ∙ add_past x (add_entry es t e) s d q)

nat_equal : (m n : ℕ) → nat_cmp m n ≡ Equal → m ≡ n
nat_equal m n e = grind (arith, ltb-true, ltb-false)

first_equal : (o p : Ordering) → ordering_then o p ≡ Equal → o ≡ Equal
first_equal Less p q = q
first_equal Equal p q = refl
first_equal Greater p q = q

second_equal : (o p : Ordering) → ordering_then o p ≡ Equal → p ≡ Equal
second_equal Less p q = absurd (cc)
second_equal Equal p q = q
second_equal Greater p q = absurd (cc)

equal_same : (s t : Sym) → symbol_cmp s t ≡ Equal → s ≡ t
equal_same s t p =
    λ i. record {
      base = nat_equal s.base t.base (first_equal (nat_cmp s.base t.base) (nat_cmp s.number t.number) p) i;
      number = nat_equal s.number t.number (second_equal (nat_cmp s.base t.base) (nat_cmp s.number t.number) p) i;
    }

-- ---- the order in which entries of two symbols are added does not matter
pub swapped : (es : Entries) (s t : Sym) (d e : Definition) → same_symbol s t ≡ false → add_entry (add_entry es s d) t e ≡ add_entry (add_entry es t e) s d
swapped es s t d e p = go (symbol_cmp t s) refl
  where
    go : (o : Ordering) → symbol_cmp t s ≡ o → add_entry (add_entry es s d) t e ≡ add_entry (add_entry es t e) s d
    go Less q = swapped_after es s t d e q
    go Equal q = absurd (true≢false (sym (same_itself s) ∙ subst (λ x. same_symbol s x ≡ false) (equal_same t s q) p))
    go Greater q = sym (swapped_after es t s e d (in_order.antisymm s t ∙ ap ordering_reverse q))

-- ---- what is looked up

pick : (b c : Bool) {A : Type 0} (x y : A) → b ≡ c → ◌≡◌ {A = A} (elim b [ true ↦ x | false ↦ y ]) (elim c [ true ↦ x | false ↦ y ])
pick b c x y e = ap (λ a. elim a [ true ↦ x | false ↦ y ]) e

pub found_first : (e : Sym × Definition) (es : Entries) (s : Sym) → same_symbol e.0 s ≡ true → look_up (e ∷ es) s ≡ Some e.1
found_first e es s p = pick (same_symbol e.0 s) true (Some e.1) (look_up es s) p

pub found_later : (e : Sym × Definition) (es : Entries) (s : Sym) → same_symbol e.0 s ≡ false → look_up (e ∷ es) s ≡ look_up es s
found_later e es s p = pick (same_symbol e.0 s) false (Some e.1) (look_up es s) p

pub absent_apart : (e : Sym × Definition) (es : Entries) (s : Sym) → look_up (e ∷ es) s ≡ None → same_symbol e.0 s ≡ false
absent_apart e es s p = go (same_symbol e.0 s) refl
  where
    go : (b : Bool) → same_symbol e.0 s ≡ b → same_symbol e.0 s ≡ false
    go false q = q
    go true q = absurd (let no : Some e.1 ≡ None = sym (found_first e es s q) ∙ p in cc)

pub absent_later : (e : Sym × Definition) (es : Entries) (s : Sym) → look_up (e ∷ es) s ≡ None → look_up es s ≡ None
absent_later e es s p = sym (found_later e es s (absent_apart e es s p)) ∙ p

pub added_other : (es : Entries) (s t : Sym) (d : Definition) → same_symbol s t ≡ false → look_up (add_entry es s d) t ≡ look_up es t
added_other [] s t d apart = pick (same_symbol s t) false (Some d) None apart
added_other (e ∷ es) s t d apart = go (symbol_cmp s e.0) (added_other es s t d apart)
  where
    go : (o : Ordering) → look_up (add_entry es s d) t ≡ look_up es t → look_up (less_or o ((s, d) ∷ e ∷ es) (e ∷ add_entry es s d)) t ≡ look_up (e ∷ es) t
    go Less rest = pick (same_symbol s t) false (Some d) (look_up (e ∷ es) t) apart
    go Equal rest = ap (λ o. elim (same_symbol e.0 t) [ true ↦ Some e.1 | false ↦ o ]) rest
    go Greater rest = ap (λ o. elim (same_symbol e.0 t) [ true ↦ Some e.1 | false ↦ o ]) rest

pub added_same : (es : Entries) (s : Sym) (d : Definition) → look_up es s ≡ None → look_up (add_entry es s d) s ≡ Some d
added_same [] s d p = found_first (s, d) [] s (same_itself s)
added_same (e ∷ es) s d p = go (symbol_cmp s e.0) (added_same es s d (absent_later e es s p))
  where
    after : look_up (add_entry es s d) s ≡ Some d → look_up (e ∷ add_entry es s d) s ≡ Some d
    after rest = found_later e (add_entry es s d) s (absent_apart e es s p) ∙ rest

    go : (o : Ordering) → look_up (add_entry es s d) s ≡ Some d → look_up (less_or o ((s, d) ∷ e ∷ es) (e ∷ add_entry es s d)) s ≡ Some d
    go Less rest = found_first (s, d) (e ∷ es) s (same_itself s)
    go Equal rest = after rest
    go Greater rest = after rest

-- ---- entries dropped

pub drops_first : (e : Sym × Definition) (es : Entries) (s : Sym) → same_symbol e.0 s ≡ true → drop_entry (e ∷ es) s ≡ drop_entry es s
drops_first e es s p = pick (same_symbol e.0 s) true (drop_entry es s) (e ∷ drop_entry es s) p

pub drops_later : (e : Sym × Definition) (es : Entries) (s : Sym) → same_symbol e.0 s ≡ false → drop_entry (e ∷ es) s ≡ e ∷ drop_entry es s
drops_later e es s p = pick (same_symbol e.0 s) false (drop_entry es s) (e ∷ drop_entry es s) p

pub dropped_same : (es : Entries) (s : Sym) → look_up (drop_entry es s) s ≡ None
dropped_same [] s = refl
dropped_same (e ∷ es) s = go (same_symbol e.0 s) refl (dropped_same es s)
  where
    go : (b : Bool) → same_symbol e.0 s ≡ b → look_up (drop_entry es s) s ≡ None → look_up (drop_entry (e ∷ es) s) s ≡ None
    go true p rest = ap (λ xs. look_up xs s) (drops_first e es s p) ∙ rest
    go false p rest = ap (λ xs. look_up xs s) (drops_later e es s p) ∙ found_later e (drop_entry es s) s p ∙ rest

pub dropped_absent : (es : Entries) (s : Sym) → look_up es s ≡ None → drop_entry es s ≡ es
dropped_absent [] s p = refl
dropped_absent (e ∷ es) s p = drops_later e es s (absent_apart e es s p) ∙ ap (λ xs. e ∷ xs) (dropped_absent es s (absent_later e es s p))

pub dropped_other : (es : Entries) (s t : Sym) → same_symbol s t ≡ false → look_up (drop_entry es s) t ≡ look_up es t
dropped_other [] s t apart = refl
dropped_other (e ∷ es) s t apart = go (same_symbol e.0 s) refl (dropped_other es s t apart)
  where
    other : same_symbol e.0 s ≡ true → same_symbol e.0 t ≡ false
    other p = subst (λ x. same_symbol x t ≡ false) (sym (same-eq e.0 s p)) apart

    go : (b : Bool) → same_symbol e.0 s ≡ b → look_up (drop_entry es s) t ≡ look_up es t → look_up (drop_entry (e ∷ es) s) t ≡ look_up (e ∷ es) t
    go true p rest = ap (λ xs. look_up xs t) (drops_first e es s p) ∙ rest ∙ sym (found_later e es t (other p))
    go false p rest = ap (λ xs. look_up xs t) (drops_later e es s p) ∙ ap (λ o. elim (same_symbol e.0 t) [ true ↦ Some e.1 | false ↦ o ]) rest

pub dropped_added : (es : Entries) (s : Sym) (d : Definition) → drop_entry (add_entry es s d) s ≡ drop_entry es s
dropped_added [] s d = drops_first (s, d) [] s (same_itself s)
dropped_added (e ∷ es) s d = go (symbol_cmp s e.0) (dropped_added es s d)
  where
    after : drop_entry (add_entry es s d) s ≡ drop_entry es s → drop_entry (e ∷ add_entry es s d) s ≡ drop_entry (e ∷ es) s
    after rest = ap (λ xs. elim (same_symbol e.0 s) [ true ↦ xs | false ↦ e ∷ xs ]) rest

    go : (o : Ordering) → drop_entry (add_entry es s d) s ≡ drop_entry es s → drop_entry (less_or o ((s, d) ∷ e ∷ es) (e ∷ add_entry es s d)) s ≡ drop_entry (e ∷ es) s
    go Less rest = drops_first (s, d) (e ∷ es) s (same_itself s)
    go Equal rest = after rest
    go Greater rest = after rest

-- ---- entries in order

above_dropped : (s : Sym) (es : Entries) (t : Sym) → AllAbove s es → AllAbove s (drop_entry es t)
above_dropped s [] t p = p
above_dropped s (e ∷ es) t p = go (same_symbol e.0 t) refl (above_dropped s es t p.1)
  where
    go : (b : Bool) → same_symbol e.0 t ≡ b → AllAbove s (drop_entry es t) → AllAbove s (drop_entry (e ∷ es) t)
    go true q rest = subst (AllAbove s) (sym (drops_first e es t q)) rest
    go false q rest = subst (AllAbove s) (sym (drops_later e es t q)) (p.0, rest)

above_all : (s t : Sym) (es : Entries) → symbol_cmp s t ≡ Less → AllAbove t es → AllAbove s es
above_all s t [] p q = q
above_all s t (e ∷ es) p q = (in_order.trans s t e.0 p q.0, above_all s t es p q.1)

added_front : (es : Entries) (s : Sym) (d : Definition) → AllAbove s es → add_entry es s d ≡ (s, d) ∷ es
added_front [] s d p = refl
added_front (e ∷ es) s d p = add_before e es s d p.0

above_added : (r : Sym) (es : Entries) (s : Sym) (d : Definition) → symbol_cmp r s ≡ Less → AllAbove r es → AllAbove r (add_entry es s d)
above_added r [] s d p q = (p, q)
above_added r (e ∷ es) s d p q = go (symbol_cmp s e.0) (above_added r es s d p q.1)
  where
    go : (o : Ordering) → AllAbove r (add_entry es s d) → AllAbove r (less_or o ((s, d) ∷ e ∷ es) (e ∷ add_entry es s d))
    go Less rest = (p, q)
    go Equal rest = (q.0, rest)
    go Greater rest = (q.0, rest)

not_below : (s t : Sym) → same_symbol t s ≡ false → is_lt (symbol_cmp s t) ≡ false → symbol_cmp t s ≡ Less
not_below s t p q = go (symbol_cmp s t) refl
  where
    go : (o : Ordering) → symbol_cmp s t ≡ o → symbol_cmp t s ≡ Less
    go Less r = absurd (true≢false (ap is_lt (sym r) ∙ q))
    go Equal r = absurd (true≢false (sym (same_itself t) ∙ subst (λ x. same_symbol t x ≡ false) (equal_same s t r) p))
    go Greater r = in_order.antisymm t s ∙ ap ordering_reverse r

pub ascends_added : (es : Entries) (s : Sym) (d : Definition) → Ascends es → look_up es s ≡ None → Ascends (add_entry es s d)
ascends_added [] s d p q = (tt, p)
ascends_added (e ∷ es) s d p q = go (is_lt (symbol_cmp s e.0)) refl (ascends_added es s d p.1 (absent_later e es s q))
  where
    go : (b : Bool) → is_lt (symbol_cmp s e.0) ≡ b → Ascends (add_entry es s d) → Ascends (add_entry (e ∷ es) s d)
    go true r rest =
        let first = less-is (symbol_cmp s e.0) r in
        subst Ascends (sym (add_before e es s d first)) ((first, above_all s e.0 es first p.0), p)
    go false r rest =
        subst Ascends (sym (add_past e es s d r)) (above_added e.0 es s d (not_below s e.0 (absent_apart e es s q) r) p.0, rest)

pub ascends_dropped : (es : Entries) (s : Sym) → Ascends es → Ascends (drop_entry es s)
ascends_dropped [] s p = p
ascends_dropped (e ∷ es) s p = go (same_symbol e.0 s) refl (ascends_dropped es s p.1)
  where
    go : (b : Bool) → same_symbol e.0 s ≡ b → Ascends (drop_entry es s) → Ascends (drop_entry (e ∷ es) s)
    go true q rest = subst Ascends (sym (drops_first e es s q)) rest
    go false q rest = subst Ascends (sym (drops_later e es s q)) (above_dropped e.0 es s p.0, rest)

-- an entry of one symbol is added and one of another dropped, in either order
pub added_dropped : (es : Entries) (s t : Sym) (d : Definition) → Ascends es → same_symbol s t ≡ false → drop_entry (add_entry es s d) t ≡ add_entry (drop_entry es t) s d
added_dropped [] s t d is p = drops_later (s, d) [] t p
added_dropped (e ∷ es) s t d is p = go (is_lt (symbol_cmp s e.0)) refl (same_symbol e.0 t) refl (added_dropped es s t d is.1 p)
  where
    go : (b : Bool) → is_lt (symbol_cmp s e.0) ≡ b → (c : Bool) → same_symbol e.0 t ≡ c → drop_entry (add_entry es s d) t ≡ add_entry (drop_entry es t) s d
        → drop_entry (add_entry (e ∷ es) s d) t ≡ add_entry (drop_entry (e ∷ es) t) s d
    go true q c r next =
        let first = less-is (symbol_cmp s e.0) q in
        let all : AllAbove s (e ∷ es) = (first, above_all s e.0 es first is.0) in
        ap (λ xs. drop_entry xs t) (add_before e es s d first)
        ∙ drops_later (s, d) (e ∷ es) t p
        ∙ sym (added_front (drop_entry (e ∷ es) t) s d (above_dropped s (e ∷ es) t all))
    go false q true r next =
        ap (λ xs. drop_entry xs t) (add_past e es s d q)
        ∙ drops_first e (add_entry es s d) t r
        ∙ next
        ∙ ap (λ xs. add_entry xs s d) (sym (drops_first e es t r))
    go false q false r next =
        ap (λ xs. drop_entry xs t) (add_past e es s d q)
        ∙ drops_later e (add_entry es s d) t r
        ∙ ap (λ xs. e ∷ xs) next
        ∙ sym (ap (λ xs. add_entry xs s d) (drops_later e es t r) ∙ add_past e (drop_entry es t) s d q)

pub dropped_dropped : (es : Entries) (s t : Sym) → drop_entry (drop_entry es s) t ≡ drop_entry (drop_entry es t) s
dropped_dropped [] s t = refl
dropped_dropped (e ∷ es) s t = go (same_symbol e.0 s) refl (same_symbol e.0 t) refl (dropped_dropped es s t)
  where
    go : (b : Bool) → same_symbol e.0 s ≡ b → (c : Bool) → same_symbol e.0 t ≡ c → drop_entry (drop_entry es s) t ≡ drop_entry (drop_entry es t) s
        → drop_entry (drop_entry (e ∷ es) s) t ≡ drop_entry (drop_entry (e ∷ es) t) s
    go true p true q next = ap (λ xs. drop_entry xs t) (drops_first e es s p) ∙ next ∙ ap (λ xs. drop_entry xs s) (sym (drops_first e es t q))
    go true p false q next =
        ap (λ xs. drop_entry xs t) (drops_first e es s p) ∙ next ∙ sym (ap (λ xs. drop_entry xs s) (drops_later e es t q) ∙ drops_first e (drop_entry es t) s p)
    go false p true q next =
        ap (λ xs. drop_entry xs t) (drops_later e es s p) ∙ drops_first e (drop_entry es s) t q ∙ next ∙ ap (λ xs. drop_entry xs s) (sym (drops_first e es t q))
    go false p false q next =
        ap (λ xs. drop_entry xs t) (drops_later e es s p)
        ∙ drops_later e (drop_entry es s) t q
        ∙ ap (λ xs. e ∷ xs) next
        ∙ sym (ap (λ xs. drop_entry xs s) (drops_later e es t q) ∙ drops_later e (drop_entry es t) s p)

pub dropped_twice : (es : Entries) (s : Sym) → drop_entry (drop_entry es s) s ≡ drop_entry es s
dropped_twice es s = dropped_absent (drop_entry es s) s (dropped_same es s)
