-- What is stored for a symbol after another definition was put for one: the law that all who read definitions stand on.
use Rattle.std.proofs.Common.{◌≡◌, ℕ, zero, suc, refl, sym, ap, subst, ◌∙◌, Bool, true, false, List, [], ◌∷◌, Option, Some, None, is_none, T, true≢false, eqb-true}
use Rattle.std.specs.Prelude.{◌&&◌, ◌==◌}
use Rattle.std.specs.declared.cmp.Ordering.{Ordering}
use Rattle.std.specs.declared.cmp.Ordering.TheVariants.{Less, Equal, Greater}
use Rattle.expr_tree.proofs.Same.{symbol_eq-Decides}
use Rattle.expr_tree.specs.declared.sym.Sym.{Sym}
use Rattle.expr_tree.specs.Order.{symbol_cmp, same_symbol}
use Rattle.semantics.specs.declared.builtin.Builtin.{Builtin}
use Rattle.semantics.specs.Builtin.{row_number, rows}
use Rattle.semantics.specs.Names.{Names}
use Rattle.semantics.specs.Definitions.{Definition, Definitions, Attributes, same_attributes, first_definition, is_first, is_empty, look_up, drop_entry, add_entry, stored, put, Shared, shared_as}
use Rattle.semantics.specs.Program.{Seen}
use Rattle.laws_language.specs.Laws.{OthersStay}

row_at : List Builtin → ℕ → Option Builtin
row_at [] n = None
row_at (r ∷ rs) zero = Some r
row_at (r ∷ rs) (suc n) = row_at rs n

pub same_symbol-eq : (s t : Sym) → same_symbol s t ≡ true → s ≡ t
same_symbol-eq s t = (symbol_eq-Decides s t).0

-- ---- attributes are the same only where they are equal

by_number : (a : Builtin) → row_at rows (row_number a) ≡ Some a
unfolding row_at
by_number Builtin.Plus = refl
by_number _ = refl

the_row : Option Builtin → Builtin
the_row None = Builtin.Plus
the_row (Some a) = a

number-eq : (a b : Builtin) → row_number a ≡ row_number b → a ≡ b
unfolding the_row
number-eq a b e = ap the_row (sym (by_number a) ∙ ap (row_at rows) e ∙ by_number b)

same_attributes-eq : (as' bs : Attributes) → same_attributes as' bs ≡ true → as' ≡ bs
same_attributes-eq [] [] e = refl
same_attributes-eq [] (b ∷ bs) e = absurd (true≢false (sym e))
same_attributes-eq (a ∷ as') [] e = absurd (true≢false (sym e))
same_attributes-eq (a ∷ as') (b ∷ bs) e = go (row_number a == row_number b) refl e (same_attributes-eq as' bs)
  where
    go : (c : Bool) → (row_number a == row_number b) ≡ c → elim c [ true ↦ same_attributes as' bs | false ↦ false ] ≡ true → (same_attributes as' bs ≡ true → as' ≡ bs) → ◌≡◌ {A = Attributes} (a ∷ as') (b ∷ bs)
    go true n rest next = λ i. number-eq a b (eqb-true _ _ n) i ∷ next rest i
    go false n rest next = absurd (true≢false (sym rest))

both_true : (a b : Bool) → (a && b) ≡ true → (a ≡ true) × (b ≡ true)
both_true true b e = (refl, e)
both_true false b e = absurd (true≢false (sym e))

none-eq : {A : Type 0} (o : Option A) → is_none o ≡ true → o ≡ None
none-eq None e = refl
none-eq (Some x) e = absurd (true≢false (sym e))

empty-eq : {A : Type 0} (xs : List A) → is_empty xs ≡ true → xs ≡ []
empty-eq [] e = refl
empty-eq (x ∷ xs) e = absurd (true≢false (sym e))

-- a definition that says no more than the first one is the first one
is_first-eq : (names : Names) (s : Sym) (d : Definition) → is_first names s d ≡ true → d ≡ first_definition names s
is_first-eq names s d e =
    let one = both_true (is_none d.own) _ e in
    let two = both_true (is_empty d.downs) _ one.1 in
    let three = both_true (is_empty d.ups) _ two.1 in
    λ i. record {
      attributes = same_attributes-eq d.attributes ((first_definition names s).attributes) three.1 i;
      own = none-eq d.own one.0 i;
      downs = empty-eq d.downs two.0 i;
      ups = empty-eq d.ups three.0 i;
    }

-- ---- entries

abbrev Entries : Type 0
Entries = List (Sym × Definition)

same_itself : (s : Sym) → same_symbol s s ≡ true
same_itself s = (symbol_eq-Decides s s).1 refl

pick : (b : Bool) (c : Bool) {A : Type 0} (x y : A) → b ≡ c → ◌≡◌ {A = A} (elim b [ true ↦ x | false ↦ y ]) (elim c [ true ↦ x | false ↦ y ])
pick b c x y e = ap (λ a. elim a [ true ↦ x | false ↦ y ]) e

dropped_same : (es : Entries) (s : Sym) → look_up (drop_entry es s) s ≡ None
dropped_same [] s = refl
dropped_same (e ∷ es) s = go (same_symbol e.0 s) refl (dropped_same es s)
  where
    go : (b : Bool) → same_symbol e.0 s ≡ b → look_up (drop_entry es s) s ≡ None → look_up (elim b [ true ↦ drop_entry es s | false ↦ e ∷ drop_entry es s ]) s ≡ None
    go true p rest = rest
    go false p rest = pick (same_symbol e.0 s) false (Some e.1) (look_up (drop_entry es s) s) p ∙ rest

dropped_other : (es : Entries) (s t : Sym) → same_symbol s t ≡ false → look_up (drop_entry es s) t ≡ look_up es t
dropped_other [] s t apart = refl
dropped_other (e ∷ es) s t apart = go (same_symbol e.0 s) refl (dropped_other es s t apart)
  where
    other : same_symbol e.0 s ≡ true → same_symbol e.0 t ≡ false
    other p = subst (λ x. same_symbol x t ≡ false) (sym (same_symbol-eq e.0 s p)) apart

    go : (b : Bool) → same_symbol e.0 s ≡ b → look_up (drop_entry es s) t ≡ look_up es t
        → look_up (elim b [ true ↦ drop_entry es s | false ↦ e ∷ drop_entry es s ]) t ≡ elim (same_symbol e.0 t) [ true ↦ Some e.1 | false ↦ look_up es t ]
    go true p rest = rest ∙ sym (pick (same_symbol e.0 t) false (Some e.1) (look_up es t) (other p))
    go false p rest = ap (λ o. elim (same_symbol e.0 t) [ true ↦ Some e.1 | false ↦ o ]) rest

-- an entry that is added is found, and no other answer changes
added_same : (es : Entries) (s : Sym) (d : Definition) → look_up es s ≡ None → look_up (add_entry es s d) s ≡ Some d
added_same [] s d none' = pick (same_symbol s s) true (Some d) None (same_itself s)
added_same (e ∷ es) s d none' = go (symbol_cmp s e.0) refl (same_symbol e.0 s) refl none' (added_same es s d)
  where
    here : look_up ((s, d) ∷ e ∷ es) s ≡ Some d
    here = pick (same_symbol s s) true (Some d) (look_up (e ∷ es) s) (same_itself s)

    go : (o : Ordering) → symbol_cmp s e.0 ≡ o → (b : Bool) → same_symbol e.0 s ≡ b → ◌≡◌ {A = Option Definition} (elim b [ true ↦ Some e.1 | false ↦ look_up es s ]) None
        → (look_up es s ≡ None → look_up (add_entry es s d) s ≡ Some d) → look_up (elim o [ Less ↦ (s, d) ∷ e ∷ es | _ ↦ e ∷ add_entry es s d ]) s ≡ Some d
    go Less q b p none'' next = here
    go Equal q true p none'' next = absurd (subst (λ o. T (is_none o)) (sym none'') tt)
    go Equal q false p none'' next = pick (same_symbol e.0 s) false (Some e.1) (look_up (add_entry es s d) s) p ∙ next none''
    go Greater q true p none'' next = absurd (subst (λ o. T (is_none o)) (sym none'') tt)
    go Greater q false p none'' next = pick (same_symbol e.0 s) false (Some e.1) (look_up (add_entry es s d) s) p ∙ next none''

added_other : (es : Entries) (s t : Sym) (d : Definition) → same_symbol s t ≡ false → look_up (add_entry es s d) t ≡ look_up es t
added_other [] s t d apart = pick (same_symbol s t) false (Some d) None apart
added_other (e ∷ es) s t d apart = go (symbol_cmp s e.0) (added_other es s t d apart)
  where
    go : (o : Ordering) → look_up (add_entry es s d) t ≡ look_up es t → look_up (elim o [ Less ↦ (s, d) ∷ e ∷ es | _ ↦ e ∷ add_entry es s d ]) t ≡ look_up (e ∷ es) t
    go Less rest = pick (same_symbol s t) false (Some d) (look_up (e ∷ es) t) apart
    go Equal rest = ap (λ o. elim (same_symbol e.0 t) [ true ↦ Some e.1 | false ↦ o ]) rest
    go Greater rest = ap (λ o. elim (same_symbol e.0 t) [ true ↦ Some e.1 | false ↦ o ]) rest

-- what is stored for the symbol itself
pub stored_same : (names : Names) (d : Definitions) (s : Sym) (new : Definition) → stored names (put names d s new) s ≡ new
stored_same names d s new = go (is_first names s new) refl
  where
    from : Option Definition → Definition
    from o = elim o [ None ↦ first_definition names s | Some definition ↦ definition ]

    go : (b : Bool) → is_first names s new ≡ b → from (look_up (elim b [ true ↦ drop_entry d.entries s | false ↦ add_entry (drop_entry d.entries s) s new ]) s) ≡ new
    go true e = ap from (dropped_same d.entries s) ∙ sym (is_first-eq names s new e)
    go false e = ap from (added_same (drop_entry d.entries s) s new (dropped_same d.entries s))

-- and for the others
pub stored_other : (names : Names) (d : Definitions) (s t : Sym) (new : Definition) → same_symbol s t ≡ false → stored names (put names d s new) t ≡ stored names d t
stored_other names d s t new apart = go (is_first names s new)
  where
    from : Option Definition → Definition
    from o = elim o [ None ↦ first_definition names t | Some definition ↦ definition ]

    go : (b : Bool) → from (look_up (elim b [ true ↦ drop_entry d.entries s | false ↦ add_entry (drop_entry d.entries s) s new ]) t) ≡ from (look_up d.entries t)
    go true = ap from (dropped_other d.entries s t apart)
    go false = ap from (added_other (drop_entry d.entries s) s t new apart ∙ dropped_other d.entries s t apart)

-- what a program sees of another symbol than the one that it writes
seen_from : Definition → Option Shared → Seen
seen_from definition shared =
    record {
      definition = elim shared [ None ↦ definition | Some e ↦ record definition { attributes = e.attributes } ];
      shared = elim shared [ None ↦ None | Some e ↦ Some e.kind ];
    }

pub others_stay : OthersStay
unfolding seen_from
others_stay names d s t new apart =
    ap (λ definition. seen_from definition (shared_as d.shared t))
    (stored_other names d s t (elim (shared_as d.shared s) [ None ↦ new | Some e ↦ record new { attributes = (stored names d s).attributes } ]) apart)
