-- What is stored after a bundle was installed: on its closure what the bundle was taken from, whatever the kernel knew.
use Rattle.std.proofs.Common.{arith, inl, inr, ◌<◌, ◌≡◌, refl, sym, ap, subst, ◌∙◌, Bool, true, false, List, [], ◌∷◌, Option, Some, None, is_none, T, true≢false}
use Rattle.std.specs.Prelude.{◌⊎◌}
use Rattle.std.specs.Ordering.{nat_cmp, ordering_then, MatchOrdering}
use Rattle.std.specs.Cmp.{ranked, nat_cmp_is}
use Rattle.std.specs.declared.cmp.Ordering.{Ordering}
use Rattle.std.specs.declared.cmp.Ordering.TheVariants.{Less, Equal, Greater}
use Rattle.expr_tree.proofs.Same.{symbol_eq-Decides}
use Rattle.expr_tree.specs.declared.sym.Sym.{Sym}
use Rattle.expr_tree.specs.Order.{symbol_cmp, same_symbol}
use Rattle.semantics.specs.Names.{Names}
use Rattle.semantics.specs.Definitions.{Definition, Definitions, look_up, add_entry, first_definition}
use Rattle.journal.specs.Closure.{is_shared, Reach, reaches, inside, outside, unshared, with_entries, InClosure, closure, bundle, install}
use Rattle.laws_journal.proofs.Closed.{complete_closure}
use Rattle.laws_closure.specs.Frame.{AgreeOn}

same_symbol-eq : (s t : Sym) → same_symbol s t ≡ true → s ≡ t
same_symbol-eq s t = (symbol_eq-Decides s t).0

same_symbol-self : (s : Sym) → same_symbol s s ≡ true
same_symbol-self s = (symbol_eq-Decides s s).1 refl

abbrev Entries : Type 0
Entries = List (Sym × Definition)

-- the first entry for s is x, and none before it is of a greater symbol
data Stands (s : Sym) (x : Definition) : Entries → Type 0 where
  found : {t : Sym} {y : Definition} {es : Entries} → t ≡ s → y ≡ x → Stands s x ((t, y) ∷ es)
  passed : {t : Sym} {y : Definition} {es : Entries} → same_symbol t s ≡ false → (symbol_cmp s t ≡ Less → ⊥) → Stands s x es → Stands s x ((t, y) ∷ es)

less_not_equal : Less ≡ Equal → ⊥
less_not_equal e = Prim.cc e

pick : {A : Type 0} (b c : Bool) (x y : A) → b ≡ c → ◌≡◌ {A = A} (elim b [ true ↦ x | false ↦ y ]) (elim c [ true ↦ x | false ↦ y ])
pick b c x y e = ap (λ a. elim a [ true ↦ x | false ↦ y ]) e

stands_is : (s : Sym) (x : Definition) (es : Entries) → Stands s x es → look_up es s ≡ Some x
stands_is s x [] stands = elim stands [ ]
stands_is s x ((t, y) ∷ es) (found e f) = pick (same_symbol t s) true (Some y) (look_up es s) (subst (λ z. same_symbol z s ≡ true) (sym e) (same_symbol-self s)) ∙ ap Some f
stands_is s x ((t, y) ∷ es) (passed apart after rest) = pick (same_symbol t s) false (Some y) (look_up es s) apart ∙ stands_is s x es rest

-- where s has no entry, one that is added stands
added_stands : (s : Sym) (x : Definition) (es : Entries) → look_up es s ≡ None → Stands s x (add_entry es s x)
added_stands s x [] none = found refl refl
added_stands s x (e ∷ es) none = go (symbol_cmp s e.0) refl (same_symbol e.0 s) refl none (added_stands s x es)
  where
    go : (o : Ordering) → symbol_cmp s e.0 ≡ o → (b : Bool) → same_symbol e.0 s ≡ b → ◌≡◌ {A = Option Definition} (elim b [ true ↦ Some e.1 | false ↦ look_up es s ]) None
        → (look_up es s ≡ None → Stands s x (add_entry es s x)) → Stands s x (elim o [ Less ↦ (s, x) ∷ e ∷ es | _ ↦ e ∷ add_entry es s x ])
    go Less q b p n next = found refl refl
    go Equal q true p n next = absurd (subst (λ o. T (is_none o)) (sym n) tt)
    go Equal q false p n next = passed p (λ less. less_not_equal (sym less ∙ q)) (next n)
    go Greater q true p n next = absurd (subst (λ o. T (is_none o)) (sym n) tt)
    go Greater q false p n next = passed p (λ less. absurd (Prim.cc (sym less ∙ q))) (next n)

-- ---- the order of symbols

abbrev Below : Sym → Sym → Type 0
Below a b = (a.base < b.base) ⊎ ((a.base ≡ b.base) × (a.number < b.number))

less_is : (a b : Sym) → symbol_cmp a b ≡ Less → Below a b
less_is a b e = go (nat_cmp a.base b.base) (nat_cmp a.number b.number) (ranked a.base b.base _ refl) (ranked a.number b.number _ refl) e
  where
    go : (o p : Ordering) → MatchOrdering o (a.base < b.base) (a.base ≡ b.base) (b.base < a.base) → MatchOrdering p (a.number < b.number) (a.number ≡ b.number) (b.number < a.number)
        → ordering_then o p ≡ Less → Below a b
    go Less p less rest e = inl less
    go Equal Less same rest e = inr (same, rest)
    go Equal Equal same rest e = absurd (Prim.cc e)
    go Equal Greater same rest e = absurd (Prim.cc e)
    go Greater p more rest e = absurd (Prim.cc e)

is_less : (a b : Sym) → Below a b → symbol_cmp a b ≡ Less
is_less a b (inl less) = ap (λ o. ordering_then o (nat_cmp a.number b.number)) (sym (nat_cmp_is a.base b.base Less less))
is_less a b (inr both) =
    ap (λ o. ordering_then o (nat_cmp a.number b.number)) (sym (nat_cmp_is a.base b.base Equal both.0)) ∙ sym (nat_cmp_is a.number b.number Less both.1)

below_self : (a : Sym) → Below a a → ⊥
below_self a (inl less) = omega arith
below_self a (inr both) = omega (arith, both.1)

below_trans : (a b c : Sym) → Below a b → Below b c → Below a c
below_trans a b c (inl x) (inl y) = inl (omega (arith, x, y))
below_trans a b c (inl x) (inr y) = inl (omega (arith, x, y.0))
below_trans a b c (inr x) (inl y) = inl (omega (arith, x.0, y))
below_trans a b c (inr x) (inr y) = inr (x.0 ∙ y.0, omega (arith, x.1, y.1))

less_trans : (a b c : Sym) → symbol_cmp a b ≡ Less → symbol_cmp b c ≡ Less → symbol_cmp a c ≡ Less
less_trans a b c e f = is_less a c (below_trans a b c (less_is a b e) (less_is b c f))

not_less_self : (a : Sym) → symbol_cmp a a ≡ Less → ⊥
not_less_self a e = below_self a (less_is a a e)

less_apart : (a b : Sym) → symbol_cmp a b ≡ Less → same_symbol a b ≡ false
less_apart a b e = go (same_symbol a b) refl
  where
    go : (c : Bool) → same_symbol a b ≡ c → same_symbol a b ≡ false
    go false is = is
    go true is = absurd (not_less_self a (subst (λ z. symbol_cmp a z ≡ Less) (sym (same_symbol-eq a b is)) e))

-- it stands still where another entry is added, also one for the same symbol
still_stands : (s t : Sym) (x y : Definition) (es : Entries) → Stands s x es → Stands s x (add_entry es t y)
still_stands s t x y [] stands = elim stands [ ]
still_stands s t x y ((u, z) ∷ es) (found e f) = go (symbol_cmp t u) refl
  where
    before_it : symbol_cmp t u ≡ Less → symbol_cmp t s ≡ Less
    before_it less = subst (λ v. symbol_cmp t v ≡ Less) e less

    go : (o : Ordering) → symbol_cmp t u ≡ o → Stands s x (elim o [ Less ↦ (t, y) ∷ (u, z) ∷ es | _ ↦ (u, z) ∷ add_entry es t y ])
    go Less less = passed (less_apart t s (before_it less)) (λ back. not_less_self s (less_trans s t s back (before_it less))) (found e f)
    go Equal less = found e f
    go Greater less = found e f
still_stands s t x y ((u, z) ∷ es) (passed apart after rest) = go (symbol_cmp t u) refl (still_stands s t x y es rest)
  where
    not_s : symbol_cmp t u ≡ Less → (b : Bool) → same_symbol t s ≡ b → same_symbol t s ≡ false
    not_s less false is = is
    not_s less true is = absurd (after (subst (λ v. symbol_cmp v u ≡ Less) (same_symbol-eq t s is) less))

    go : (o : Ordering) → symbol_cmp t u ≡ o → Stands s x (add_entry es t y) → Stands s x (elim o [ Less ↦ (t, y) ∷ (u, z) ∷ es | _ ↦ (u, z) ∷ add_entry es t y ])
    go Less less next = passed (not_s less (same_symbol t s) refl) (λ back. after (less_trans s t u back less)) (passed apart after rest)
    go Equal less next = passed apart after next
    go Greater less next = passed apart after next

all_stand : (s : Sym) (x : Definition) (ns es : Entries) → Stands s x es → Stands s x (with_entries ns es)
all_stand s x [] es stands = stands
all_stand s x (n ∷ ns) es stands = all_stand s x ns (add_entry es n.0 n.1) (still_stands s n.0 x n.1 es stands)

-- where s has no entry, adding one for another symbol gives it none
none_added : (s t : Sym) (y : Definition) (es : Entries) → same_symbol t s ≡ false → look_up es s ≡ None → look_up (add_entry es t y) s ≡ None
none_added s t y [] apart none = pick (same_symbol t s) false (Some y) None apart
none_added s t y (e ∷ es) apart none = go (symbol_cmp t e.0) (same_symbol e.0 s) refl none (none_added s t y es apart)
  where
    go : (o : Ordering) (b : Bool) → same_symbol e.0 s ≡ b → ◌≡◌ {A = Option Definition} (elim b [ true ↦ Some e.1 | false ↦ look_up es s ]) None
        → (look_up es s ≡ None → look_up (add_entry es t y) s ≡ None) → look_up (elim o [ Less ↦ (t, y) ∷ e ∷ es | _ ↦ e ∷ add_entry es t y ]) s ≡ None
    go o true p n next = absurd (subst (λ o. T (is_none o)) (sym n) tt)
    go Less false p n next = pick (same_symbol t s) false (Some y) (look_up (e ∷ es) s) apart ∙ (pick (same_symbol e.0 s) false (Some e.1) (look_up es s) p ∙ n)
    go Equal false p n next = pick (same_symbol e.0 s) false (Some e.1) (look_up (add_entry es t y) s) p ∙ next n
    go Greater false p n next = pick (same_symbol e.0 s) false (Some e.1) (look_up (add_entry es t y) s) p ∙ next n

-- what is put in is looked up
with_entries_is : (s : Sym) (ns es : Entries) → look_up es s ≡ None → look_up (with_entries ns es) s ≡ look_up ns s
with_entries_is s [] es none = none
with_entries_is s (n ∷ ns) es none = go (same_symbol n.0 s) refl (λ apart. with_entries_is s ns (add_entry es n.0 n.1) (none_added s n.0 n.1 es apart none))
  where
    go : (b : Bool) → same_symbol n.0 s ≡ b → (same_symbol n.0 s ≡ false → look_up (with_entries ns (add_entry es n.0 n.1)) s ≡ look_up ns s)
        → look_up (with_entries ns (add_entry es n.0 n.1)) s ≡ elim (same_symbol n.0 s) [ true ↦ Some n.1 | false ↦ look_up ns s ]
    go true is next =
        stands_is s n.1 (with_entries ns (add_entry es n.0 n.1))
        (all_stand s n.1 ns (add_entry es n.0 n.1) (subst (λ t. Stands s n.1 (add_entry es t n.1)) (sym (same_symbol-eq n.0 s is)) (added_stands s n.1 es none)))
        ∙ sym (pick (same_symbol n.0 s) true (Some n.1) (look_up ns s) is)
    go false is next = next is ∙ sym (pick (same_symbol n.0 s) false (Some n.1) (look_up ns s) is)

module _ (names : Names) (r : Reach) (s : Sym) where
  none_outside : reaches names r s ≡ true → (es : Entries) → look_up (outside names r es) s ≡ None
  none_outside there [] = refl
  none_outside there (e ∷ es) = go (reaches names r e.0) refl (none_outside there es)
    where
      go : (b : Bool) → reaches names r e.0 ≡ b → look_up (outside names r es) s ≡ None → look_up (elim b [ true ↦ outside names r es | false ↦ e ∷ outside names r es ]) s ≡ None
      go true is rest = rest
      go false is rest = pick (same_symbol e.0 s) false (Some e.1) (look_up (outside names r es) s) (other (same_symbol e.0 s) refl) ∙ rest
        where
          other : (b : Bool) → same_symbol e.0 s ≡ b → same_symbol e.0 s ≡ false
          other false p = p
          other true p = absurd (true≢false (sym there ∙ (ap (reaches names r) (sym (same_symbol-eq e.0 s p)) ∙ is)))

  all_inside : reaches names r s ≡ true → (es : Entries) → look_up (inside names r es) s ≡ look_up es s
  all_inside there [] = refl
  all_inside there (e ∷ es) = go (reaches names r e.0) refl (all_inside there es)
    where
      go : (b : Bool) → reaches names r e.0 ≡ b → look_up (inside names r es) s ≡ look_up es s
          → look_up (elim b [ true ↦ e ∷ inside names r es | false ↦ inside names r es ]) s ≡ elim (same_symbol e.0 s) [ true ↦ Some e.1 | false ↦ look_up es s ]
      go true is rest = ap (λ o. elim (same_symbol e.0 s) [ true ↦ Some e.1 | false ↦ o ]) rest
      go false is rest = rest ∙ sym (pick (same_symbol e.0 s) false (Some e.1) (look_up es s) (other (same_symbol e.0 s) refl))
        where
          other : (b : Bool) → same_symbol e.0 s ≡ b → same_symbol e.0 s ≡ false
          other false p = p
          other true p = absurd (true≢false (sym there ∙ (ap (reaches names r) (sym (same_symbol-eq e.0 s p)) ∙ is)))

all_unshared : (d : Definitions) (s : Sym) → is_shared d s ≡ false → (es : Entries) → look_up (unshared d es) s ≡ look_up es s
all_unshared d s free [] = refl
all_unshared d s free (e ∷ es) = go (is_shared d e.0) refl (all_unshared d s free es)
  where
    other : is_shared d e.0 ≡ true → (b : Bool) → same_symbol e.0 s ≡ b → same_symbol e.0 s ≡ false
    other is false p = p
    other is true p = absurd (true≢false (sym is ∙ (ap (is_shared d) (same_symbol-eq e.0 s p) ∙ free)))

    go : (b : Bool) → is_shared d e.0 ≡ b → look_up (unshared d es) s ≡ look_up es s
        → look_up (elim b [ true ↦ unshared d es | false ↦ e ∷ unshared d es ]) s ≡ elim (same_symbol e.0 s) [ true ↦ Some e.1 | false ↦ look_up es s ]
    go true is rest = rest ∙ sym (pick (same_symbol e.0 s) false (Some e.1) (look_up es s) (other is (same_symbol e.0 s) refl))
    go false is rest = ap (λ o. elim (same_symbol e.0 s) [ true ↦ Some e.1 | false ↦ o ]) rest

-- on the closure the definitions with the bundle installed are those that it was taken from
pub installed : (names : Names) (d left : Definitions) (seeds : List Sym) → AgreeOn names (InClosure names d seeds) d (install names left (bundle names d seeds))
installed names d left seeds =
    record {
      shared = refl;
      number = refl;
      same = λ s s_in free.
          ap (λ o. elim o [ None ↦ first_definition names s | Some definition ↦ definition ])
          (sym (with_entries_is s (unshared d (inside names (closure names d seeds) d.entries)) (outside names (closure names d seeds) left.entries)
          (none_outside names (closure names d seeds) s (complete_closure names d seeds s s_in) left.entries)
          ∙ (all_unshared d s free (inside names (closure names d seeds) d.entries) ∙ all_inside names (closure names d seeds) s (complete_closure names d seeds s s_in) d.entries)));
    }
