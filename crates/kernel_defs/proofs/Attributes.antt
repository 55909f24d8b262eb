-- Flags as a list of names.
use Rattle.std.proofs.Common.{◌≡◌, ◌∙◌, ℕ, zero, suc, refl, sym, ap, Bool, true, false, List, [], ◌∷◌, Option, Some, None, true≢false, eqb-true, eq-eqb}
use mathlib.Core.Bool.{beq}
use Rattle.std.specs.Prelude.{◌||◌, ◌&&◌, ◌==◌}
use Rattle.expr_tree.specs.declared.attrs.Attrs.{Attrs}
use Rattle.semantics.specs.declared.builtin.Builtin.{Builtin}
use Rattle.semantics.specs.Builtin.{row_number, rows}
use Rattle.semantics.specs.Definitions.{Attributes, has, same_attributes}
use Rattle.builtin_names.specs.Attributes.{attributes_in, where_set}

abbrev from : List (Bool × Builtin) → Attributes
from [] = []
from (p ∷ ps) = where_set p.0 p.1 (from ps)

abbrev flags : Attrs → List (Bool × Builtin)
flags a =
    (a.flat, Builtin.Flat)
    ∷ (a.orderless, Builtin.Orderless)
    ∷ (a.listable, Builtin.Listable)
    ∷ (a.hold_first, Builtin.HoldFirst)
    ∷ (a.hold_rest, Builtin.HoldRest)
    ∷ (a.hold_all, Builtin.HoldAll)
    ∷ (a.hold_all_complete, Builtin.HoldAllComplete)
    ∷ (a.sequence_hold, Builtin.SequenceHold)
    ∷ (a.one_identity, Builtin.OneIdentity)
    ∷ (a.protected, Builtin.Protected)
    ∷ []

abbrev told : Builtin → List (Bool × Builtin) → Bool
told n [] = false
told n (p ∷ ps) = elim (row_number n == row_number p.1) [ true ↦ p.0 || told n ps | false ↦ told n ps ]

has_set : (n : Builtin) (b : Bool) (m : Builtin) (ms : Attributes)
    → has n (where_set b m ms) ≡ elim (row_number n == row_number m) [ true ↦ b || has n ms | false ↦ has n ms ]
has_set n true m ms = refl
has_set n false m ms = go (row_number n == row_number m)
  where
    go : (c : Bool) → has n ms ≡ elim c [ true ↦ false || has n ms | false ↦ has n ms ]
    go true = refl
    go false = refl

has_from : (n : Builtin) (ps : List (Bool × Builtin)) → has n (from ps) ≡ told n ps
has_from n [] = refl
has_from n (p ∷ ps) =
    has_set n p.0 p.1 (from ps) ∙ ap (λ b. elim (row_number n == row_number p.1) [ true ↦ p.0 || b | false ↦ b ]) (has_from n ps)

or_false : (b : Bool) → (b || false) ≡ b
or_false true = refl
or_false false = refl

-- ---- each flag is told

pub has_protected : (a : Attrs) → has Builtin.Protected (attributes_in a) ≡ a.protected
has_protected a = has_from Builtin.Protected (flags a) ∙ or_false a.protected

has_flat : (a : Attrs) → has Builtin.Flat (attributes_in a) ≡ a.flat
has_flat a = has_from Builtin.Flat (flags a) ∙ or_false a.flat

has_orderless : (a : Attrs) → has Builtin.Orderless (attributes_in a) ≡ a.orderless
has_orderless a = has_from Builtin.Orderless (flags a) ∙ or_false a.orderless

has_listable : (a : Attrs) → has Builtin.Listable (attributes_in a) ≡ a.listable
has_listable a = has_from Builtin.Listable (flags a) ∙ or_false a.listable

has_hold_first : (a : Attrs) → has Builtin.HoldFirst (attributes_in a) ≡ a.hold_first
has_hold_first a = has_from Builtin.HoldFirst (flags a) ∙ or_false a.hold_first

has_hold_rest : (a : Attrs) → has Builtin.HoldRest (attributes_in a) ≡ a.hold_rest
has_hold_rest a = has_from Builtin.HoldRest (flags a) ∙ or_false a.hold_rest

has_hold_all : (a : Attrs) → has Builtin.HoldAll (attributes_in a) ≡ a.hold_all
has_hold_all a = has_from Builtin.HoldAll (flags a) ∙ or_false a.hold_all

has_hold_all_complete : (a : Attrs) → has Builtin.HoldAllComplete (attributes_in a) ≡ a.hold_all_complete
has_hold_all_complete a = has_from Builtin.HoldAllComplete (flags a) ∙ or_false a.hold_all_complete

has_sequence_hold : (a : Attrs) → has Builtin.SequenceHold (attributes_in a) ≡ a.sequence_hold
has_sequence_hold a = has_from Builtin.SequenceHold (flags a) ∙ or_false a.sequence_hold

has_one_identity : (a : Attrs) → has Builtin.OneIdentity (attributes_in a) ≡ a.one_identity
has_one_identity a = has_from Builtin.OneIdentity (flags a) ∙ or_false a.one_identity

-- ---- flags that are the same

told_by : Attributes → Attrs
told_by as' =
    record {
      flat = has Builtin.Flat as';
      orderless = has Builtin.Orderless as';
      listable = has Builtin.Listable as';
      hold_first = has Builtin.HoldFirst as';
      hold_rest = has Builtin.HoldRest as';
      hold_all = has Builtin.HoldAll as';
      hold_all_complete = has Builtin.HoldAllComplete as';
      sequence_hold = has Builtin.SequenceHold as';
      one_identity = has Builtin.OneIdentity as';
      protected = has Builtin.Protected as';
    }

told_back : (a : Attrs) → told_by (attributes_in a) ≡ a
unfolding told_by
told_back a =
    λ i. record {
      flat = has_flat a i;
      orderless = has_orderless a i;
      listable = has_listable a i;
      hold_first = has_hold_first a i;
      hold_rest = has_hold_rest a i;
      hold_all = has_hold_all a i;
      hold_all_complete = has_hold_all_complete a i;
      sequence_hold = has_sequence_hold a i;
      one_identity = has_one_identity a i;
      protected = has_protected a i;
    }

-- ---- names that are the same

row_at : List Builtin → ℕ → Option Builtin
row_at [] n = None
row_at (r ∷ rs) zero = Some r
row_at (r ∷ rs) (suc n) = row_at rs n

by_number : (a : Builtin) → row_at rows (row_number a) ≡ Some a
unfolding row_at
by_number Builtin.Plus = refl
by_number _ = refl

the_row : Option Builtin → Builtin
the_row None = Builtin.Plus
the_row (Some a) = a

number-eq : (a b : Builtin) → row_number a ≡ row_number b → a ≡ b
unfolding the_row
number-eq a b e = ap the_row (sym (by_number a) ∙ ap (row_at rows) e ∙ by_number b)

same_attributes-eq : (as' bs : Attributes) → same_attributes as' bs ≡ true → as' ≡ bs
same_attributes-eq [] [] e = refl
same_attributes-eq [] (b ∷ bs) e = absurd (true≢false (sym e))
same_attributes-eq (a ∷ as') [] e = absurd (true≢false (sym e))
same_attributes-eq (a ∷ as') (b ∷ bs) e = go (row_number a == row_number b) refl e (same_attributes-eq as' bs)
  where
    go : (c : Bool) → (row_number a == row_number b) ≡ c → elim c [ true ↦ same_attributes as' bs | false ↦ false ] ≡ true → (same_attributes as' bs ≡ true → as' ≡ bs) → ◌≡◌ {A = Attributes} (a ∷ as') (b ∷ bs)
    go true n rest next = λ i. number-eq a b (eqb-true _ _ n) i ∷ next rest i
    go false n rest next = absurd (true≢false (sym rest))

same_itself : (as' : Attributes) → same_attributes as' as' ≡ true
same_itself [] = refl
same_itself (a ∷ as') = ap (λ b. elim b [ true ↦ same_attributes as' as' | false ↦ false ]) (eq-eqb (row_number a) (row_number a) refl) ∙ same_itself as'

abbrev equal_flags : Attrs → Attrs → Bool
equal_flags a b = beq a.flat b.flat && (beq a.orderless b.orderless && (beq a.listable b.listable && (beq a.hold_first b.hold_first && (beq a.hold_rest b.hold_rest && (beq a.hold_all b.hold_all && (beq a.hold_all_complete b.hold_all_complete && (beq a.sequence_hold b.sequence_hold && (beq a.one_identity b.one_identity && (beq a.protected b.protected)))))))))

beq-eq : (x y : Bool) → beq x y ≡ true → x ≡ y
beq-eq true true p = refl
beq-eq true false p = absurd (true≢false (sym p))
beq-eq false true p = absurd (true≢false (sym p))
beq-eq false false p = refl

beq-self : (x : Bool) → beq x x ≡ true
beq-self true = refl
beq-self false = refl

first_true : (x y : Bool) → (x && y) ≡ true → x ≡ true
first_true true y p = refl
first_true false y p = p

second_true : (x y : Bool) → (x && y) ≡ true → y ≡ true
second_true true y p = p
second_true false y p = absurd (true≢false (sym p))

both_true : (x y : Bool) → x ≡ true → y ≡ true → (x && y) ≡ true
both_true x y p q = ap (λ b. b && y) p ∙ q

equal_flags-eq : (a b : Attrs) → equal_flags a b ≡ true → a ≡ b
equal_flags-eq a b p0 =
    let p1 : (beq a.orderless b.orderless && (beq a.listable b.listable && (beq a.hold_first b.hold_first && (beq a.hold_rest b.hold_rest && (beq a.hold_all b.hold_all && (beq a.hold_all_complete b.hold_all_complete && (beq a.sequence_hold b.sequence_hold && (beq a.one_identity b.one_identity && (beq a.protected b.protected))))))))) ≡ true = second_true (beq a.flat b.flat) (beq a.orderless b.orderless && (beq a.listable b.listable && (beq a.hold_first b.hold_first && (beq a.hold_rest b.hold_rest && (beq a.hold_all b.hold_all && (beq a.hold_all_complete b.hold_all_complete && (beq a.sequence_hold b.sequence_hold && (beq a.one_identity b.one_identity && (beq a.protected b.protected))))))))) p0 in
    let p2 : (beq a.listable b.listable && (beq a.hold_first b.hold_first && (beq a.hold_rest b.hold_rest && (beq a.hold_all b.hold_all && (beq a.hold_all_complete b.hold_all_complete && (beq a.sequence_hold b.sequence_hold && (beq a.one_identity b.one_identity && (beq a.protected b.protected)))))))) ≡ true = second_true (beq a.orderless b.orderless) (beq a.listable b.listable && (beq a.hold_first b.hold_first && (beq a.hold_rest b.hold_rest && (beq a.hold_all b.hold_all && (beq a.hold_all_complete b.hold_all_complete && (beq a.sequence_hold b.sequence_hold && (beq a.one_identity b.one_identity && (beq a.protected b.protected)))))))) p1 in
    let p3 : (beq a.hold_first b.hold_first && (beq a.hold_rest b.hold_rest && (beq a.hold_all b.hold_all && (beq a.hold_all_complete b.hold_all_complete && (beq a.sequence_hold b.sequence_hold && (beq a.one_identity b.one_identity && (beq a.protected b.protected))))))) ≡ true = second_true (beq a.listable b.listable) (beq a.hold_first b.hold_first && (beq a.hold_rest b.hold_rest && (beq a.hold_all b.hold_all && (beq a.hold_all_complete b.hold_all_complete && (beq a.sequence_hold b.sequence_hold && (beq a.one_identity b.one_identity && (beq a.protected b.protected))))))) p2 in
    let p4 : (beq a.hold_rest b.hold_rest && (beq a.hold_all b.hold_all && (beq a.hold_all_complete b.hold_all_complete && (beq a.sequence_hold b.sequence_hold && (beq a.one_identity b.one_identity && (beq a.protected b.protected)))))) ≡ true = second_true (beq a.hold_first b.hold_first) (beq a.hold_rest b.hold_rest && (beq a.hold_all b.hold_all && (beq a.hold_all_complete b.hold_all_complete && (beq a.sequence_hold b.sequence_hold && (beq a.one_identity b.one_identity && (beq a.protected b.protected)))))) p3 in
    let p5 : (beq a.hold_all b.hold_all && (beq a.hold_all_complete b.hold_all_complete && (beq a.sequence_hold b.sequence_hold && (beq a.one_identity b.one_identity && (beq a.protected b.protected))))) ≡ true = second_true (beq a.hold_rest b.hold_rest) (beq a.hold_all b.hold_all && (beq a.hold_all_complete b.hold_all_complete && (beq a.sequence_hold b.sequence_hold && (beq a.one_identity b.one_identity && (beq a.protected b.protected))))) p4 in
    let p6 : (beq a.hold_all_complete b.hold_all_complete && (beq a.sequence_hold b.sequence_hold && (beq a.one_identity b.one_identity && (beq a.protected b.protected)))) ≡ true = second_true (beq a.hold_all b.hold_all) (beq a.hold_all_complete b.hold_all_complete && (beq a.sequence_hold b.sequence_hold && (beq a.one_identity b.one_identity && (beq a.protected b.protected)))) p5 in
    let p7 : (beq a.sequence_hold b.sequence_hold && (beq a.one_identity b.one_identity && (beq a.protected b.protected))) ≡ true = second_true (beq a.hold_all_complete b.hold_all_complete) (beq a.sequence_hold b.sequence_hold && (beq a.one_identity b.one_identity && (beq a.protected b.protected))) p6 in
    let p8 : (beq a.one_identity b.one_identity && (beq a.protected b.protected)) ≡ true = second_true (beq a.sequence_hold b.sequence_hold) (beq a.one_identity b.one_identity && (beq a.protected b.protected)) p7 in
    let p9 : (beq a.protected b.protected) ≡ true = second_true (beq a.one_identity b.one_identity) (beq a.protected b.protected) p8 in
    λ i. record {
      flat = beq-eq a.flat b.flat (first_true (beq a.flat b.flat) (beq a.orderless b.orderless && (beq a.listable b.listable && (beq a.hold_first b.hold_first && (beq a.hold_rest b.hold_rest && (beq a.hold_all b.hold_all && (beq a.hold_all_complete b.hold_all_complete && (beq a.sequence_hold b.sequence_hold && (beq a.one_identity b.one_identity && (beq a.protected b.protected))))))))) p0) i;
      orderless = beq-eq a.orderless b.orderless (first_true (beq a.orderless b.orderless) (beq a.listable b.listable && (beq a.hold_first b.hold_first && (beq a.hold_rest b.hold_rest && (beq a.hold_all b.hold_all && (beq a.hold_all_complete b.hold_all_complete && (beq a.sequence_hold b.sequence_hold && (beq a.one_identity b.one_identity && (beq a.protected b.protected)))))))) p1) i;
      listable = beq-eq a.listable b.listable (first_true (beq a.listable b.listable) (beq a.hold_first b.hold_first && (beq a.hold_rest b.hold_rest && (beq a.hold_all b.hold_all && (beq a.hold_all_complete b.hold_all_complete && (beq a.sequence_hold b.sequence_hold && (beq a.one_identity b.one_identity && (beq a.protected b.protected))))))) p2) i;
      hold_first = beq-eq a.hold_first b.hold_first (first_true (beq a.hold_first b.hold_first) (beq a.hold_rest b.hold_rest && (beq a.hold_all b.hold_all && (beq a.hold_all_complete b.hold_all_complete && (beq a.sequence_hold b.sequence_hold && (beq a.one_identity b.one_identity && (beq a.protected b.protected)))))) p3) i;
      hold_rest = beq-eq a.hold_rest b.hold_rest (first_true (beq a.hold_rest b.hold_rest) (beq a.hold_all b.hold_all && (beq a.hold_all_complete b.hold_all_complete && (beq a.sequence_hold b.sequence_hold && (beq a.one_identity b.one_identity && (beq a.protected b.protected))))) p4) i;
      hold_all = beq-eq a.hold_all b.hold_all (first_true (beq a.hold_all b.hold_all) (beq a.hold_all_complete b.hold_all_complete && (beq a.sequence_hold b.sequence_hold && (beq a.one_identity b.one_identity && (beq a.protected b.protected)))) p5) i;
      hold_all_complete = beq-eq a.hold_all_complete b.hold_all_complete (first_true (beq a.hold_all_complete b.hold_all_complete) (beq a.sequence_hold b.sequence_hold && (beq a.one_identity b.one_identity && (beq a.protected b.protected))) p6) i;
      sequence_hold = beq-eq a.sequence_hold b.sequence_hold (first_true (beq a.sequence_hold b.sequence_hold) (beq a.one_identity b.one_identity && (beq a.protected b.protected)) p7) i;
      one_identity = beq-eq a.one_identity b.one_identity (first_true (beq a.one_identity b.one_identity) (beq a.protected b.protected) p8) i;
      protected = beq-eq a.protected b.protected p9 i;
    }

equal_flags-self : (a : Attrs) → equal_flags a a ≡ true
equal_flags-self a = (both_true (beq a.flat a.flat) (beq a.orderless a.orderless && (beq a.listable a.listable && (beq a.hold_first a.hold_first && (beq a.hold_rest a.hold_rest && (beq a.hold_all a.hold_all && (beq a.hold_all_complete a.hold_all_complete && (beq a.sequence_hold a.sequence_hold && (beq a.one_identity a.one_identity && (beq a.protected a.protected))))))))) (beq-self a.flat) (both_true (beq a.orderless a.orderless) (beq a.listable a.listable && (beq a.hold_first a.hold_first && (beq a.hold_rest a.hold_rest && (beq a.hold_all a.hold_all && (beq a.hold_all_complete a.hold_all_complete && (beq a.sequence_hold a.sequence_hold && (beq a.one_identity a.one_identity && (beq a.protected a.protected)))))))) (beq-self a.orderless) (both_true (beq a.listable a.listable) (beq a.hold_first a.hold_first && (beq a.hold_rest a.hold_rest && (beq a.hold_all a.hold_all && (beq a.hold_all_complete a.hold_all_complete && (beq a.sequence_hold a.sequence_hold && (beq a.one_identity a.one_identity && (beq a.protected a.protected))))))) (beq-self a.listable) (both_true (beq a.hold_first a.hold_first) (beq a.hold_rest a.hold_rest && (beq a.hold_all a.hold_all && (beq a.hold_all_complete a.hold_all_complete && (beq a.sequence_hold a.sequence_hold && (beq a.one_identity a.one_identity && (beq a.protected a.protected)))))) (beq-self a.hold_first) (both_true (beq a.hold_rest a.hold_rest) (beq a.hold_all a.hold_all && (beq a.hold_all_complete a.hold_all_complete && (beq a.sequence_hold a.sequence_hold && (beq a.one_identity a.one_identity && (beq a.protected a.protected))))) (beq-self a.hold_rest) (both_true (beq a.hold_all a.hold_all) (beq a.hold_all_complete a.hold_all_complete && (beq a.sequence_hold a.sequence_hold && (beq a.one_identity a.one_identity && (beq a.protected a.protected)))) (beq-self a.hold_all) (both_true (beq a.hold_all_complete a.hold_all_complete) (beq a.sequence_hold a.sequence_hold && (beq a.one_identity a.one_identity && (beq a.protected a.protected))) (beq-self a.hold_all_complete) (both_true (beq a.sequence_hold a.sequence_hold) (beq a.one_identity a.one_identity && (beq a.protected a.protected)) (beq-self a.sequence_hold) (both_true (beq a.one_identity a.one_identity) (beq a.protected a.protected) (beq-self a.one_identity) (beq-self a.protected))))))))))

pub same_flags : (a b : Attrs) → equal_flags a b ≡ same_attributes (attributes_in a) (attributes_in b)
same_flags a b = go (equal_flags a b) refl (same_attributes (attributes_in a) (attributes_in b)) refl
  where
    equal : same_attributes (attributes_in a) (attributes_in b) ≡ true → a ≡ b
    equal q = sym (told_back a) ∙ ap told_by (same_attributes-eq (attributes_in a) (attributes_in b) q) ∙ told_back b

    go : (r : Bool) → equal_flags a b ≡ r → (t : Bool) → same_attributes (attributes_in a) (attributes_in b) ≡ t → r ≡ t
    go true p true q = refl
    go false p false q = refl
    go true p false q = sym (ap (λ x. same_attributes (attributes_in a) (attributes_in x)) (sym (equal_flags-eq a b p)) ∙ same_itself (attributes_in a)) ∙ q
    go false p true q = sym p ∙ ap (equal_flags a) (sym (equal q)) ∙ equal_flags-self a

pub same_names : (as' : Attributes) → same_attributes as' as' ≡ true
same_names as' = same_itself as'
