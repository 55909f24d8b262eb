-- Attributes by their flags.
use Rattle.std.proofs.Common.{◌≡◌, ◌∙◌, refl, sym, ap, Bool, true, false, List, [], ◌∷◌, ◌++◌}
use Rattle.std.specs.Prelude.{◌||◌, ◌&&◌, not, map}
use Rattle.expr_tree.specs.declared.attrs.Attrs.{Attrs}
use Rattle.expr_tree.specs.Tree.{Tree}
use Rattle.semantics.specs.declared.builtin.Builtin.{Builtin}
use Rattle.semantics.specs.Definitions.{Attributes, Definition, has}
use Rattle.semantics.specs.Changes.{those, all_attributes, with_attributes, without_attributes}
use Rattle.builtin_names.specs.Attributes.{where_set, attributes_in}
use Rattle.builtin_names.proofs.Flags.{has_flat, has_orderless, has_listable, has_hold_first, has_hold_rest, has_hold_all, has_hold_all_complete, has_sequence_hold, has_one_identity, has_protected}

abbrev flagged : (Builtin → Bool) → Attributes → Attributes
flagged test [] = []
flagged test (a ∷ as') = where_set (test a) a (flagged test as')

those_flagged : (test : Builtin → Bool) (as' : Attributes) → those test as' ≡ flagged test as'
those_flagged test [] = refl
those_flagged test (a ∷ as') = go (test a) ∙ ap (where_set (test a) a) (those_flagged test as')
  where
    go : (b : Bool) → elim b [ true ↦ a ∷ those test as' | false ↦ those test as' ] ≡ where_set b a (those test as')
    go true = refl
    go false = refl

-- flags that are those of a test
told : (test : Builtin → Bool) (y : Attrs) →
    y.flat ≡ test Builtin.Flat → y.orderless ≡ test Builtin.Orderless → y.listable ≡ test Builtin.Listable → y.hold_first ≡ test Builtin.HoldFirst →
    y.hold_rest ≡ test Builtin.HoldRest → y.hold_all ≡ test Builtin.HoldAll → y.hold_all_complete ≡ test Builtin.HoldAllComplete →
    y.sequence_hold ≡ test Builtin.SequenceHold → y.one_identity ≡ test Builtin.OneIdentity → y.protected ≡ test Builtin.Protected →
    attributes_in y ≡ those test all_attributes
told test y a b c d e f g h i j =
    (
    λ k.
    where_set (a k) Builtin.Flat
    (where_set (b k) Builtin.Orderless
    (where_set (c k) Builtin.Listable
    (where_set (d k) Builtin.HoldFirst
    (where_set (e k) Builtin.HoldRest
    (where_set (f k) Builtin.HoldAll
    (where_set (g k) Builtin.HoldAllComplete
    (where_set (h k) Builtin.SequenceHold
    (where_set (i k) Builtin.OneIdentity
    (where_set (j k) Builtin.Protected [])))))))))
    )
    ∙ sym (those_flagged test all_attributes)

either : {x y z : Bool} (w : Bool) → x ≡ (w || y) → z ≡ y → x ≡ (w || z)
either w e f = e ∙ ap (λ b. w || b) (sym f)

both : {x y z : Bool} (w : Bool) → x ≡ (y && w) → z ≡ y → x ≡ (z && w)
both w e f = e ∙ ap (λ b. b && w) (sym f)

pub with_flags : (new : Attributes) (y : Attrs) (x : Attrs) →
    x.flat ≡ (has Builtin.Flat new || y.flat) → x.orderless ≡ (has Builtin.Orderless new || y.orderless) → x.listable ≡ (has Builtin.Listable new || y.listable) →
    x.hold_first ≡ (has Builtin.HoldFirst new || y.hold_first) → x.hold_rest ≡ (has Builtin.HoldRest new || y.hold_rest) →
    x.hold_all ≡ (has Builtin.HoldAll new || y.hold_all) → x.hold_all_complete ≡ (has Builtin.HoldAllComplete new || y.hold_all_complete) →
    x.sequence_hold ≡ (has Builtin.SequenceHold new || y.sequence_hold) → x.one_identity ≡ (has Builtin.OneIdentity new || y.one_identity) →
    x.protected ≡ (has Builtin.Protected new || y.protected) →
    attributes_in x ≡ those (λ a. has a new || has a (attributes_in y)) all_attributes
with_flags new y x a b c d e f g h i j =
    told (λ n. has n new || has n (attributes_in y)) x
    (either (has Builtin.Flat new) a (has_flat y)) (either (has Builtin.Orderless new) b (has_orderless y)) (either (has Builtin.Listable new) c (has_listable y))
    (either (has Builtin.HoldFirst new) d (has_hold_first y)) (either (has Builtin.HoldRest new) e (has_hold_rest y)) (either (has Builtin.HoldAll new) f (has_hold_all y))
    (either (has Builtin.HoldAllComplete new) g (has_hold_all_complete y)) (either (has Builtin.SequenceHold new) h (has_sequence_hold y))
    (either (has Builtin.OneIdentity new) i (has_one_identity y)) (either (has Builtin.Protected new) j (has_protected y))

pub without_flags : (old : Attributes) (y : Attrs) (x : Attrs) →
    x.flat ≡ (y.flat && not (has Builtin.Flat old)) → x.orderless ≡ (y.orderless && not (has Builtin.Orderless old)) → x.listable ≡ (y.listable && not (has Builtin.Listable old)) →
    x.hold_first ≡ (y.hold_first && not (has Builtin.HoldFirst old)) → x.hold_rest ≡ (y.hold_rest && not (has Builtin.HoldRest old)) →
    x.hold_all ≡ (y.hold_all && not (has Builtin.HoldAll old)) → x.hold_all_complete ≡ (y.hold_all_complete && not (has Builtin.HoldAllComplete old)) →
    x.sequence_hold ≡ (y.sequence_hold && not (has Builtin.SequenceHold old)) → x.one_identity ≡ (y.one_identity && not (has Builtin.OneIdentity old)) →
    x.protected ≡ (y.protected && not (has Builtin.Protected old)) →
    attributes_in x ≡ those (λ a. has a (attributes_in y) && not (has a old)) all_attributes
without_flags old y x a b c d e f g h i j =
    told (λ n. has n (attributes_in y) && not (has n old)) x
    (both (not (has Builtin.Flat old)) a (has_flat y)) (both (not (has Builtin.Orderless old)) b (has_orderless y)) (both (not (has Builtin.Listable old)) c (has_listable y))
    (both (not (has Builtin.HoldFirst old)) d (has_hold_first y)) (both (not (has Builtin.HoldRest old)) e (has_hold_rest y)) (both (not (has Builtin.HoldAll old)) f (has_hold_all y))
    (both (not (has Builtin.HoldAllComplete old)) g (has_hold_all_complete y)) (both (not (has Builtin.SequenceHold old)) h (has_sequence_hold y))
    (both (not (has Builtin.OneIdentity old)) i (has_one_identity y)) (both (not (has Builtin.Protected old)) j (has_protected y))

-- ---- names put one behind the other

abbrev Flagged : Type 0
Flagged = List (Bool × Builtin)

abbrev named : Flagged → Attributes
named [] = []
named (p ∷ ps) = where_set p.0 p.1 (named ps)

abbrev pushed : (Builtin → Tree) → Flagged → List Tree → List Tree
pushed f [] es = es
pushed f (p ∷ ps) es = pushed f ps (es ++ map f (where_set p.0 p.1 []))

one_more : (f : Builtin → Tree) (b : Bool) (a : Builtin) (rest : Attributes) (es : List Tree) → (es ++ map f (where_set b a [])) ++ map f rest ≡ es ++ map f (where_set b a rest)
one_more f true a rest [] = refl
one_more f false a rest [] = refl
one_more f b a rest (e ∷ es) = ap (λ xs. e ∷ xs) (one_more f b a rest es)

pushed_named : (f : Builtin → Tree) (ps : Flagged) (es : List Tree) → pushed f ps es ≡ es ++ map f (named ps)
pushed_named f [] [] = refl
pushed_named f [] (e ∷ es) = ap (λ xs. e ∷ xs) (pushed_named f [] es)
pushed_named f (p ∷ ps) es = pushed_named f ps (es ++ map f (where_set p.0 p.1 [])) ∙ one_more f p.0 p.1 (named ps) es

abbrev flags : Attrs → Flagged
flags a =
    (a.flat, Builtin.Flat) ∷ (a.orderless, Builtin.Orderless) ∷ (a.listable, Builtin.Listable) ∷ (a.hold_first, Builtin.HoldFirst)
    ∷ (a.hold_rest, Builtin.HoldRest) ∷ (a.hold_all, Builtin.HoldAll) ∷ (a.hold_all_complete, Builtin.HoldAllComplete)
    ∷ (a.sequence_hold, Builtin.SequenceHold) ∷ (a.one_identity, Builtin.OneIdentity) ∷ (a.protected, Builtin.Protected) ∷ []

pub all_pushed : (f : Builtin → Tree) (a : Attrs) {e0 e1 e2 e3 e4 e5 e6 e7 e8 e9 es : List Tree} → es ≡ [] →
    e0 ≡ es ++ map f (where_set a.flat Builtin.Flat []) → e1 ≡ e0 ++ map f (where_set a.orderless Builtin.Orderless []) →
    e2 ≡ e1 ++ map f (where_set a.listable Builtin.Listable []) → e3 ≡ e2 ++ map f (where_set a.hold_first Builtin.HoldFirst []) →
    e4 ≡ e3 ++ map f (where_set a.hold_rest Builtin.HoldRest []) → e5 ≡ e4 ++ map f (where_set a.hold_all Builtin.HoldAll []) →
    e6 ≡ e5 ++ map f (where_set a.hold_all_complete Builtin.HoldAllComplete []) → e7 ≡ e6 ++ map f (where_set a.sequence_hold Builtin.SequenceHold []) →
    e8 ≡ e7 ++ map f (where_set a.one_identity Builtin.OneIdentity []) → e9 ≡ e8 ++ map f (where_set a.protected Builtin.Protected []) →
    e9 ≡ map f (attributes_in a)
all_pushed f a z p0 p1 p2 p3 p4 p5 p6 p7 p8 p9 =
    p9
    ∙ ap (λ x. x ++ map f (where_set a.protected Builtin.Protected []))
    (p8 ∙ ap (λ x. x ++ map f (where_set a.one_identity Builtin.OneIdentity []))
    (p7 ∙ ap (λ x. x ++ map f (where_set a.sequence_hold Builtin.SequenceHold []))
    (p6 ∙ ap (λ x. x ++ map f (where_set a.hold_all_complete Builtin.HoldAllComplete []))
    (p5 ∙ ap (λ x. x ++ map f (where_set a.hold_all Builtin.HoldAll []))
    (p4 ∙ ap (λ x. x ++ map f (where_set a.hold_rest Builtin.HoldRest []))
    (p3 ∙ ap (λ x. x ++ map f (where_set a.hold_first Builtin.HoldFirst []))
    (p2 ∙ ap (λ x. x ++ map f (where_set a.listable Builtin.Listable []))
    (p1 ∙ ap (λ x. x ++ map f (where_set a.orderless Builtin.Orderless []))
    (p0 ∙ ap (λ x. x ++ map f (where_set a.flat Builtin.Flat [])) z)))))))))
    ∙ pushed_named f (flags a) []

-- ---- a definition with other attributes

pub attrs_with : (new y : Attributes) (x : Definition) (a : Attributes) → a ≡ those (λ n. has n new || has n y) all_attributes → y ≡ x.attributes
    → record x { attributes = a } ≡ with_attributes new x
attrs_with new y x a e f = λ i. record x { attributes = (e ∙ ap (λ z. those (λ n. has n new || has n z) all_attributes) f) i }

pub attrs_without : (old y : Attributes) (x : Definition) (a : Attributes) → a ≡ those (λ n. has n y && not (has n old)) all_attributes → y ≡ x.attributes
    → record x { attributes = a } ≡ without_attributes old x
attrs_without old y x a e f = λ i. record x { attributes = (e ∙ ap (λ z. those (λ n. has n z && not (has n old)) all_attributes) f) i }
