-- An attribute among the names of the attributes that are set.
--     flag_steps            each attribute's test is its flag
use Rattle.std.proofs.Common.{◌≡◌, ◌∙◌, refl, ap, Bool, true, false, List, [], ◌∷◌}
use Rattle.std.specs.Prelude.{◌||◌, ◌&&◌, ◌==◌}
use Rattle.expr_tree.specs.declared.attrs.Attrs.{Attrs}
use Rattle.semantics.specs.declared.builtin.Builtin.{Builtin}
use Rattle.semantics.specs.Builtin.{row_number}
use Rattle.semantics.specs.Definitions.{Attributes, has}
use Rattle.builtin_names.specs.Attributes.{where_set, attributes_in}

-- names with their flags
abbrev Flagged : Type 0
Flagged = List (Bool × Builtin)

abbrev names_set : Flagged → Attributes
names_set [] = []
names_set (f ∷ fs) = where_set f.0 f.1 (names_set fs)

abbrev flag : Builtin → Flagged → Bool
flag a [] = false
flag a (f ∷ fs) = ((row_number a == row_number f.1) && f.0) || flag a fs

step : (a : Builtin) (b : Bool) (name : Builtin) (set : Attributes) → has a (where_set b name set) ≡ (((row_number a == row_number name) && b) || has a set)
step a true name set = go (row_number a == row_number name)
  where
    go : (same : Bool) → elim same [ true ↦ true | false ↦ has a set ] ≡ ((same && true) || has a set)
    go true = refl
    go false = refl
step a false name set = go (row_number a == row_number name)
  where
    go : (same : Bool) → has a set ≡ ((same && false) || has a set)
    go true = refl
    go false = refl

has_flag : (a : Builtin) (fs : Flagged) → has a (names_set fs) ≡ flag a fs
has_flag a [] = refl
has_flag a (f ∷ fs) = step a f.0 f.1 (names_set fs) ∙ ap (λ h. ((row_number a == row_number f.1) && f.0) || h) (has_flag a fs)

abbrev flags_of : Attrs → Flagged
flags_of a =
    (a.flat, Builtin.Flat) ∷ (a.orderless, Builtin.Orderless) ∷ (a.listable, Builtin.Listable) ∷ (a.hold_first, Builtin.HoldFirst)
    ∷ (a.hold_rest, Builtin.HoldRest) ∷ (a.hold_all, Builtin.HoldAll) ∷ (a.hold_all_complete, Builtin.HoldAllComplete)
    ∷ (a.sequence_hold, Builtin.SequenceHold) ∷ (a.one_identity, Builtin.OneIdentity) ∷ (a.protected, Builtin.Protected) ∷ []

or_false : (b : Bool) → (b || false) ≡ b
or_false true = refl
or_false false = refl

pub has_flat : (a : Attrs) → has Builtin.Flat (attributes_in a) ≡ a.flat
has_flat a = has_flag Builtin.Flat (flags_of a) ∙ or_false a.flat

pub has_orderless : (a : Attrs) → has Builtin.Orderless (attributes_in a) ≡ a.orderless
has_orderless a = has_flag Builtin.Orderless (flags_of a) ∙ or_false a.orderless

pub has_listable : (a : Attrs) → has Builtin.Listable (attributes_in a) ≡ a.listable
has_listable a = has_flag Builtin.Listable (flags_of a) ∙ or_false a.listable

pub has_hold_first : (a : Attrs) → has Builtin.HoldFirst (attributes_in a) ≡ a.hold_first
has_hold_first a = has_flag Builtin.HoldFirst (flags_of a) ∙ or_false a.hold_first

pub has_hold_rest : (a : Attrs) → has Builtin.HoldRest (attributes_in a) ≡ a.hold_rest
has_hold_rest a = has_flag Builtin.HoldRest (flags_of a) ∙ or_false a.hold_rest

pub has_hold_all : (a : Attrs) → has Builtin.HoldAll (attributes_in a) ≡ a.hold_all
has_hold_all a = has_flag Builtin.HoldAll (flags_of a) ∙ or_false a.hold_all

pub has_hold_all_complete : (a : Attrs) → has Builtin.HoldAllComplete (attributes_in a) ≡ a.hold_all_complete
has_hold_all_complete a = has_flag Builtin.HoldAllComplete (flags_of a) ∙ or_false a.hold_all_complete

pub has_sequence_hold : (a : Attrs) → has Builtin.SequenceHold (attributes_in a) ≡ a.sequence_hold
has_sequence_hold a = has_flag Builtin.SequenceHold (flags_of a) ∙ or_false a.sequence_hold

pub has_one_identity : (a : Attrs) → has Builtin.OneIdentity (attributes_in a) ≡ a.one_identity
has_one_identity a = has_flag Builtin.OneIdentity (flags_of a) ∙ or_false a.one_identity

pub has_protected : (a : Attrs) → has Builtin.Protected (attributes_in a) ≡ a.protected
has_protected a = has_flag Builtin.Protected (flags_of a) ∙ or_false a.protected

pub ruleset flag_steps = (has_flat, has_orderless, has_listable, has_hold_first, has_hold_rest, has_hold_all, has_hold_all_complete, has_sequence_hold, has_one_identity, has_protected)
