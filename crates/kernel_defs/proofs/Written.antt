-- What is written to a symbol, over what is stored for it.
use Rattle.std.proofs.Common.{◌≡◌, ◌∙◌, refl, ap, true, false, Option, Some, None}
use Rattle.expr_tree.specs.declared.sym.Sym.{Sym}
use Rattle.expr_tree.specs.Tree.{Tree, integer, string, symbol, normal}
use Rattle.semantics.specs.Names.{Names}
use Rattle.semantics.specs.Assign.{Place, Own, Down, Up, attached}
use Rattle.semantics.specs.Changes.{cleared, without_left}
use Rattle.semantics.specs.Definitions.{Attributes, Definition, Definitions, Shared, drop_entry, add_entry, is_first, look_up, put, stored, definition_of, shared_as, first_definition}
use Rattle.semantics.specs.Play.{written}
use Rattle.kernel_defs.specs.Locals.{without, or_first}
use Rattle.kernel_defs.proofs.Attributes.{same_names}
use Rattle.kernel_defs.proofs.Entries.{Entries, dropped_same, dropped_absent, dropped_twice}

-- ---- over what is left without the symbol

pub put_without : (names : Names) (d : Definitions) (s : Sym) (x : Definition) → put names (without d s) s x ≡ put names d s x
put_without names d s x =
    ap (λ es. record d { entries = elim (is_first names s x) [ true ↦ es | false ↦ add_entry es s x ] }) (dropped_twice d.entries s)

pub put_first : (names : Names) (d : Definitions) (s : Sym) (x : Definition) → is_first names s x ≡ true → put names d s x ≡ without d s
put_first names d s x p = ap (λ b. record d { entries = elim b [ true ↦ drop_entry d.entries s | false ↦ add_entry (drop_entry d.entries s) s x ] }) p

pub put_more : (names : Names) (d : Definitions) (s : Sym) (x : Definition) → is_first names s x ≡ false → look_up d.entries s ≡ None
    → put names d s x ≡ record d { entries = add_entry d.entries s x }
put_more names d s x p q =
    ap (λ b. record d { entries = elim b [ true ↦ drop_entry d.entries s | false ↦ add_entry (drop_entry d.entries s) s x ] }) p
    ∙ ap (λ es. record d { entries = add_entry es s x }) (dropped_absent d.entries s q)

pub without_absent : (d : Definitions) (s : Sym) → look_up d.entries s ≡ None → without d s ≡ d
without_absent d s p = ap (λ es. record d { entries = es }) (dropped_absent d.entries s p)

pub absent_without : (d : Definitions) (s : Sym) → look_up (without d s).entries s ≡ None
absent_without d s = dropped_same d.entries s

-- ---- attributes of a shared symbol are not kept

abbrev seen_as : Option Shared → Definition → Definition
seen_as o x = elim o [ None ↦ x | Some e ↦ record x { attributes = e.attributes } ]

abbrev kept_as : Option Shared → Definition → Definition → Definition
kept_as o x new = elim o [ None ↦ new | Some e ↦ record new { attributes = x.attributes } ]

kept : (o : Option Shared) (f : Definition → Definition) (x : Definition) → ((a : Attributes) → record (f (record x { attributes = a })) { attributes = x.attributes } ≡ f x)
    → kept_as o x (f (seen_as o x)) ≡ f x
kept None f x law = refl
kept (Some e) f x law = law e.attributes

written_by : (names : Names) (d : Definitions) (s : Sym) (f : Definition → Definition)
    → ((a : Attributes) → record (f (record (stored names d s) { attributes = a })) { attributes = (stored names d s).attributes } ≡ f (stored names d s))
    → written names d s (f (definition_of names d s)) ≡ put names d s (f (stored names d s))
written_by names d s f law = ap (put names d s) (kept (shared_as d.shared s) f (stored names d s) law)

pub written_attached : (names : Names) (d : Definitions) (s : Sym) (place : Place) (left right : Tree)
    → written names d s (attached names place left right (definition_of names d s)) ≡ put names d s (attached names place left right (stored names d s))
written_attached names d s Own left right = written_by names d s (attached names Own left right) (λ a. refl)
written_attached names d s Down left right = written_by names d s (attached names Down left right) (λ a. refl)
written_attached names d s Up left right = written_by names d s (attached names Up left right) (λ a. refl)

pub written_own : (names : Names) (d : Definitions) (s : Sym) (v : Tree)
    → written names d s (record (definition_of names d s) { own = Some v }) ≡ put names d s (record (stored names d s) { own = Some v })
written_own names d s v = written_by names d s (λ x. record x { own = Some v }) (λ a. refl)

pub written_cleared : (names : Names) (d : Definitions) (s : Sym) → written names d s (cleared (definition_of names d s)) ≡ put names d s (cleared (stored names d s))
written_cleared names d s = written_by names d s cleared (λ a. refl)

pub written_without : (names : Names) (d : Definitions) (s : Sym) (left : Tree)
    → written names d s (without_left left (definition_of names d s)) ≡ put names d s (without_left left (stored names d s))
written_without names d s (integer n) = written_by names d s (without_left (integer n)) (λ a. refl)
written_without names d s (string t) = written_by names d s (without_left (string t)) (λ a. refl)
written_without names d s (symbol t) = written_by names d s (without_left (symbol t)) (λ a. refl)
written_without names d s (normal h es) = written_by names d s (without_left (normal h es)) (λ a. refl)

pub first_is_first : (names : Names) (s : Sym) → is_first names s (first_definition names s) ≡ true
first_is_first names s = same_names (first_definition names s).attributes

-- where nothing is stored, what leaves the first definition as it is changes nothing
pub put_absent : (names : Names) (d : Definitions) (s : Sym) → look_up d.entries s ≡ None → put names d s (first_definition names s) ≡ d
put_absent names d s p = put_first names d s (first_definition names s) (first_is_first names s) ∙ without_absent d s p

pub stored_absent : (names : Names) (d : Definitions) (s : Sym) → look_up d.entries s ≡ None → stored names d s ≡ first_definition names s
stored_absent names d s p = ap (or_first names s) p

pub stored_found : (names : Names) (d : Definitions) (s : Sym) (x : Definition) → look_up d.entries s ≡ Some x → stored names d s ≡ x
stored_found names d s x p = ap (or_first names s) p

pub put_first_absent : (names : Names) (d : Definitions) (s : Sym) (x : Definition) → is_first names s x ≡ true → look_up d.entries s ≡ None → put names d s x ≡ d
put_first_absent names d s x p q = put_first names d s x p ∙ without_absent d s q

pub written_attributes : (names : Names) (d : Definitions) (s : Sym) (as' : Attributes)
    → written names d s (record (definition_of names d s) { attributes = as' })
    ≡ put names d s (record (stored names d s) { attributes = elim (shared_as d.shared s) [ None ↦ as' | Some e ↦ (stored names d s).attributes ] })
written_attributes names d s as' = ap (put names d s) (go (shared_as d.shared s))
  where
    go : (o : Option Shared) → kept_as o (stored names d s) (record (seen_as o (stored names d s)) { attributes = as' })
        ≡ record (stored names d s) { attributes = elim o [ None ↦ as' | Some e ↦ (stored names d s).attributes ] }
    go None = refl
    go (Some e) = refl

pub written_new : (names : Names) (d : Definitions) (s : Sym) (x : Definition)
    → written names d s x ≡ put names d s (record x { attributes = elim (shared_as d.shared s) [ None ↦ x.attributes | Some e ↦ (stored names d s).attributes ] })
written_new names d s x = ap (put names d s) (go (shared_as d.shared s))
  where
    go : (o : Option Shared) → kept_as o (stored names d s) x ≡ record x { attributes = elim o [ None ↦ x.attributes | Some e ↦ (stored names d s).attributes ] }
    go None = refl
    go (Some e) = refl

-- a change that leaves the first definition as it is changes nothing where nothing is stored
unchanged_absent : (names : Names) (d : Definitions) (s : Sym) (f : Definition → Definition) → f (first_definition names s) ≡ first_definition names s → look_up d.entries s ≡ None
    → put names d s (f (stored names d s)) ≡ d
unchanged_absent names d s f p q = ap (λ x. put names d s (f x)) (stored_absent names d s q) ∙ ap (put names d s) p ∙ put_absent names d s q

pub cleared_absent : (names : Names) (d : Definitions) (s : Sym) → look_up d.entries s ≡ None → written names d s (cleared (definition_of names d s)) ≡ d
cleared_absent names d s p = written_cleared names d s ∙ unchanged_absent names d s cleared refl p

without_left_first : (names : Names) (s : Sym) (left : Tree) → without_left left (first_definition names s) ≡ first_definition names s
without_left_first names s (integer n) = refl
without_left_first names s (string t) = refl
without_left_first names s (symbol t) = refl
without_left_first names s (normal h es) = refl

pub without_left_absent : (names : Names) (d : Definitions) (s : Sym) (left : Tree) → look_up d.entries s ≡ None → written names d s (without_left left (definition_of names d s)) ≡ d
without_left_absent names d s left p = written_without names d s left ∙ unchanged_absent names d s (without_left left) (without_left_first names s left) p

pub absent_after : (old d : Definitions) (s t : Sym) → d ≡ without old s → t ≡ s → look_up d.entries t ≡ None
absent_after old d s t p q = ap (λ m. look_up m.entries t) p ∙ ap (λ u. look_up (without old s).entries u) q ∙ absent_without old s

-- what was taken out is changed and put in
pub put_changed : (names : Names) (old d : Definitions) (s t : Sym) (x y : Definition) → d ≡ without old s → t ≡ s → x ≡ y → put names d t x ≡ put names old s y
put_changed names old d s t x y p q r =
    ap (λ m. put names m t x) p ∙ ap (λ u. put names (without old s) u x) q ∙ ap (put names (without old s) s) r ∙ put_without names old s y

abbrev pub or_stored : Option Shared → Attributes → Attributes → Attributes
or_stored o new x = elim o [ None ↦ new | Some e ↦ x ]

pub ruleset store_steps = (put_first_absent, put_more)

pub ruleset stored_steps = (stored_absent, stored_found, without_absent, absent_without, put_without, written_own, written_cleared, written_without, dropped_absent)

pub ruleset written_steps = (stored_absent, stored_found, without_absent, absent_without, put_without, written_attributes, written_new, written_attached, dropped_absent)
