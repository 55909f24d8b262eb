-- What is seen of a symbol, from its entry.
use Rattle.std.proofs.Common.{◌≡◌, ◌∙◌, refl, sym, ap, List, [], Option, Some, None, false}
use Rattle.expr_tree.specs.declared.sym.Sym.{Sym}
use Rattle.expr_tree.specs.Tree.{Tree, integer, string, symbol, normal}
use Rattle.semantics.specs.Names.{Names}
use Rattle.semantics.specs.Rule.{Rule}
use Rattle.semantics.specs.Changes.{holds}
use Rattle.semantics.specs.Definitions.{Attributes, Definition, Definitions, Shared, look_up, stored, definition_of, shared_as, first_definition}
use Rattle.kernel_defs.specs.Locals.{or_first}

abbrev seen_as : Option Shared → Definition → Definition
seen_as o x = elim o [ None ↦ x | Some e ↦ record x { attributes = e.attributes } ]

seen_own : (o : Option Shared) (x : Definition) → (seen_as o x).own ≡ x.own
seen_own None x = refl
seen_own (Some e) x = refl

seen_downs : (o : Option Shared) (x : Definition) → (seen_as o x).downs ≡ x.downs
seen_downs None x = refl
seen_downs (Some e) x = refl

seen_ups : (o : Option Shared) (x : Definition) → (seen_as o x).ups ≡ x.ups
seen_ups None x = refl
seen_ups (Some e) x = refl

pub own_from : (names : Names) (d : Definitions) (s : Sym) (o : Option Definition) → o ≡ look_up d.entries s → (or_first names s o).own ≡ (definition_of names d s).own
own_from names d s o p = ap (λ x. (or_first names s x).own) p ∙ sym (seen_own (shared_as d.shared s) (stored names d s))

pub downs_from : (names : Names) (d : Definitions) (s : Sym) (o : Option Definition) → o ≡ look_up d.entries s → (or_first names s o).downs ≡ (definition_of names d s).downs
downs_from names d s o p = ap (λ x. (or_first names s x).downs) p ∙ sym (seen_downs (shared_as d.shared s) (stored names d s))

pub ups_from : (names : Names) (d : Definitions) (s : Sym) (o : Option Definition) → o ≡ look_up d.entries s → (or_first names s o).ups ≡ (definition_of names d s).ups
ups_from names d s o p = ap (λ x. (or_first names s x).ups) p ∙ sym (seen_ups (shared_as d.shared s) (stored names d s))

pub attributes_stored : (names : Names) (d : Definitions) (s : Sym) (o : Option Definition) → o ≡ look_up d.entries s → (or_first names s o).attributes ≡ (stored names d s).attributes
attributes_stored names d s o p = ap (λ x. (or_first names s x).attributes) p

pub attributes_alone : (names : Names) (d : Definitions) (s : Sym) → shared_as d.shared s ≡ None → (stored names d s).attributes ≡ (definition_of names d s).attributes
attributes_alone names d s p = sym (ap (λ o. (seen_as o (stored names d s)).attributes) p)

pub attributes_shared : (names : Names) (d : Definitions) (s : Sym) (e : Shared) → shared_as d.shared s ≡ Some e → e.attributes ≡ (definition_of names d s).attributes
attributes_shared names d s e p = sym (ap (λ o. (seen_as o (stored names d s)).attributes) p)

-- ---- what is held

seen_holds : (left : Tree) (o : Option Shared) (x : Definition) → holds left (seen_as o x) ≡ holds left x
seen_holds (integer n) None x = refl
seen_holds (integer n) (Some e) x = refl
seen_holds (string t) None x = refl
seen_holds (string t) (Some e) x = refl
seen_holds (symbol s) None x = refl
seen_holds (symbol s) (Some e) x = refl
seen_holds (normal h es) None x = refl
seen_holds (normal h es) (Some e) x = refl

first_holds : (names : Names) (s : Sym) (left : Tree) → holds left (first_definition names s) ≡ false
first_holds names s (integer n) = refl
first_holds names s (string t) = refl
first_holds names s (symbol r) = refl
first_holds names s (normal h es) = refl

pub holds_found : (names : Names) (d : Definitions) (s : Sym) (left : Tree) (x : Definition) → Some x ≡ look_up d.entries s → holds left x ≡ holds left (definition_of names d s)
holds_found names d s left x p = ap (λ o. holds left (or_first names s o)) p ∙ sym (seen_holds left (shared_as d.shared s) (stored names d s))

pub holds_absent : (names : Names) (d : Definitions) (s : Sym) (left : Tree) → None ≡ look_up d.entries s → false ≡ holds left (definition_of names d s)
holds_absent names d s left p =
    sym (first_holds names s left) ∙ ap (λ o. holds left (or_first names s o)) p ∙ sym (seen_holds left (shared_as d.shared s) (stored names d s))
