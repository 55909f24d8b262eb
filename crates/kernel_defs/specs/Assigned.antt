-- A whole assignment.
--     protected_in          which symbols are Protected
--     attached_all          definitions with a value or rule attached to all targets, in their order
--     Assigns               what an assignment makes of the definitions, and what it answers
use Rattle.std.specs.Prelude.{◌≡◌, List, [], ◌∷◌, Bool, Some, None}
use Rattle.expr_tree.specs.declared.sym.Sym.{Sym}
use Rattle.expr_tree.specs.Tree.{Tree}
use Rattle.semantics.specs.Names.{Names}
use Rattle.semantics.specs.Assign.{Form, Target, places, refusal, attached}
use Rattle.semantics.specs.Changes.{is_protected}
use Rattle.semantics.specs.Definitions.{Definitions, definition_of}
use Rattle.semantics.specs.Play.{written}
use Rattle.kernel_defs.specs.Targets.{why_of}
use Rattle.kernel_defs.specs.declared.assign.Assigned.{Assigned}
use Rattle.kernel_defs.specs.declared.assign.Assigned.TheVariants.{Done, Refused}

abbrev pub protected_in : Names → Definitions → Sym → Bool
protected_in names d s = is_protected (definition_of names d s)

abbrev pub attached_all : Names → List Target → Tree → Tree → Definitions → Definitions
attached_all names [] left right d = d
attached_all names (t ∷ ts) left right d =
    attached_all names ts left right (written names d t.symbol (attached names t.place left right (definition_of names d t.symbol)))

abbrev pub AssignsBy : Names → Form → Tree → Tree → Definitions → Assigned → Definitions → Type 0
AssignsBy names form left right old Done new =
    (refusal names (protected_in names old) form left ≡ None) × (new ≡ attached_all names (places names form left) left right old)
AssignsBy names form left right old (Refused why) new = (refusal names (protected_in names old) form left ≡ Some (why_of why)) × (new ≡ old)

pub record Assigns (names : Names) (form : Form) (left right : Tree) (old : Definitions) (answer : Assigned) (new : Definitions) : Type 0 where
  pub by : AssignsBy names form left right old answer new
