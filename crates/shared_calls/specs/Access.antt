-- Which expressions are accesses of shared symbols, as they stand when the rules of their head would be tried.
--     kind_in, is_shared_as      how a symbol is shared, if it is; whether it is shared in this way
--     changed               the symbol that h[items] changes, where it is shared so that this is an access
--     access_in             the symbol that an expression accesses: a shared variable, f[..] of a shared function f, or what changes one of these
use Rattle.std.specs.Prelude.{List, Bool, true, false, Option, Some, None}
use Rattle.expr_tree.specs.declared.sym.Sym.{Sym}
use Rattle.expr_tree.specs.Tree.{Tree, symbol, normal, elements}
use Rattle.semantics.specs.Names.{Names}
use Rattle.semantics.specs.Definitions.{Share, Variable, Function, Shared, shared_as}
use Rattle.semantics.specs.Sections.{accessed, same_share}

abbrev pub kind_in : List Shared → Sym → Option Share
kind_in shared s = elim (shared_as shared s) [ None ↦ None | Some e ↦ Some e.kind ]

abbrev pub is_shared_as : Share → Option Share → Bool
is_shared_as kind None = false
is_shared_as kind (Some k) = same_share k kind

abbrev pub changed : Names → List Shared → Tree → List Tree → Option Sym
changed names shared h items =
    elim (accessed names h items) [
      | None ↦ None
      | Some a ↦ elim (is_shared_as a.1 (kind_in shared a.0)) [ true ↦ Some a.0 | false ↦ None ]
    ]

abbrev pub access_in : Names → List Shared → Tree → Option Sym
access_in names shared (symbol s) = elim (is_shared_as Variable (kind_in shared s)) [ true ↦ Some s | false ↦ None ]
access_in names shared (normal (symbol f) es) =
    elim (is_shared_as Function (kind_in shared f)) [ true ↦ Some f | false ↦ changed names shared (symbol f) (elements es) ]
access_in names shared _ = None
