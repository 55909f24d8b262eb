-- The rows on one symbol that ask nothing.
--     deed_on               what is done to the symbol, from its definition
--     done_to               the program of a deed
use Rattle.std.specs.Prelude.{List, [], ◌∷◌, map, Bool, true, false, is_some}
use Rattle.expr_tree.specs.Tree.{Tree}
use Rattle.expr_tree.specs.declared.sym.Sym.{Sym}
use Rattle.semantics.specs.declared.builtin.Builtin.{Builtin}
use Rattle.semantics.specs.Names.{Names, name, make}
use Rattle.semantics.specs.Steps.{ordered}
use Rattle.semantics.specs.Definitions.{Attributes, Definition}
use Rattle.semantics.specs.Program.{Prog, Done, Look, Put}
use Rattle.semantics.specs.Control.{null}
use Rattle.semantics.specs.Changes.{clear, clear_all, protect, attributes_row, noting, write, cleared, nothing_left, unless_shared_symbol, with_attributes, without_attributes}
use Rattle.machine_changes.specs.declared.single.Deed.{Deed}
use Rattle.machine_changes.specs.Shapes.{of_symbol}

abbrev pub deed_on : Names → Sym → Deed → Definition → Prog
deed_on names s Deed.Clear = write names s cleared
deed_on names s Deed.ClearAll = write names s nothing_left
deed_on names s (Deed.Add new) = write names s (with_attributes new)
deed_on names s (Deed.Remove old) = write names s (without_attributes old)
deed_on names s Deed.Protect = λ d. Put s (with_attributes (Builtin.Protected ∷ []) d) (null names)
deed_on names s Deed.Unprotect = λ d. Put s (without_attributes (Builtin.Protected ∷ []) d) (null names)
deed_on names s Deed.Tell = λ d. Done (make names Builtin.List (ordered (map (name names) d.attributes)))

-- a shared symbol may be cleared; anything else fails
abbrev pub guarded : Names → Deed → Bool → Prog → Prog
guarded names Deed.Clear = noting
guarded names Deed.ClearAll = unless_shared_symbol names
guarded names (Deed.Add new) = unless_shared_symbol names
guarded names (Deed.Remove old) = unless_shared_symbol names
guarded names Deed.Protect = unless_shared_symbol names
guarded names Deed.Unprotect = unless_shared_symbol names
guarded names Deed.Tell = unless_shared_symbol names

abbrev pub fails_for : Deed → Bool → Bool
fails_for Deed.Clear shared = false
fails_for Deed.ClearAll shared = shared
fails_for (Deed.Add new) shared = shared
fails_for (Deed.Remove old) shared = shared
fails_for Deed.Protect shared = shared
fails_for Deed.Unprotect shared = shared
fails_for Deed.Tell shared = shared

abbrev pub done_to : Names → Sym → Deed → Prog
done_to names s deed = Look s (λ seen. guarded names deed (is_some seen.shared) (deed_on names s deed seen.definition))

-- the rows that have a symbol and nothing else, by what they do
abbrev pub row_of : Names → Deed → Prog → List Tree → Prog
row_of names Deed.Clear = clear names
row_of names Deed.ClearAll = clear_all names
row_of names (Deed.Add new) = of_symbol (λ s. done_to names s (Deed.Add new))
row_of names (Deed.Remove old) = of_symbol (λ s. done_to names s (Deed.Remove old))
row_of names Deed.Protect = protect names (with_attributes (Builtin.Protected ∷ []))
row_of names Deed.Unprotect = protect names (without_attributes (Builtin.Protected ∷ []))
row_of names Deed.Tell = attributes_row names

-- a row that fails for a shared symbol
abbrev pub unless_shared : Names → Sym → (Definition → Prog) → Prog
unless_shared names s p = Look s (λ seen. unless_shared_symbol names (is_some seen.shared) (p seen.definition))

abbrev pub deed_with : Bool → Attributes → Deed
deed_with true named = Deed.Add named
deed_with false named = Deed.Remove named
