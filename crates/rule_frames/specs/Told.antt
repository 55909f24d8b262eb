-- What definitions tell of the heads of a pattern, as the program keeps it.
--     attrs_in              the attributes of a symbol in a list, of which the first counts
use Rattle.std.specs.Prelude.{List, [], ◌∷◌, map, false, if◌then◌else◌}
use Rattle.expr_tree.specs.declared.sym.Sym.{Sym}
use Rattle.expr_tree.specs.declared.attrs.Attrs.{Attrs}
use Rattle.expr_tree.specs.Same.{symbol_eq}

abbrev pub no_attrs : Attrs
no_attrs = record { flat = false; orderless = false; listable = false; hold_first = false; hold_rest = false; hold_all = false; hold_all_complete = false; sequence_hold = false; one_identity = false; protected = false }

abbrev pub attrs_in : List (Sym × Attrs) → Sym → Attrs
attrs_in [] s = no_attrs
attrs_in (x ∷ xs) s = if symbol_eq x.0 s then x.1 else attrs_in xs s

abbrev pub told_of : (Sym → Attrs) → List Sym → List (Sym × Attrs)
told_of A ss = map (λ s. (s, A s)) ss
