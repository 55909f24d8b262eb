-- What a left side holds, taken away.
--     unset_at              Unset of a left side that is evaluated
--     is_kept               whether symbols may not give up what they hold: there is none, or one is Protected
--     taken_away            definitions without what symbols hold with a left side, one after the other
use Rattle.std.specs.Prelude.{List, [], ◌∷◌, Bool, true}
use Rattle.expr_tree.specs.declared.sym.Sym.{Sym}
use Rattle.expr_tree.specs.Tree.{Tree}
use Rattle.semantics.specs.Names.{Names}
use Rattle.semantics.specs.Changes.{any_protected, any_shared, holders, holding, see_all, unless_item, unset_from, without_left}
use Rattle.semantics.specs.Definitions.{Definitions, definition_of}
use Rattle.semantics.specs.Play.{written}
use Rattle.semantics.specs.Program.{Prog, Seen}

abbrev pub unset_at : Names → Tree → Prog
unset_at names l = see_all (holders names l) (λ seen. unless_item names (any_shared seen) (unset_from names l (holding l seen)))

abbrev pub is_kept : List (Sym × Seen) → Bool
is_kept [] = true
is_kept (e ∷ es) = any_protected (e ∷ es)

abbrev pub taken_away : Names → Tree → List Sym → Definitions → Definitions
taken_away names left [] d = d
taken_away names left (s ∷ ss) d = taken_away names left ss (written names d s (without_left left (definition_of names d s)))
