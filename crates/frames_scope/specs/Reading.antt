-- The locals of a form, as the program keeps them.
--     local_in, locals_in   locals as the definitions have them
--     IsRead                a form has locals and a body, or stays
use Rattle.std.specs.Prelude.{◌≡◌, Bool, true, false, List, [], ◌∷◌, Option, Some, None}
use Rattle.expr_tree.specs.declared.sym.Sym.{Sym}
use Rattle.expr_tree.specs.Tree.{Tree}
use Rattle.semantics.specs.Names.{Names, is_call, items_of}
use Rattle.semantics.specs.declared.builtin.Builtin.{Builtin}
use Rattle.semantics.specs.Program as p
use Rattle.semantics.specs.Program.{Prog}
use Rattle.semantics.specs.Scoping.{with_locals, locals_of}
use Rattle.frames_scope.specs.declared.locals.Local.{Local}
use Rattle.frames_scope.specs.declared.locals.Scope.{Scope}

abbrev pub local_in : Local → p.Local
local_in l = record { symbol = l.symbol; value = l.value }

abbrev pub locals_in : List Local → List p.Local
locals_in [] = []
locals_in (l ∷ ls) = local_in l ∷ locals_in ls

abbrev pub local_read : Option Local → Option p.Local
local_read None = None
local_read (Some l) = Some (local_in l)

abbrev pub locals_read : Option (List Local) → Option (List p.Local)
locals_read None = None
locals_read (Some ls) = Some (locals_in ls)

-- the locals that an expression lists, if it is a list of locals
abbrev pub locals_under : Names → Tree → Option (List p.Local)
locals_under names e = elim (is_call names Builtin.List e) [ true ↦ locals_of names (items_of e) | false ↦ None ]

-- the form goes on with these locals and this body, or stays as it is
abbrev pub IsReadBy : Names → (List Sym → Bool) → List Tree → Option Scope → Type 0
IsReadBy names allowed items None = (k : List p.Local → Tree → Prog) (stay : Prog) → with_locals names allowed k stay items ≡ stay
IsReadBy names allowed items (Some s) = (k : List p.Local → Tree → Prog) (stay : Prog) → with_locals names allowed k stay items ≡ k (locals_in s.locals) s.body

pub record IsRead (names : Names) (allowed : List Sym → Bool) (items : List Tree) (r : Option Scope) : Type 0 where
  pub by : IsReadBy names allowed items r
