-- Lists of symbols by which there is no throw.
--     may_throw             the rows by which an evaluation may come to a throw
--     none_throws           whether no symbol of a list is the name of such a row
use Rattle.std.specs.Prelude.{List, [], ◌∷◌, Bool, true, false, ◌&&◌, not, Option, Some, None}
use Rattle.expr_tree.specs.declared.sym.Sym.{Sym}
use Rattle.semantics.specs.declared.builtin.Builtin.{Builtin}
use Rattle.semantics.specs.Names.{Names, role_of}

-- those that throw and catch, and the one that gives whatever stands as an attribute
abbrev pub may_throw : Builtin → Bool
may_throw Builtin.Throw = true
may_throw Builtin.Catch = true
may_throw Builtin.Attributes = true
may_throw _ = false

abbrev pub role_throws : Option Builtin → Bool
role_throws None = false
role_throws (Some row) = may_throw row

abbrev pub none_throws : Names → List Sym → Bool
none_throws names [] = true
none_throws names (s ∷ ss) = not (role_throws (role_of names s)) && none_throws names ss
