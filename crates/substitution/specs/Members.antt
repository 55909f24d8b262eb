-- Which expressions are members of a list that binds.
--     member_symbol         the symbol that a member of this kind binds
use Rattle.std.specs.Prelude.{Option}
use Rattle.expr_tree.specs.declared.sym.Sym.{Sym}
use Rattle.expr_tree.specs.declared.binders.Binders.{Binders}
use Rattle.expr_tree.specs.Tree.{Tree}
use Rattle.expr_tree.specs.Substitution.{plain_symbol, valued_symbol, local_symbol}
use Rattle.substitution.specs.declared.scope.Members.{Members}

abbrev pub member_symbol : Binders → Members → Tree → Option Sym
member_symbol binders Members.Locals = local_symbol binders
member_symbol binders Members.Values = valued_symbol binders
member_symbol binders Members.Symbols = plain_symbol
