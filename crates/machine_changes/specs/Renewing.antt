-- An own value that is made anew from the old one.
--     operand_of            what stands behind the old value
--     next_of, given_by     the expression that is evaluated; the result, from the old value and the new one
--     put, assigned         the new value is assigned; it is unless the symbol is Protected
--     renewed               the new value is there: the symbol is looked at again, and it is assigned so
--     left_renewal          the program that is left
use Rattle.std.specs.Prelude.{negsuc, [], ◌∷◌, Option, Some, None, true, false, is_some}
use Rattle.expr_tree.specs.Tree.{Tree, integer}
use Rattle.semantics.specs.declared.builtin.Builtin.{Builtin}
use Rattle.semantics.specs.Names.{Names, make}
use Rattle.semantics.specs.Program.{Prog, Done, Look, Put}
use Rattle.semantics.specs.Control.{null}
use Rattle.semantics.specs.Changes.{change, noting, renew, old_value, new_value}
use Rattle.semantics.specs.Definitions.{Definitions, definition_of}
use Rattle.machine_changes.specs.declared.renewal.Operand.{Operand}
use Rattle.machine_changes.specs.declared.renewal.Renewal.{Renewal}

abbrev pub operand_of : Names → Operand → Tree
operand_of names (Operand.Given x) = x
operand_of names (Operand.Negated x) = make names Builtin.Times (integer (negsuc 0) ∷ x ∷ [])

abbrev pub next_of : Names → Builtin → Operand → Tree → Tree
next_of names row operand old = make names row (old ∷ operand_of names operand ∷ [])

abbrev pub given_by : Renewal → Tree → Tree → Tree
given_by f = elim f.gives_old [ true ↦ old_value | false ↦ new_value ]

abbrev pub put : Names → Renewal → Tree → Tree → Definitions → Prog
put names f old v d = Put f.symbol (record (definition_of names d f.symbol) { own = Some v }) (Done (given_by f old v))

abbrev pub assigned : Names → Renewal → Tree → Tree → Definitions → Prog
assigned names f old v d = renew names f.symbol v (given_by f old v) (definition_of names d f.symbol)

abbrev pub renewed : Names → Renewal → Tree → Option Tree → Prog
renewed names f old None = null names
renewed names f old (Some v) = Look f.symbol (λ seen. noting (is_some seen.shared) (renew names f.symbol v (given_by f old v) seen.definition))

abbrev pub left_renewal : Names → Renewal → Option Tree → Prog
left_renewal names f answer =
    elim f.before [ None ↦ change names f.symbol (next_of names f.row f.operand) (given_by f) | Some old ↦ renewed names f old answer ]
