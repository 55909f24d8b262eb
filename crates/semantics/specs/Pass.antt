-- One pass of the standard evaluation sequence, as a program. An integer and a string stay; a symbol is replaced by its own value.
-- A normal expression: its head is evaluated; then its elements, but for those that are held; elements Sequence[..] are spliced in;
-- the outermost Unevaluated of each element is taken off; under Flat elements with the same head are flattened into it;
-- under Listable it is threaded over Lists; under Orderless it is sorted; the up rules of the symbol of each element are tried;
-- then the down rules of the head, then the head's row of the table. The first of these that gives a result ends the pass.
--     pass                  the pass
--     later_steps           what follows splicing
--     up_rules, down_rules  the rules that are tried; built_in is the row
--     left_standing         what stands where nothing gives a result
--     symbol_pass           a symbol
use Rattle.std.specs.Prelude.{ℕ, pos, List, [], ◌∷◌, true, false, ◌&&◌, not, Option, Some, None}
use Rattle.expr_tree.specs.declared.sym.Sym.{Sym}
use Rattle.expr_tree.specs.Tree.{Tree, integer, string, symbol, normal, elements, call}
use Rattle.semantics.specs.declared.builtin.Builtin.{Builtin}
use Rattle.semantics.specs.Names.{Names, is_known, is_name, make, role_of}
use Rattle.expr_tree.specs.Shapes.{symbol_of}
use Rattle.semantics.specs.Steps.{strip, has_wrapper}
use Rattle.semantics.specs.Definitions.{Attributes, Share, Variable, Function, has}
use Rattle.semantics.specs.Program.{Prog, Done, Look, Outer, Moded, Mode, Item, Seen, Count}
use Rattle.semantics.specs.Attempt.{try_rules}
use Rattle.semantics.specs.Assemble.{first_steps, flattened, threaded, sorted, check_all}
use Rattle.semantics.specs.Scoping.{apply_function}
use Rattle.semantics.specs.Sections.{unless_access, access_or}
use Rattle.semantics.specs.Table.{row}

-- a use of a shared symbol, at which mode and kernel begin to matter
abbrev pub marked : Option Share → Prog → Prog
marked None p = p
marked (Some kind) p = Moded (λ mode kernel. p)

-- the up rules of a symbol, where there is one
abbrev pub symbol_rules : Names → Option Sym → Tree → Prog → Prog
symbol_rules names None e otherwise = otherwise
symbol_rules names (Some s) e otherwise = Look s (λ seen. marked seen.shared (try_rules names seen.definition.ups e Done otherwise))

-- the up rules of the symbol of each item, from left to right
abbrev pub up_rules : Names → List Tree → Tree → Prog → Prog
up_rules names [] e otherwise = otherwise
up_rules names (x ∷ xs) e otherwise = symbol_rules names (symbol_of x) e (up_rules names xs e otherwise)

abbrev pub row_or_stay : Names → Option Builtin → Sym → List Tree → Tree → Prog → Prog
row_or_stay names None s items e stay = stay
row_or_stay names (Some r) s items e stay = unless_access names (symbol s) items e stay (row names r stay items)

abbrev pub built_in : Names → Sym → List Tree → Tree → Prog → Prog
built_in names s items e stay = row_or_stay names (role_of names s) s items e stay

-- the down rules of the head, then its row; a shared function is an access
abbrev pub down_rules : Names → Tree → List Tree → Tree → Prog → Prog
down_rules names (symbol s) items e stay =
    Look s (λ seen. access_or seen.shared Function e stay (marked seen.shared (try_rules names seen.definition.downs e Done (built_in names s items e stay))))
down_rules names (normal h fs) items e stay = elim (is_name names Builtin.Function h) [ true ↦ apply_function names stay (elements fs) items | false ↦ stay ]
down_rules names _ items e stay = stay

abbrev pub last_steps : Names → Attributes → List Tree → Tree → Prog → Tree → Prog
last_steps names a items e stay head =
    elim (has Builtin.HoldAllComplete a) [ true ↦ down_rules names head items e stay | false ↦ up_rules names items e (down_rules names head items e stay) ]

-- where no step gives a result: the expression assembled, or, where an Unevaluated was taken off, as it stood after splicing
abbrev pub left_standing : Names → Attributes → Tree → List Tree → Tree → Tree
left_standing names a head items e = elim (not (has Builtin.HoldAllComplete a) && has_wrapper names items) [ true ↦ call head items | false ↦ e ]

-- what follows splicing, from the head and the items that it left
abbrev pub later_steps : Names → Tree → Attributes → List Tree → Prog
later_steps names head a items =
    let stripped : List Tree = elim (has Builtin.HoldAllComplete a) [ true ↦ items | false ↦ strip names items ] in
    let flat : List Tree = flattened head a stripped in
    elim (threaded names head a flat) [
      | Some each ↦ check_all each (Done (make names Builtin.List each))
      | None ↦
          let last : List Tree = sorted a flat in
          last_steps names a last (call head last) (Done (left_standing names a head items (call head last))) head
    ]

-- a kernel's number is its own in an item alone; cells and services belong to the master
abbrev pub number_in : Mode → ℕ → ℕ
number_in Item kernel = kernel
number_in _ kernel = 0

-- $KernelID and $KernelCount are rows of a symbol alone
abbrev pub symbol_row : Names → Sym → Prog
symbol_row names s =
    elim (is_known names Builtin.KernelID s) [
      | true ↦ Moded (λ mode kernel. Done (integer (pos (number_in mode kernel))))
      | false ↦ elim (is_known names Builtin.KernelCount s) [
        | true ↦ Moded (λ mode kernel. Outer Count Done)
        | false ↦ Done (symbol s)
      ]
    ]

-- a symbol is replaced by its own value, and has its row where it has none
abbrev pub own_value : Names → Sym → Seen → Prog
own_value names s seen = elim (seen.definition.own) [ None ↦ symbol_row names s | Some v ↦ Done v ]

-- in mode Item a shared variable is an access
abbrev pub symbol_pass : Names → Sym → Prog
symbol_pass names s = Look s (λ seen. access_or seen.shared Variable (symbol s) (Done (symbol s)) (marked seen.shared (own_value names s seen)))

abbrev pub pass : Names → Tree → Prog
pass names (integer n) = Done (integer n)
pass names (string t) = Done (string t)
pass names (symbol s) = symbol_pass names s
pass names (normal h es) = first_steps names h (elements es) (later_steps names)
