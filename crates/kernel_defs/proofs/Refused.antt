-- Why an assignment is refused, from what is protected and from its shape.
use Rattle.std.proofs.Common.{◌≡◌, ◌∙◌, sym, ap, Bool, true, false, [], Option, Some, None}
use Rattle.expr_tree.specs.declared.sym.Sym.{Sym}
use Rattle.expr_tree.specs.Tree.{Tree}
use Rattle.semantics.specs.Names.{Names}
use Rattle.semantics.specs.Assign.{Form, Why, IsProtected, NoSymbol, Nested, NoTag, places, refusal, has_no_symbol, is_nested, inner, asked_symbols, first_protected}
use Rattle.kernel_defs.proofs.Shapes.{none_protected}

abbrev shape_cause : Names → Form → Tree → Option Why
shape_cause names form left =
    elim (has_no_symbol names form left) [
      | true ↦ Some NoSymbol
      | false ↦ elim (is_nested names (inner names left)) [ true ↦ Some Nested | false ↦ elim (places names form left) [ [] ↦ Some NoTag | _ ↦ None ] ]
    ]

abbrev cause : Option Sym → Option Why → Option Why
cause found why = elim found [ Some s ↦ Some (IsProtected s) | None ↦ why ]

pub refused_protected : (names : Names) (p : Sym → Bool) (form : Form) (left : Tree) (s : Sym) → first_protected p (asked_symbols form (places names form left)) ≡ Some s
    → refusal names p form left ≡ Some (IsProtected s)
refused_protected names p form left s q = ap (λ found. cause found (shape_cause names form left)) q

pub refused_shape : (names : Names) (p : Sym → Bool) (form : Form) (left : Tree) (o : Option Why) → first_protected p (asked_symbols form (places names form left)) ≡ None
    → o ≡ refusal names (λ s. false) form left → refusal names p form left ≡ o
refused_shape names p form left o q r =
    ap (λ found. cause found (shape_cause names form left)) q
    ∙ sym (ap (λ found. cause found (shape_cause names form left)) (none_protected (asked_symbols form (places names form left))))
    ∙ sym r

pub ruleset refused_steps = (refused_protected, refused_shape)
