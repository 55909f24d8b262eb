-- A form before its first question.
use Rattle.std.proofs.Common.{◌≡◌, ◌∙◌, ◌≤◌, ap, sym, length, get_or, drop, Bool, true, false, List, [], ◌∷◌, Option, None, arith}
use Rattle.expr_tree.specs.declared.sym.Sym.{Sym}
use Rattle.expr_tree.specs.Tree.{Tree}
use Rattle.semantics.specs.declared.builtin.Builtin.{Builtin}
use Rattle.semantics.specs.Names.{Names, is_call, items_of}
use Rattle.semantics.specs.Program.{Prog}
use Rattle.semantics.specs.Control.{Values, over, iterator, iterator_parts, iterated, inner_form}
use Rattle.machine_iterators.specs.declared.body.IterationForm.{IterationForm}
use Rattle.machine_iterators.specs.declared.parts.Known.{Known}
use Rattle.machine_iterators.specs.IterationForms.{row_of, finish}
use Rattle.machine_iterators.specs.PartsAsked.{opened, asks}
use Rattle.machine_iterators.specs.IterationLeft.{left_asking}

first_two : (names : Names) (row : Builtin) (k : List Tree → Prog) (stay : Prog) (items : List Tree) (e it : Tree) → 2 ≤ length items → e ≡ get_or items 0 e → it ≡ get_or items 1 it →
    iterated names row k stay items ≡ iterator names it (λ i values parts. over i values (inner_form names row e (drop 2 items)) k) stay
first_two names row k stay [] e it l at next = absurd (omega arith)
first_two names row k stay (x ∷ []) e it l at next = absurd (omega arith)
first_two names row k stay (x ∷ y ∷ its) e it l at next = λ j. iterator names (sym next j) (λ i values parts. over i values (inner_form names row (sym at j) its) k) stay

of_list : (names : Names) (it : Tree) (k : Option Sym → Values → List Tree → Prog) (stay : Prog) → is_call names Builtin.List it ≡ true → iterator names it k stay ≡ iterator_parts names (items_of it) k stay
of_list names it k stay h = ap (λ (t : Bool). elim t as (λ _. Prog) [ true ↦ iterator_parts names (items_of it) k stay | false ↦ stay ]) h

pub begins : (names : Names) (form : IterationForm) (items : List Tree) (e it : Tree) (list : List Tree) (symbol : Option Sym) (parts rest : List Tree) (expression : Tree) (stay : Prog) →
    2 ≤ length items → e ≡ get_or items 0 e → it ≡ get_or items 1 it → is_call names Builtin.List it ≡ true → list ≡ items_of it →
    ((n : Names) (k : Option Sym → Values → Prog) (s : Prog) → iterator_parts n list (λ i values parts. k i values) s ≡ opened n symbol (asks n symbol Known.Nothing parts (k symbol) s)) →
    rest ≡ parts → expression ≡ inner_form names (row_of form) e (drop 2 items) →
    iterated names (row_of form) (finish names form) stay items ≡ left_asking names (record { form = form; symbol = symbol; expression = expression }) (record { known = Known.Nothing; rest = rest }) stay None
begins names form items e it list symbol parts rest expression stay l at next called lists shaped same inner =
    first_two names (row_of form) (finish names form) stay items e it l at next
    ∙ (of_list names it (λ i values parts. over i values (inner_form names (row_of form) e (drop 2 items)) (finish names form)) stay called
    ∙ ((λ j. iterator_parts names (sym lists j) (λ i values parts. over i values (inner_form names (row_of form) e (drop 2 items)) (finish names form)) stay)
    ∙ (shaped names (λ i values. over i values (inner_form names (row_of form) e (drop 2 items)) (finish names form)) stay
    ∙ (λ j. opened names symbol (asks names symbol Known.Nothing (sym same j) (λ values. over symbol values (sym inner j) (finish names form)) stay)))))
