-- The body for each value.
use Rattle.std.proofs.Common.{◌≡◌, ◌∙◌, refl, sym, ap, ℕ, zero, suc, ℤ, ◌+ℤ◌, List, [], ◌∷◌, Option, None}
use Rattle.std.proofs.Math.Path.{fun_ext}
use Rattle.expr_tree.specs.declared.sym.Sym.{Sym}
use Rattle.expr_tree.specs.Tree.{Tree, integer}
use Rattle.semantics.specs.Names.{Names}
use Rattle.semantics.specs.Program.{Prog, Turn, Within}
use Rattle.semantics.specs.Control.{From, locals, over_numbers, over_list}
use Rattle.semantics.specs.Lists.{count_up}
use Rattle.machine_iterators.specs.declared.body.Body.{Body}
use Rattle.machine_iterators.specs.declared.body.IterationForm.{IterationForm}
use Rattle.machine_iterators.specs.declared.iterator_values.IteratorValues.{IteratorValues}
use Rattle.machine_iterators.specs.declared.turns.Turns.{Turns}
use Rattle.machine_iterators.specs.IterationForms.{finish}
use Rattle.machine_iterators.specs.IterationLeft.{values_in, noted, goes, left_turns}

-- numbers are walked as their list is
counted : (i : Option Sym) (e : Tree) (d : ℤ) (n : ℕ) (a : ℤ) (done : List Tree) (k : List Tree → Prog) → over_numbers i e d n a done k ≡ over_list i e (count_up a d n) done k
counted i e d zero a done k = refl
counted i e d (suc n) a done k = ap (λ (f : Tree → Prog). Turn (Within (locals i (integer a)) e f)) (fun_ext (λ v. counted i e d n (a +ℤ d) (v ∷ done) k))

pub walks_numbers : (names : Names) (b : Body) (w : IteratorValues) (a d : ℤ) (n : ℕ) → values_in w ≡ count_up a d n → goes names b (From a d n) ≡ left_turns names b (record { values = w; done = [] }) None
walks_numbers names b w a d n is = counted b.symbol b.expression d n a [] (finish names b.form) ∙ ap (λ (es : List Tree). over_list b.symbol b.expression es [] (finish names b.form)) (sym is)

-- Do does not look at the values
dropped : (names : Names) (i : Option Sym) (e : Tree) (es done kept : List Tree) → over_list i e es done (finish names IterationForm.Do) ≡ over_list i e es kept (finish names IterationForm.Do)
dropped names i e [] done kept = refl
dropped names i e (x ∷ es) done kept = ap (λ (f : Tree → Prog). Turn (Within (locals i x) e f)) (fun_ext (λ v. dropped names i e es (v ∷ done) (v ∷ kept)))

pub forgets : (names : Names) (b : Body) (g : Turns) (answer : Option Tree) → b.form ≡ IterationForm.Do → left_turns names b g answer ≡ left_turns names b g None
forgets names b g answer is = rw is (dropped names b.symbol b.expression (values_in g.values) (noted answer g.done) g.done)
