-- What follows from the value of a part, as a step.
use Rattle.std.proofs.Common.{◌≡◌, ◌∙◌, ◌≤◌, ◌+◌, ◌^◌, ap, subst, ℕ, Bool, length, [], Option, Some, None, Result, Ok, arith}
use Rattle.expr_tree.specs.Tree.{Tree}
use Rattle.semantics.specs.Names.{Names}
use Rattle.semantics.specs.Definitions.{Definitions}
use Rattle.semantics.specs.Program.{Prog}
use Rattle.semantics.specs.Play.{Setting}
use Rattle.evaluation_steps.specs.declared.Halt.{Halt}
use Rattle.machine_steps.specs.declared.moves.Move.{Move}
use Rattle.machine_steps.specs.Steps.{Stepped, Falls}
use Rattle.machine_iterators.specs.declared.body.Body.{Body}
use Rattle.machine_iterators.specs.declared.parts.Parts.{Parts}
use Rattle.machine_iterators.specs.declared.parts.Found.{Found}
use Rattle.machine_iterators.specs.declared.iterator_values.IteratorValues.{IteratorValues}
use Rattle.machine_iterators.specs.declared.iteration.State.{State}
use Rattle.machine_iterators.specs.IterationLeft.{values_in, left_turns, left_asking, left_at, questions_at}
use Rattle.machine_iterators.specs.Found.{Finds, Fewer}
use Rattle.machine_iterators.proofs.Shown.{shown, stepped_as, falls_from}

pub moves_on : {set : Setting} {d : Definitions} {used : Bool} {rest : Option Tree → Prog} (names : Names) (b : Body) (state : State) (p : Parts) (answer : Option Tree) (v : Tree) (f : Found) (m : Move) (stay : Prog) →
    state ≡ State.Asking p → answer ≡ Some v → f ≡ Found.Moves m → Finds names b (left_asking names b p stay (Some v)) stay f rest → Stepped set (left_at names b state stay answer) stay d used (Ok m) rest d used
moves_on {rest = rest} names b state p answer v f m stay is told moves finds =
    let g = subst (λ (x : Found). Finds names b (left_asking names b p stay (Some v)) stay x rest) moves finds in
    shown ((λ i. left_at names b (is i) stay (told i)) ∙ g.by)

pub walks_on : {set : Setting} {d e : Definitions} {used now : Bool} {r : Result Move Halt} {rest next : Option Tree → Prog} (names : Names) (b : Body) (state : State) (p : Parts) (answer : Option Tree) (v : Tree) (f : Found) (w : IteratorValues) (stay : Prog) →
    state ≡ State.Asking p → answer ≡ Some v → f ≡ Found.Values w → Finds names b (left_asking names b p stay (Some v)) stay f next →
    Stepped set (left_turns names b (record { values = w; done = [] }) None) stay d used r rest e now → Stepped set (left_at names b state stay answer) stay d used r rest e now
walks_on {next = next} names b state p answer v f w stay is told walks finds s =
    let g = subst (λ (x : Found). Finds names b (left_asking names b p stay (Some v)) stay x next) walks finds in
    stepped_as ((λ i. left_at names b (is i) stay (told i)) ∙ g.by) s

pub walks_fall : (state : State) (p : Parts) (f : Found) (w : IteratorValues) (r : Result Move Halt) (m : ℕ) (next after : Option Tree → ℕ) →
    state ≡ State.Asking p → f ≡ Found.Values w → Fewer f m next → Falls r (length (values_in w)) after → Falls r (questions_at state) after
walks_fall state p f w r m next after is walks fewer falls =
    let few : length (values_in w) ≤ 2 ^ 128 = subst (λ (x : Found). Fewer x m next) walks fewer in
    let q : questions_at state ≡ length p.rest + 2 ^ 128 + 1 = ap questions_at is in
    falls_from r (length (values_in w)) (questions_at state) after (omega (arith, few, q)) falls
