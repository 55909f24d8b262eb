-- A form with an iterator before its parts are asked for.
use Rattle.std.proofs.Common.{◌≡◌, ◌∙◌, ◌≤◌, ◌+◌, ℕ, refl, ap, sym, subst, length, get_or, drop, Bool, true, false, List, [], ◌∷◌, ◌++◌, Option, Some, None, Result, Ok, arith}
use Rattle.expr_tree.specs.declared.sym.Sym.{Sym}
use Rattle.expr_tree.specs.Tree.{Tree}
use Rattle.semantics.specs.declared.builtin.Builtin.{Builtin}
use Rattle.semantics.specs.Names.{Names, is_call, items_of, make}
use Rattle.semantics.specs.Program.{Prog, Ask}
use Rattle.semantics.specs.Control.{Values, iterator, iterator_parts}
use Rattle.semantics.specs.Sections.{ask_option, checked_outer}
use Rattle.machine_outward.specs.declared.loop_call.LoopForm.{LoopForm}
use Rattle.machine_outward.specs.declared.loop_call.LoopCall.{LoopCall}
use Rattle.machine_outward.specs.declared.options.MethodOption.{MethodOption}
use Rattle.machine_outward.specs.declared.options.Split.{Split}
use Rattle.machine_outward.specs.declared.parallel_loop.LoopState.{LoopState}
use Rattle.machine_outward.specs.declared.outward_row.OutwardRow.{OutwardRow}
use Rattle.machine_outward.specs.Beginnings.{looped}
use Rattle.machine_outward.specs.Loops.{outward_row, opened, asks, sent, after_parts, further_with, left_at, left_parts, questions_at}
use Rattle.machine_outward.specs.declared.loop_parts.Found.{Found}
use Rattle.machine_outward.specs.declared.loop_parts.LoopParts.{LoopParts}
use Rattle.semantics.specs.Definitions.{Definitions}
use Rattle.semantics.specs.Play.{Setting}
use Rattle.evaluation_steps.specs.declared.Halt.{Halt}
use Rattle.machine_steps.specs.declared.moves.Move.{Move}
use Rattle.machine_steps.specs.Steps.{Stepped, Falls}
use Rattle.machine_outward.proofs.Moving.{shown, stepped_as, falls_from}
use Rattle.machine_outward.specs.LoopShapes.{asking_option, Finds, IsSplit}
use Rattle.machine_outward.specs.OutwardLeft.{left}

-- what follows the parts, before the option is split off
abbrev followed : Names → LoopForm → Tree → List Tree → List Tree → Prog
followed names form e es parts = ask_option names es (λ fs. checked_outer names (outward_row form) (e ∷ make names Builtin.List parts ∷ fs))

first_two : (names : Names) (form : LoopForm) (stay : Prog) (items : List Tree) (e it : Tree) → 2 ≤ length items → e ≡ get_or items 0 e → it ≡ get_or items 1 it →
    looped names form items stay ≡ iterator names it (λ i values parts. followed names form e (drop 2 items) parts) stay
first_two names form stay [] e it l at next = absurd (omega arith)
first_two names form stay (x ∷ []) e it l at next = absurd (omega arith)
first_two names form stay (x ∷ y ∷ es) e it l at next = λ j. iterator names (sym next j) (λ i values parts. followed names form (sym at j) es parts) stay

of_list : (names : Names) (it : Tree) (k : Option Sym → Values → List Tree → Prog) (stay : Prog) → is_call names Builtin.List it ≡ true → iterator names it k stay ≡ iterator_parts names (items_of it) k stay
of_list names it k stay h = ap (λ (t : Bool). elim t as (λ _. Prog) [ true ↦ iterator_parts names (items_of it) k stay | false ↦ stay ]) h

no_list : (names : Names) (it : Tree) (k : Option Sym → Values → List Tree → Prog) (stay : Prog) → is_call names Builtin.List it ≡ false → iterator names it k stay ≡ stay
no_list names it k stay h = ap (λ (t : Bool). elim t as (λ _. Prog) [ true ↦ iterator_parts names (items_of it) k stay | false ↦ stay ]) h

splits : (names : Names) (form : LoopForm) (body : Tree) (before : List Tree) (option : Option MethodOption) (parts : List Tree) →
    asking_option before option (λ fs. checked_outer names (outward_row form) (body ∷ make names Builtin.List parts ∷ fs)) ≡ after_parts names (record { form = form; body = body; further = before; option = option }) parts
splits names form body before None parts = refl
splits names form body before (Some o) parts = refl

pub begins : (names : Names) (form : LoopForm) (items : List Tree) (e it : Tree) (list : List Tree) (symbol : Option Sym) (parts rest known : List Tree) (body : Tree) (s : Split) (stay : Prog) →
    2 ≤ length items → e ≡ get_or items 0 e → it ≡ get_or items 1 it → is_call names Builtin.List it ≡ true → list ≡ items_of it →
    ((n : Names) (k : List Tree → Prog) (p : Prog) → iterator_parts n list (λ i values parts. k parts) p ≡ opened n symbol (asks n symbol [] parts k p)) →
    rest ≡ parts → known ≡ [] → body ≡ e → IsSplit names (drop 2 items) s →
    looped names form items stay
    ≡ left names (OutwardRow.Loop (record { call = record { form = form; body = body; further = s.before; option = s.option }; state = LoopState.Parts (record { symbol = symbol; known = known; rest = rest }) })) stay None
begins names form items e it list symbol parts rest known body s stay l at next call lists shaped same nothing copied split =
    let k = followed names form e (drop 2 items) in
    let goes : (ps : List Tree) → k ps ≡ after_parts names (record { form = form; body = body; further = s.before; option = s.option }) ps =
    λ ps. split.by (λ fs. checked_outer names (outward_row form) (e ∷ make names Builtin.List ps ∷ fs))
    ∙ ((λ j. asking_option s.before s.option (λ fs. checked_outer names (outward_row form) (sym copied j ∷ make names Builtin.List ps ∷ fs))) ∙ splits names form body s.before s.option ps) in
    first_two names form stay items e it l at next
    ∙ (of_list names it (λ i values parts. k parts) stay call
    ∙ ((λ j. iterator_parts names (sym lists j) (λ i values parts. k parts) stay)
    ∙ (shaped names k stay
    ∙ (λ j. opened names symbol (asks names symbol (sym nothing j) (sym same j) (λ ps. goes ps j) stay)))))

pub begins_without : (names : Names) (form : LoopForm) (items : List Tree) (e it : Tree) (stay : Prog) →
    2 ≤ length items → e ≡ get_or items 0 e → it ≡ get_or items 1 it → is_call names Builtin.List it ≡ false → looped names form items stay ≡ stay
begins_without names form items e it stay l at next other =
    first_two names form stay items e it l at next ∙ no_list names it (λ i values parts. followed names form e (drop 2 items) parts) stay other

pub begins_unshaped : (names : Names) (form : LoopForm) (items : List Tree) (e it : Tree) (list : List Tree) (stay : Prog) →
    2 ≤ length items → e ≡ get_or items 0 e → it ≡ get_or items 1 it → is_call names Builtin.List it ≡ true → list ≡ items_of it →
    ((n : Names) (k : Option Sym → Values → List Tree → Prog) (p : Prog) → iterator_parts n list k p ≡ p) → looped names form items stay ≡ stay
begins_unshaped names form items e it list stay l at next call lists unshaped =
    let k = followed names form e (drop 2 items) in
    first_two names form stay items e it l at next
    ∙ (of_list names it (λ i values parts. k parts) stay call ∙ ((λ j. iterator_parts names (sym lists j) (λ i values parts. k parts) stay) ∙ unshaped names (λ i values parts. k parts) stay))

-- ---- what follows the parts

pub without_method : (names : Names) (c : LoopCall) (parts : List Tree) → c.option ≡ None → after_parts names c parts ≡ sent names c parts c.further
without_method names c parts is =
    ap (λ o. elim o as (λ _. Prog) [ None ↦ sent names c parts c.further | Some q ↦ Ask q.value (λ v. sent names c parts (further_with c (Some v))) ]) is

-- ---- steps of a form whose parts are asked for

pub moves_on : {set : Setting} {d : Definitions} {used : Bool} {rest : Option Tree → Prog} (names : Names) (c : LoopCall) (state : LoopState) (p : LoopParts) (answer : Option Tree) (v : Tree) (f : Found) (m : Move) (stay : Prog) →
    state ≡ LoopState.Parts p → answer ≡ Some v → f ≡ Found.Moves m → Finds names c (left_parts names c p stay (Some v)) stay f rest → Stepped set (left_at names c state stay answer) stay d used (Ok m) rest d used
moves_on {rest = rest} names c state p answer v f m stay is told moves finds =
    let g = subst (λ (x : Found). Finds names c (left_parts names c p stay (Some v)) stay x rest) moves finds in
    shown ((λ i. left_at names c (is i) stay (told i)) ∙ g.by)

pub walks_on : {set : Setting} {d e : Definitions} {used now : Bool} {r : Result Move Halt} {rest next : Option Tree → Prog} (names : Names) (c : LoopCall) (state : LoopState) (p : LoopParts) (answer : Option Tree) (v : Tree) (f : Found) (parts : List Tree) (stay : Prog) →
    state ≡ LoopState.Parts p → answer ≡ Some v → f ≡ Found.Parts parts → Finds names c (left_parts names c p stay (Some v)) stay f next →
    Stepped set (after_parts names c parts) stay d used r rest e now → Stepped set (left_at names c state stay answer) stay d used r rest e now
walks_on {next = next} names c state p answer v f parts stay is told walks finds s =
    let g = subst (λ (x : Found). Finds names c (left_parts names c p stay (Some v)) stay x next) walks finds in
    stepped_as ((λ i. left_at names c (is i) stay (told i)) ∙ g.by) s

pub walks_fall : (state : LoopState) (p : LoopParts) (r : Result Move Halt) (after : Option Tree → ℕ) → state ≡ LoopState.Parts p → Falls r 3 after → Falls r (questions_at state) after
walks_fall state p r after is falls =
    let q : questions_at state ≡ length p.rest + 3 = ap questions_at is in
    falls_from r 3 (questions_at state) after (omega (arith, q)) falls

pub method_on : {set : Setting} {d e : Definitions} {used now : Bool} {r : Result Move Halt} {rest : Option Tree → Prog} (names : Names) (c : LoopCall) (state : LoopState) (parts : List Tree) (answer : Option Tree) (v : Tree) (stay : Prog) →
    state ≡ LoopState.Method parts → answer ≡ Some v → Stepped set (sent names c parts (further_with c (Some v))) stay d used r rest e now → Stepped set (left_at names c state stay answer) stay d used r rest e now
method_on names c state parts answer v stay is told s = stepped_as (λ i. left_at names c (is i) stay (told i)) s
