-- Steps, from equations of runs.
use Rattle.std.proofs.Common.{◌≡◌, ◌∙◌, inl, inr, refl, sym, ap, ℕ, Bool, true, false, List, Option, Some, None, Result, Ok, Err, true≢false}
use Rattle.std.specs.Prelude.{◌||◌}
use Rattle.expr_tree.specs.declared.sym.Sym.{Sym}
use Rattle.expr_tree.specs.Tree.{Tree}
use Rattle.semantics.specs.declared.builtin.Builtin.{Builtin}
use Rattle.semantics.specs.Names.{Names, name}
use Rattle.semantics.specs.Control.{failed, null}
use Rattle.semantics.specs.Definitions.{Definition, Definitions}
use Rattle.semantics.specs.Changes.{unless_item, is_protected, write}
use Rattle.semantics.specs.Program.{Prog, Done, Ask, Put, Mode, Cell, Item, Service}
use Rattle.semantics.specs.Play.{Setting, Evaluator, Over, Value, run, written}
use Rattle.evaluation_steps.specs.declared.Halt.{Halt}
use Rattle.evaluation_steps.specs.Stopping.{HaltsFor}
use Rattle.machine_steps.specs.declared.moves.Move.{Move}
use Rattle.machine_steps.specs.Steps.{state_at, EndsBy, Stepped, Starts}
use Rattle.machine_changes.specs.Effects.{is_refused}

pub record Leads (set : Setting) (p : Prog) (d : Definitions) (used : Bool) (q : Prog) (d' : Definitions) (used' : Bool) : Type 0 where
  pub by : (ev : Evaluator) (steps : ℕ) (o : Option (List Sym)) → run set ev p (state_at d used steps o) ≡ run set ev q (state_at d' used' steps o)

-- a part, and then a step
pub goes_on : {set : Setting} {p q stay : Prog} {d d1 d' : Definitions} {used used1 used' : Bool} (r : Result Move Halt) {rest : Option Tree → Prog}
    → Leads set p d used q d1 used1 → Stepped set q stay d1 used1 r rest d' used' → Stepped set p stay d used r rest d' used'
goes_on (Ok m) e h = record { by = λ steps o. λ ev. e.by ev steps o ∙ h.by steps o ev }
goes_on (Err Halt.NoMemory) e h = record { by = λ steps o. tt }
goes_on {set = set} {p = p} {q = q} {d = d} {d1 = d1} {d' = d'} {used = used} {used1 = used1} {used' = used'} (Err (Halt.Stopped c)) e h = record { by = λ steps o. go steps o (h.by steps o) }
  where
    go : (steps : ℕ) (o : Option (List Sym)) → EndsBy set q (state_at d1 used1 steps o) (Halt.Stopped c) (state_at d' used' steps o) → EndsBy set p (state_at d used steps o) (Halt.Stopped c) (state_at d' used' steps o)
    go steps o (inl a) = inl (λ ev. e.by ev steps o ∙ a ev)
    go steps o (inr b) = inr (b.0, (λ ev. e.by ev steps o ∙ b.1 ev), b.2)

pub gives : {set : Setting} {p stay : Prog} {v : Tree} {d d' : Definitions} {used used' : Bool} {rest : Option Tree → Prog}
    → Leads set p d used (Done v) d' used' → Stepped set p stay d used (Ok (Move.Done v)) rest d' used'
gives e = record { by = λ steps o. λ ev. e.by ev steps o }

pub asks : {set : Setting} {p stay : Prog} {q : Tree} {d d' : Definitions} {used used' : Bool} {rest : Option Tree → Prog}
    → Leads set p d used (Ask q (λ v. rest (Some v))) d' used' → Stepped set p stay d used (Ok (Move.Ask q false)) rest d' used'
asks e = record { by = λ steps o. λ ev. e.by ev steps o }

pub starved : {set : Setting} {p stay : Prog} {d d' : Definitions} {used used' : Bool} {rest : Option Tree → Prog} → Stepped set p stay d used (Err Halt.NoMemory) rest d' used'
starved = record { by = λ steps o. tt }

-- programs that are the same go the same way
pub same_program : {set : Setting} {p q : Prog} {d : Definitions} {used : Bool} → p ≡ q → Leads set p d used q d used
same_program {set = set} {d = d} {used = used} e = record { by = λ ev steps o. ap (λ x. run set ev x (state_at d used steps o)) e }

pub same_definitions : {set : Setting} {p : Prog} {d d' : Definitions} {used used' : Bool} → d ≡ d' → used ≡ used' → Leads set p d used p d' used'
same_definitions {set = set} {p = p} e f = record { by = λ ev steps o. λ i. run set ev p (state_at (e i) (f i) steps o) }

pub onward : {set : Setting} {p q r : Prog} {d d1 d' : Definitions} {used used1 used' : Bool} → Leads set p d used q d1 used1 → Leads set q d1 used1 r d' used' → Leads set p d used r d' used'
onward e f = record { by = λ ev steps o. e.by ev steps o ∙ f.by ev steps o }

-- ---- what fails in an item

pub passes_item : (set : Setting) (b : Bool) (p : Prog) {d : Definitions} {used : Bool} → is_refused set.mode b ≡ false → Leads set (unless_item set.names b p) d used p d (b || used)
passes_item set false p h = record { by = λ ev steps o. refl }
passes_item set true p {d = d} h = record { by = λ ev steps o. go ev steps o set.mode h }
  where
    go : (ev : Evaluator) (steps : ℕ) (o : Option (List Sym)) (m : Mode) → is_refused m true ≡ false
        → run set ev (elim m as (λ _. Prog) [ Item ↦ failed set.names | _ ↦ p ]) (state_at d true steps o) ≡ run set ev p (state_at d true steps o)
    go ev steps o Item h = absurd (true≢false h)
    go ev steps o Cell h = refl
    go ev steps o Service h = refl

pub fails_item : (set : Setting) (b : Bool) (p : Prog) {d : Definitions} {used : Bool} → is_refused set.mode b ≡ true → Leads set (unless_item set.names b p) d used (failed set.names) d (b || used)
fails_item set false p h = absurd (true≢false (sym h))
fails_item set true p {d = d} h = record { by = λ ev steps o. go ev steps o set.mode h }
  where
    go : (ev : Evaluator) (steps : ℕ) (o : Option (List Sym)) (m : Mode) → is_refused m true ≡ true
        → run set ev (elim m as (λ _. Prog) [ Item ↦ failed set.names | _ ↦ p ]) (state_at d true steps o) ≡ run set ev (failed set.names) (state_at d true steps o)
    go ev steps o Item h = refl
    go ev steps o Cell h = absurd (true≢false (sym h))
    go ev steps o Service h = absurd (true≢false (sym h))

-- ---- what is Protected

pub write_fails : (names : Names) (s : Sym) (f : Definition → Definition) (x : Definition) → is_protected x ≡ true → write names s f x ≡ failed names
write_fails names s f x h = ap (λ (b : Bool). elim b as (λ _. Prog) [ true ↦ failed names | false ↦ Put s (f x) (null names) ]) h

pub write_goes : (names : Names) (s : Sym) (f : Definition → Definition) (x : Definition) → is_protected x ≡ false → write names s f x ≡ Put s (f x) (null names)
write_goes names s f x h = ap (λ (b : Bool). elim b as (λ _. Prog) [ true ↦ failed names | false ↦ Put s (f x) (null names) ]) h

-- a definition is written, and Null is the result
pub puts : {set : Setting} {stay : Prog} {d d' : Definitions} {used : Bool} {rest : Option Tree → Prog} (s : Sym) (x : Definition)
    → d' ≡ written set.names d s x → Stepped set (Put s x (null set.names)) stay d used (Ok (Move.Done (name set.names Builtin.Null))) rest d' used
puts {set = set} {used = used} s x e = gives (record { by = λ ev steps o. ap (λ y. Over (Value (name set.names Builtin.Null)) (state_at y used steps o)) (sym e) })

pub writes : {set : Setting} {stay : Prog} {d d' : Definitions} {used : Bool} {rest : Option Tree → Prog} (s : Sym) (f : Definition → Definition) (x : Definition)
    → is_protected x ≡ false → d' ≡ written set.names d s (f x) → Stepped set (write set.names s f x) stay d used (Ok (Move.Done (name set.names Builtin.Null))) rest d' used
writes {set = set} s f x h e = goes_on _ (same_program {set = set} (write_goes set.names s f x h)) (puts {set = set} s (f x) e)

pub writes_not : {set : Setting} {stay : Prog} {d : Definitions} {used : Bool} {rest : Option Tree → Prog} (s : Sym) (f : Definition → Definition) (x : Definition)
    → is_protected x ≡ true → Stepped set (write set.names s f x) stay d used (Ok (Move.Done (name set.names Builtin.Failed))) rest d used
writes_not {set = set} s f x h = gives {set = set} (same_program {set = set} (write_fails set.names s f x h))

-- ---- starts

pub starts_as : {F E : Type 0} {left : F → Prog → Option Tree → Prog} {p q : Prog → Prog} (r : Result (Option F) E) → ((stay : Prog) → p stay ≡ q stay) → Starts left q r → Starts left p r
starts_as (Ok (Some f)) e h = record { by = λ stay. e stay ∙ h.by stay }
starts_as (Ok None) e h = record { by = λ stay. e stay ∙ h.by stay }
starts_as (Err x) e h = record { by = tt }

-- a value that cannot be made, which passes a limit
pub ends_large : {set : Setting} {stay : Prog} {d : Definitions} {used : Bool} {rest : Option Tree → Prog} (v : Tree) (h : Halt) → HaltsFor set.limits v h
    → Stepped set (Done v) stay d used (Err h) rest d used
ends_large v (Halt.Stopped c) h = record { by = λ steps o. inr (v, (λ ev. refl), h.by) }
ends_large v Halt.NoMemory h = record { by = λ steps o. tt }
