-- An own value that is made anew, from what its parts tell.
use Rattle.std.proofs.Common.{◌≡◌, ◌∙◌, inl, refl, sym, ap, ℕ, Bool, true, false, Option, Some, None, Result, Ok, Err, arith}
use Rattle.std.specs.Prelude.{◌||◌, is_some}
use Rattle.expr_tree.specs.declared.sym.Sym.{Sym}
use Rattle.expr_tree.specs.Tree.{Tree}
use Rattle.semantics.specs.Names.{Names}
use Rattle.semantics.specs.Changes.{change, change_own, is_protected, noting, renew, unless_item}
use Rattle.semantics.specs.Control.{failed}
use Rattle.semantics.specs.Definitions.{Definition, Definitions, definition_of}
use Rattle.semantics.specs.Program.{Prog, Done, Ask, Look, Put, Check}
use Rattle.semantics.specs.Play.{Setting, run, seen, too_large, unless_stopped}
use Rattle.evaluation_steps.specs.declared.Halt.{Halt}
use Rattle.evaluation_steps.specs.Stopping.{HaltsFor}
use Rattle.machine_steps.specs.declared.moves.Move.{Move}
use Rattle.machine_steps.specs.Steps.{Falls, Stepped, state_at}
use Rattle.machine_changes.specs.declared.renewal.Renewal.{Renewal}
use Rattle.machine_changes.specs.Renewing.{assigned, given_by, left_renewal, next_of, put, renewed}
use Rattle.machine_changes.specs.Effects.{is_refused}
use Rattle.machine_changes.proofs.Going.{Leads, passes_item, fails_item}

pub change_refused : (set : Setting) (s : Sym) (next : Tree → Tree) (given : Tree → Tree → Tree) (b : Bool) {d : Definitions} {used used' : Bool} → b ≡ is_some (seen set.names d s).shared
    → is_refused set.mode b ≡ true → used' ≡ (b || used) → Leads set (change set.names s next given) d used (failed set.names) d used'
change_refused set s next given b {d = d} {used = used} e r u =
    record {
      by = λ ev steps o.
          ap (λ x. run set ev (unless_item set.names x (change_own set.names s next given (definition_of set.names d s))) (state_at d used steps o)) (sym e)
          ∙ (fails_item set b (change_own set.names s next given (definition_of set.names d s)) {d = d} {used = used} r).by ev steps o
          ∙ ap (λ v. run set ev (failed set.names) (state_at d v steps o)) (sym u);
    }

pub change_passes : (set : Setting) (s : Sym) (next : Tree → Tree) (given : Tree → Tree → Tree) (b : Bool) {d : Definitions} {used used' : Bool} → b ≡ is_some (seen set.names d s).shared
    → is_refused set.mode b ≡ false → used' ≡ (b || used) → Leads set (change set.names s next given) d used (change_own set.names s next given (definition_of set.names d s)) d used'
change_passes set s next given b {d = d} {used = used} e r u =
    record {
      by = λ ev steps o.
          ap (λ x. run set ev (unless_item set.names x (change_own set.names s next given (definition_of set.names d s))) (state_at d used steps o)) (sym e)
          ∙ (passes_item set b (change_own set.names s next given (definition_of set.names d s)) {d = d} {used = used} r).by ev steps o
          ∙ ap (λ v. run set ev (change_own set.names s next given (definition_of set.names d s)) (state_at d v steps o)) (sym u);
    }

-- the question, and what follows it
abbrev asked : Names → Sym → (Tree → Tree) → (Tree → Tree → Tree) → Tree → Prog
asked names s next given old = Check (next old) (Ask (next old) (λ v. Look s (λ seen. noting (is_some seen.shared) (renew names s v (given old v) seen.definition))))

abbrev by_own : Names → Sym → (Tree → Tree) → (Tree → Tree → Tree) → Option Tree → Prog
by_own names s next given own = elim own [ None ↦ failed names | Some old ↦ asked names s next given old ]

pub own_is : (names : Names) (s : Sym) (next : Tree → Tree) (given : Tree → Tree → Tree) (x : Definition) (own : Option Tree) → own ≡ x.own
    → change_own names s next given x ≡ by_own names s next given own
own_is names s next given x own e = ap (by_own names s next given) (sym e)

pub check_fits : {set : Setting} {e : Tree} (p : Prog) {d : Definitions} {used : Bool} → too_large set.limits e ≡ None → Leads set (Check e p) d used p d used
check_fits {set = set} p {d = d} {used = used} h = record { by = λ ev steps o. ap (λ x. unless_stopped x (state_at d used steps o) (λ t. run set ev p t)) h }

pub check_halts : {set : Setting} (e : Tree) (p : Prog) (h : Halt) {stay : Prog} {d : Definitions} {used : Bool} {rest : Option Tree → Prog} → HaltsFor set.limits e h
    → Stepped set (Check e p) stay d used (Err h) rest d used
check_halts {set = set} e p (Halt.Stopped c) {d = d} {used = used} h = record { by = λ steps o. inl (λ ev. ap (λ x. unless_stopped x (state_at d used steps o) (λ t. run set ev p t)) h.by) }
check_halts e p Halt.NoMemory h = record { by = λ steps o. tt }

-- ---- after the question

pub before_some : (names : Names) (f : Renewal) (answer : Option Tree) (old : Tree) → f.before ≡ Some old → left_renewal names f answer ≡ renewed names f old answer
before_some names f answer old h =
    ap (λ (o : Option Tree). elim o as (λ _. Prog) [ None ↦ change names f.symbol (next_of names f.row f.operand) (given_by f) | Some x ↦ renewed names f x answer ]) h

noted : (set : Setting) (b : Bool) (p : Prog) {d : Definitions} {used : Bool} → Leads set (noting b p) d used p d (b || used)
noted set false p = record { by = λ ev steps o. refl }
noted set true p = record { by = λ ev steps o. refl }

-- the symbol is looked at again
pub renew_noted : (set : Setting) (f : Renewal) (old v : Tree) (b : Bool) {d : Definitions} {used used' : Bool} → b ≡ is_some (seen set.names d f.symbol).shared
    → used' ≡ (b || used) → Leads set (renewed set.names f old (Some v)) d used (assigned set.names f old v d) d used'
renew_noted set f old v b {d = d} {used = used} e u =
    record {
      by = λ ev steps o.
          ap (λ x. run set ev (noting x (assigned set.names f old v d)) (state_at d used steps o)) (sym e)
          ∙ (noted set b (assigned set.names f old v d) {d = d} {used = used}).by ev steps o
          ∙ ap (λ w. run set ev (assigned set.names f old v d) (state_at d w steps o)) (sym u);
    }

abbrev judged : Names → Sym → Tree → Tree → Definition → Bool → Prog
judged names s new given x b = elim b [ true ↦ failed names | false ↦ Put s (record x { own = Some new }) (Done given) ]

pub renew_refused : (set : Setting) (f : Renewal) (old v : Tree) {d : Definitions} {used : Bool} → is_protected (definition_of set.names d f.symbol) ≡ true
    → Leads set (assigned set.names f old v d) d used (failed set.names) d used
renew_refused set f old v {d = d} {used = used} h =
    record { by = λ ev steps o. ap (λ b. run set ev (judged set.names f.symbol v (given_by f old v) (definition_of set.names d f.symbol) b) (state_at d used steps o)) h }

pub renew_passes : (set : Setting) (f : Renewal) (old v : Tree) {d : Definitions} {used : Bool} → is_protected (definition_of set.names d f.symbol) ≡ false
    → Leads set (assigned set.names f old v d) d used (put set.names f old v d) d used
renew_passes set f old v {d = d} {used = used} h =
    record { by = λ ev steps o. ap (λ b. run set ev (judged set.names f.symbol v (given_by f old v) (definition_of set.names d f.symbol) b) (state_at d used steps o)) h }

-- what asks nothing more, however many questions there were
pub falls_ended : (r : Result Move Halt) (before : ℕ) (after : Option Tree → ℕ) → Falls r 0 (λ v. 0) → Falls r before after
falls_ended (Ok (Move.Ask e turn)) before after h = λ v. absurd (omega (arith, h v))
falls_ended (Ok (Move.Within ls e turn)) before after h = λ v. absurd (omega (arith, h v))
falls_ended (Ok (Move.Catch e)) before after h = λ v. absurd (omega (arith, h v))
falls_ended (Ok (Move.Section locks e)) before after h = λ v. absurd (omega (arith, h v))
falls_ended (Ok (Move.Call request)) before after h = λ v. absurd (omega (arith, h v))
falls_ended (Ok Move.Turn) before after h = λ v. absurd (omega (arith, h v))
falls_ended (Ok (Move.Done e)) before after h = tt
falls_ended (Ok Move.Stays) before after h = tt
falls_ended (Ok (Move.Throw e)) before after h = tt
falls_ended (Ok Move.Quit) before after h = tt
falls_ended (Err h) before after e = tt
