-- The programs that are left of trials and attempts.
use Rattle.std.proofs.Common.{◌≡◌, true, false, Option, Result, Ok, Err, ap}
use Rattle.expr_tree.specs.Tree.{Tree}
use Rattle.expr_tree.specs.declared.limits.Limits.{Limits}
use Rattle.semantics.specs.Names.{Names}
use Rattle.semantics.specs.Definitions.{Definitions}
use Rattle.semantics.specs.Program.{Prog}
use Rattle.evaluation_steps.specs.declared.Halt.{Halt}
use Rattle.evaluation_steps.specs.Moves as m
use Rattle.rule_frames.specs.declared.trial.Trial.{Trial}
use Rattle.rule_frames.specs.declared.tries.Try.{Try}
use Rattle.rule_frames.specs.Reading.{Shows, Goes, Tried}
use Rattle.rule_frames.specs.Rules.{holds}
use Rattle.rule_frames.specs.Trials.{left_trial, asked_trial, binding_left, bindings_left, trying, is_settled}
use Rattle.rule_frames.proofs.Shown.{Part, shows_on, shows_stop}

pub held : (names : Names) (t : Trial) (answer : Option Tree) (k : Option Tree → Prog) → holds names answer ≡ true → left_trial names t answer k ≡ asked_trial names false t k
held names t answer k e = ap (λ b. elim b as (λ _. Prog) [ true ↦ binding_left names t k | false ↦ bindings_left names t k ]) e

pub not_held : (names : Names) (t : Trial) (answer : Option Tree) (k : Option Tree → Prog) → holds names answer ≡ false → left_trial names t answer k ≡ bindings_left names t k
not_held names t answer k e = ap (λ b. elim b as (λ _. Prog) [ true ↦ binding_left names t k | false ↦ bindings_left names t k ]) e

-- a part that does not fail
pub tried_unless : {names : Names} {d : Definitions} {limits : Limits} {p q : Part} (r : Result Try Halt) {rest : Option Tree → Part} {next : Part}
    → ((k : Option Tree → Prog) → Shows names d limits (p k) (q k)) → Goes names d limits q (trying names r) rest next → is_settled r ≡ true → Tried names d limits p (trying names r) rest
tried_unless (Ok (Try.Guard e turn)) s g f = record { by = λ k. shows_on (s k) (g.by k) }
tried_unless (Ok (Try.Found b e)) s g f = record { by = λ k. shows_on (s k) (g.by k) }
tried_unless (Ok Try.Fails) s g f = absurd (cc)
tried_unless (Err (Halt.Stopped c)) s g f = record { by = λ k. shows_stop (s k) (g.by k) }
tried_unless (Err Halt.NoMemory) s g f = record { by = tt }

-- what is next after a part that failed
pub shows_next : {names : Names} {d : Definitions} {limits : Limits} {q : Part} (r : Result Try Halt) {rest : Option Tree → Part} {next : Part}
    → Goes names d limits q (trying names r) rest next → is_settled r ≡ false → (k : Option Tree → Prog) → Shows names d limits (q k) (next k)
shows_next (Ok (Try.Guard e turn)) g f k = absurd (cc)
shows_next (Ok (Try.Found b e)) g f k = absurd (cc)
shows_next (Ok Try.Fails) g f k = g.by k
shows_next (Err h) g f k = absurd (cc)

-- a part that failed, and what is tried then
pub tried_next : {names : Names} {d : Definitions} {limits : Limits} {q : Part} (r : Result Try Halt) {rest : Option Tree → Part} {next : Part} {s : Result m.Try Halt} {last : Option Tree → Part}
    → Goes names d limits q (trying names r) rest next → is_settled r ≡ false → Tried names d limits next s last → Tried names d limits q s last
tried_next r {s = Ok t} g f tried = record { by = λ k. shows_on (shows_next r g f k) (tried.by k) }
tried_next r {s = Err (Halt.Stopped c)} g f tried = record { by = λ k. shows_stop (shows_next r g f k) (tried.by k) }
tried_next r {s = Err Halt.NoMemory} g f tried = record { by = tt }
