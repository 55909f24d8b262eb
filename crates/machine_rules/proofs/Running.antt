-- What is shown of a program is how it runs.
use Rattle.std.proofs.Common.{◌≡◌, ◌∙◌, ℕ, Bool, List, Option, None, Result, Ok, Err, ap, refl, inl, inr}
use Rattle.expr_tree.specs.Tree.{Tree}
use Rattle.expr_tree.specs.declared.sym.Sym.{Sym}
use Rattle.expr_tree.specs.declared.limits.Stop.{Stop}
use Rattle.semantics.specs.Definitions.{Definitions}
use Rattle.semantics.specs.Program.{Prog}
use Rattle.semantics.specs.Play.{Setting, State, Evaluator, Over, Stopped, run, unless_stopped}
use Rattle.evaluation_steps.specs.declared.Halt.{Halt}
use Rattle.machine_steps.specs.declared.moves.Move.{Move}
use Rattle.machine_steps.specs.Steps.{Stepped, EndsBy as StepEnds, state_at}
use Rattle.rule_frames.specs.Reading.{Shows, same, fitting, looked, HasStopped, stop, large, passing, looking}
use Rattle.machine_rules.specs.Stepping.{Ends, EndsBy, Goes}

run_shows : (set : Setting) (st : State) {p q : Prog} (ev : Evaluator) → Shows set.names st.definitions set.limits p q → run set ev p st ≡ run set ev q st
run_shows set st ev same = refl
run_shows set st ev (fitting {p = p} f s) = ap (λ o. unless_stopped o st (λ t. run set ev p t)) f ∙ run_shows set st ev s
run_shows set st ev (looked s) = run_shows set st ev s

run_stops : (set : Setting) (st : State) {p : Prog} {c : Stop} (ev : Evaluator) → HasStopped set.names st.definitions set.limits p c → run set ev p st ≡ Over (Stopped c) st
run_stops set st ev stop = refl
run_stops set st ev (large {p = p} f) = ap (λ o. unless_stopped o st (λ t. run set ev p t)) f
run_stops set st ev (passing {p = p} f s) = ap (λ o. unless_stopped o st (λ t. run set ev p t)) f ∙ run_stops set st ev s
run_stops set st ev (looking s) = run_stops set st ev s

ends_by : (set : Setting) (d : Definitions) (used : Bool) (steps : ℕ) (open_section : Option (List Sym)) {p : Prog} (h : Halt)
    → Ends set.names d set.limits p h → StepEnds set p (state_at d used steps open_section) h (state_at d used steps open_section)
ends_by set d used steps o {p = p} (Halt.Stopped c) e = stopped e.by
  where
    stopped : EndsBy set.names d set.limits p (Halt.Stopped c) → StepEnds set p (state_at d used steps o) (Halt.Stopped c) (state_at d used steps o)
    stopped (inl x) = inl (λ ev. run_stops set (state_at d used steps o) ev x)
    stopped (inr y) = inr (y.0, (λ ev. run_shows set (state_at d used steps o) ev y.1), y.2)
ends_by set d used steps o Halt.NoMemory e = tt

pub goes_stepped : (set : Setting) (d : Definitions) (used : Bool) (p stay : Prog) (r : Result Move Halt) (rest : Option Tree → Prog) → Goes set.names d set.limits p r rest → Stepped set p stay d used r rest d used
goes_stepped set d used p stay (Ok (Move.Ask e turn)) rest g = record { by = λ steps o ev. run_shows set (state_at d used steps o) ev g.by }
goes_stepped set d used p stay (Ok (Move.Within ls e turn)) rest g = absurd g.by
goes_stepped set d used p stay (Ok (Move.Catch e)) rest g = absurd g.by
goes_stepped set d used p stay (Ok (Move.Section locks e)) rest g = absurd g.by
goes_stepped set d used p stay (Ok (Move.Call request)) rest g = absurd g.by
goes_stepped set d used p stay (Ok Move.Turn) rest g = record { by = λ steps o ev. run_shows set (state_at d used steps o) ev (g.by None) }
goes_stepped set d used p stay (Ok (Move.Done e)) rest g = record { by = λ steps o ev. run_shows set (state_at d used steps o) ev g.by }
goes_stepped set d used p stay (Ok Move.Stays) rest g = absurd g.by
goes_stepped set d used p stay (Ok (Move.Throw e)) rest g = absurd g.by
goes_stepped set d used p stay (Ok Move.Quit) rest g = absurd g.by
goes_stepped set d used p stay (Err h) rest g = record { by = λ steps o. ends_by set d used steps o h g.by }
