-- Programs that are shown, and turns that are counted.
use Rattle.std.proofs.Common.{◌≡◌, sym, subst, ℕ, Bool, true, false, List, [], ◌∷◌, Option, Some, None, Ok, Err}
use Rattle.expr_tree.specs.declared.sym.Sym.{Sym}
use Rattle.expr_tree.specs.Tree.{Tree}
use Rattle.semantics.specs.Definitions.{Share}
use Rattle.semantics.specs.Program.{Prog, Done, Moded, Local}
use Rattle.semantics.specs.Scoping.{make_all}
use Rattle.expr_tree.specs.declared.limits.Stop.{Stop}
use Rattle.semantics.specs.Play.{Setting, State, Over, Value, run, eval_at, seen, now_used, with_definitions, with_locals, without_locals}
use Rattle.evaluation_steps.specs.declared.Exit.{Exit}
use Rattle.evaluation_steps.specs.declared.Halt.{Halt}
use Rattle.evaluation_steps.specs.Leads.{Step, here, exit_of}
use Rattle.evaluation_steps.specs.Words.{Evaluated, Played, Reached, Ran, Led, Counted}
use Rattle.evaluation_steps.specs.Passed.{made}
use Rattle.evaluation_steps.specs.Moves.{Asks, Locals, Unless, Makes, Results, Moved, Shows, same, fitting, HasStopped, stop, large, passing, turning, Guards, Yields, Fails, Tried}
use Rattle.evaluation_steps.proofs.Laws.{reached_here, reached_on, reached_played, reached_turn, reached_ask, reached_within, played_turn_out, played_ask_out, played_within_out, played_stop, played_done, played_memory, ran_memory, went_out}

module _ {S : Type 0} {step : Step S} {set : Setting} {n : ℕ} where
  pub reached_shows : {p q : Prog} {s : S} {st : State} → Shows set.limits p q → Reached step set n p s st q st s
  reached_shows same = reached_here
  reached_shows (fitting f l) = reached_on (record { on = rw f here }) (reached_shows l)

  pub played_stops : {p : Prog} {c : Stop} {s : S} {st : State} → HasStopped set.limits p c → Played step set n p s st (Err (Exit.Stopped c)) st s
  played_stops stop = played_stop
  played_stops (large f) = record { went = rw f (record { by = here }) }
  played_stops (passing f l) = reached_played (record { on = rw f here }) (played_stops l)

  -- a turn is counted, or not
  pub reached_counted : {b : Bool} {p : Prog} {u : Unit {0}} {m : ℕ} {s : S} {st : State} → Counted b set.limits.steps st.steps (Ok u) m →
      Reached step set n (turning b p) s st p (record st { steps = m }) s
  reached_counted {b = true} c = reached_turn c
  reached_counted {b = false} c = rw c.by reached_here

  pub played_counted_out : {b : Bool} (p : Prog) {h : Halt} {m : ℕ} {s : S} {st : State} → Counted b set.limits.steps st.steps (Err h) m →
      Played step set n (turning b p) s st (Err (exit_of h)) (record st { steps = m }) s
  played_counted_out {b = true} p c = played_turn_out c
  played_counted_out {b = false} p c = absurd c.by
