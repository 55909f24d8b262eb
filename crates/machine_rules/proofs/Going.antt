-- How the parts of a step are put together.
use Rattle.std.proofs.Common.{Option, Result, Ok, Err, inl, inr}
use Rattle.expr_tree.specs.Tree.{Tree}
use Rattle.expr_tree.specs.declared.limits.Limits.{Limits}
use Rattle.expr_tree.specs.declared.limits.Stop.{Stop}
use Rattle.semantics.specs.Names.{Names}
use Rattle.semantics.specs.Definitions.{Definitions}
use Rattle.semantics.specs.Program.{Prog}
use Rattle.evaluation_steps.specs.declared.Halt.{Halt}
use Rattle.machine_steps.specs.declared.moves.Move.{Move}
use Rattle.rule_frames.specs.Reading.{Shows, Tried}
use Rattle.rule_frames.proofs.Shown.{shows_on, shows_stop}
use Rattle.machine_rules.specs.Stepping.{Ends, EndsBy, Heads, Goes}

module _ {names : Names} {d : Definitions} {limits : Limits} where
  stops_on : {p q : Prog} {c : Stop} → Shows names d limits p q → EndsBy names d limits q (Halt.Stopped c) → EndsBy names d limits p (Halt.Stopped c)
  stops_on s (inl x) = inl (shows_stop s x)
  stops_on s (inr y) = inr (y.0, shows_on s y.1, y.2)

  ends_on : {p q : Prog} {h : Halt} → Shows names d limits p q → Ends names d limits q h → Ends names d limits p h
  ends_on {h = Halt.Stopped c} s e = record { by = stops_on s e.by }
  ends_on {h = Halt.NoMemory} s e = record { by = tt }

  heads_on : {p q : Prog} (m : Move) (rest : Option Tree → Prog) → Shows names d limits p q → Heads names d limits q m rest → Heads names d limits p m rest
  heads_on (Move.Ask e turn) rest s h = shows_on s h
  heads_on (Move.Within ls e turn) rest s h = absurd h
  heads_on (Move.Catch e) rest s h = absurd h
  heads_on (Move.Section locks e) rest s h = absurd h
  heads_on (Move.Call request) rest s h = absurd h
  heads_on Move.Turn rest s h = λ answer. shows_on s (h answer)
  heads_on (Move.Done e) rest s h = shows_on s h
  heads_on Move.Stays rest s h = absurd h
  heads_on (Move.Throw e) rest s h = absurd h
  heads_on Move.Quit rest s h = absurd h

  pub goes_after : {p q : Prog} {r : Result Move Halt} {rest : Option Tree → Prog} → Shows names d limits p q → Goes names d limits q r rest → Goes names d limits p r rest
  goes_after {r = Ok m} {rest = rest} s g = record { by = heads_on m rest s g.by }
  goes_after {r = Err h} s g = record { by = ends_on s g.by }

  -- a trial that ends the evaluation
  pub tried_ends : {p : (Option Tree → Prog) → Prog} {h : Halt} {rest : Option Tree → (Option Tree → Prog) → Prog} (k : Option Tree → Prog) → Tried names d limits p (Err h) rest → Ends names d limits (p k) h
  tried_ends {h = Halt.Stopped c} k t = record { by = inl (t.by k) }
  tried_ends {h = Halt.NoMemory} k t = record { by = tt }
