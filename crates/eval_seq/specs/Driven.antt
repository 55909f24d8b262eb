-- Machines that are performed.
--     driven                the program of a step, as it begins
--     Begins                the beginning of a step: what is left of it, or its end
--     Opens                 the same of a step that neither asks nor reads anything before it begins
--     OpensFrom             the same of one that asks whether a section is open, or looks at mode and kernel
--     started_as            a machine as a beginning
--     Comes                 each call of a step may come where it stands, with something behind it
--     may_enter, MayFollow  a section may be entered; what a machine asks for may come
--     Follows               what came of a move: what is left of the machine's program, or its end
--     Fewer                 where the machine goes on, fewer of its questions are left
use Rattle.std.specs.Prelude.{◌≡◌, ◌⊎◌, ◌<◌, ℕ, Bool, true, false, is_some, List, Option, Some, None, Result, Ok, Err}
use Rattle.expr_tree.specs.declared.sym.Sym.{Sym}
use Rattle.expr_tree.specs.Tree.{Tree}
use Rattle.semantics.specs.Names.{Names}
use Rattle.semantics.specs.Program.{Prog, Done, Stops, Sends, Enter}
use Rattle.semantics.specs.Play.{Setting, State, Evaluator, run, eval_at, too_large}
use Rattle.laws_calls.specs.Calls.{may_come, Fits}
use Rattle.evaluation_steps.specs.declared.Exit.{Exit}
use Rattle.evaluation_steps.specs.Leads.{Step}
use Rattle.evaluation_steps.specs.Words.{Reached}
use Rattle.machine_steps.specs.Steps.{headed, Falls}
use Rattle.machine_steps.specs.Outward.{request_of}
use Rattle.machine_steps.specs.declared.moves.Move.{Move}
use Rattle.machine_rows.specs.Machines.{left}
use Rattle.machine_rows.specs.declared.machine.Machine.{Machine}
use Rattle.eval_seq.specs.declared.machine.Start.{Start}
use Rattle.eval_seq.specs.declared.machine.Followed.{Followed}
use Rattle.eval_seq.specs.Walks.{PassOf, Stepped}

abbrev pub driven : Names → Start → Prog → Prog
driven names (Start.Given None) rest = rest
driven names (Start.Given (Some v)) rest = Done v
driven names (Start.Machine frame) rest = left names frame rest None

abbrev pub BeginsBy : {S : Type 0} → Step S → Setting → ℕ → (Prog → Prog) → S → State → Result Start Exit → State → S → Type 0
BeginsBy step set n p s st (Ok start) st' z = (rest : Prog) → Reached step set n (p rest) s st (driven set.names start rest) st' z
BeginsBy step set n p s st (Err x) st' z = Stepped step set n p s st (Err x) st' z

pub record Begins {S : Type 0} (step : Step S) (set : Setting) (n : ℕ) (p : Prog → Prog) (s : S) (st : State) (r : Result Start Exit) (st' : State) (z : S) : Type 0 where
  pub by : BeginsBy step set n p s st r st' z

-- where its value cannot be made, the step ends with the limit that the value passes
abbrev pub OpensBy : Setting → (Prog → Prog) → Result Start Exit → Type 0
OpensBy set p (Ok start) = (rest : Prog) → p rest ≡ driven set.names start rest
OpensBy set p (Err (Exit.Stopped c)) = ((rest : Prog) → p rest ≡ Stops c) ⊎ ((v : Tree) × ((rest : Prog) → p rest ≡ Done v) × (too_large set.limits v ≡ Some c))
OpensBy set p (Err (Exit.Throwing v)) = ⊥
OpensBy set p (Err (Exit.Thrown v)) = ⊥
OpensBy set p (Err Exit.Quit) = ⊥
OpensBy set p (Err Exit.Closed) = ⊥
OpensBy set p (Err Exit.NoMemory) = Unit {0}

pub record Opens (set : Setting) (p : Prog → Prog) (r : Result Start Exit) : Type 0 where
  pub by : OpensBy set p r

abbrev pub OpensFromBy : Setting → (Prog → Prog) → State → Result Start Exit → State → Type 0
OpensFromBy set p st (Ok start) st' = (ev : Evaluator) (rest : Prog) → run set ev (p rest) st ≡ run set ev (driven set.names start rest) st'
OpensFromBy set p st (Err (Exit.Stopped c)) st' = ⊥
OpensFromBy set p st (Err (Exit.Throwing v)) st' = ⊥
OpensFromBy set p st (Err (Exit.Thrown v)) st' = ⊥
OpensFromBy set p st (Err Exit.Quit) st' = ⊥
OpensFromBy set p st (Err Exit.Closed) st' = ⊥
OpensFromBy set p st (Err Exit.NoMemory) st' = Unit {0}

pub record OpensFrom (set : Setting) (p : Prog → Prog) (st : State) (r : Result Start Exit) (st' : State) : Type 0 where
  pub by : OpensFromBy set p st r st'

abbrev pub started_as : {E : Type 0} → Result (Option Machine) E → Result Start Exit
started_as (Ok (Some machine)) = Ok (Start.Machine machine)
started_as (Ok None) = Ok (Start.Given None)
started_as (Err e) = Err Exit.NoMemory

-- nothing is said of how that ends
pub record Comes (set : Setting) (n : ℕ) (p : Prog → Prog) (st : State) : Type 0 where
  pub rest : Prog
  pub fit : Fits set.names set.mode false (is_some st.open_section) (run set (eval_at set n) (p rest) st)

abbrev pub may_enter : Setting → List Sym → Bool
may_enter set locks = may_come set.names set.mode false (Enter locks)

-- an inner section is not entered
abbrev pub MayFollow : Setting → Option (List Sym) → Move → Type 0
MayFollow set now (Move.Ask e turn) = Unit {0}
MayFollow set now (Move.Within ls e turn) = Unit {0}
MayFollow set now (Move.Catch e) = Unit {0}
MayFollow set now (Move.Section locks e) = now ≡ None → may_enter set locks ≡ true
MayFollow set now (Move.Call request) = may_come set.names set.mode (is_some now) (Sends (request_of request)) ≡ true
MayFollow set now Move.Turn = Unit {0}
MayFollow set now (Move.Done e) = Unit {0}
MayFollow set now Move.Stays = Unit {0}
MayFollow set now (Move.Throw e) = Unit {0}
MayFollow set now Move.Quit = Unit {0}

abbrev pub Fewer : Result Followed Exit → ℕ → (Option Tree → ℕ) → Type 0
Fewer (Ok (Followed.Goes answer)) before after = after answer < before
Fewer (Ok (Followed.Ends o)) before after = Unit {0}
Fewer (Err x) before after = Unit {0}

abbrev pub FollowsBy : {S : Type 0} → Step S → Setting → ℕ → Prog → (Option Tree → Prog) → Prog → S → State → Result Followed Exit → State → S → Type 0
FollowsBy step set n stay rest p s st (Ok (Followed.Goes answer)) st' z = Reached step set n p s st (rest answer) st' z
FollowsBy step set n stay rest p s st (Ok (Followed.Ends None)) st' z = Reached step set n p s st stay st' z
FollowsBy step set n stay rest p s st (Ok (Followed.Ends (Some v))) st' z = PassOf step set n p s st (Ok v) st' z
FollowsBy step set n stay rest p s st (Err x) st' z = PassOf step set n p s st (Err x) st' z

pub record Follows {S : Type 0} (step : Step S) (set : Setting) (n : ℕ) (m : Move) (s : S) (st : State) (r : Result Followed Exit) (st' : State) (z : S) : Type 0 where
  pub by : (stay : Prog) (rest : Option Tree → Prog) → FollowsBy step set n stay rest (headed m stay rest) s st r st' z
  pub fewer : (before : ℕ) (after : Option Tree → ℕ) → Falls (Ok m) before after → Fewer r before after
