-- A move, from the program that it is the head of.
use Rattle.std.proofs.Common.{◌≡◌, subst, sym, Option, None, Result, Ok, Err}
use Rattle.expr_tree.specs.Tree.{Tree}
use Rattle.expr_tree.specs.declared.limits.Limits.{Limits}
use Rattle.expr_tree.specs.declared.limits.Stop.{Stop}
use Rattle.semantics.specs.Program.{Prog, Stops, Check}
use Rattle.evaluation_steps.specs.declared.Halt.{Halt}
use Rattle.evaluation_steps.specs.Moves.{Move, Moved, headed, Shows, same, fitting, HasStopped, stop, large}
use Rattle.semantics.specs.Play.{too_large}
use Rattle.evaluation_steps.specs.Stopping.{HaltsFor}
use Rattle.frames_control.specs.declared.moves.ControlMove.{ControlMove as Answer}
use Rattle.frames_control.specs.ControlMoves.{IfAsks}

pub shown : {move : Move} {limits : Limits} {p : Prog} {rest : Option Tree → Prog} → p ≡ headed move rest → Moved limits p (Ok move) rest
shown {move = move} {limits = limits} {rest = rest} e = record { by = subst (λ q. Shows limits q (headed move rest)) (sym e) same }

-- a question that is within the limits
pub fits_shown : {move : Move} (e : Tree) {limits : Limits} {p q : Prog} {rest : Option Tree → Prog} → p ≡ Check e q → too_large limits e ≡ None → q ≡ headed move rest → Moved limits p (Ok move) rest
fits_shown {move = move} e {limits = limits} {rest = rest} is fits on =
    record { by = subst (λ r. Shows limits r (headed move rest)) (sym is) (fitting fits (subst (λ r. Shows limits r (headed move rest)) (sym on) same)) }

-- a stop
pub stops : {c : Stop} {limits : Limits} {p : Prog} {rest : Option Tree → Prog} → p ≡ Stops c → Moved limits p (Err (Halt.Stopped c)) rest
stops {c = c} {limits = limits} e = record { by = subst (λ q. HasStopped limits q c) (sym e) stop }

-- what is too large halts, and so does want of memory
pub halts : (e : Tree) (q : Prog) (h : Halt) {limits : Limits} {rest : Option Tree → Prog} → HaltsFor limits e h → Moved limits (Check e q) (Err h) rest
halts e q (Halt.Stopped c) f = record { by = large f.by }
halts e q Halt.NoMemory f = record { by = tt }

-- a step that asks
pub asking : {P : Type 0} (r : Result Answer Halt) → P → IfAsks r P
asking (Ok (Answer.Ask e turn)) p = p
asking (Ok (Answer.Local l e turn)) p = p
asking (Ok (Answer.Unless s e)) p = p
asking (Ok (Answer.Done e)) p = tt
asking (Ok (Answer.Build h es)) p = tt
asking (Err h) p = tt

pub ruleset asks = (asking)
