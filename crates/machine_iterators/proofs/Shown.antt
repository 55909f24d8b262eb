-- Steps, from the program that they are the head of.
use Rattle.std.proofs.Common.{◌≡◌, ◌≤◌, ◌<◌, inr, ap, refl, subst, sym, ℕ, Bool, Option, Result, Ok, Err, arith}
use Rattle.expr_tree.specs.Tree.{Tree}
use Rattle.semantics.specs.Definitions.{Definitions}
use Rattle.semantics.specs.Program.{Prog, Done}
use Rattle.semantics.specs.Play.{Setting, run}
use Rattle.evaluation_steps.specs.declared.Halt.{Halt}
use Rattle.evaluation_steps.specs.Stopping.{HaltsFor}
use Rattle.machine_steps.specs.declared.moves.Move.{Move}
use Rattle.machine_steps.specs.Steps.{Stepped, Falls, headed, state_at}

pub shown : {set : Setting} {p stay : Prog} {d : Definitions} {used : Bool} {m : Move} {rest : Option Tree → Prog} → p ≡ headed m stay rest → Stepped set p stay d used (Ok m) rest d used
shown {set = set} {d = d} {used = used} e = record { by = λ steps locks ev. ap (λ (q : Prog). run set ev q (state_at d used steps locks)) e }

pub stepped_as : {set : Setting} {p q stay : Prog} {d d' : Definitions} {used used' : Bool} {r : Result Move Halt} {rest : Option Tree → Prog} → p ≡ q →
    Stepped set q stay d used r rest d' used' → Stepped set p stay d used r rest d' used'
stepped_as {set = set} {stay = stay} {d = d} {d' = d'} {used = used} {used' = used'} {r = r} {rest = rest} e s = subst (λ (x : Prog). Stepped set x stay d used r rest d' used') (sym e) s

-- a result that is not made
pub not_made : (t : Tree) (h : Halt) {set : Setting} {stay : Prog} {d : Definitions} {used : Bool} {rest : Option Tree → Prog} → HaltsFor set.limits t h →
    Stepped set (Done t) stay d used (Err h) rest d used
not_made t (Halt.Stopped c) f = record { by = λ steps locks. inr (t, (λ ev. refl), f.by) }
not_made t Halt.NoMemory f = record { by = λ steps locks. tt }

falls_more : (m n : ℕ) → m ≤ n → (after : Option Tree → ℕ) (v : Option Tree) → after v < m → after v < n
falls_more m n le after v h = omega (arith, h)

pub falls_from : (r : Result Move Halt) (m n : ℕ) (after : Option Tree → ℕ) → m ≤ n → Falls r m after → Falls r n after
falls_from (Ok (Move.Ask e turn)) m n after le f = λ v. falls_more m n le after v (f v)
falls_from (Ok (Move.Within ls e turn)) m n after le f = λ v. falls_more m n le after v (f v)
falls_from (Ok (Move.Catch e)) m n after le f = λ v. falls_more m n le after v (f v)
falls_from (Ok (Move.Section locks e)) m n after le f = λ v. falls_more m n le after v (f v)
falls_from (Ok (Move.Call request)) m n after le f = λ v. falls_more m n le after v (f v)
falls_from (Ok Move.Turn) m n after le f = λ v. falls_more m n le after v (f v)
falls_from (Ok (Move.Done e)) m n after le f = tt
falls_from (Ok Move.Stays) m n after le f = tt
falls_from (Ok (Move.Throw e)) m n after le f = tt
falls_from (Ok Move.Quit) m n after le f = tt
falls_from (Err h) m n after le f = tt
