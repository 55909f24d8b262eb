-- Steps, from the program that they are the head of.
use Rattle.std.proofs.Common.{◌≡◌, ◌∙◌, ◌≤◌, ◌<◌, inr, ap, refl, subst, sym, ℕ, Bool, true, false, Option, Some, None, Result, Ok, Err, arith}
use Rattle.expr_tree.specs.Tree.{Tree}
use Rattle.semantics.specs.Definitions.{Definitions}
use Rattle.semantics.specs.Program.{Prog, Done}
use Rattle.semantics.specs.Play.{Setting, run}
use Rattle.evaluation_steps.specs.declared.Halt.{Halt}
use Rattle.evaluation_steps.specs.Stopping.{HaltsFor}
use Rattle.machine_steps.specs.declared.moves.Move.{Move}
use Rattle.machine_steps.specs.Steps.{Stepped, Falls, headed, state_at}
use Rattle.semantics.specs.Names.{Names, is_name}
use Rattle.semantics.specs.declared.builtin.Builtin.{Builtin}
use Rattle.semantics.specs.Sections.{first_success}
use Rattle.machine_outward.specs.declared.once.Reply.{Reply}
use Rattle.machine_outward.specs.declared.success.Success.{Success}
use Rattle.machine_outward.specs.OutwardLeft.{given, left_by, left_success, moves_left}

pub shown : {set : Setting} {p stay : Prog} {d : Definitions} {used : Bool} {m : Move} {rest : Option Tree → Prog} → p ≡ headed m stay rest → Stepped set p stay d used (Ok m) rest d used
shown {set = set} {d = d} {used = used} e = record { by = λ steps locks ev. ap (λ (q : Prog). run set ev q (state_at d used steps locks)) e }

pub one_less : (m : Move) → Falls (Ok m) 1 (λ _. 0)
one_less (Move.Ask e turn) = λ v. omega arith
one_less (Move.Within ls e turn) = λ v. omega arith
one_less (Move.Catch e) = λ v. omega arith
one_less (Move.Section locks e) = λ v. omega arith
one_less (Move.Call request) = λ v. omega arith
one_less Move.Turn = λ v. omega arith
one_less (Move.Done e) = tt
one_less Move.Stays = tt
one_less (Move.Throw e) = tt
one_less Move.Quit = tt

pub stepped_as : {set : Setting} {p q stay : Prog} {d d' : Definitions} {used used' : Bool} {r : Result Move Halt} {rest : Option Tree → Prog} → p ≡ q →
    Stepped set q stay d used r rest d' used' → Stepped set p stay d used r rest d' used'
stepped_as {set = set} {stay = stay} {d = d} {d' = d'} {used = used} {used' = used'} {r = r} {rest = rest} e s = subst (λ (x : Prog). Stepped set x stay d used r rest d' used') (sym e) s

-- a result that is not made
pub not_made : (t : Tree) (h : Halt) {set : Setting} {stay : Prog} {d : Definitions} {used : Bool} {rest : Option Tree → Prog} → HaltsFor set.limits t h →
    Stepped set (Done t) stay d used (Err h) rest d used
not_made t (Halt.Stopped c) f = record { by = λ steps locks. inr (t, (λ ev. refl), f.by) }
not_made t Halt.NoMemory f = record { by = λ steps locks. tt }

falls_more : (m n : ℕ) → m ≤ n → (after : Option Tree → ℕ) (v : Option Tree) → after v < m → after v < n
falls_more m n le after v h = omega (arith, h)

pub falls_from : (r : Result Move Halt) (m n : ℕ) (after : Option Tree → ℕ) → m ≤ n → Falls r m after → Falls r n after
falls_from (Ok (Move.Ask e turn)) m n after le f = λ v. falls_more m n le after v (f v)
falls_from (Ok (Move.Within ls e turn)) m n after le f = λ v. falls_more m n le after v (f v)
falls_from (Ok (Move.Catch e)) m n after le f = λ v. falls_more m n le after v (f v)
falls_from (Ok (Move.Section locks e)) m n after le f = λ v. falls_more m n le after v (f v)
falls_from (Ok (Move.Call request)) m n after le f = λ v. falls_more m n le after v (f v)
falls_from (Ok Move.Turn) m n after le f = λ v. falls_more m n le after v (f v)
falls_from (Ok (Move.Done e)) m n after le f = tt
falls_from (Ok Move.Stays) m n after le f = tt
falls_from (Ok (Move.Throw e)) m n after le f = tt
falls_from (Ok Move.Quit) m n after le f = tt
falls_from (Err h) m n after le f = tt

-- ---- a row of one move

pub once_moves : (names : Names) (next now : Option Move) (m : Move) (reply : Reply) (stay : Prog) (answer : Option Tree) → next ≡ Some m → now ≡ None → left_by names next reply stay answer ≡ headed m stay (left_by names now reply stay)
once_moves names next now m reply stay answer is none' = ap (λ o. left_by names o reply stay answer) is ∙ (λ i. headed m stay (left_by names (sym none' i) reply stay))

pub once_gives : (names : Names) (next now : Option Move) (reply : Reply) (stay : Prog) (answer : Option Tree) {set : Setting} {d : Definitions} {used : Bool} {r : Result Move Halt} → next ≡ None → now ≡ None →
    Stepped set (given names reply stay answer) stay d used r (given names reply stay) d used → Stepped set (left_by names next reply stay answer) stay d used r (left_by names now reply stay) d used
once_gives names next now reply stay answer {set = set} {d = d} {used = used} {r = r} is none' s =
    subst (λ o. Stepped set (left_by names o reply stay answer) stay d used r (left_by names now reply stay) d used) (sym is)
    (subst (λ o. Stepped set (left_by names None reply stay answer) stay d used r (left_by names o reply stay) d used) (sym none') s)

pub once_falls : (next now : Option Move) (m : Move) → next ≡ None → now ≡ None → Falls (Ok m) 0 (λ _. 0) → Falls (Ok m) (moves_left next) (λ _. moves_left now)
once_falls next now m is none' f =
    subst (λ o. Falls (Ok m) (moves_left o) (λ _. moves_left now)) (sym is) (subst (λ o. Falls (Ok m) (moves_left None) (λ _. moves_left o)) (sym none') f)

-- ---- ParallelTry

pub failed_goes : (names : Names) (f : Success) (v : Tree) (answer : Option Tree) → answer ≡ Some v → is_name names Builtin.Failed v ≡ true → left_success names f answer ≡ left_success names f None
failed_goes names f v answer is failed = ap (left_success names f) is ∙ ap (λ b. elim b as (λ _. Prog) [ true ↦ first_success names f.function f.rest | false ↦ Done v ]) failed
