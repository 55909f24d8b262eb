-- The moves of the machines, from the programs that they are the heads of.
use Rattle.std.proofs.Common.{◌≡◌, List, Option, Some, None, Result, Ok, Err, IfOk, ap, sym, subst, ◌∙◌}
use Rattle.expr_tree.specs.Tree.{Tree}
use Rattle.expr_tree.specs.declared.limits.Limits.{Limits}
use Rattle.std.specs.declared.alloc.AllocError.{AllocError}
use Rattle.semantics.specs.declared.builtin.Builtin.{Builtin}
use Rattle.semantics.specs.Names.{Names, name}
use Rattle.semantics.specs.InPlace.{put_in_place}
use Rattle.semantics.specs.Program.{Prog, Done, Ask, Within}
use Rattle.semantics.specs.Scoping.{make_all, with_number, renaming}
use Rattle.evaluation_steps.specs.Moves.{Moved, headed, Shows, same}
use Rattle.frames_scope.specs.declared.locals.Local.{Local}
use Rattle.frames_scope.specs.declared.moves.ScopeMove.{ScopeMove}
use Rattle.frames_scope.specs.declared.asking.Asking.{Asking}
use Rattle.frames_scope.specs.declared.module_form.Module.{Module}
use Rattle.frames_scope.specs.declared.block_form.Block.{Block}
use Rattle.frames_scope.specs.Reading.{locals_in}
use Rattle.frames_scope.specs.ScopeMoves.{move_of, moving}
use Rattle.frames_scope.specs.ScopingLeft.{left_asking, left_module, left_block}
use Rattle.frames_scope.specs.Asked.{Goes, IsMade}

pub shown : (names : Names) (move : ScopeMove) {limits : Limits} {p : Prog} {rest : Option Tree → Prog} → p ≡ headed (move_of names move) rest → Moved limits p (moving names (Ok move)) rest
shown names move {limits = limits} {rest = rest} e = record { by = subst (λ q. Shows limits q (headed (move_of names move) rest)) (sym e) same }

-- ---- Module

pub module_asks : (limits : Limits) (names : Names) (old new : Module) (answer : Option Tree) (e : Tree) → new.number ≡ old.number → new.body ≡ old.body
    → Goes old.asking answer (Some e) new.asking → Moved limits (left_module names old answer) (moving names (Ok (ScopeMove.Ask e))) (left_module names new)
module_asks limits names old new answer e number body goes =
    shown names (ScopeMove.Ask e)
    (goes.by (λ ls. make_all (with_number old.number ls) (Done (put_in_place names (renaming old.number ls) old.body)))
    ∙ ap (λ m. Ask e (λ v. left_asking new.asking (Some v) (λ ls. make_all (with_number m ls) (Done (put_in_place names (renaming m ls) old.body))))) (sym number)
    ∙ ap (λ b. Ask e (λ v. left_asking new.asking (Some v) (λ ls. make_all (with_number new.number ls) (Done (put_in_place names (renaming new.number ls) b))))) (sym body))

pub module_makes : (limits : Limits) (names : Names) (old : Module) (between : Asking) (answer : Option Tree) (move : ScopeMove) (rest : Option Tree → Prog)
    → Goes old.asking answer None between → IsMade old.number between.done old.body move → Moved limits (left_module names old answer) (moving names (Ok move)) rest
module_makes limits names old between answer (ScopeMove.Make ls b e) rest goes made =
    shown names (ScopeMove.Make ls b e) {rest = rest}
    (goes.by (λ ls. make_all (with_number old.number ls) (Done (put_in_place names (renaming old.number ls) old.body)))
    ∙ ap (λ ms. make_all ms (Done (put_in_place names (renaming old.number (locals_in between.done)) old.body))) (sym made.0)
    ∙ ap (λ c. make_all (locals_in ls) (Done (put_in_place names c old.body))) (sym made.1)
    ∙ ap (λ x. make_all (locals_in ls) (Done (put_in_place names b x))) (sym made.2))
module_makes limits names old between answer (ScopeMove.Ask e) rest goes made = absurd made
module_makes limits names old between answer (ScopeMove.Within ls e) rest goes made = absurd made
module_makes limits names old between answer (ScopeMove.Place b e) rest goes made = absurd made
module_makes limits names old between answer (ScopeMove.Done e) rest goes made = absurd made

pub module_made : (limits : Limits) (names : Names) (old : Module) (between : Asking) (answer : Option Tree) (r : Result ScopeMove AllocError) (rest : Option Tree → Prog)
    → Goes old.asking answer None between → IfOk r (λ move. IsMade old.number between.done old.body move) → Moved limits (left_module names old answer) (moving names r) rest
module_made limits names old between answer (Ok move) rest goes made = module_makes limits names old between answer move rest goes made
module_made limits names old between answer (Err e) rest goes made = record { by = tt }

-- ---- Block

pub block_asks : (limits : Limits) (names : Names) (old new : Asking) (body : Tree) (answer : Option Tree) (e : Tree)
    → Goes old answer (Some e) new → Moved limits (left_block names (Block.Values old body) answer) (moving names (Ok (ScopeMove.Ask e))) (left_block names (Block.Values new body))
block_asks limits names old new body answer e goes = shown names (ScopeMove.Ask e) (goes.by (λ ls. Within ls body Done))

pub block_enters : (limits : Limits) (names : Names) (old new : Asking) (body : Tree) (answer : Option Tree)
    → Goes old answer None new → Moved limits (left_block names (Block.Values old body) answer) (moving names (Ok (ScopeMove.Within new.done body))) (left_block names Block.Body)
block_enters limits names old new body answer goes = shown names (ScopeMove.Within new.done body) (goes.by (λ ls. Within ls body Done))

pub block_asked : (limits : Limits) (names : Names) (block : Block) (old new : Asking) (body : Tree) (answer : Option Tree) (e : Tree) → block ≡ Block.Values old body
    → Goes old answer (Some e) new → Moved limits (left_block names block answer) (moving names (Ok (ScopeMove.Ask e))) (left_block names (Block.Values new body))
block_asked limits names block old new body answer e is goes =
    subst (λ b. Moved limits (left_block names b answer) (moving names (Ok (ScopeMove.Ask e))) (left_block names (Block.Values new body))) (sym is) (block_asks limits names old new body answer e goes)

pub block_entered : (limits : Limits) (names : Names) (block after : Block) (old new : Asking) (body : Tree) (ls : List Local) (answer : Option Tree) → block ≡ Block.Values old body → after ≡ Block.Body → ls ≡ new.done
    → Goes old answer None new → Moved limits (left_block names block answer) (moving names (Ok (ScopeMove.Within ls body))) (left_block names after)
block_entered limits names block after old new body ls answer is ended values goes =
    subst (λ b. Moved limits (left_block names b answer) (moving names (Ok (ScopeMove.Within ls body))) (left_block names after)) (sym is)
    (subst (λ a. Moved limits (left_block names (Block.Values old body) answer) (moving names (Ok (ScopeMove.Within ls body))) (left_block names a)) (sym ended)
    (subst (λ l. Moved limits (left_block names (Block.Values old body) answer) (moving names (Ok (ScopeMove.Within l body))) (left_block names Block.Body)) (sym values) (block_enters limits names old new body answer goes)))

pub block_ends : (limits : Limits) (names : Names) (block : Block) (answer : Option Tree) (v : Tree) (rest : Option Tree → Prog) → block ≡ Block.Body → answer ≡ Some v
    → Moved limits (left_block names block answer) (moving names (Ok (ScopeMove.Done v))) rest
block_ends limits names block answer v rest is has =
    shown names (ScopeMove.Done v) {rest = rest} (ap (λ b. left_block names b answer) is ∙ ap (λ a. left_block names Block.Body a) has)

pub block_null : (limits : Limits) (names : Names) (block : Block) (answer : Option Tree) (e : Tree) (rest : Option Tree → Prog) → block ≡ Block.Body → answer ≡ None → e ≡ name names Builtin.Null
    → Moved limits (left_block names block answer) (moving names (Ok (ScopeMove.Done e))) rest
block_null limits names block answer e rest is none' named =
    shown names (ScopeMove.Done e) {rest = rest} (ap (λ b. left_block names b answer) is ∙ ap (λ a. left_block names Block.Body a) none' ∙ ap Done (sym named))
