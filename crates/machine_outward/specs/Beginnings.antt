-- How a row begins.
--     Calls                 an expression is sent, and the reply is the result
--     Results               an expression is the result
--     Combines              ParallelCombine where it is no call
--     IsSection             a section round an expression, or the expression where there are no locks
--     IsLoop                a form with an iterator, before its parts are asked for; or it stays
use Rattle.std.specs.Prelude.{◌≡◌, List, [], ◌∷◌, Option, Some, None}
use Rattle.expr_tree.specs.declared.sym.Sym.{Sym}
use Rattle.expr_tree.specs.Tree.{Tree, normal}
use Rattle.semantics.specs.Names.{Names, make}
use Rattle.semantics.specs.declared.builtin.Builtin.{Builtin}
use Rattle.semantics.specs.Program.{Prog, Ask, Done}
use Rattle.semantics.specs.Control.{iterator}
use Rattle.semantics.specs.Sections.{section, combined, without_option, ask_option, checked_outer}
use Rattle.machine_outward.specs.declared.loop_call.LoopForm.{LoopForm}
use Rattle.machine_outward.specs.Loops.{outward_row}
use Rattle.machine_outward.specs.OutwardLeft.{left}
use Rattle.machine_steps.specs.declared.moves.Move.{Move}
use Rattle.machine_steps.specs.declared.outward.Request.{Request}
use Rattle.machine_outward.specs.declared.once.Reply.{Reply}
use Rattle.machine_outward.specs.declared.outward_row.OutwardRow.{OutwardRow}

abbrev pub Calls : Tree → OutwardRow → Type 0
Calls e row = row ≡ OutwardRow.Once (record { next = Some (Move.Call (Request.Outside e)); reply = Reply.Itself })

abbrev pub Results : Tree → OutwardRow → Type 0
Results e row = row ≡ OutwardRow.Once (record { next = Some (Move.Done e); reply = Reply.Itself })

abbrev pub is_combined : Names → List Tree → Prog
is_combined names (f ∷ l ∷ rest) = combined names f l (without_option names rest)
is_combined names es = Done (make names Builtin.List es)

pub record Combines (names : Names) (items : List Tree) (row : OutwardRow) : Type 0 where
  pub by : (stay : Prog) → is_combined names items ≡ left names row stay None

pub record IsSection (locks : List Sym) (body : Tree) (row : OutwardRow) : Type 0 where
  pub by : (names : Names) (stay : Prog) → section locks body ≡ left names row stay None

abbrev pub looped : Names → LoopForm → List Tree → Prog → Prog
looped names form (e ∷ it ∷ es) stay =
    iterator names it (λ i values parts. ask_option names es (λ fs. checked_outer names (outward_row form) (e ∷ make names Builtin.List parts ∷ fs))) stay
looped names form es stay = stay

abbrev pub IsLoopBy : Names → LoopForm → List Tree → Option OutwardRow → Type 0
IsLoopBy names form items (Some row) = (stay : Prog) → looped names form items stay ≡ left names row stay None
IsLoopBy names form items None = (stay : Prog) → looped names form items stay ≡ stay

pub record IsLoop (names : Names) (form : LoopForm) (items : List Tree) (o : Option OutwardRow) : Type 0 where
  pub by : IsLoopBy names form items o
