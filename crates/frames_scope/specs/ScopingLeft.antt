-- What the machines stand for: the program that is left, before an answer and after.
--     left_asking           values that are asked for, from left to right
--     left_module, left_block, left_with
use Rattle.std.specs.Prelude.{List, [], ◌∷◌, ◌++◌, drop, Option, Some, None}
use Rattle.expr_tree.specs.declared.sym.Sym.{Sym}
use Rattle.expr_tree.specs.Tree.{Tree}
use Rattle.expr_tree.specs.Substitution.{Binding}
use Rattle.semantics.specs.Names.{Names}
use Rattle.semantics.specs.InPlace.{put_in_place}
use Rattle.semantics.specs.Program as p
use Rattle.semantics.specs.Program.{Prog, Done, Ask, Within}
use Rattle.semantics.specs.Control.{null}
use Rattle.semantics.specs.Scoping.{ask_values, make_all, with_number, renaming}
use Rattle.frames_scope.specs.Reading.{locals_in}
use Rattle.frames_scope.specs.declared.asking.Asking.{Asking}
use Rattle.frames_scope.specs.declared.module_form.Module.{Module}
use Rattle.frames_scope.specs.declared.block_form.Block.{Block}
use Rattle.frames_scope.specs.declared.with_form.With.{With}

-- the answer is the value of the symbol that was asked for
abbrev pub answered : Option Sym → Option Tree → List p.Local → List p.Local
answered None v ls = ls
answered (Some s) v ls = ls ++ record { symbol = s; value = v } ∷ []

abbrev pub left_asking : Asking → Option Tree → (List p.Local → Prog) → Prog
left_asking a v k = ask_values (locals_in (drop a.place a.locals)) (answered a.asked v (locals_in a.done)) k

abbrev pub left_module : Names → Module → Option Tree → Prog
left_module names f v =
    left_asking f.asking v (λ ls. make_all (with_number f.number ls) (Done (put_in_place names (renaming f.number ls) f.body)))

abbrev pub left_block : Names → Block → Option Tree → Prog
left_block names (Block.Values a body) v = left_asking a v (λ ls. Within ls body Done)
left_block names Block.Body None = null names
left_block names Block.Body (Some v) = Done v

-- the values of symbols, from left to right, as runs of one
abbrev pub ask_each : List (Sym × Tree) → Binding → (Binding → Prog) → Prog
ask_each [] done k = k done
ask_each (l ∷ ls) done k = Ask l.1 (λ v. ask_each ls (done ++ (l.0, v ∷ []) ∷ []) k)

abbrev pub as_run : Option Tree → List Tree
as_run None = []
as_run (Some v) = v ∷ []

abbrev pub bound : Option Sym → Option Tree → Binding → Binding
bound None v b = b
bound (Some s) v b = b ++ (s, as_run v) ∷ []

abbrev pub left_with : Names → With → Option Tree → Prog
left_with names f v = ask_each (drop f.place f.locals) (bound f.asked v f.done) (λ b. Done (put_in_place names b f.body))
