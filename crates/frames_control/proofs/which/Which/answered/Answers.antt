use Rattle.std.proofs.Common.{◌∙◌, refl, sym, ◌∷◌}
use Rattle.frames_control.proofs.Shown.{shown}
use Rattle.builtin_names.specs.Named.{names_in}
use Rattle.semantics.specs.declared.builtin.Builtin.{Builtin}
use Rattle.semantics.specs.Names.{make}
use Rattle.semantics.specs.Program.{Done}
use Rattle.semantics.specs.Control.{first_true}
use Rattle.frames_control.proofs.Choosing.{truth_holds, truth_unknown}
use Rattle.frames_control.proofs.which.Which.answered.Goals as goal

pub returns-in_default-clause-moved : goal.returns-in_default-clause-moved
returns-in_default-clause-moved c = shown (rw (c.in_default.ensures.0, c.name.ensures) refl)

pub returns-then-is_name-clause-moved : goal.returns-then-is_name-clause-moved
returns-then-is_name-clause-moved c = shown (rw c.in-Some.ensures (truth_holds (names_in c.args.names.now) c.args.truth (Done c.in-Some.value) (first_true (names_in c.args.names.now) c.pop.new.self) (Done (make (names_in c.args.names.now) Builtin.Which (c.args.truth ∷ c.in-Some.value ∷ c.pop.new.self))) (sym c.is_name.ensures ∙ c.if-is_name.true)))

pub returns-clause-moved : goal.returns-clause-moved
returns-clause-moved c =
    shown
    (rw (c.in-Some.ensures, c.name-2.ensures, c.take.ensures, c.in_ok-push-2.ensures, c.in_ok-push.ensures)
    (truth_unknown (names_in c.args.names.now) c.args.truth (Done c.in-Some.value) (first_true (names_in c.args.names.now) c.pop.new.self) (Done (make (names_in c.args.names.now) Builtin.Which (c.args.truth ∷ c.in-Some.value ∷ c.pop.new.self))) (sym c.is_name.ensures ∙ c.if-is_name.false) (sym c.is_name-2.ensures ∙ c.if-is_name-2.false)))
