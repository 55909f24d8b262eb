use Rattle.std.proofs.Common.{◌≡◌, ◌∙◌, sym, ap, true, false}
use Rattle.frames_control.proofs.Shown.{shown}
use Rattle.builtin_names.specs.Named.{names_in}
use Rattle.semantics.specs.declared.builtin.Builtin.{Builtin}
use Rattle.semantics.specs.Names.{is_name}
use Rattle.semantics.specs.Program.{Done}
use Rattle.frames_control.specs.TurnForms.{tested}
use Rattle.frames_control.proofs.Turns.{is_tested, test_holds, test_fails}
use Rattle.frames_control.proofs.while_loop.While.step.Goals as goal

pub returns-in_default-clause-moved : goal.returns-in_default-clause-moved
returns-in_default-clause-moved c =
    let now : c.args.self.now.testing ≡ true = cc in
    shown (is_tested (names_in c.args.names.now) c.args.self.now c.args.answer now ∙ (ap (tested (names_in c.args.names.now) c.args.self.now) c.in_default.is ∙ ap Done (sym c.name.ensures)))

pub returns-then-not-is_name-clause-moved : goal.returns-then-not-is_name-clause-moved
returns-then-not-is_name-clause-moved c =
    let now : c.args.self.now.testing ≡ true = cc in
    let fails : is_name (names_in c.args.names.now) Builtin.True c.in-Some.truth ≡ false = cc in
    shown (is_tested (names_in c.args.names.now) c.args.self.now c.args.answer now ∙ (ap (tested (names_in c.args.names.now) c.args.self.now) c.in-Some.is ∙ (test_fails (names_in c.args.names.now) c.args.self.now c.in-Some.truth fails ∙ ap Done (sym c.name-then-not-is_name.ensures))))

pub returns-clause-moved : goal.returns-clause-moved
returns-clause-moved c =
    let now : c.args.self.now.testing ≡ true = cc in
    let holds : is_name (names_in c.args.names.now) Builtin.True c.in-Some.truth ≡ true = cc in
    shown (rw c.in_ok-copy.ensures (is_tested (names_in c.args.names.now) c.args.self.now c.args.answer now ∙ (ap (tested (names_in c.args.names.now) c.args.self.now) c.in-Some.is ∙ test_holds (names_in c.args.names.now) c.args.self.now c.in-Some.truth holds)))
