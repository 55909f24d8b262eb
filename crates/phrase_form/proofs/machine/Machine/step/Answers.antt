use Rattle.std.proofs.Common.{◌≡◌, Option, sym, ap, ◌∙◌}
use Rattle.builtin_names.specs.Named.{names_in}
use Rattle.phrase_form.specs.States.{frames_in, mode_in, after}
use Rattle.phrase_form.specs.Steps as s
use Rattle.phrase_form.specs.Words.{terminal_in}
use Rattle.phrase_form.specs.declared.frame.Mode.{Mode}
use Rattle.phrase_form.proofs.machine.Machine.step.Goals as goal

pub returns-in-Some : goal.returns-in-Some
returns-in-Some c =
    let old : c.replace-mode.result ≡ c.args.self.now.mode = cc in
    ap (λ (m : Option Mode). after (names_in c.args.names.now) c.follow.new.stack m) (sym c.in-Some.is)
    ∙ c.in_ok-mode.ensures
    ∙ ap (λ (m : Mode). s.follows (names_in c.args.names.now) (mode_in (names_in c.args.names.now) m) (terminal_in c.args.terminal) (frames_in (names_in c.args.names.now) c.args.self.now.stack)) old

pub returns-in-None : goal.returns-in-None
returns-in-None c =
    let old : c.replace-mode.result ≡ c.args.self.now.mode = cc in
    ap (λ (m : Option Mode). after (names_in c.args.names.now) c.follow.new.stack m) (sym c.in-None.is)
    ∙ c.in_ok-mode.ensures
    ∙ ap (λ (m : Mode). s.follows (names_in c.args.names.now) (mode_in (names_in c.args.names.now) m) (terminal_in c.args.terminal) (frames_in (names_in c.args.names.now) c.args.self.now.stack)) old
