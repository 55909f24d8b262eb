use Rattle.std.proofs.Common.{◌≡◌, subst, IfOk}
use Rattle.syntax.specs.Terminals.{Terminal}
use Rattle.builtin_names.specs.Named.{names_in}
use Rattle.phrase_form.specs.Machine.{state_in, step_at, steps_to}
use Rattle.phrase_form.specs.declared.machine.Step.{Step}
use Rattle.read_form.proofs.reader.step_over.Goals as goal

pub returns : goal.returns
returns c =
    let n = names_in c.args.names.now in
    subst (λ (t : Terminal). IfOk c.step.result (λ (s : Step). steps_to n s c.step.new.self ≡ step_at n t (state_in n c.args.machine.now))) c.in_ok-terminal.ensures c.step.ensures
