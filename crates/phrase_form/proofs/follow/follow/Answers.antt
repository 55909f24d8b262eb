use Rattle.std.proofs.Common.{◌≡◌, Option, ap, subst}
use Rattle.std.specs.Result.{IfOk}
use Rattle.builtin_names.specs.Named.{names_in}
use Rattle.phrase_form.specs.States.{State, frames_in, mode_in, after}
use Rattle.phrase_form.specs.Words.{terminal_in, next_in}
use Rattle.phrase_form.specs.declared.frame.Mode.{Mode}
use Rattle.phrase_form.proofs.Follows.{half_followed}
use Rattle.phrase_form.proofs.follow.follow.Goals as goal

pub returns-in-Half : goal.returns-in-Half
returns-in-Half c =
    subst
    (λ (v : Option (State (names_in c.args.names.now))). IfOk c.follow_half.result (λ m. after (names_in c.args.names.now) c.follow_half.new.stack m ≡ v))
    (half_followed
    (names_in c.args.names.now)
    (next_in c.next_of.result)
    (terminal_in c.args.terminal)
    (frames_in (names_in c.args.names.now) c.args.stack.now)
    c.in-Half.items
    (mode_in (names_in c.args.names.now) c.args.mode)
    c.next_of.ensures
    (ap (λ (m : Mode). mode_in (names_in c.args.names.now) m) c.in-Half.is))
    c.follow_half.ensures
