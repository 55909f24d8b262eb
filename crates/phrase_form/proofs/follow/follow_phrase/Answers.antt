use Rattle.std.proofs.Common.{◌≡◌, Option, subst}
use Rattle.std.specs.Result.{IfOk}
use Rattle.syntax.specs.Terminals.{next_of}
use Rattle.builtin_names.specs.Named.{names_in}
use Rattle.phrase_form.specs.Held.{kept_in}
use Rattle.phrase_form.specs.States.{State, frames_in, after}
use Rattle.phrase_form.specs.Steps as s
use Rattle.phrase_form.specs.Words.{terminal_in}
use Rattle.phrase_form.proofs.Follows.{phrase_followed}
use Rattle.phrase_form.proofs.follow.follow_phrase.Goals as goal

pub returns : goal.returns
returns c =
    let level : c.level_of_next-level.result ≡ s.next_level (names_in c.args.names.now) (next_of (terminal_in c.args.terminal)) =
    subst (λ n. c.level_of_next-level.result ≡ s.next_level (names_in c.args.names.now) n) c.next_of.ensures (c.level_of_next-level.ensures (names_in c.args.names.now)) in
    subst
    (λ (v : Option (State (names_in c.args.names.now))). IfOk c.go_on.result (λ m. after (names_in c.args.names.now) c.go_on.new.stack m ≡ v))
    (phrase_followed
    (names_in c.args.names.now)
    (next_of (terminal_in c.args.terminal))
    (terminal_in c.args.terminal)
    (frames_in (names_in c.args.names.now) c.args.stack.now)
    (frames_in (names_in c.args.names.now) c.reduce.new.stack)
    (kept_in c.args.phrase)
    (kept_in c.in_ok-reduced.reduced)
    c.level_of_next-level.result
    level
    c.in_ok-reduced.ensures)
    c.go_on.ensures
