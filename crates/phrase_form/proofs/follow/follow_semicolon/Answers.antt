use Rattle.std.proofs.Common.{◌≡◌, sym, ap, ◌∙◌}
use Rattle.std.proofs.lemmas.Result.{IfOk-weaker}
use Rattle.semantics.specs.Names as n
use Rattle.syntax.specs.Terminals.{next_of}
use Rattle.builtin_names.specs.Named.{names_in}
use Rattle.laws_reading.specs.Kept as low
use Rattle.phrase_form.specs.Held.{kept_in}
use Rattle.phrase_form.specs.States.{frames_in, after}
use Rattle.phrase_form.specs.Steps as s
use Rattle.phrase_form.specs.Words.{terminal_in, bracket_in}
use Rattle.phrase_form.proofs.Follows.{comma_followed, bracket_followed}
use Rattle.phrase_form.proofs.follow.follow_semicolon.Goals as goal

pub returns-in_ok-phrase-in-Comma : goal.returns-in_ok-phrase-in-Comma
returns-in_ok-phrase-in-Comma c =
    let same =
    ap (λ (x : low.Kept). s.separated (names_in c.args.names.now) (frames_in (names_in c.args.names.now) c.args.stack.now) x) c.in_ok-phrase-in-Comma.ensures
    ∙ comma_followed (names_in c.args.names.now) (next_of (terminal_in c.args.terminal)) (terminal_in c.args.terminal) (frames_in (names_in c.args.names.now) c.args.stack.now) (kept_in c.args.phrase) (sym c.in-Comma.ensures) in
    IfOk-weaker
    c.separate.result
    (λ m. (names : n.Names) → after names c.separate.new.stack m ≡ s.separated names (frames_in names c.args.stack.now) (kept_in c.in_ok-phrase-in-Comma.phrase))
    (λ m. after (names_in c.args.names.now) c.separate.new.stack m ≡ s.follows_semicolon (names_in c.args.names.now) (next_of (terminal_in c.args.terminal)) (terminal_in c.args.terminal) (frames_in (names_in c.args.names.now) c.args.stack.now) (kept_in c.args.phrase))
    (λ m h. h (names_in c.args.names.now) ∙ same)
    c.separate.ensures

pub returns-in_ok-phrase-in-Closes : goal.returns-in_ok-phrase-in-Closes
returns-in_ok-phrase-in-Closes c =
    let same =
    ap (λ (x : low.Kept). s.closed (names_in c.args.names.now) (bracket_in c.in-Closes.bracket) (frames_in (names_in c.args.names.now) c.args.stack.now) x) c.in_ok-phrase-in-Closes.ensures
    ∙ bracket_followed (names_in c.args.names.now) (next_of (terminal_in c.args.terminal)) (bracket_in c.in-Closes.bracket) (terminal_in c.args.terminal) (frames_in (names_in c.args.names.now) c.args.stack.now) (kept_in c.args.phrase) (sym c.in-Closes.ensures) in
    IfOk-weaker
    c.close.result
    (λ m. after (names_in c.args.names.now) c.close.new.stack m ≡ s.closed (names_in c.args.names.now) (bracket_in c.in-Closes.bracket) (frames_in (names_in c.args.names.now) c.args.stack.now) (kept_in c.in_ok-phrase-in-Closes.phrase))
    (λ m. after (names_in c.args.names.now) c.close.new.stack m ≡ s.follows_semicolon (names_in c.args.names.now) (next_of (terminal_in c.args.terminal)) (terminal_in c.args.terminal) (frames_in (names_in c.args.names.now) c.args.stack.now) (kept_in c.args.phrase))
    (λ m h. h ∙ same)
    c.close.ensures
