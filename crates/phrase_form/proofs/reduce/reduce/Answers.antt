use Rattle.std.proofs.Common.{List, sym, ap, ◌∙◌}
use Rattle.builtin_names.specs.Named.{names_in}
use Rattle.phrase_form.specs.Held.{kept_in}
use Rattle.phrase_form.specs.States.{frames_in}
use Rattle.phrase_form.specs.Steps as s
use Rattle.phrase_form.specs.declared.frame.Frame.{Frame}
use Rattle.phrase_form.proofs.Frames.{tighter_reduces, tighter_stops}
use Rattle.phrase_form.proofs.reduce.reduce.Goals as goal

pub loop-frame-preserved : goal.loop-frame-preserved
loop-frame-preserved c =
    sym (tighter_reduces (names_in c.args.names.now) c.args.level c.in-Some.frame c.pop_tighter.new.self (kept_in c.loop-frame.phrase) (kept_in c.in_ok-phrase.phrase) c.in-Some.ensures.1 c.in_ok-phrase.ensures)
    ∙ ap (λ (K : List Frame). s.reduce (names_in c.args.names.now) c.args.level (frames_in (names_in c.args.names.now) K) (kept_in c.loop-frame.phrase)) (sym c.in-Some.ensures.0)
    ∙ c.loop-frame.invariant

pub returns : goal.returns
returns c =
    sym c.loop-frame.invariant
    ∙ ap (λ (K : List Frame). s.reduce (names_in c.args.names.now) c.args.level (frames_in (names_in c.args.names.now) K) (kept_in c.loop-frame.phrase)) (sym c.in_default.ensures.0)
    ∙ tighter_stops (names_in c.args.names.now) c.args.level c.pop_tighter.new.self (kept_in c.loop-frame.phrase) (rw (sym c.in_default.ensures.0) at c.in_default.ensures.1)
