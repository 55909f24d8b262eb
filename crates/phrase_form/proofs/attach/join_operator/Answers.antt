use Rattle.std.proofs.Common.{List, sym, ap, ◌∙◌}
use Rattle.phrase_form.specs.Held.{kept_in}
use Rattle.phrase_form.specs.States.{frames_in}
use Rattle.phrase_form.specs.Steps as s
use Rattle.operator_levels.specs.Words.{operator_in}
use Rattle.phrase_form.specs.declared.frame.Frame.{Frame}
use Rattle.phrase_form.proofs.Frames.{joined_plain}
use Rattle.phrase_form.proofs.attach.join_operator.Goals as goal

pub returns-in_ok-attach-in-None-pop_tag : goal.returns-in_ok-attach-in-None-pop_tag
returns-in_ok-attach-in-None-pop_tag c = λ names.
    c.in_ok-attach-in-None-pop_tag.ensures names
    ∙ ap (λ (K : List Frame). s.attached names (operator_in c.args.operator) (frames_in names K) (kept_in c.args.phrase)) c.in-None-pop_tag.ensures.0
    ∙ sym (joined_plain names (operator_in c.args.operator) c.args.stack.now (kept_in c.args.phrase) c.in-None-pop_tag.ensures.1)
