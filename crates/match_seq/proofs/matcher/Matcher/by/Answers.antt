use Rattle.std.proofs.Common.{◌∙◌}
use Rattle.match_seq.specs.Heads.{matching}
use Rattle.match_seq.proofs.Told.{find-matches_told}
use Rattle.match_seq.proofs.matcher.Matcher.by.Goals as goal

pub returns : goal.returns
returns g c = λ names e.
    c.in_ok-stack.ensures
    ∙ find-matches_told names (λ s. matching (g.A.AttrSource.told c.args.attrs.now s)) c.args.pattern.now c.args.subject.now
    c.in_ok-setting.setting.constructs c.in_ok-setting.setting.hows (c.in_ok-setting.ensures.constructs ∙ e) c.in_ok-setting.ensures.hows
