use Rattle.std.proofs.Common.{◌∙◌}
use Rattle.semantics.specs.Match.{heads, matches}
use Rattle.builtin_names.specs.Named.{names_in}
use Rattle.match_seq.specs.Heads.{matching}
use Rattle.rule_frames.specs.Told.{attrs_in, told_of}
use Rattle.rule_frames.proofs.Agreeing.{matches_told}
use Rattle.rule_frames.proofs.trial.Trial.start.Goals as goal

pub returns-clause-matcher : goal.returns-clause-matcher
returns-clause-matcher g c = λ d tells.
    let names = names_in c.args.names.now in
    let A = g.A.AttrSource.told c.args.attrs.now in
    matches_told names d A c.args.rule.now.left c.args.subject.now c.in_ok-new.field-0 tells
    (c.in_ok-new.ensures
    ∙ ((λ i. matches names (λ s. matching (attrs_in (c.in_ok-told.ensures i) s)) (c.left-2.ensures i) c.args.subject.now)
    ∙ (λ i. matches names (λ s. matching (attrs_in (told_of A (heads names (c.left.ensures i))) s)) c.args.rule.now.left c.args.subject.now)))
