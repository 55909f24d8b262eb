use Rattle.std.proofs.Common.{◌∙◌}
use Rattle.match_seq.specs.Goals.{rest}
use Rattle.match_seq.proofs.Steps.{fill-whole}
use Rattle.match_seq.proofs.setting.Setting.filled.Goals as goal

pub returns-clause-rest : goal.returns-clause-rest
returns-clause-rest c =
    c.in_ok-made.ensures.rest
    ∙ fill-whole c.args.self.now c.in_ok-copy.field-0 c.args.pattern.now c.args._head.now c.args._items.now c.args.elements.now c.in_ok-copy_items.field-0
    (rest c.args.self.now c.args.onward) c.in_ok-copy.ensures c.requires c.in_ok-copy_items.ensures
