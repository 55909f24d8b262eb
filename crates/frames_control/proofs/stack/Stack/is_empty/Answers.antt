use Rattle.std.proofs.Common.{◌≡◌, ◌∙◌, ap, reverse}
use Rattle.frames_control.proofs.Stacks.{emptied}
use Rattle.frames_control.proofs.stack.Stack.is_empty.Goals as goal

pub returns : goal.returns
returns c =
    let view : c.args.self.now ≡ reverse c.self.inside.reversed = cc in
    (λ t. view ∙ ap reverse (c.is_empty.ensures.0 t), λ e. c.is_empty.ensures.1 (emptied _ _ view e))
