use Rattle.std.proofs.Common.{arith}
use Rattle.attr_steps.proofs.Orders.{ordered_sorted}
use Rattle.eval_seq.proofs.settled.is_in_order.Goals as goal

pub returns : goal.returns
returns c = λ t. ordered_sorted c.args.items.now (λ k d low high. c.loop-i.invariant k d low (omega arith))
