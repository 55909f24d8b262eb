use Rattle.std.proofs.Common.{◌∙◌, ◌+◌, ap, length, length-append}
use Rattle.kernel_defs.proofs.Tables.{grown}
use Rattle.kernel_defs.proofs.defs.empty_chains.Goals as goal

pub loop-made-preserved : goal.loop-made-preserved
loop-made-preserved c =
    record {
      made = ap length c.in_ok-push.ensures.items ∙ length-append c.loop-made.chains.items _ ∙ ap (λ n. n + 1) c.loop-made.invariant.made;
      empty = grown c.loop-made.chains.items c.push.new.self.items c.in_ok-push.ensures.items c.loop-made.invariant.empty;
    }
