use Rattle.machine_steps.specs.Setup.{setting_of}
use Rattle.machine_outward.proofs.Combining.{combined_as}
use Rattle.machine_outward.proofs.combine.Combine.step.Goals as goal

pub returns : goal.returns
returns c = record {
  stepped = λ stay used rest.
      combined_as (setting_of c.args.scene.now) c.args.self.now.function c.args.self.now.list c.args.self.now.combiner c.in_ok-head.head c.in_ok-applied.field-0 c.in_ok-items.items c.args.defs.now used stay c.call_move.result rest
      c.in_ok-head.ensures c.in_ok-applied.ensures c.in_ok-items.ensures (c.call_move.ensures.stepped stay c.args.defs.now used rest);
  falls = c.call_move.ensures.falls;
}
