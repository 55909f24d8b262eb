use Rattle.std.proofs.Common.{◌∙◌, ap}
use Rattle.semantics.specs.Definitions.{look_up}
use Rattle.kernel_defs.proofs.Tables.{Stands, found_there}
use Rattle.kernel_defs.proofs.defs.Defs.find.Goals as goal

pub returns : goal.returns
returns c =
    let h : Stands c.self.inside.chains.items c.slot.result c.index.result.now c.args.symbol =
    record { table = c.self.invariant.table; width = c.self.invariant.width; slot_is = c.slot.ensures.at; within = c.slot.ensures.within; there = c.index.ensures }
    in
    c.find.ensures
    ∙ found_there c.self.inside.chains.items c.slot.result c.index.result.now c.args.symbol h
    ∙ ap (λ t. look_up t.entries c.args.symbol) c.self.view_is
