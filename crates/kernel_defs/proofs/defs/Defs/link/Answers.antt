use Rattle.std.proofs.Common.{◌∙◌, ap}
use Rattle.std.proofs.Math.ListN.{length-set}
use Rattle.semantics.specs.Definitions.{Definitions, look_up, add_entry}
use Rattle.kernel_defs.specs.Definition.{definition_of}
use Rattle.kernel_defs.specs.Defs.{definitions_in}
use Rattle.kernel_defs.specs.Table.{slot}
use Rattle.kernel_defs.proofs.Tables.{Stands, table_with_more, entries_with_more}
use Rattle.kernel_defs.proofs.defs.Defs.link.Goals as goal

pub invariant_of-self : goal.invariant_of-self
invariant_of-self c =
    let h : Stands c.self.inside.chains.items c.slot-at.result c.index_mut.result.now c.args.entry.value.symbol =
    record { table = c.self.invariant.table; width = c.self.invariant.width; slot_is = c.slot-at.ensures.at ∙ ap (λ e. slot e.symbol) c.deref.ensures; within = c.slot-at.ensures.within; there = c.index_mut.ensures.value }
    in
    record {
      width = length-set c.self.inside.chains.items c.slot-at.result c.push.new.self ∙ c.self.invariant.width;
      table =
          table_with_more c.self.inside.chains.items c.slot-at.result c.index_mut.result.now c.args.entry.value.symbol h c.push.new.self (definition_of c.args.entry.value.definition)
          c.push.ensures (ap (λ t. look_up t.entries c.args.entry.value.symbol) c.self.view_is ∙ c.requires);
      number = c.self.invariant.number;
      no_rules = c.self.invariant.no_rules;
    }

pub returns : goal.returns
returns c =
    let h : Stands c.self.inside.chains.items c.slot-at.result c.index_mut.result.now c.args.entry.value.symbol =
    record { table = c.self.invariant.table; width = c.self.invariant.width; slot_is = c.slot-at.ensures.at ∙ ap (λ e. slot e.symbol) c.deref.ensures; within = c.slot-at.ensures.within; there = c.index_mut.ensures.value }
    in
    let more : Definitions → Definitions = λ t. record t { entries = add_entry t.entries c.args.entry.value.symbol (definition_of c.args.entry.value.definition) } in
    ap (λ es. record (definitions_in c.self.inside) { entries = es })
    (
    entries_with_more c.self.inside.chains.items c.slot-at.result c.index_mut.result.now c.args.entry.value.symbol h c.push.new.self (definition_of c.args.entry.value.definition)
    c.push.ensures (ap (λ t. look_up t.entries c.args.entry.value.symbol) c.self.view_is ∙ c.requires)
    )
    ∙ ap more c.self.view_is
