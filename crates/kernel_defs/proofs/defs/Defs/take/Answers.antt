use Rattle.std.proofs.Common.{◌≡◌, ◌∙◌, ap, sym, map, slice_set}
use Rattle.std.proofs.Math.ListN.{length-set}
use Rattle.semantics.specs.Definitions.{look_up, add_entry}
use Rattle.kernel_defs.specs.Definition.{definition_of}
use Rattle.kernel_defs.specs.Defs.{definitions_in}
use Rattle.kernel_defs.specs.Locals.{without}
use Rattle.kernel_defs.specs.Chains.{listed}
use Rattle.kernel_defs.specs.Table.{entries_in}
use Rattle.kernel_defs.proofs.Tables.{Stands, found_there, table_without, entries_without, entries_back, if_some}
use Rattle.kernel_defs.proofs.defs.Defs.take.Goals as goal

pub invariant_of-self : goal.invariant_of-self
invariant_of-self c =
    let h : Stands c.self.inside.chains.items c.slot.result c.index_mut.result.now c.args.symbol =
    record { table = c.self.invariant.table; width = c.self.invariant.width; slot_is = c.slot.ensures.at; within = c.slot.ensures.within; there = c.index_mut.ensures.value }
    in
    record {
      width = length-set c.self.inside.chains.items c.slot.result c.take.new.self ∙ c.self.invariant.width;
      table = table_without c.self.inside.chains.items c.slot.result c.index_mut.result.now c.args.symbol h c.take.new.self c.take.ensures.rest;
      number = c.self.invariant.number;
      no_rules = c.self.invariant.no_rules;
    }

pub returns-clause-definition : goal.returns-clause-definition
returns-clause-definition c =
    let h : Stands c.self.inside.chains.items c.slot.result c.index_mut.result.now c.args.symbol =
    record { table = c.self.invariant.table; width = c.self.invariant.width; slot_is = c.slot.ensures.at; within = c.slot.ensures.within; there = c.index_mut.ensures.value }
    in
    c.take.ensures.definition
    ∙ found_there c.self.inside.chains.items c.slot.result c.index_mut.result.now c.args.symbol h
    ∙ ap (λ t. look_up t.entries c.args.symbol) c.self.view_is

pub returns-clause-rest : goal.returns-clause-rest
returns-clause-rest c =
    let h : Stands c.self.inside.chains.items c.slot.result c.index_mut.result.now c.args.symbol =
    record { table = c.self.invariant.table; width = c.self.invariant.width; slot_is = c.slot.ensures.at; within = c.slot.ensures.within; there = c.index_mut.ensures.value }
    in
    ap (λ es. record (definitions_in c.self.inside) { entries = es })
    (entries_without c.self.inside.chains.items c.slot.result c.index_mut.result.now c.args.symbol h c.take.new.self c.take.ensures.rest)
    ∙ ap (λ t. without t c.args.symbol) c.self.view_is

pub returns-clause-back : goal.returns-clause-back
returns-clause-back c =
    let h : Stands c.self.inside.chains.items c.slot.result c.index_mut.result.now c.args.symbol =
    record { table = c.self.invariant.table; width = c.self.invariant.width; slot_is = c.slot.ensures.at; within = c.slot.ensures.within; there = c.index_mut.ensures.value }
    in
    if_some c.take.result (λ e. definition_of e.value.definition)
    (λ d. c.args.self.now ≡ record (definitions_in c.self.inside) { entries = add_entry (entries_in (map listed (slice_set c.self.inside.chains.items c.slot.result c.take.new.self))) c.args.symbol d })
    (λ d p.
    sym c.self.view_is
    ∙ ap (λ es. record (definitions_in c.self.inside) { entries = es })
    (
    entries_back c.self.inside.chains.items c.slot.result c.index_mut.result.now c.args.symbol h c.take.new.self c.take.ensures.rest d
    (sym c.take.ensures.definition ∙ p)
    ))
