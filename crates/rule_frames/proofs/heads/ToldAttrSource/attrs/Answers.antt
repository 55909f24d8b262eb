use Rattle.std.proofs.Common.{◌∙◌, sym}
use Rattle.rule_frames.specs.Told.{no_attrs}
use Rattle.rule_frames.proofs.Telling.{attrs_found_in}
use Rattle.rule_frames.proofs.heads.ToldAttrSource.attrs.Goals as goal

pub returns-then-eq : goal.returns-then-eq
returns-then-eq c =
    attrs_found_in c.args.self.now.symbols c.as_slice-head-items.result.now c.loop-head.head-index (record { base = 0; number = 0 }, no_attrs) c.args.symbol c.as_slice-head-items.ensures c.loop-head-test.true (sym c.eq.ensures ∙ c.if-eq.true) ∙ c.loop-head.invariant
