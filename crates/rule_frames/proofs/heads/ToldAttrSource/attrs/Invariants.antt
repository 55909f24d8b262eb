use Rattle.std.proofs.Common.{◌≡◌, drop}
use Rattle.rule_frames.specs.Told.{attrs_in}
use Rattle.rule_frames.proofs.heads.ToldAttrSource.attrs.Given as goal

abbrev pub invariant-loop-head : goal.invariant-loop-head
invariant-loop-head l = attrs_in (drop l.head-index l.self.symbols) l.symbol ≡ attrs_in l.self.symbols l.symbol
