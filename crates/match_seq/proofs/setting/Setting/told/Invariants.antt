use Rattle.std.proofs.Common.{◌≡◌, drop}
use Rattle.match_seq.specs.Goals.{told}
use Rattle.match_seq.proofs.setting.Setting.told.Given as goal

abbrev pub invariant-loop-head : goal.invariant-loop-head
invariant-loop-head l = told (drop l.head-index l.self.hows) l.symbol ≡ told l.self.hows l.symbol
