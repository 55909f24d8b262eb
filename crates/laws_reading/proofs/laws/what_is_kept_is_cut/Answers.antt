use Rattle.laws_reading.proofs.Carries.{carry_whole}
use Rattle.laws_reading.proofs.Limits.{cuts}
use Rattle.laws_reading.proofs.laws.what_is_kept_is_cut.Goals as goal

pub returns : goal.returns
returns c = record { law = λ names room ts x w. carry_whole _ _ _ _ _ _ _ _ _ _ _ (cuts names) w }
