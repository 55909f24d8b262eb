use Rattle.laws_language.proofs.Limits.{looser_keeps}
use Rattle.laws_language.proofs.looser_limits_keep.Goals as goal

pub returns : goal.returns
returns c = record { law = looser_keeps }
