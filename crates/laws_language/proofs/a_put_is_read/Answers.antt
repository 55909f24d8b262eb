use Rattle.laws_language.proofs.Stored.{stored_same, stored_other}
use Rattle.laws_language.proofs.a_put_is_read.Goals as goal

pub returns : goal.returns
returns c = record { law = λ names d s t new. (stored_same names d s new, stored_other names d s t new) }
