use Rattle.std.proofs.Common.{ℕ, arith, length-append}
use Rattle.std.proofs.lemmas.List.{length-take}
use Rattle.port_io.proofs.Pieces.{consumes-more}
use Rattle.port_io.proofs.input.read_all.Goals as goal

pub returns-then-count-limit-clause-bytes : goal.returns-then-count-limit-clause-bytes
returns-then-count-limit-clause-bytes g c =
    let more = consumes-more _ _ _ _ _ c.loop-count.invariant.0 c.in-Ok.ensures.bytes.0 in
    (_, more, omega (arith, length-append {A = ℕ}, length-take {A = ℕ}, c.in-Ok.ensures.bound))

pub returns-then-is_err-clause-bytes : goal.returns-then-is_err-clause-bytes
returns-then-is_err-clause-bytes g c =
    let more = consumes-more _ _ _ _ _ c.loop-count.invariant.0 c.in-Ok.ensures.bytes.0 in
    (_, more, omega (arith, length-append {A = ℕ}, length-take {A = ℕ}, c.in-Ok.ensures.bound))
