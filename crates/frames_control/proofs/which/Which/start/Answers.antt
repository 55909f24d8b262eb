use Rattle.std.proofs.Common.{arith}
use Rattle.builtin_names.specs.Named.{names_in}
use Rattle.frames_control.proofs.Choosing.{which_odd, which_even, odd_count, even_count}
use Rattle.frames_control.proofs.which.Which.start.Goals as goal

pub returns-then-items-eq1 : goal.returns-then-items-eq1
returns-then-items-eq1 c = λ stay. record { by = which_odd (names_in c.args.names.now) stay c.args.items.now (odd_count c.args.items.now (omega arith)) }

pub returns : goal.returns
returns c =
    λ stay. record { by = rw c.in_ok-of.ensures (which_even (names_in c.args.names.now) stay c.args.items.now (even_count c.args.items.now (λ k. omega arith))) }
