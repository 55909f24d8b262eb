use Rattle.std.proofs.Common.{◌≡◌, ℕ, ◌%◌}
use Rattle.turn_desk.specs.declared.view.Stage.TheVariants.{Waiting}
use Rattle.turn_desk.specs.Plays.{staged}
use Rattle.turn_desk.proofs.desk.Desk.wait_for_turn.Given as goal

abbrev pub invariant-wait : goal.invariant-wait
invariant-wait g l = (l.seat.table_id ≡ l.fn.seat.table_id) × ((t : ℕ) × (l.ticket ≡ t % 18446744073709551616) × (l.seat.me ≡ (staged l.fn.seat.me.0 (Waiting t), l.fn.seat.me.1)))
