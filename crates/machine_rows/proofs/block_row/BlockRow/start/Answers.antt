use Rattle.builtin_names.specs.Named.{names_in}
use Rattle.machine_rows.proofs.Scopes.{block_read, block_stays}
use Rattle.machine_rows.proofs.block_row.BlockRow.start.Goals as goal

pub returns-in-Some : goal.returns-in-Some
returns-in-Some c = record { by = block_read (names_in c.args.names.now) c.args.items.now c.in-Some.scope (rw c.in-Some.is at c.in_ok-read.ensures) }

pub returns-in-None : goal.returns-in-None
returns-in-None c = record { by = block_stays (names_in c.args.names.now) c.args.items.now (rw c.in-None.is at c.in_ok-read.ensures) }
