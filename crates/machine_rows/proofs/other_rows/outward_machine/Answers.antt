use Rattle.std.proofs.Common.{◌≡◌, Ok, Some, None}
use Rattle.machine_rows.proofs.Outward.{outward_begun, outward_stays}
use Rattle.machine_rows.proofs.other_rows.outward_machine.Goals as goal

pub returns-in-Ok-Some : goal.returns-in-Ok-Some
returns-in-Ok-Some c set names p is_open used used' s =
    let is : c.args.started ≡ Ok (Some c.in-Ok-Some.row) = cc in
    outward_begun names (rw is at s)

pub returns-in-Ok-None : goal.returns-in-Ok-None
returns-in-Ok-None c set names p is_open used used' s =
    let is : c.args.started ≡ Ok None = cc in
    outward_stays names (rw is at s)
