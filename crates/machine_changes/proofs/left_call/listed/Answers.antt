use Rattle.std.proofs.Common.{inl, inr}
use Rattle.machine_changes.proofs.Larger.{large_stands}
use Rattle.machine_changes.proofs.left_call.listed.Goals as goal

pub returns-in_ok-list_of-in-Err-TooLarge : goal.returns-in_ok-list_of-in-Err-TooLarge
returns-in_ok-list_of-in-Err-TooLarge c =
    let h = rw c.in-Err-TooLarge.field-0-is at c.in-Err-TooLarge.ensures in
    large_stands c.args.head c.args.each _ c.requires (inl h) c.in_ok-list_of-in-Err-TooLarge.ensures c.in_default.ensures

pub returns-in_ok-list_of-in-Err-TooDeep : goal.returns-in_ok-list_of-in-Err-TooDeep
returns-in_ok-list_of-in-Err-TooDeep c =
    let h = rw c.in-Err-TooDeep.field-0-is at c.in-Err-TooDeep.ensures in
    large_stands c.args.head c.args.each _ c.requires (inr h.2) c.in_ok-list_of-in-Err-TooDeep.ensures c.in_default.ensures
