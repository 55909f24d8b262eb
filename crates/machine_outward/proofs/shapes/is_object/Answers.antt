use Rattle.std.proofs.Common.{sym}
use Rattle.builtin_names.specs.Named.{names_in}
use Rattle.machine_outward.proofs.Shaping.{many_no_object}
use Rattle.machine_outward.proofs.shapes.is_object.Goals as goal

pub returns-in_default-2 : goal.returns-in_default-2
returns-in_default-2 c = sym (many_no_object (names_in c.args.names.now) c.args.head.now c.args.items.now c.in_default.len_at_least)
