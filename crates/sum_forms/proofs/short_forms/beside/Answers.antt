use Rattle.std.proofs.Common.{arith, ◌+◌}
use Rattle.sum_forms.proofs.Shapes.{beside-fault}
use Rattle.builtin_names.specs.Named.{names_in}
use Rattle.sum_forms.proofs.short_forms.beside.Goals as goal

pub returns-in-Err : goal.returns-in-Err
returns-in-Err c t assembled =
    beside-fault (names_in c.args.names.now) c.args.row c.args.first.now t c.args.part c.in-Err.fault (c.size.result + 1) c.around.result
    c.in-Err.is (omega (arith, c.size.ensures.value)) c.around.ensures assembled
