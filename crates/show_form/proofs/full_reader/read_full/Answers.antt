use Rattle.std.proofs.Common.{rules}
use Rattle.show_form.proofs.Answered.{answered, answers_ok, answers_err, stopped}
use Rattle.show_form.proofs.full_reader.read_full.Goals as goal

pub returns-in-Ok-clause-read : goal.returns-in-Ok-clause-read
returns-in-Ok-clause-read c =
    answers_ok c.args.names.now.texts c.args.text.now c.within_limits.result
    (answered c.args.names.now.texts c.args.text.now c.requires c.in-Ok.kept c.within_limits.result (rw c.in-Ok.is at c.in_ok-kept.ensures) c.within_limits.ensures)

pub returns-in-Ok-clause-fault : goal.returns-in-Ok-clause-fault
returns-in-Ok-clause-fault c =
    answers_err c.args.names.now.texts c.args.text.now c.within_limits.result
    (answered c.args.names.now.texts c.args.text.now c.requires c.in-Ok.kept c.within_limits.result (rw c.in-Ok.is at c.in_ok-kept.ensures) c.within_limits.ensures)

pub returns-in-Err-clause-fault : goal.returns-in-Err-clause-fault
returns-in-Err-clause-fault c = stopped c.args.names.now.texts c.args.text.now c.in-Err.place (rw c.in-Err.is at c.in_ok-kept.ensures)
