use Rattle.std.proofs.Common.{append-nil, sym, arith}
use Rattle.script_text.specs.Spelling.{by_texts}
use Rattle.input_form.specs.Rows.{shapes}
use Rattle.input_form.specs.Shapes.{as_pair}
use Rattle.input_form.proofs.Shown.{pair_not_two}
use Rattle.input_form.proofs.input_form.+input.Goals as goal

pub put_pair-returns-in_default : goal.put_pair-returns-in_default
put_pair-returns-in_default t c =
    let e = pair_not_two (by_texts c.args.names.now.texts) (shapes c.args.names.now.texts) (as_pair c.args.pair) c.args.items.now (omega (arith, c.in_default.len_below)) in
    rw e (sym (append-nil c.args.buffer.now))

pub put_pair-returns-in_default-2 : goal.put_pair-returns-in_default-2
put_pair-returns-in_default-2 t c =
    let e = pair_not_two (by_texts c.args.names.now.texts) (shapes c.args.names.now.texts) (as_pair c.args.pair) c.args.items.now (omega (arith, c.in_default.len_at_least)) in
    rw e (sym (append-nil c.args.buffer.now))
