use Rattle.std.proofs.Common.{drop}
use Rattle.lex_form.proofs.Lexing.{blank_is}
use Rattle.lex_form.proofs.leaves.blank_after.Goals as goal

pub returns-clause-meaning : goal.returns-clause-meaning
returns-clause-meaning c =
    let front = rw c.behind-rest.ensures at c.min.ensures in
    let counted = rw c.behind-rest.ensures at c.run-marks.ensures.run in
    let named = rw (c.behind.ensures, c.behind-rest.ensures) at c.name_len-name.ensures.len in
    blank_is c.args.before (drop c.args.before c.args.text.now) _ _ _ front counted named
