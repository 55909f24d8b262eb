use Rattle.std.proofs.Common.{◌∙◌}
use Rattle.lex_form.proofs.Lexing.{marked_sign}
use Rattle.lex_form.proofs.scanner.scan_mark.Goals as goal

pub returns-else-byte-eq35-clause-meaning : goal.returns-else-byte-eq35-clause-meaning
returns-else-byte-eq35-clause-meaning c =
    c.operator_scan.ensures.meaning ∙ marked_sign c.args.text.now c.requires c.if-byte-eq95.false c.if-byte-eq34.false c.if-byte-eq35.false
