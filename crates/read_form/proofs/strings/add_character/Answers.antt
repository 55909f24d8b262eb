use Rattle.std.proofs.Common.{append_assoc, arith}
use Rattle.read_form.proofs.Escapes.{plain_char}
use Rattle.read_form.proofs.strings.add_character.Goals as goal

pub returns : goal.returns
returns c = λ rest.
    let p = plain_char c.args.character rest (c.requires c.if-escape.false) c.if-character-eq92.false in
    grind (arith, append_assoc, p)
