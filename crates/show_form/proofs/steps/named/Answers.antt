use Rattle.std.proofs.Common.{◌≡◌, sym, false}
use Rattle.script_text.specs.Spelling.{spelled}
use Rattle.name_table.specs.Table.{is_kept}
use Rattle.show_form.proofs.Placed.{unplaced}
use Rattle.show_form.proofs.steps.named.Goals as goal

pub returns-in-None : goal.returns-in-None
returns-in-None c =
    let missing : is_kept c.args.names.now (spelled c.args.word.now).base ≡ false = sym c.in-None.ensures.kept in
    let p = unplaced c.args.names.now.texts (spelled c.args.word.now).base missing in
    cc
